-- The windows over the boundaries that are left, one boundary after another.
use Rattle.std.proofs.Common.{◌≡◌, ℕ, suc, ◌<◌, ◌≤◌, List, [], ◌∷◌, length, Option, Some, None, IfSome, ℤ, refl, sym, ap, subst, arith}
use Rattle.std.proofs.lemmas.List.Elements.{All-tail}
use Rattle.half_cycle.specs.HalfCycleWindow.{window_between, windows_over}
use Rattle.half_cycle.specs.Windows.{windows_left, squares_between, AreFirstTwo, IsSound}
use Rattle.zero_cross.specs.declared.boundary.Boundary.{Boundary}
use Rattle.zero_cross.specs.Boundary.{AreBoundaries, places_of}

-- boundaries without the first of them
pub fewer_boundaries : (p : ℕ) (ps : List ℕ) (n : ℕ) → AreBoundaries (p ∷ ps) n → AreBoundaries ps n
fewer_boundaries p ps n are = record {
  rising = λ i j d less inside.
      are.rising (suc i) (suc j) d (omega (arith, less)) (omega (arith, inside));
  below = All-tail (λ q. q < n) p ps are.below;
}

-- the first three of them
three_in_order : (a b c n : ℕ) (ps : List ℕ) → AreBoundaries (a ∷ b ∷ c ∷ ps) n →
    (a < b) × (b < c) × (c < n)
three_in_order a b c n ps are = (
  are.rising 0 1 0 (omega arith) (omega arith),
  are.rising 1 2 0 (omega arith) (omega arith),
  are.below 2 0 (omega arith),
)

-- ---- what is left, by the first two boundaries and those after them

-- one boundary alone begins no window
no_window_at_one : (s : List ℤ) (bs : List Boundary) → length bs ≤ 1 → windows_over s (places_of bs) ≡ []
unfolding windows_over
no_window_at_one s [] few = refl
no_window_at_one s (a ∷ []) few = refl
no_window_at_one s (a ∷ b ∷ bs) few = absurd (omega (arith, few))

-- nor do two
pub no_window_at_two : (s : List ℤ) (a b : ℕ) → windows_over s (a ∷ b ∷ []) ≡ []
unfolding windows_over
no_window_at_two s a b = refl

-- a boundary with a second one after it begins a window to that one
pub one_window : (s : List ℤ) (a b c : ℕ) (ps : List ℕ) →
    windows_over s (a ∷ b ∷ c ∷ ps) ≡ window_between s a c ∷ windows_over s (b ∷ c ∷ ps)
unfolding windows_over
one_window s a b c ps = refl

-- the windows that are left are those over all of them
pub left_over_all : (s : List ℤ) (next_two : Option (ℕ × ℕ)) (all later : List Boundary) →
    AreFirstTwo all later next_two → windows_left s next_two later ≡ windows_over s (places_of all)
left_over_all s None all later is = sym (no_window_at_one s all is)
left_over_all s (Some two) all later is = ap (windows_over s) (sym is)

-- and they lie where all of them do
pub two_within : (s : List ℤ) (next_two : Option (ℕ × ℕ)) (all later : List Boundary) →
    AreFirstTwo all later next_two → AreBoundaries (places_of all) (length s)
    → IfSome next_two (λ two. AreBoundaries (two.0 ∷ two.1 ∷ places_of later) (length s))
two_within s None all later is are = tt
two_within s (Some two) all later is are = subst (λ ps. AreBoundaries ps (length s)) is are

-- the first three, where a third follows
pub three_boundaries : {s : List ℤ} {next_two : Option (ℕ × ℕ)} {two : ℕ × ℕ} {kept : ℕ}
    {later rest : List Boundary} {third : Boundary} → next_two ≡ Some two → later ≡ third ∷ rest
    → IsSound s next_two kept later
    → AreBoundaries (two.0 ∷ two.1 ∷ third.place ∷ places_of rest) (length s)
three_boundaries {s} {next_two} {two} {kept} {later} {rest} {third} is splits sound =
    let here = subst (λ o. IfSome o (λ two. AreBoundaries (two.0 ∷ two.1 ∷ places_of later) (length s))) is
    sound.boundaries in
    subst (λ bs. AreBoundaries (two.0 ∷ two.1 ∷ places_of bs) (length s)) splits here

-- where these three lie
pub three_places : {s : List ℤ} {next_two : Option (ℕ × ℕ)} {two : ℕ × ℕ} {kept : ℕ}
    {later rest : List Boundary} {third : Boundary} → next_two ≡ Some two → later ≡ third ∷ rest
    → IsSound s next_two kept later → (two.0 < two.1) × (two.1 < third.place) × (third.place < length s)
three_places {s} {next_two} {two} {kept} {later} {rest} {third} is splits sound =
    three_in_order two.0 two.1 third.place (length s) (places_of rest) (three_boundaries is splits sound)

-- the kept sum, where two boundaries are left
pub kept_sum : {s : List ℤ} {next_two : Option (ℕ × ℕ)} {two : ℕ × ℕ} {kept : ℕ} {later : List Boundary} →
    next_two ≡ Some two → IsSound s next_two kept later → kept ≡ squares_between s two.0 two.1
kept_sum {s} {next_two} {two} {kept} is sound =
    subst (λ o. IfSome o (λ two. kept ≡ squares_between s two.0 two.1)) is sound.sum
