-- Basic intervals, built from their spans and values, the places of ticks and what is touched.
use Rattle.std.proofs.Common.{◌≡◌, ℕ, zero, suc, ◌-◌, ◌<◌, ◌≤◌, Bool, false, nat_le, List, [], ◌∷◌, ◌++◌, length, map, slice_get, slice_index, Option, Some, None, refl, ◌∙◌, ap, arith}
use Rattle.std.specs.List.{AllByRecursion}
use Rattle.std.specs.Option.{option_map_or}
use Rattle.std.proofs.lemmas.Bool.Decides.{nat_tests}
use Rattle.std.proofs.lemmas.List.{length-append}
use Rattle.aggregate.specs.Aggregation.{Basic, Part}
use Rattle.event_detect.specs.declared.event.Event.{Event}
use Rattle.event_detect.specs.Flag.{is_touched}
use Rattle.pq_base.specs.Recorded.{Recorded}
use Rattle.pq_sequence.specs.BasicInterval.{basic_span, begins_segment}
use Rattle.pq_sequence.specs.MeasuredRecording.{basics_over, basic_over, roots_over}
use Rattle.pq_sequence.proofs.NeighbourLaws.{IsIn, LinkedFrom, linked_at}
use Rattle.pq_words.proofs.PrefixLaws.{FailsOn}
use Rattle.settled_laws.proofs.BasicLaws.{is_new, Succeeds, AreLinked}
use Rattle.settled_laws.proofs.PrefixRuns.{IsRunIn}
use Rattle.settled_laws.proofs.ShortLaws.{basic_end}
use Rattle.settled_laws.proofs.TenLaws.{EndsSegment}
use Rattle.settled_laws.proofs.TickLaws.{EndsRise}
use Rattle.ten_twelve.specs.declared.span.Span.{Span}
use Rattle.zero_cross.specs.Boundary.{AreBoundaries}

-- a run of cycles with its values, and no flag yet
abbrev pub bare_of : Recorded → List ℕ → Span → Part
bare_of r cb run =
    let span = basic_span cb run in
    record { start = span.start; end = span.end; values = roots_over r span; flagged = false }

-- the basic interval, by the start of the one before it
abbrev pub dressed : List ℕ → (ℕ → ℕ → Bool) → Option ℕ → Part → Basic
dressed places touched before p = record {
  front = is_new places before p.start;
  part = record { start = p.start; end = p.end; values = p.values; flagged = touched p.start p.end };
}

abbrev pub built : List ℕ → (ℕ → ℕ → Bool) → Option ℕ → List Part → List Basic
built places touched before [] = []
built places touched before (p ∷ ps) =
    dressed places touched before p ∷ built places touched (Some p.start) ps

-- ---- basic intervals are built so

module _ (r : Recorded) (cb starts places : List ℕ) (events : List Event) where
  -- the basic interval over a run
  abbrev basic_at : Span → Basic
  basic_at run = basic_over r events (basic_span cb run) (begins_segment starts run)

  built_from : (x : Span) (xs : List Span) → LinkedFrom (Succeeds places) (basic_at x) (map basic_at xs) →
      map basic_at xs
      ≡ built places (is_touched events) (Some (slice_index cb x.start)) (map (bare_of r cb) xs)
  built_from x [] l = refl
  built_from x (y ∷ ys) l =
      let first : basic_at y
      ≡ dressed places (is_touched events) (Some (slice_index cb x.start)) (bare_of r cb y) =
      ap (λ front. basic_over r events (basic_span cb y) front) l.0.1 in
      ap (λ b. b ∷ map basic_at ys) first
      ∙ ap (λ bs. dressed places (is_touched events) (Some (slice_index cb x.start)) (bare_of r cb y) ∷ bs)
      (built_from y ys l.1)

  pub basics_built : (xs : List Span) → AreLinked places (basics_over r events cb starts xs) →
      basics_over r events cb starts xs ≡ built places (is_touched events) None (map (bare_of r cb) xs)
  basics_built [] l = refl
  basics_built (y ∷ ys) l =
      let first : basic_at y ≡ dressed places (is_touched events) None (bare_of r cb y) =
      ap (λ front. basic_over r events (basic_span cb y) front) l.0 in
      ap (λ b. b ∷ map basic_at ys) first
      ∙ ap (λ bs. dressed places (is_touched events) None (bare_of r cb y) ∷ bs) (built_from y ys l.1)

-- ---- the start of the last, and flags

abbrev pub last_start : Option ℕ → List Part → Option ℕ
last_start before [] = before
last_start before (p ∷ ps) = last_start (Some p.start) ps

-- what touches the same spans flags the same
pub built_same : (places : List ℕ) (t u : ℕ → ℕ → Bool) (before : Option ℕ) (xs : List Part) →
    AllByRecursion (λ p. t p.start p.end ≡ u p.start p.end) xs →
    built places t before xs ≡ built places u before xs
built_same places t u before [] h = refl
built_same places t u before (x ∷ xs) h =
    let with_flag : Bool → Basic = λ f. record {
      front = is_new places before x.start;
      part = record { start = x.start; end = x.end; values = x.values; flagged = f };
    } in
    ap (λ b. b ∷ built places t (Some x.start) xs) (ap with_flag h.0)
    ∙ ap (λ bs. dressed places u before x ∷ bs) (built_same places t u (Some x.start) xs h.1)

-- ---- the spans

-- a span begins no later than it ends
pub bare_ordered : (r : Recorded) (n m : ℕ) (cb : List ℕ) (xs : List Span) → 1 ≤ m → AreBoundaries cb n →
    AllByRecursion (IsRunIn m (length cb - 1)) xs →
    AllByRecursion (λ p. p.start ≤ p.end) (map (bare_of r cb) xs)
bare_ordered r n m cb [] some are h = tt
bare_ordered r n m cb (x ∷ xs) some are h =
    let sum = h.0.0 in
    let inside = h.0.1 in
    let rise : slice_index cb x.start < slice_index cb x.end =
    are.rising x.start x.end 0 (omega (arith, sum, some)) (omega (arith, sum, inside, some)) in
    (omega (arith, rise), bare_ordered r n m cb xs some are h.1)

-- ---- what the links tell of all

-- ends do not fall, so what ends after a place is followed by such
module _ (places : List ℕ) where
  later_fails : (w : ℕ) (b : Basic) (bs : List Basic) → LinkedFrom (Succeeds places) b bs →
      nat_le b.part.end w ≡ false → AllByRecursion (λ c. nat_le c.part.end w ≡ false) bs
  later_fails w b [] l h = tt
  later_fails w b (c ∷ bs) l h =
      let more = l.0.0 in
      let fails : nat_le c.part.end w ≡ false = grind (arith, nat_tests, h, more) in
      (fails, later_fails w c bs l.1 fails)

  links_fail : (w : ℕ) (b : Basic) (bs : List Basic) → LinkedFrom (Succeeds places) b bs →
      FailsOn (λ c. nat_le c.part.end w) (b ∷ bs)
  links_fail w b [] l = ((λ h. tt), tt)
  links_fail w b (c ∷ bs) l = ((λ h. later_fails w b (c ∷ bs) l h), links_fail w c bs l.1)

  pub linked_fail : (w : ℕ) (bs : List Basic) → AreLinked places bs → FailsOn (λ c. nat_le c.part.end w) bs
  linked_fail w [] l = tt
  linked_fail w (b ∷ bs) l = links_fail w b bs l.1

  first_least : (b : Basic) (bs : List Basic) (j : ℕ) → LinkedFrom (Succeeds places) b bs →
      j < length (b ∷ bs) → b.part.end ≤ basic_end (b ∷ bs) j
  first_least b bs zero l inside = omega arith
  first_least b [] (suc j) l inside = absurd (omega (arith, inside))
  first_least b (c ∷ bs) (suc j) l inside =
      let more = l.0.0 in
      let rest : c.part.end ≤ basic_end (c ∷ bs) j = first_least c bs j l.1 (omega (arith, inside)) in
      omega (arith, more, rest)

  ends_from : (b : Basic) (bs : List Basic) (i j : ℕ) → LinkedFrom (Succeeds places) b bs → i ≤ j →
      j < length (b ∷ bs) → basic_end (b ∷ bs) i ≤ basic_end (b ∷ bs) j
  ends_from b bs zero j l order inside = first_least b bs j l inside
  ends_from b bs (suc i) zero l order inside = absurd (omega (arith, order))
  ends_from b [] (suc i) (suc j) l order inside = absurd (omega (arith, inside))
  ends_from b (c ∷ bs) (suc i) (suc j) l order inside =
      ends_from c bs i j l.1 (omega (arith, order)) (omega (arith, inside))

  pub linked_rise : (bs : List Basic) → AreLinked places bs → EndsRise bs
  linked_rise [] l i j order inside = absurd (omega (arith, inside))
  linked_rise (b ∷ bs) l i j order inside = ends_from b bs i j l.1 order inside

  pub linked_segment : (bs : List Basic) (p : ℕ) → AreLinked places bs → IsIn p places → EndsSegment bs p
  linked_segment [] p l tick i x y at next begun ended = absurd (let bad : ⊥ = cc in bad)
  linked_segment (b ∷ bs) p l tick i x y at next begun ended =
      (linked_at (Succeeds places) (b ∷ bs) i x y l.1 at next).2 p tick begun ended

-- so of a beginning
pub front_rises : (bs rest : List Basic) → EndsRise (bs ++ rest) → EndsRise bs
front_rises bs rest rise i j order inside =
    let more : j < length (bs ++ rest) = omega (arith, inside, length-append bs rest) in
    let e = rise i j order more in
    let here : (k : ℕ) → k < length bs → basic_end (bs ++ rest) k ≡ basic_end bs k = λ k below.
    ap (λ o. option_map_or (λ b. b.part.end) o 0) (get_left bs rest k below) in
    let a = here i (omega (arith, order, inside)) in
    let c = here j inside in
    omega (arith, e, a, c)
  where
    get_left : (xs ys : List Basic) (k : ℕ) → k < length xs → slice_get (xs ++ ys) k ≡ slice_get xs k
    get_left [] ys k inside = absurd (omega (arith, inside))
    get_left (x ∷ xs) ys zero inside = refl
    get_left (x ∷ xs) ys (suc k) inside = get_left xs ys k (omega (arith, inside))
