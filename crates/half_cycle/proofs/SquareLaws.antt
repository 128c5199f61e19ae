-- The sums of squares of two half-cycles that follow one another make the value of a window.
use Rattle.std.proofs.Common.{◌≡◌, ℕ, ◌+◌, ◌-◌, ◌*◌, ◌/◌, ◌^◌, ◌≤◌, List, ◌∷◌, length, take, drop, sum_by, ℤ, pos, negsuc, unsigned_abs, slice_range, Option, Some, sym, ap, ◌∙◌, arith}
use Rattle.std.proofs.lemmas.Int.{ints}
use Rattle.std.proofs.lemmas.List.{drop-drop, drop-take, length-drop, length-take, take-take}
use Rattle.std.proofs.lemmas.List.Elements.{All-drop, All-take, All-weaker}
use Rattle.std.proofs.lemmas.List.Sums.{sum_by-le, sum_by-take-drop}
use Rattle.event_detect.specs.declared.window.Window.{Window}
use Rattle.fixed_rms.specs.Root.{isqrt, mean_square, rms, square}
use Rattle.fixed_rms.proofs.RootLaws.{square_within}
use Rattle.half_cycle.specs.HalfCycleWindow.{window_between}
use Rattle.half_cycle.specs.Windows.{squares_between, IsSound}
use Rattle.half_cycle.proofs.WindowLaws.{kept_sum, three_places}
use Rattle.pq_words.specs.declared.limits.TheConstants.{MOST_MICROVOLTS}
use Rattle.pq_words.specs.Magnitude.{IsWithin}
use Rattle.pq_words.specs.Samples.{AreSamples}
use Rattle.zero_cross.specs.declared.boundary.Boundary.{Boundary}

abbrev weight : ℤ → ℕ
weight sample = square (unsigned_abs sample)

weight_within : (z : ℤ) → IsWithin MOST_MICROVOLTS z → weight z ≤ MOST_MICROVOLTS ^ 2
weight_within (pos n) small = square_within n (omega (arith, ints, small))
weight_within (negsuc n) small = square_within (unsigned_abs (negsuc n)) (omega (arith, ints, small))

length_range : (s : List ℤ) (a b : ℕ) → b ≤ length s → length (slice_range s a b) ≡ b - a
length_range s a b inside =
    omega (arith, inside, length-take (b - a) (drop a s), length-drop a s)

-- no sum of squares is too large
pub squares_within : (s : List ℤ) (a b : ℕ) → AreSamples s → b ≤ length s →
    squares_between s a b ≤ (b - a) * MOST_MICROVOLTS ^ 2
squares_within s a b are inside =
    let quiet = All-take (IsWithin MOST_MICROVOLTS) (b - a) (drop a s)
    (All-drop (IsWithin MOST_MICROVOLTS) a s are.quiet) in
    let total = sum_by-le weight (MOST_MICROVOLTS ^ 2) (slice_range s a b)
    (All-weaker (IsWithin MOST_MICROVOLTS) (λ z. weight z ≤ MOST_MICROVOLTS ^ 2) weight_within
    (slice_range s a b) quiet) in
    omega (arith, total, length_range s a b inside)

-- the squares up to a place between, and those from there on
squares_join : (s : List ℤ) (a b c : ℕ) → a ≤ b → b ≤ c →
    squares_between s a b + squares_between s b c ≡ squares_between s a c
squares_join s a b c first second =
    let front : take (b - a) (slice_range s a c) ≡ slice_range s a b =
    take-take (b - a) (c - a) (drop a s) (omega (arith, first, second)) in
    let parts : b - a + (c - b) ≡ c - a = omega (arith, first, second) in
    let place : a + (b - a) ≡ b = omega (arith, first) in
    let back : drop (b - a) (slice_range s a c) ≡ slice_range s b c =
    ap (λ n. drop (b - a) (take n (drop a s))) (sym parts)
    ∙ drop-take (b - a) (c - b) (drop a s)
    ∙ ap (take (c - b)) (drop-drop (b - a) a s ∙ ap (λ n. drop n s) place) in
    omega (
      arith,
      sum_by-take-drop weight (slice_range s a c) (b - a),
      ap (sum_by weight) front,
      ap (sum_by weight) back,
    )

-- the kept sum and that of the half-cycle after it are that of the cycle
pub whole_sum : {s : List ℤ} {next_two : Option (ℕ × ℕ)} {two : ℕ × ℕ} {kept : ℕ}
    {later rest : List Boundary} {third : Boundary} (second : ℕ) → next_two ≡ Some two
    → later ≡ third ∷ rest → IsSound s next_two kept later → second ≡ squares_between s two.1 third.place
    → kept + second ≡ squares_between s two.0 third.place
whole_sum {s} {next_two} {two} {kept} {later} {rest} {third} second is splits sound made =
    let order = three_places is splits sound in
    let joined = squares_join s two.0 two.1 third.place (omega (arith, order.0)) (omega (arith, order.1)) in
    omega (arith, joined, kept_sum is sound, made)

-- a window by the sum of the squares of its samples
pub window_by_sum : (s : List ℤ) (a b : ℕ) → b ≤ length s →
    record { start = a; end = b; value = isqrt (squares_between s a b / (b - a)) } ≡ window_between s a b
unfolding window_between rms mean_square
window_by_sum s a b inside =
    let made : ℕ → Window =
    λ count. record { start = a; end = b; value = isqrt (squares_between s a b / count) } in
    ap made (sym (length_range s a b inside))
