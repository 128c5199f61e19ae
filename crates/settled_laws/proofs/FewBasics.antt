-- There are few basic intervals, windows and readings: what a ledger takes room for when it opens.
use Rattle.std.proofs.Common.{◌≡◌, ℕ, suc, ◌+◌, ◌-◌, ◌*◌, ◌/◌, ◌<◌, ◌≤◌, ◌↔◌, ◌==◌, Bool, true, false, cond, List, [], ◌∷◌, drop, length, map, filter, filter_map, Option, None, Some, ℤ, refl, sym, ◌∙◌, ap, subst, inl, inr, arith}
use Rattle.std.specs.List.{cons_option, dedup_from, zip}
use Rattle.std.proofs.Math.Nat.{le-div_iff_mul-le, mul-le-mul_right, mul_assoc, mul_comm}
use Rattle.std.proofs.lemmas.Bool.{cases_lt}
use Rattle.std.proofs.lemmas.List.{length-map, length-drop}
use Rattle.event_detect.specs.declared.event.Event.{Event}
use Rattle.freq10s.specs.Frequency.{reading_of, readings}
use Rattle.half_cycle.specs.HalfCycleWindow.{window_between, windows, windows_over}
use Rattle.pq_base.specs.Recorded.{Recorded, IsRecording, sample_count, samples_at}
use Rattle.pq_sequence.specs.BasicInterval.{basic_runs, cycles_of, front_of, fronts}
use Rattle.pq_sequence.specs.MeasuredRecording.{basics_of, channel_count, channel_windows, clock_of, readings_of, recorded_places, recorded_rule, reference_cycles}
use Rattle.pq_sequence.proofs.BasicLemmas.{some_cycles}
use Rattle.pq_sequence.proofs.FrontLemmas.{places_rise}
use Rattle.pq_sequence.proofs.FrontOrder.{fronts_rise, zero_in}
use Rattle.pq_sequence.proofs.ResultLaws.{rule_of_recording}
use Rattle.pq_time.specs.Tick.{tick_place, ticks}
use Rattle.settled_laws.specs.FewIntervals.{IntervalsAreFew}
use Rattle.settled_laws.proofs.FewRuns.{runs_few}
use Rattle.settled_laws.proofs.SpacedLaws.{places_few}
use Rattle.ten_twelve.specs.Run.{runs}
use Rattle.zero_cross.specs.declared.boundary.Boundary.{Boundary}
use Rattle.zero_cross.specs.declared.rule.Rule.{Rule}
use Rattle.zero_cross.specs.AllBoundaries.{Alternate}
use Rattle.zero_cross.specs.Boundary.{IsRule, boundary_places, boundaries, cycle_boundaries}
use Rattle.zero_cross.proofs.BoundaryLaws.{boundaries_alternate}
use Rattle.zero_cross.proofs.RuleLaws.{rule_is_near}

-- ---- lists that grow no longer

once_few : (x : ℕ) (xs : List ℕ) → length (dedup_from (λ a b. a == b) x xs) ≤ suc (length xs)
once_few x [] = omega arith
once_few x (y ∷ ys) = at (y == x) (once_few x ys) (once_few y ys)
  where
    at : (b : Bool) → length (dedup_from (λ a b. a == b) x ys) ≤ suc (length ys) →
        length (dedup_from (λ a b. a == b) y ys) ≤ suc (length ys) →
        length (cond b (dedup_from (λ a b. a == b) x ys) (x ∷ dedup_from (λ a b. a == b) y ys))
        ≤ suc (suc (length ys))
    at true h g = omega (arith, h)
    at false h g = omega (arith, g)

few_found : {X Y : Type 0} (f : X → Option Y) (xs : List X) → length (filter_map f xs) ≤ length xs
few_found f [] = omega arith
few_found {X} {Y} f (x ∷ xs) = at (f x) (few_found f xs)
  where
    at : (o : Option Y) → length (filter_map f xs) ≤ length xs →
        length (cons_option o (filter_map f xs)) ≤ length (x ∷ xs)
    at None h = omega (arith, h)
    at (Some y) h = omega (arith, h)

few_pairs : {X Y : Type 0} (xs : List X) (ys : List Y) → length (zip xs ys) ≤ length ys
few_pairs [] ys = omega arith
few_pairs (x ∷ xs) [] = omega arith
few_pairs (x ∷ xs) (y ∷ ys) = let h = few_pairs xs ys in omega (arith, h)

-- a front for each place, and one more
pub fronts_few : (cb places : List ℕ) → length (fronts cb places) ≤ length places + 1
unfolding fronts
fronts_few cb places =
    let a = once_few 0 (filter_map (front_of cb) places) in
    let b = few_found (front_of cb) places in
    omega (arith, a, b)

-- ---- every second boundary is one of a cycle

every_second : (bs : List Boundary) (rising : Bool) → Alternate rising bs →
    2 * length (filter (λ b. b.rising) bs) ≤ length bs + cond rising 1 0
every_second [] rising h = omega arith
every_second (b ∷ bs) true h = at b.rising (every_second bs false h.1)
  where
    at : (r : Bool) → 2 * length (filter (λ b. b.rising) bs) ≤ length bs + 0 →
        2 * length (cond r (b ∷ filter (λ b. b.rising) bs) (filter (λ b. b.rising) bs))
        ≤ suc (length bs) + 1
    at true rest = omega (arith, rest)
    at false rest = omega (arith, rest)
every_second (b ∷ bs) false h = at b.rising h.0 (every_second bs true h.1)
  where
    at : (r : Bool) → r ≡ false → 2 * length (filter (λ b. b.rising) bs) ≤ length bs + 1 →
        2 * length (cond r (b ∷ filter (λ b. b.rising) bs) (filter (λ b. b.rising) bs))
        ≤ suc (length bs) + 0
    at true e rest = absurd (let bad : ⊥ = cc in bad)
    at false e rest = omega (arith, rest)

-- so twice as many cycles as there are, times the least distance, stay within the signal
pub cycles_few : (s : List ℤ) (rule : Rule) → IsRule rule →
    (length (cycle_boundaries s rule) - 1) * (2 * rule.lo) ≤ length s
unfolding cycle_boundaries
cycles_few s rule given =
    let bs = boundaries s rule in
    let kept = filter (λ b. b.rising) bs in
    let many : length (map (λ b. b.place) kept) ≡ length kept =
    length-map kept (λ (b : Boundary). b.place) in
    let all : length (boundary_places s rule) ≡ length bs = length-map bs (λ (b : Boundary). b.place) in
    let half = every_second bs true (boundaries_alternate s rule) in
    let few : (length (map (λ b. b.place) kept) - 1) * 2 ≤ length (boundary_places s rule) - 1 =
    omega (arith, many, all, half) in
    let product = mul-le-mul_right rule.lo few in
    let same = mul_assoc (length (map (λ b. b.place) kept) - 1) 2 rule.lo in
    let bound = places_few s rule given in
    subst (λ n. n ≤ length s) same (omega (arith, product, bound))

-- ---- the three bounds

-- what times a number stays within another is at most the quotient
at_most : (n k x : ℕ) → 0 < k → x * k ≤ n → x ≤ n / k
at_most n k x some h = (let by : (x ≤ n / k) ↔ (x * k ≤ n) = le-div_iff_mul-le some in by).1 h

-- of so many runs, a length each, all but a few lie one after another
few_beside : (many cycles m ticks : ℕ) → 1 ≤ m → many * m ≤ cycles + ticks * m →
    (many - ticks) * m ≤ cycles
few_beside many cycles m ticks some h =
    elim (cases_lt many ticks) [
      | inl less ↦
          let none : many - ticks ≡ 0 = omega (arith, less) in
          let e : (many - ticks) * m ≡ 0 * m = ap (λ k. k * m) none in
          omega (arith, e)
      | inr rest ↦
          let sum : many ≡ (many - ticks) + ticks = omega (arith, rest) in
          let e : many * m ≡ ((many - ticks) + ticks) * m = ap (λ k. k * m) sum in
          omega (arith, e, h)
    ]

-- the basic intervals over so many cycles, where the reference's boundaries lie so far apart
basics_bound : (n lo m cycles ticks many : ℕ) → 1 ≤ m → 7 ≤ lo → cycles * (2 * lo) ≤ n →
    many * m ≤ cycles + ticks * m → many ≤ n / (2 * lo * m) + ticks
basics_bound n lo m cycles ticks many some near within few =
    let beside = few_beside many cycles m ticks some few in
    let product : (many - ticks) * m * (2 * lo) ≤ cycles * (2 * lo) = mul-le-mul_right (2 * lo) beside in
    let same : (many - ticks) * m * (2 * lo) ≡ (many - ticks) * (2 * lo * m) =
    mul_assoc (many - ticks) m (2 * lo) ∙ ap (λ k. (many - ticks) * k) (mul_comm m (2 * lo)) in
    let positive : 0 < 2 * lo * m = subst (λ k. 0 < k) (mul_comm m (2 * lo))
    (let step = mul-le-mul_right (2 * lo) some in omega (arith, step, near)) in
    let quotient = at_most n (2 * lo * m) (many - ticks) positive (omega (arith, same, product, within)) in
    omega (arith, quotient)

-- the basic intervals of a recording that has these events
pub basics_few : (r : Recorded) (events : List Event) → IsRecording r →
    length (basics_of r events (reference_cycles r))
    ≤ sample_count r / (2 * (recorded_rule r).lo * cycles_of r.lf) + length (recorded_places r)
unfolding basic_runs
basics_few r events is =
    let cb = reference_cycles r in
    let places = recorded_places r in
    let m = cycles_of r.lf in
    let starts = fronts cb places in
    let given = rule_of_recording r is in
    let some : 1 ≤ m = some_cycles r.lf m refl in
    let all = runs starts m (length cb - 1) in
    let runs_are = runs_few starts m (length cb - 1) some
    (fronts_rise cb places (places_rise (clock_of r) (sample_count r))) (zero_in cb places) in
    let ticks_are : length starts - 1 ≤ length places = omega (arith, fronts_few cb places) in
    let more = mul-le-mul_right m ticks_are in
    let even : length (samples_at r r.reference) ≡ sample_count r =
    is.even r.reference (omega (arith, is.reference, is.paired)) in
    let within : (length cb - 1) * (2 * (recorded_rule r).lo) ≤ sample_count r =
    subst (λ n. (length cb - 1) * (2 * (recorded_rule r).lo) ≤ n) even
    (cycles_few (samples_at r r.reference) (recorded_rule r) given) in
    subst (λ k. k ≤ sample_count r / (2 * (recorded_rule r).lo * m) + length places) (sym (length-map all _))
    (basics_bound (sample_count r) (recorded_rule r).lo m (length cb - 1) (length places) (length all) some
    (rule_is_near (recorded_rule r) given).ahead within (omega (arith, runs_are, more)))

-- the windows of a channel
pub windows_few : (r : Recorded) (position : ℕ) → IsRecording r → position < channel_count r →
    length (channel_windows r (samples_at r position)) ≤ sample_count r / (recorded_rule r).lo
unfolding windows windows_over
windows_few r position is inside =
    let s = samples_at r position in
    let rule = recorded_rule r in
    let given = rule_of_recording r is in
    let places = boundary_places s rule in
    let pairs = zip places (drop 2 places) in
    let many : length (map (λ p. window_between s p.0 p.1) pairs) ≡ length pairs = length-map pairs _ in
    let few = few_pairs places (drop 2 places) in
    let dropped = length-drop 2 places in
    let even : length s ≡ sample_count r = is.even position (omega (arith, inside, is.paired)) in
    let within : (length places - 1) * rule.lo ≤ sample_count r =
    subst (λ n. (length places - 1) * rule.lo ≤ n) even (places_few s rule given) in
    let near = (rule_is_near rule given).ahead in
    let quotient = at_most (sample_count r) rule.lo (length places - 1) (omega (arith, near)) within in
    omega (arith, many, few, dropped, quotient)

-- the readings: one for each 10-second tick but the last, at most
pub readings_few : (r : Recorded) → length (readings_of r (reference_cycles r))
    ≤ length (ticks (clock_of r) (sample_count r) 10) - 1
unfolding readings
readings_few r =
    let clock = clock_of r in
    let n = sample_count r in
    let all = ticks clock n 10 in
    let a = few_found (λ pair. reading_of clock.rate (reference_cycles r) pair.0 (tick_place clock n pair.0)
    (tick_place clock n pair.1)) (zip all (drop 1 all)) in
    let b = few_pairs all (drop 1 all) in
    let c = length-drop 1 all in
    omega (arith, a, b, c)

-- all three
pub intervals_few : IntervalsAreFew
intervals_few = record {
  basics = basics_few;
  windows = windows_few;
  readings = readings_few;
}
