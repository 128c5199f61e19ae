-- The basic intervals of a recording: their starts rise, their ends do not fall, and a tick's place that one
-- of them reaches has a first one of a segment soon after it.
use Rattle.std.proofs.Common.{if◌then◌else◌, ◌≡◌, ℕ, ◌+◌, ◌-◌, ◌<◌, ◌≤◌, ◌==◌, nat_le, Bool, true, false, List, ◌∷◌, length, map, filter_map, Option, Some, None, slice_index, AllPairs, refl, ◌∙◌, ap, inl, inr, arith}
use Rattle.std.proofs.lemmas.Bool.{cases_lt}
use Rattle.std.proofs.lemmas.Bool.Decides.{nat_tests}
use Rattle.std.proofs.lemmas.List.Kept.{AllPairs-from_increasing, Contains-dedup_nat}
use Rattle.aggregate.specs.Aggregation.{Basic}
use Rattle.event_detect.specs.declared.event.Event.{Event}
use Rattle.pq_base.specs.Recorded.{Recorded, IsRecording, sample_count, samples_at}
use Rattle.pq_sequence.specs.BasicInterval.{basic_span, begins_segment, cycles_of, front_of, fronts, basic_runs}
use Rattle.pq_sequence.specs.MeasuredRecording.{basic_over, basics_of, basics_over, recorded_places, recorded_rule, reference_cycles, clock_of}
use Rattle.pq_sequence.proofs.FrontLemmas.{fronts_start, places_rise}
use Rattle.pq_words.specs.First.{FirstAt, IsFirst, first_between}
use Rattle.pq_words.proofs.FirstLaws.{first_between_is}
use Rattle.ten_twelve.specs.Run.{begins_run, run_from, runs}
use Rattle.zero_cross.specs.Boundary.{IsRule}
use Rattle.zero_cross.proofs.BoundaryLaws.{cycles_lie}
use Rattle.result_laws.proofs.NumberLaws.{begins_at_start, found_in, in_filter, in_numbers, indices_bound, indices_rise, run_indices}
use Rattle.result_laws.proofs.PairLaws.{IsIn, Pairwise, all_in, contains_in, in_contains, in_filter_map, in_map, of_map, pairs_pairwise, pairwise_all, pairwise_map}

-- a basic interval before another: it starts earlier, and ends no later
pub record Precedes (a b : Basic) : Type 0 where
  pub starts : a.part.start < b.part.start
  pub ends : a.part.end ≤ b.part.end

-- a place that some basic interval reaches, with another one that starts at it or after it: then there is a
-- first one of a segment that starts at it or after it, and no later than the one that reaches it ends
abbrev pub HasFront : List Basic → ℕ → Type 0
HasFront bs p = (a b : Basic) → IsIn a bs → IsIn b bs → p ≤ a.part.end → p ≤ b.part.start →
    (c : Basic) × IsIn c bs × (c.front ≡ true) × (p ≤ c.part.start) × (c.part.start ≤ a.part.end)

le_of : (a b : ℕ) → nat_le a b ≡ true → a ≤ b
le_of a b h = grind (arith, nat_tests, h)

of_le : (a b : ℕ) → a ≤ b → nat_le a b ≡ true
of_le a b h = grind (arith, nat_tests, h)

module _ (r : Recorded) (events : List Event) (cb places : List ℕ) (m : ℕ)
    (rising : AllPairs (λ a b. a < b) cb) (some : 1 ≤ m) where
  abbrev count : ℕ
  count = length cb - 1

  -- the basic interval that begins at a cycle
  abbrev at_cycle : ℕ → Basic
  at_cycle x = basic_over r events (basic_span cb (run_from m x))
      (begins_segment (fronts cb places) (run_from m x))

  abbrev all_basics : List Basic
  all_basics = basics_over r events cb (fronts cb places) (runs (fronts cb places) m count)

  follow : (x y : ℕ) → x < count + 1 - m → y < count + 1 - m → x < y → Precedes (at_cycle x) (at_cycle y)
  follow x y in_x in_y less = record {
    starts = rising x y 0 less (omega (arith, in_y, some));
    ends =
        let rise = rising (x + m) (y + m) 0 (omega (arith, less)) (omega (arith, in_y, some)) in
        omega (arith, rise);
  }

  basics_precede : Pairwise Precedes all_basics
  unfolding runs
  basics_precede =
      let xs = run_indices (fronts cb places) m count in
      pairwise_map Precedes
      (λ run. basic_over r events (basic_span cb run) (begins_segment (fronts cb places) run))
      (map (run_from m) xs)
      (pairwise_map
      (λ a b. Precedes (basic_over r events (basic_span cb a) (begins_segment (fronts cb places) a))
      (basic_over r events (basic_span cb b) (begins_segment (fronts cb places) b)))
      (run_from m) xs
      (pairwise_all (λ x. x < count + 1 - m) (λ x y. x < y) (λ x y. Precedes (at_cycle x) (at_cycle y))
      follow xs
      (indices_bound (fronts cb places) m count) (indices_rise (fronts cb places) m count)))

  -- what a basic interval is
  of_cycle : (b : Basic) → IsIn b all_basics →
      (x : ℕ) × (x < count + 1 - m) × (b ≡ at_cycle x)
  unfolding runs
  of_cycle b is =
      let xs = run_indices (fronts cb places) m count in
      let run = of_map (λ run. basic_over r events (basic_span cb run)
      (begins_segment (fronts cb places) run)) b
      (map (run_from m) xs) is in
      let x = of_map (run_from m) run.0 xs run.1 in (
        x.0,
        all_in (λ x. x < count + 1 - m) x.0 xs (indices_bound (fronts cb places) m count) x.1,
        run.2 ∙ ap (λ k. basic_over r events (basic_span cb k) (begins_segment (fronts cb places) k)) x.2,
      )

  in_basics : (x : ℕ) → x < count + 1 - m → begins_run (fronts cb places) m x ≡ true →
      IsIn (at_cycle x) all_basics
  unfolding runs
  in_basics x inside begun =
      let xs = run_indices (fronts cb places) m count in
      in_map (λ run. basic_over r events (basic_span cb run) (begins_segment (fronts cb places) run))
      (run_from m x)
      (map (run_from m) xs)
      (in_map (run_from m) x xs
      (in_filter (begins_run (fronts cb places) m) x _
      (in_numbers 0 (count + 1 - m) x (omega arith) (omega (arith, inside))) begun))

  -- a place that is no later than some boundary has a front no later
  front_until : (p i : ℕ) → i < length cb → p ≤ slice_index cb i →
      (g : ℕ) × (front_of cb p ≡ Some g) × FirstAt (λ j. nat_le p (slice_index cb j)) 0 (length cb) g
  unfolding front_of
  front_until p i inside until =
      let test : ℕ → Bool = λ j. nat_le p (slice_index cb j) in
      at (first_between test 0 (length cb)) (first_between_is test 0 (length cb))
    where
      at : (o : Option ℕ) → IsFirst (λ j. nat_le p (slice_index cb j)) 0 (length cb) o →
          (g : ℕ) × (o ≡ Some g) × FirstAt (λ j. nat_le p (slice_index cb j)) 0 (length cb) g
      at None none = absurd (none i (omega arith) inside (of_le p (slice_index cb i) until))
      at (Some g) first = (g, refl, first)

  no_later : (g y p : ℕ) → FirstAt (λ j. nat_le p (slice_index cb j)) 0 (length cb) g → p ≤ slice_index cb y →
      g ≤ y
  no_later g y p first until = elim (cases_lt y g) [
    | inl less ↦ absurd (first.none_before y (omega arith) less (of_le p (slice_index cb y) until))
    | inr rest ↦ rest
  ]

  boundaries_order : (i j : ℕ) → i ≤ j → j < length cb → slice_index cb i ≤ slice_index cb j
  boundaries_order i j from inside = elim (cases_lt i j) [
    | inl less ↦ let rise = rising i j 0 less inside in omega (arith, rise)
    | inr back ↦
        let e : i ≡ j = omega (arith, from, back) in
        let same : slice_index cb i ≡ slice_index cb j = ap (slice_index cb) e in
        omega (arith, same)
  ]

  module _ (starts : Pairwise (λ a b. a < b) (fronts cb places)) where
    in_fronts : (p g : ℕ) → IsIn p places → front_of cb p ≡ Some g → IsIn g (fronts cb places)
    unfolding fronts
    in_fronts p g is found =
        contains_in g (fronts cb places)
        (Contains-dedup_nat (0 ∷ filter_map (front_of cb) places) g
        (in_contains g (0 ∷ filter_map (front_of cb) places)
        (inr (in_filter_map (front_of cb) p g places is found))))

    has_front : (p : ℕ) → IsIn p places → HasFront all_basics p
    has_front p tick a b is_a is_b reached from =
        let x = of_cycle a is_a in
        let y = of_cycle b is_b in
        let in_x = x.1 in
        let in_y = y.1 in
        let end_is : a.part.end ≡ slice_index cb (x.0 + m) = ap (λ (c : Basic). c.part.end) x.2 in
        let start_is : b.part.start ≡ slice_index cb y.0 = ap (λ (c : Basic). c.part.start) y.2 in
        let end_in : x.0 + m < length cb = omega (arith, in_x, some) in
        let found = front_until p (x.0 + m) end_in (omega (arith, reached, end_is)) in
        let g = found.0 in
        let upto : g ≤ y.0 = no_later g y.0 p found.2 (omega (arith, from, start_is)) in
        let before : g ≤ x.0 + m = no_later g (x.0 + m) p found.2 (omega (arith, reached, end_is)) in
        let is_front = in_fronts p g tick found.1 in
        let begun = begins_at_start (fronts cb places) m g some starts is_front in
        let order = boundaries_order g (x.0 + m) before end_in in (
          at_cycle g,
          in_basics g (omega (arith, upto, in_y)) begun,
          found_in g (fronts cb places) is_front,
          le_of p (slice_index cb g) found.2.passes,
          omega (arith, order, end_is),
        )

-- ---- those of a recording

pub rule_of_recording : (r : Recorded) → IsRecording r → IsRule (recorded_rule r)
rule_of_recording r is = record {
  rate = r.rate;
  lf = r.lf;
  line = is.lf;
  least = is.rate.0;
  most = is.rate.1;
  is = refl;
}

pub some_cycles : (lf : ℕ) → 1 ≤ cycles_of lf
some_cycles lf = at (lf == 50)
  where
    at : (b : Bool) → 1 ≤ (if b then 10 else 12)
    at true = omega arith
    at false = omega arith

pub cycles_rise : (r : Recorded) → IsRecording r → AllPairs (λ a b. a < b) (reference_cycles r)
cycles_rise r is = (cycles_lie (samples_at r r.reference) (recorded_rule r) (rule_of_recording r is)).rising

pub recorded_precede : (r : Recorded) (events : List Event) → IsRecording r →
    Pairwise Precedes (basics_of r events (reference_cycles r))
unfolding basic_runs
recorded_precede r events is =
    basics_precede r events (reference_cycles r) (recorded_places r) (cycles_of r.lf) (cycles_rise r is)
    (some_cycles r.lf)

pub recorded_fronts : (r : Recorded) (events : List Event) (p : ℕ) → IsRecording r →
    IsIn p (recorded_places r) → HasFront (basics_of r events (reference_cycles r)) p
unfolding basic_runs
recorded_fronts r events p is tick =
    let cb = reference_cycles r in
    let starts = fronts_start cb (recorded_places r) (places_rise (clock_of r) (sample_count r)) in
    has_front r events cb (recorded_places r) (cycles_of r.lf) (cycles_rise r is) (some_cycles r.lf)
    (pairs_pairwise (λ (a b : ℕ). a < b) (fronts cb (recorded_places r))
    (AllPairs-from_increasing (fronts cb (recorded_places r)) starts.rising))
    p tick
