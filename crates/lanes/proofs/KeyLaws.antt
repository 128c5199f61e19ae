-- Keys rise in each lane: none is 0, each is greater than the one before it, and none is past the end.
use Rattle.std.proofs.Common.{◌≡◌, ℕ, ◌+◌, ◌<◌, ◌≤◌, Bool, true, false, cond, nat_le, List, [], ◌∷◌, length, map, filter_map, zip, drop, ℤ, Option, Some, None, IfSome, unwrap_or, refl, sym, ◌∙◌, ap, subst, inl, inr, arith}
use Rattle.std.specs.Bool.{⊤}
use Rattle.std.specs.List.{AllByRecursion, cons_option}
use Rattle.std.proofs.lemmas.Bool.{cases_lt}
use Rattle.std.proofs.lemmas.Bool.Decides.{nat_tests}
use Rattle.std.proofs.lemmas.List.Elements.{All-cons, recursion_from_All}
use Rattle.aggregate.specs.Aggregation.{Basic}
use Rattle.aggregate.specs.BasicOrder.{Follows}
use Rattle.event_detect.specs.declared.window.Window.{Window}
use Rattle.freq10s.specs.declared.reading.Reading.{Reading}
use Rattle.freq10s.specs.Frequency.{boundaries_within, reading_of, readings}
use Rattle.freq10s.specs.Intervals.{FollowFrom, interval_between, intervals_between}
use Rattle.freq10s.proofs.CycleLaws.{after_first, fewer_boundaries, none_within, within_more, within_same}
use Rattle.freq10s.proofs.IntervalLaws.{follow_earlier, ticks_follow}
use Rattle.half_cycle.proofs.WindowBounds.{Follow, windows_follow}
use Rattle.lanes.specs.declared.lane_item.LaneItem.{LaneItem}
use Rattle.lanes.specs.declared.lane_item.LaneItem.TheVariants as item
use Rattle.lanes.specs.Lane.{detector_items, frequency_items, lane_items, lane_key, recorded_runs, sampler_items, value_of}
use Rattle.lanes.proofs.LaneLaws.{each_lane}
use Rattle.pq_base.specs.Recorded.{Recorded, IsRecording, sample_count, samples_at}
use Rattle.pq_sequence.specs.BasicInterval.{IsRun, basic_runs, basic_span, begins_segment, cycles_of, fronts}
use Rattle.pq_sequence.specs.MeasuredRecording.{basic_over, channel_count, clock_of, recorded_places, recorded_rule, reference_cycles}
use Rattle.pq_sequence.proofs.BasicLemmas.{runs_lie, some_cycles, starts_before}
use Rattle.pq_sequence.proofs.BasicOrder.{basics_in_order}
use Rattle.pq_sequence.proofs.NeighbourLaws.{Linked, LinkedFrom}
use Rattle.pq_sequence.proofs.ResultLaws.{rule_of_recording}
use Rattle.pq_time.specs.declared.clock.Clock.{Clock}
use Rattle.pq_time.specs.Tick.{tick_place, ticks}
use Rattle.pq_time.specs.Time.{is_taken_by, place_of}
use Rattle.pq_words.specs.First.{IsFirst, first_between}
use Rattle.pq_words.proofs.FirstLaws.{first_between_is}
use Rattle.ten_twelve.specs.declared.span.Span.{Span}
use Rattle.zero_cross.specs.Boundary.{AreBoundaries}
use Rattle.zero_cross.proofs.BoundaryLaws.{cycles_lie}

-- keys that rise from a place on, and are at most n
abbrev pub KeysRise : ℕ → ℕ → List LaneItem → Type 0
KeysRise n low [] = ⊤
KeysRise n low (i ∷ later) = (low < lane_key i) × (lane_key i ≤ n) × KeysRise n (lane_key i) later

-- ---- a sampler

-- the cycle boundaries of a recording rise, within it
pub recorded_cycles : (r : Recorded) → IsRecording r → AreBoundaries (reference_cycles r) (sample_count r)
recorded_cycles r given =
    let same : length (samples_at r r.reference) ≡ sample_count r =
    given.even r.reference (omega (arith, given.reference, given.paired)) in
    subst (AreBoundaries (reference_cycles r)) same
    (cycles_lie (samples_at r r.reference) (recorded_rule r) (rule_of_recording r given))

module _ (r : Recorded) (given : IsRecording r) where
  abbrev basic_at : Span → Basic
  basic_at run = basic_over r [] (basic_span (reference_cycles r) run)
      (begins_segment (fronts (reference_cycles r) (recorded_places r)) run)

  values_rise : (c : ℕ) (x : Span) (xs : List Span) →
      LinkedFrom (Follows (clock_of r) (sample_count r)) (basic_at x) (map basic_at xs) →
      AllByRecursion (IsRun (length (reference_cycles r))) xs →
      KeysRise (sample_count r) (lane_key (value_of r c x)) (map (value_of r c) xs)
  values_rise c x [] l lie = tt
  values_rise c x (y ∷ ys) l lie =
      let below = (recorded_cycles r given).below y.end 0 lie.0.there in
      (l.0.ends, omega (arith, below), values_rise c y ys l.1 lie.1)

  all_values_rise : (c : ℕ) (xs : List Span) →
      Linked (Follows (clock_of r) (sample_count r)) (map basic_at xs) →
      AllByRecursion (IsRun (length (reference_cycles r))) xs →
      KeysRise (sample_count r) 0 (map (value_of r c) xs)
  all_values_rise c [] l lie = tt
  all_values_rise c (x ∷ xs) l lie =
      let cycles = recorded_cycles r given in
      let below = cycles.below x.end 0 lie.0.there in
      let some = starts_before (reference_cycles r) (sample_count r) x lie.0 cycles in
      (omega (arith, some), omega (arith, below), values_rise c x xs l lie.1)

  pub sampler_rises : (c : ℕ) → KeysRise (sample_count r) 0 (sampler_items r c)
  unfolding basic_runs
  sampler_rises c =
      let boundaries = reference_cycles r in
      let cycles : ℕ = cycles_of r.lf in
      let some = some_cycles r.lf cycles refl in
      all_values_rise c (recorded_runs r)
      (basics_in_order r [] boundaries (recorded_cycles r given) (omega (arith, some))).1
      (recursion_from_All (IsRun (length boundaries)) (recorded_runs r)
      (runs_lie (fronts boundaries (recorded_places r)) cycles (length boundaries) some))

  -- ---- a detector

  window_keys : (n low : ℕ) (windows : List Window) → Follow n low windows →
      KeysRise n low (map item.Window windows)
  window_keys n low [] h = tt
  window_keys n low (w ∷ later) h =
      (omega (arith, h.0), omega (arith, h.1, h.2), window_keys n (w.start + 1) later h.3)

  pub detector_rises : (c : ℕ) → c < channel_count r → KeysRise (sample_count r) 0 (detector_items r c)
  detector_rises c inside =
      let same : length (samples_at r c) ≡ sample_count r =
      given.even c (omega (arith, inside, given.paired)) in
      subst (λ n. KeysRise n 0 (detector_items r c)) same
      (window_keys (length (samples_at r c)) 0 _
      (windows_follow (samples_at r c) (recorded_rule r) (rule_of_recording r given)))

-- ---- the frequency lane

-- a place is at most the number of samples
place_within : (clock : Clock) (moment : ℤ) (n : ℕ) → place_of clock moment n ≤ n
unfolding place_of
place_within clock moment n =
    at (first_between (is_taken_by clock moment) 0 n) (first_between_is (is_taken_by clock moment) 0 n)
  where
    at : (o : Option ℕ) → IsFirst (is_taken_by clock moment) 0 n o → unwrap_or o n ≤ n
    at None h = omega arith
    at (Some k) h = let below = h.below in omega (arith, below)

-- up to where it begins, an interval has one boundary at most
few_within : (p q n : ℕ) (boundaries : List ℕ) → AreBoundaries boundaries n → q ≤ p →
    length (boundaries_within boundaries p q) ≤ 1
few_within p q n [] are back = omega arith
few_within p q n (b ∷ later) are back =
    let rest = few_within p q n later (fewer_boundaries b later n are) back in
    elim (cases_lt b p) [
      | inl before ↦
          let same : length (boundaries_within (b ∷ later) p q) ≡ length (boundaries_within later p q) =
          ap length (within_same p q b later before) in
          omega (arith, same, rest)
      | inr from ↦
          let none : boundaries_within later p q ≡ [] =
          none_within p q later (λ i d inside. let less = after_first b later n are i d inside in
          omega (arith, less, from, back)) in
          elim (cases_lt q b) [
            | inl past ↦
                let empty : length (boundaries_within (b ∷ later) p q) ≡ 0 =
                ap length (none_within p q (b ∷ later)
                (All-cons (λ k. q < k) b later past
                (λ i d inside. let less = after_first b later n are i d inside in
                omega (arith, less, from, back)))) in
                omega (arith, empty)
            | inr until ↦
                let one : length (boundaries_within (b ∷ later) p q) ≡ 1 =
                ap length (within_more p q b later from until ∙ ap (λ ks. b ∷ ks) none) in
                omega (arith, one)
          ]
    ]

-- an interval that has a reading has samples
reading_lies : (rate : ℕ) (boundaries : List ℕ) (tick : ℤ) (p q n : ℕ) → AreBoundaries boundaries n →
    IfSome (reading_of rate boundaries tick p q) (λ x. (x.end ≡ q) × (p < q))
unfolding reading_of
reading_lies rate boundaries tick p q n are =
    at (nat_le 2 (length (boundaries_within boundaries p q))) _ refl refl
  where
    some_samples : nat_le 2 (length (boundaries_within boundaries p q)) ≡ true → p < q
    some_samples is =
        let two : 2 ≤ length (boundaries_within boundaries p q) = grind (arith, nat_tests, is) in
        elim (cases_lt p q) [
          | inl less ↦ less
          | inr back ↦ let few = few_within p q n boundaries are back in absurd (omega (arith, few, two))
        ]

    at : (b : Bool) (x : Reading) → nat_le 2 (length (boundaries_within boundaries p q)) ≡ b → x.end ≡ q →
        IfSome (cond b (Some x) None) (λ x. (x.end ≡ q) × (p < q))
    at true x is end = (end, some_samples is)
    at false x is end = tt

module _ (r : Recorded) (given : IsRecording r) where
  abbrev place : ℤ → ℕ
  place tick = tick_place (clock_of r) (sample_count r) tick

  abbrev reading_at : ℤ × ℤ → Option Reading
  reading_at pair = reading_of r.rate (reference_cycles r) pair.0 (place pair.0) (place pair.1)

  readings_rise : (low : ℕ) (pairs : List (ℤ × ℤ)) →
      FollowFrom low (map (λ pair. interval_between (clock_of r) (sample_count r) pair.0 pair.1) pairs) →
      KeysRise (sample_count r) low (map item.Reading (filter_map reading_at pairs))
  readings_rise low [] h = tt
  readings_rise low (pair ∷ later) h =
      let rest = map (λ pair. interval_between (clock_of r) (sample_count r) pair.0 pair.1) later in
      at (reading_at pair)
      (reading_lies r.rate (reference_cycles r) pair.0 (place pair.0) (place pair.1) (sample_count r)
      (recorded_cycles r given))
      (readings_rise low later
      (follow_earlier low (place pair.1) rest (omega (arith, h.0, h.1)) h.2))
      (readings_rise (place pair.1) later h.2)
    where
      at : (o : Option Reading) → IfSome o (λ x. (x.end ≡ place pair.1) × (place pair.0 < place pair.1)) →
          KeysRise (sample_count r) low (map item.Reading (filter_map reading_at later)) →
          KeysRise (sample_count r) (place pair.1) (map item.Reading (filter_map reading_at later)) →
          KeysRise (sample_count r) low (map item.Reading (cons_option o (filter_map reading_at later)))
      at None is same more = same
      at (Some x) is same more =
          let within = place_within (clock_of r) _ (sample_count r) in (
            omega (arith, h.0, is.0, is.1),
            subst (λ k. k ≤ sample_count r) (sym is.0) within,
            subst (λ k. KeysRise (sample_count r) k (map item.Reading (filter_map reading_at later)))
                (sym is.0) more,
          )

  pub frequency_rises : KeysRise (sample_count r) 0 (frequency_items r)
  unfolding readings intervals_between
  frequency_rises =
      let all = ticks (clock_of r) (sample_count r) 10 in
      readings_rise 0 (zip all (drop 1 all)) (ticks_follow (clock_of r) (sample_count r))

  -- keys rise in each lane
  pub lane_rises : (lane : ℕ) → KeysRise (sample_count r) 0 (lane_items r lane)
  lane_rises = each_lane r (KeysRise (sample_count r) 0) (λ c inside. sampler_rises r given c)
      (detector_rises r given) frequency_rises tt
