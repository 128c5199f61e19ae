-- Each reading has samples, and lies in the recording; so its flag is told once no window is left that begins
-- before it ends.
use Rattle.std.proofs.Common.{◌≡◌, ℕ, ◌<◌, ◌≤◌, Bool, true, false, cond, nat_le, List, [], ◌∷◌, length, filter_map, zip, drop, ℤ, Option, None, Some, IfSome, unwrap_or, slice_get, refl, ◌∙◌, ap, inl, inr, arith}
use Rattle.std.specs.List.{AllByRecursion, cons_option}
use Rattle.std.proofs.lemmas.Bool.{cases_lt}
use Rattle.std.proofs.lemmas.Bool.Decides.{nat_tests}
use Rattle.std.proofs.lemmas.List.Elements.{All-cons}
use Rattle.event_detect.specs.declared.limits.Limits.{Limits}
use Rattle.freq10s.specs.declared.reading.Reading.{Reading}
use Rattle.freq10s.specs.Frequency.{boundaries_within, reading_of, readings}
use Rattle.freq10s.proofs.CycleLaws.{after_first, fewer_boundaries, none_within, within_more, within_same}
use Rattle.interval_ledger.specs.Known.{IsToldNow}
use Rattle.interval_ledger.specs.Merged.{IsAbreast, Merged}
use Rattle.interval_ledger.proofs.FlagLaws.{flag_told}
use Rattle.interval_ledger.proofs.MergingLaws.{all_got, rest_got}
use Rattle.lanes.specs.Lane.{recorded_readings}
use Rattle.lanes.proofs.KeyLaws.{recorded_cycles}
use Rattle.pq_base.specs.Recorded.{Recorded, IsRecording, sample_count}
use Rattle.pq_sequence.specs.MeasuredRecording.{clock_of, recorded_windows, reference_cycles}
use Rattle.pq_time.specs.declared.clock.Clock.{Clock}
use Rattle.pq_time.specs.Tick.{tick_place, ticks}
use Rattle.pq_time.specs.Time.{is_taken_by, place_of}
use Rattle.pq_words.specs.First.{IsFirst, first_between}
use Rattle.pq_words.proofs.FirstLaws.{first_between_is}
use Rattle.zero_cross.specs.Boundary.{AreBoundaries}

-- a place is at most the number of samples
place_within : (clock : Clock) (moment : ℤ) (n : ℕ) → place_of clock moment n ≤ n
unfolding place_of
place_within clock moment n =
    at (first_between (is_taken_by clock moment) 0 n) (first_between_is (is_taken_by clock moment) 0 n)
  where
    at : (o : Option ℕ) → IsFirst (is_taken_by clock moment) 0 n o → unwrap_or o n ≤ n
    at None h = omega arith
    at (Some k) h = let below = h.below in omega (arith, below)

-- up to where it begins, an interval has one boundary at most
few_within : (p q n : ℕ) (boundaries : List ℕ) → AreBoundaries boundaries n → q ≤ p →
    length (boundaries_within boundaries p q) ≤ 1
few_within p q n [] are back = omega arith
few_within p q n (b ∷ later) are back =
    let rest = few_within p q n later (fewer_boundaries b later n are) back in
    elim (cases_lt b p) [
      | inl before ↦
          let same : length (boundaries_within (b ∷ later) p q) ≡ length (boundaries_within later p q) =
          ap length (within_same p q b later before) in
          omega (arith, same, rest)
      | inr from ↦
          let none : boundaries_within later p q ≡ [] =
          none_within p q later (λ i d inside. let less = after_first b later n are i d inside in
          omega (arith, less, from, back)) in
          elim (cases_lt q b) [
            | inl past ↦
                let empty : length (boundaries_within (b ∷ later) p q) ≡ 0 =
                ap length (none_within p q (b ∷ later)
                (All-cons (λ k. q < k) b later past
                (λ i d inside. let less = after_first b later n are i d inside in
                omega (arith, less, from, back)))) in
                omega (arith, empty)
            | inr until ↦
                let one : length (boundaries_within (b ∷ later) p q) ≡ 1 =
                ap length (within_more p q b later from until ∙ ap (λ ks. b ∷ ks) none) in
                omega (arith, one)
          ]
    ]

-- an interval that has a reading has samples
reading_lies : (rate : ℕ) (boundaries : List ℕ) (tick : ℤ) (p q n : ℕ) → AreBoundaries boundaries n →
    IfSome (reading_of rate boundaries tick p q) (λ x. (x.start ≡ p) × (x.end ≡ q) × (p < q))
unfolding reading_of
reading_lies rate boundaries tick p q n are =
    at (nat_le 2 (length (boundaries_within boundaries p q))) _ refl refl refl
  where
    some_samples : nat_le 2 (length (boundaries_within boundaries p q)) ≡ true → p < q
    some_samples is =
        let two : 2 ≤ length (boundaries_within boundaries p q) = grind (arith, nat_tests, is) in
        elim (cases_lt p q) [
          | inl less ↦ less
          | inr back ↦ let few = few_within p q n boundaries are back in absurd (omega (arith, few, two))
        ]

    at : (b : Bool) (x : Reading) → nat_le 2 (length (boundaries_within boundaries p q)) ≡ b → x.start ≡ p →
        x.end ≡ q → IfSome (cond b (Some x) None) (λ x. (x.start ≡ p) × (x.end ≡ q) × (p < q))
    at true x is start end = (start, end, some_samples is)
    at false x is start end = tt

-- a reading has samples, and ends within so many
abbrev pub Lies : ℕ → Reading → Type 0
Lies n x = (x.start < x.end) × (x.end ≤ n)

readings_lie : (clock : Clock) (n : ℕ) (boundaries : List ℕ) → AreBoundaries boundaries n →
    AllByRecursion (Lies n) (readings clock n boundaries)
unfolding readings
readings_lie clock n boundaries are = each (zip (ticks clock n 10) (drop 1 (ticks clock n 10)))
  where
    at : (p q : ℕ) (o : Option Reading) (xs : List Reading) → q ≤ n →
        IfSome o (λ x. (x.start ≡ p) × (x.end ≡ q) × (p < q)) → AllByRecursion (Lies n) xs →
        AllByRecursion (Lies n) (cons_option o xs)
    at p q None xs until h rest = rest
    at p q (Some x) xs until h rest =
        ((omega (arith, h.0, h.1, h.2), omega (arith, h.1, until)), rest)

    each : (ps : List (ℤ × ℤ)) → AllByRecursion (Lies n)
        (filter_map (λ t. reading_of clock.rate boundaries t.0 (tick_place clock n t.0)
        (tick_place clock n t.1)) ps)
    each [] = tt
    each (t ∷ ps) =
        at (tick_place clock n t.0) (tick_place clock n t.1) _ _ (place_within clock _ n)
        (reading_lies clock.rate boundaries t.0 (tick_place clock n t.0) (tick_place clock n t.1) n are)
        (each ps)

-- once no window is left that begins before the next reading ends, its flag is told
pub reading_told : (r : Recorded) (limits : Limits) → IsRecording r → (m : Merged) (near : ℕ) →
    IsAbreast r limits m near → (x : Reading) → slice_get (recorded_readings r) m.readings ≡ Some x →
    AllByRecursion (λ y. x.end ≤ y.window.start) (drop m.windows (recorded_windows r)) →
    IsToldNow r limits m x.start x.end
reading_told r limits given m near abreast x is later =
    let lies = all_got (Lies (sample_count r)) (recorded_readings r) m.readings x
    (readings_lie (clock_of r) (sample_count r) (reference_cycles r) (recorded_cycles r given)) is in
    flag_told r limits m near x.start x.end given abreast
    (rest_got (λ y. near ≤ y.end) (recorded_readings r) m.readings x abreast.readings is) lies.0 lies.1 later
