-- The readings over intervals that follow one another, by the boundaries that are left.
use Rattle.std.proofs.Common.{◌≡◌, ℕ, suc, ◌+◌, ◌-◌, ◌*◌, ◌/◌, ◌<◌, ◌≤◌, ◌&&◌, ◌==◌, Bool, true, false, cond, nat_le, List, [], ◌∷◌, length, map, filter_map, zip, drop, ℤ, Option, Some, None, option_and_then, slice_index, if◌then◌else◌, refl, sym, ◌∙◌, ap, subst, arith}
use Rattle.std.specs.List.{cons_option}
use Rattle.std.proofs.lemmas.Bool.Decides.{nat_tests}
use Rattle.std.proofs.lemmas.List.Elements.{All-filter}
use Rattle.std.proofs.lemmas.List.Kept.{AllPairs-filter}
use Rattle.freq10s.specs.declared.intervals.Interval.{Interval}
use Rattle.freq10s.specs.declared.reading.Reading.{Reading}
use Rattle.freq10s.specs.Cycles.{boundaries_from, cycles_between}
use Rattle.freq10s.specs.Frequency.{boundaries_within, reading_of, readings}
use Rattle.freq10s.specs.Intervals.{FollowFrom, interval_between, intervals_between}
use Rattle.freq10s.specs.Readings.{IsSound, reading_by, reading_over, readings_over}
use Rattle.freq10s.proofs.CycleLaws.{cycles_are, cycles_done, cycles_step}
use Rattle.freq10s.proofs.IntervalLaws.{follow_earlier}
use Rattle.pq_time.specs.declared.clock.Clock.{Clock}
use Rattle.pq_time.specs.Tick.{ticks}
use Rattle.pq_words.specs.declared.limits.TheConstants.{MOST_SAMPLES}
use Rattle.zero_cross.specs.Boundary.{AreBoundaries}

-- ---- a reading by its cycles

-- the reading over an interval, by the boundaries in it
abbrev reading_within : ℕ → ℤ → ℕ → ℕ → List ℕ → Option Reading
reading_within rate tick p q within =
    let cycles = length within - 1 in
    let samples = slice_index within cycles - slice_index within 0 in
    if nat_le 2 (length within)
    then Some (record {
      tick = tick;
      start = p;
      end = q;
      cycles = cycles;
      samples = samples;
      microhertz = cycles * rate / samples;
    })
    else None

by_cycles : (rate : ℕ) (i : Interval) (within : List ℕ) → reading_within rate i.tick i.start i.end within
    ≡ option_and_then (reading_by rate i) (cycles_between within)
by_cycles rate i [] = sym (ap (option_and_then (reading_by rate i)) (cycles_done None))
by_cycles rate i (k ∷ []) = sym (ap (option_and_then (reading_by rate i))
    (cycles_step None k [] ∙ cycles_done _))
by_cycles rate i (k ∷ m ∷ later) =
    let n = suc (length later) in
    let last = slice_index (k ∷ m ∷ later) n in
    let made : ℕ → ℕ → Reading = λ cycles end. record {
      tick = i.tick;
      start = i.start;
      end = i.end;
      cycles = cycles;
      samples = end - k;
      microhertz = cycles * rate / (end - k);
    } in
    let one_less : suc n - 1 ≡ n = omega arith in
    let some : nat_le 2 (suc n) ≡ true = grind (arith, nat_tests) in
    let by_list : reading_within rate i.tick i.start i.end (k ∷ m ∷ later) ≡ Some (made n last) =
    ap (λ b. if b then Some (made (suc n - 1) (slice_index (k ∷ m ∷ later) (suc n - 1))) else None) some
    ∙ ap (λ c. Some (made c (slice_index (k ∷ m ∷ later) c))) one_less in
    let none_before : 0 + n ≡ n = omega arith in
    let cycles : cycles_between (k ∷ m ∷ later) ≡ Some (record { first = k; last = last; count = n }) =
    cycles_step None k (m ∷ later) ∙ cycles_are k k 0 (m ∷ later)
    ∙ ap (λ c. Some (record { first = k; last = last; count = c })) none_before in
    let some_cycle : (n == 0) ≡ false = grind (arith, nat_tests) in
    by_list ∙ sym (ap (option_and_then (reading_by rate i)) cycles
    ∙ ap (λ b. if b then None else Some (made n last)) some_cycle)

-- the reading over an interval is that of the cycles between the boundaries in it
pub reading_is : (rate : ℕ) (boundaries : List ℕ) (i : Interval) → reading_over rate boundaries i
    ≡ option_and_then (reading_by rate i) (cycles_between (boundaries_within boundaries i.start i.end))
unfolding reading_of
reading_is rate boundaries i = by_cycles rate i (boundaries_within boundaries i.start i.end)

-- ---- boundaries before the intervals count for nothing

both : (low p q k : ℕ) → low ≤ p → nat_le low k ≡ false → (nat_le p k && nat_le k q) ≡ false
both low p q k later fails = grind (arith, nat_tests)

same_step : (low p q k : ℕ) (xs zs : List ℕ) (b : Bool) → nat_le low k ≡ b → low ≤ p →
    boundaries_within xs p q ≡ zs
    → boundaries_within (cond b (k ∷ xs) xs) p q ≡ cond (nat_le p k && nat_le k q) (k ∷ zs) zs
same_step low p q k xs zs true is later e = ap (λ ys. cond (nat_le p k && nat_le k q) (k ∷ ys) ys) e
same_step low p q k xs zs false is later e =
    e ∙ sym (ap (λ c. cond c (k ∷ zs) zs) (both low p q k later is))

within_later : (low p q : ℕ) (boundaries : List ℕ) → low ≤ p →
    boundaries_within (boundaries_from low boundaries) p q ≡ boundaries_within boundaries p q
within_later low p q [] later = refl
within_later low p q (k ∷ rest) later =
    same_step low p q k (boundaries_from low rest) (boundaries_within rest p q) (nat_le low k) refl later
    (within_later low p q rest later)

pub readings_later : (rate low : ℕ) (boundaries : List ℕ) (intervals : List Interval) →
    FollowFrom low intervals
    → readings_over rate (boundaries_from low boundaries) intervals ≡ readings_over rate boundaries intervals
unfolding reading_of
readings_later rate low boundaries [] follow = refl
readings_later rate low boundaries (i ∷ later) follow =
    let rest = follow_earlier low i.end later (omega (arith, follow.0, follow.1)) follow.2 in
    ap (λ within. cons_option (reading_within rate i.tick i.start i.end within)
    (readings_over rate (boundaries_from low boundaries) later))
    (within_later low i.start i.end boundaries follow.0)
    ∙ ap (cons_option (reading_over rate boundaries i)) (readings_later rate low boundaries later rest)

-- boundaries from a place on are in order
are_from : (place n : ℕ) (boundaries : List ℕ) → AreBoundaries boundaries n →
    AreBoundaries (boundaries_from place boundaries) n
are_from place n boundaries are = record {
  rising = AllPairs-filter (λ a b. a < b) (λ k. nat_le place k) boundaries are.rising;
  below = All-filter (λ k. nat_le place k) (λ k. k < n) boundaries are.below;
}

-- the reading over the first interval, and those over the others by the boundaries from its end on
pub readings_step : (rate : ℕ) (boundaries left : List ℕ) (i : Interval) (intervals later : List Interval) →
    intervals ≡ i ∷ later → left ≡ boundaries_from i.end boundaries → IsSound rate boundaries intervals →
    readings_over rate boundaries intervals
    ≡ cons_option (reading_over rate boundaries i) (readings_over rate left later)
readings_step rate boundaries left i intervals later splits is sound =
    let follow = subst (FollowFrom 0) splits sound.follow in
    ap (readings_over rate boundaries) splits
    ∙ ap (cons_option (reading_over rate boundaries i))
    (sym (ap (λ ks. readings_over rate ks later) is ∙ readings_later rate i.end boundaries later follow.2))

-- they are in order, as all were
pub sound_later : (rate : ℕ) (boundaries left : List ℕ) (i : Interval) (intervals later : List Interval) →
    intervals ≡ i ∷ later → left ≡ boundaries_from i.end boundaries → IsSound rate boundaries intervals →
    IsSound rate left later
sound_later rate boundaries left i intervals later splits is sound =
    let follow = subst (FollowFrom 0) splits sound.follow in
    record {
      most = sound.most;
      rising = subst (λ ks. AreBoundaries ks MOST_SAMPLES) (sym is)
          (are_from i.end MOST_SAMPLES boundaries sound.rising);
      follow = follow_earlier 0 i.end later (omega arith) follow.2;
    }

-- ---- all readings

over_pairs : (clock : Clock) (n : ℕ) (boundaries : List ℕ) (pairs : List (ℤ × ℤ)) →
    readings_over clock.rate boundaries (map (λ pair. interval_between clock n pair.0 pair.1) pairs)
    ≡ filter_map (λ pair. reading_over clock.rate boundaries (interval_between clock n pair.0 pair.1)) pairs
over_pairs clock n boundaries [] = refl
over_pairs clock n boundaries (pair ∷ pairs) =
    ap (cons_option (reading_over clock.rate boundaries (interval_between clock n pair.0 pair.1)))
    (over_pairs clock n boundaries pairs)

-- the readings over the intervals of the clock are all
pub all_readings : (clock : Clock) (n : ℕ) (boundaries : List ℕ) →
    readings_over clock.rate boundaries (intervals_between clock n (ticks clock n 10))
    ≡ readings clock n boundaries
unfolding readings intervals_between
all_readings clock n boundaries =
    over_pairs clock n boundaries (zip (ticks clock n 10) (drop 1 (ticks clock n 10)))
