-- All items of a recording are in the range of a report.
use Rattle.std.proofs.Common.{◌≡◌, ◌⊎◌, ℕ, zero, suc, ◌+◌, ◌*◌, ◌^◌, ◌<◌, ◌≤◌, ◌==◌, Bool, true, false, cond, if◌then◌else◌, List, [], ◌∷◌, length, map, filter_map, find, zip, drop, slice_range, slice_index_or, All, ℤ, pos, Option, Some, None, IfSome, option_map, option_and_then, unwrap_or, slice_get, refl, subst, arith, inl, inr}
use Rattle.std.specs.List.{cons_option}
use Rattle.std.specs.Option.{option_map_or}
use Rattle.std.proofs.lemmas.Int.{ints}
use Rattle.std.proofs.lemmas.List.Elements.{All-append, All-cons, All-drop, All-head, All-map, All-nil, All-tail, All-take, All-weaker}
use Rattle.aggregate.specs.declared.group.Group.{Group}
use Rattle.aggregate.specs.Aggregation.{Basic, Part, as_part, group_of, has_tick, is_front_from, parts_of, reaches, segment_at, segment_of, short_groups, ten_group, ten_groups, tick_pairs, two_hour_group, two_hour_groups}
use Rattle.event_detect.specs.declared.event.Event.{Event}
use Rattle.event_detect.specs.declared.kind.Kind.{Kind}
use Rattle.event_detect.specs.declared.kind.Kind.TheVariants.{Dip, Swell, Interruption}
use Rattle.event_detect.specs.declared.limits.Limits.{Limits}
use Rattle.freq10s.specs.declared.reading.Reading.{Reading}
use Rattle.freq10s.specs.Frequency.{reading_of, readings}
use Rattle.pq_base.specs.Recorded.{Recorded, IsRecording, sample_count, samples_at}
use Rattle.pq_items.specs.declared.item.Item.{Item}
use Rattle.pq_items.specs.ItemRange.{IsItemInRange, IsTickInRange}
use Rattle.pq_sequence.specs.BasicInterval.{cycles_of}
use Rattle.pq_sequence.specs.MeasuredRecording.{basics_of, channel_count, clock_of, positions, readings_of, recorded_events, recorded_rule, reference_cycles, runs_of, shorts_of, tens_of, two_hours_of}
use Rattle.pq_sequence.specs.SequentialResult.{all_items, basic_item, basic_items, event_item, event_items, for_each_channel, item_of_kind, items_under, number_of, reading_item, reading_items, short_item, ten_item, two_hour_item}
use Rattle.pq_sequence.proofs.BasicLemmas.{numbers_lie}
use Rattle.pq_sequence.proofs.FrontLemmas.{all_ticks}
use Rattle.pq_sequence.proofs.PlaceLaws.{all_flat, looked_up}
use Rattle.pq_sequence.proofs.ResultLaws.{events_placed, rule_of_recording}
use Rattle.pq_sequence.specs.WholeResult.{IsPlaced}
use Rattle.pq_time.specs.declared.clock.Clock.{Clock}
use Rattle.pq_time.specs.Tick.{IsTick, tick_place, ticks}
use Rattle.pq_time.specs.Time.{IsClock, is_taken_by, place_of, time_of}
use Rattle.pq_time.proofs.PlaceLaws.{passed_small}
use Rattle.pq_time.proofs.TickLaws.{ticks_exact}
use Rattle.pq_words.specs.declared.limits.TheConstants.{MOST_NUMBER, MOST_SAMPLES}
use Rattle.pq_words.specs.First.{IsFirst, first_between}
use Rattle.pq_words.specs.Steps.{steps_from}
use Rattle.pq_words.proofs.FirstLaws.{first_between_is}
use Rattle.zero_cross.proofs.BoundaryLaws.{cycles_lie}

-- ---- what is picked from a list

got : {X : Type 0} (P : X → Type 0) (xs : List X) (i : ℕ) → All P xs → IfSome (slice_get xs i) P
got P [] i h = tt
got P (x ∷ xs) zero h = All-head P x xs h
got P (x ∷ xs) (suc i) h = got P xs i (All-tail P x xs h)

one_of : {X : Type 0} (P : X → Type 0) (b : Bool) (o q : Option X) → IfSome o P → IfSome q P →
    IfSome (cond b o q) P
one_of P true o q h g = h
one_of P false o q h g = g

found : {X : Type 0} (P : X → Type 0) (p : X → Bool) (xs : List X) → All P xs → IfSome (find p xs) P
found P p [] h = tt
found P p (x ∷ xs) h = one_of P (p x) (Some x) (find p xs) (All-head P x xs h)
    (found P p xs (All-tail P x xs h))

put : {Y : Type 0} (P : Y → Type 0) (o : Option Y) (ys : List Y) → IfSome o P → All P ys →
    All P (cons_option o ys)
put P None ys h rest = rest
put P (Some y) ys h rest = All-cons P y ys h rest

all_found : {X Y : Type 0} (P : Y → Type 0) (f : X → Option Y) (xs : List X) →
    All (λ x. IfSome (f x) P) xs → All P (filter_map f xs)
all_found P f [] h = All-nil P
all_found P f (x ∷ xs) h =
    put P (f x) (filter_map f xs) (All-head (λ x. IfSome (f x) P) x xs h)
    (all_found P f xs (All-tail (λ x. IfSome (f x) P) x xs h))

all_first : {X Y : Type 0} (P : X → Type 0) (xs : List X) (ys : List Y) → All P xs →
    All (λ p. P p.0) (zip xs ys)
all_first P [] ys h = All-nil (λ p. P p.0)
all_first P (x ∷ xs) [] h = All-nil (λ p. P p.0)
all_first P (x ∷ xs) (y ∷ ys) h =
    All-cons (λ p. P p.0) (x, y) (zip xs ys) (All-head P x xs h) (all_first P xs ys (All-tail P x xs h))

-- ---- ticks

place_within : (clock : Clock) (moment : ℤ) (n : ℕ) → place_of clock moment n ≤ n
unfolding place_of
place_within clock moment n = at (first_between (is_taken_by clock moment) 0 n)
    (first_between_is (is_taken_by clock moment) 0 n)
  where
    at : (o : Option ℕ) → IsFirst (is_taken_by clock moment) 0 n o → unwrap_or o n ≤ n
    at None h = omega arith
    at (Some k) h = omega (arith, h.below)

module _ (clock : Clock) (n : ℕ) (is : IsClock clock) (short : n ≤ MOST_SAMPLES) where
  tick_in_range : (period : ℕ) (second : ℤ) → IsTick clock n period second → IsTickInRange second
  unfolding time_of
  tick_in_range period second tick =
      let passed = passed_small n clock.rate short is.slowest in (
        omega (arith, ints, is.t0, tick.not_before),
        omega (arith, ints, is.t0, tick.not_after, passed),
      )

  ticks_in_range : (period : ℕ) → 0 < period → All IsTickInRange (ticks clock n period)
  ticks_in_range period some =
      All-weaker (IsTick clock n period) IsTickInRange (tick_in_range period) (ticks clock n period)
      (all_ticks clock n period (ticks clock n period) (ticks_exact clock n period some))

-- ---- intervals

-- a part, and what contains parts, in the first n places
abbrev Lies : ℕ → Part → Type 0
Lies n p = (p.start ≤ n) × (p.end ≤ n)

record IsIn (n : ℕ) (g : Group) : Type 0 where
  pub start : g.start ≤ n
  pub end : g.end ≤ n
  pub tick : IfSome g.tick IsTickInRange

start_lies : (n : ℕ) (o : Option Part) → IfSome o (Lies n) → option_map_or (λ p. p.start) o 0 ≤ n
start_lies n None h = omega arith
start_lies n (Some p) h = h.0

end_lies : (n : ℕ) (o : Option Part) → IfSome o (Lies n) → option_map_or (λ p. p.end) o 0 ≤ n
end_lies n None h = omega arith
end_lies n (Some p) h = h.1

group_in : (n : ℕ) (tick : Option ℤ) (channels : ℕ) (parts : List Part) → All (Lies n) parts →
    IfSome tick IsTickInRange → IsIn n (group_of tick channels parts)
unfolding group_of
group_in n tick channels parts lie known = record {
  start = start_lies n (slice_get parts 0) (got (Lies n) parts 0 lie);
  end = end_lies n (slice_get parts _) (got (Lies n) parts _ lie);
  tick = known;
}

module _ (clock : Clock) (n channels : ℕ) (is : IsClock clock) (short : n ≤ MOST_SAMPLES)
    (basics : List Basic) (lie : All (λ b. Lies n b.part) basics) where
  range_lies : (a b : ℕ) → All (Lies n) (parts_of (slice_range basics a b))
  range_lies a b = All-map (Lies n) (λ b. b.part) (slice_range basics a b)
      (All-take (λ b. Lies n b.part) _ (drop a basics) (All-drop (λ b. Lies n b.part) a basics lie))

  shorts_in : All (IsIn n) (short_groups channels basics)
  unfolding short_groups
  shorts_in = All-map (IsIn n)
      (λ run. group_of None channels (parts_of (slice_range basics run.start run.end)))
      _ (λ k d inside. let run = slice_index_or _ k d in
      group_in n None channels (parts_of (slice_range basics run.start run.end))
      (range_lies run.start run.end) tt)

  ten_in : (tick next : ℤ) → IsTickInRange tick →
      IfSome (ten_group clock n channels basics tick next) (IsIn n)
  unfolding ten_group segment_of
  ten_in tick next known =
      at (first_between (is_front_from basics (tick_place clock n tick)) 0 (length basics))
    where
      made : List Basic → Option Group
      made segment =
          if reaches (parts_of segment) (tick_place clock n next)
          then Some (group_of (Some tick) channels (parts_of segment)) else None

      at : (o : Option ℕ) → IfSome (option_and_then made (option_map (segment_at basics) o)) (IsIn n)
      at None = tt
      at (Some k) =
          one_of (IsIn n) (reaches (parts_of (segment_at basics k)) (tick_place clock n next))
          (Some (group_of (Some tick) channels (parts_of (segment_at basics k)))) None
          (group_in n (Some tick) channels (parts_of (segment_at basics k)) (range_lies k _) known) tt

  tens_in : All (IsIn n) (ten_groups clock n channels basics)
  unfolding ten_groups
  tens_in =
      let known = ticks_in_range clock n is short 600 (omega arith) in
      all_found (IsIn n) (λ p. ten_group clock n channels basics p.0 p.1) (tick_pairs clock n 600)
      (All-weaker (λ (p : ℤ × ℤ). IsTickInRange p.0)
      (λ p. IfSome (ten_group clock n channels basics p.0 p.1) (IsIn n))
      (λ p h. ten_in p.0 p.1 h) (tick_pairs clock n 600)
      (all_first IsTickInRange (ticks clock n 600) (drop 1 (ticks clock n 600)) known))

  module _ (tens : List Group) (are : All (IsIn n) tens) where
    two_hour_in : (tick : ℤ) → IsTickInRange tick → IfSome (two_hour_group channels tens tick) (IsIn n)
    unfolding two_hour_group
    two_hour_in tick known =
        let twelve = filter_map (λ t. find (has_tick t) tens) (steps_from tick 600 12) in
        let all : All (IsIn n) twelve =
        all_found (IsIn n) (λ t. find (has_tick t) tens) (steps_from tick 600 12)
        (λ k d inside. found (IsIn n) (has_tick _) tens are) in
        one_of (IsIn n) (length twelve == 12) (Some (group_of (Some tick) channels (map as_part twelve))) None
        (group_in n (Some tick) channels (map as_part twelve)
        (All-map (Lies n) as_part twelve (All-weaker (IsIn n) (λ g. Lies n (as_part g))
        (λ g h. (h.start, h.end)) twelve all)) known) tt

    two_hours_in : All (IsIn n) (two_hour_groups clock n channels tens)
    unfolding two_hour_groups
    two_hours_in =
        all_found (IsIn n) (two_hour_group channels tens) (ticks clock n 7200)
        (All-weaker IsTickInRange (λ tick. IfSome (two_hour_group channels tens tick) (IsIn n)) two_hour_in
        (ticks clock n 7200) (ticks_in_range clock n is short 7200 (omega arith)))

-- ---- readings

record IsReadingIn (n : ℕ) (g : Reading) : Type 0 where
  pub start : g.start ≤ n
  pub end : g.end ≤ n
  pub tick : IsTickInRange g.tick

module _ (clock : Clock) (n : ℕ) (is : IsClock clock) (short : n ≤ MOST_SAMPLES) (boundaries : List ℕ) where
  reading_in : (tick : ℤ) (p q : ℕ) → IsTickInRange tick → p ≤ n → q ≤ n →
      IfSome (reading_of clock.rate boundaries tick p q) (IsReadingIn n)
  unfolding reading_of
  reading_in tick p q known start end = one_of (IsReadingIn n) _ (Some _) None
      (record { start = start; end = end; tick = known }) tt

  readings_in : All (IsReadingIn n) (readings clock n boundaries)
  unfolding readings
  readings_in =
      let all = ticks clock n 10 in
      all_found (IsReadingIn n) (λ pair. reading_of clock.rate boundaries pair.0 (tick_place clock n pair.0)
      (tick_place clock n pair.1)) (zip all (drop 1 all))
      (All-weaker (λ (pair : ℤ × ℤ). IsTickInRange pair.0)
      (λ pair. IfSome (reading_of clock.rate boundaries pair.0 (tick_place clock n pair.0)
      (tick_place clock n pair.1)) (IsReadingIn n))
      (λ pair h. reading_in pair.0 (tick_place clock n pair.0) (tick_place clock n pair.1) h
      (place_within clock _ n) (place_within clock _ n)) (zip all (drop 1 all))
      (all_first IsTickInRange all (drop 1 all) (ticks_in_range clock n is short 10 (omega arith))))

-- ---- items

module _ (r : Recorded) (is : IsRecording r) where
  clock_is : IsClock (clock_of r)
  clock_is = record {
    t0 = is.t0;
    slowest = at is.lf is.rate.0;
    fastest = is.rate.1;
  }
    where
      at : (r.lf ≡ 50) ⊎ (r.lf ≡ 60) → 16 * r.lf * 10 ^ 6 ≤ r.rate → 800_000_000 ≤ r.rate
      at (inl e) h = let low : 16 * 50 * 10 ^ 6 ≤ r.rate = subst (λ n. 16 * n * 10 ^ 6 ≤ r.rate) e h in
          omega (arith, low)
      at (inr e) h = let low : 16 * 60 * 10 ^ 6 ≤ r.rate = subst (λ n. 16 * n * 10 ^ 6 ≤ r.rate) e h in
          omega (arith, low)

  number_in : (position : ℕ) → position < channel_count r →
      (0 < number_of r position) × (number_of r position ≤ MOST_NUMBER)
  number_in position inside = let range = is.numbered position 0 inside in (range.0, omega (arith, range.1))

  each_channel : {X : Type 0} (P : X → Type 0) (item_of : X → ℕ → Item) →
      ((x : X) (position : ℕ) → P x → position < channel_count r → IsItemInRange (item_of x position)) →
      (xs : List X) → All P xs → All IsItemInRange (for_each_channel r item_of xs)
  each_channel P item_of each xs all =
      all_flat IsItemInRange (λ x. map (item_of x) (positions r)) xs
      (All-weaker P (λ x. All IsItemInRange (map (item_of x) (positions r)))
      (λ x h. All-map IsItemInRange (item_of x) (positions r)
      (All-weaker (λ p. p < 0 + channel_count r) (λ p. IsItemInRange (item_of x p))
      (λ p there. each x p h (omega (arith, there))) (positions r) (numbers_lie 0 (channel_count r)))) xs all)

  reading_item_in : (events : List Event) (g : Reading) → IsReadingIn (sample_count r) g →
      IsItemInRange (reading_item events g)
  reading_item_in events g lies = record {
    start = omega (arith, lies.start, is.short);
    end = omega (arith, lies.end, is.short);
    frequency = λ rank. refl;
    others = λ rank. absurd (omega (arith, rank));
    tick = lies.tick;
    basic = λ rank. absurd (omega (arith, rank));
  }

  cycles_in : (lf : ℕ) → (cycles_of lf ≡ 10) ⊎ (cycles_of lf ≡ 12)
  cycles_in lf = at (lf == 50)
    where
      at : (b : Bool) → let n : ℕ = if b then 10 else 12 in (n ≡ 10) ⊎ (n ≡ 12)
      at true = inl refl
      at false = inr refl

  basic_item_in : (p : Part) (position : ℕ) → Lies (sample_count r) p → position < channel_count r →
      IsItemInRange (basic_item r p position)
  basic_item_in p position lies there = record {
    start = omega (arith, lies.0, is.short);
    end = omega (arith, lies.1, is.short);
    frequency = λ rank. absurd (omega (arith, rank));
    others = λ rank. number_in position there;
    tick = tt;
    basic = λ rank. cycles_in r.lf;
  }

  short_item_in : (g : Group) (position : ℕ) → IsIn (sample_count r) g → position < channel_count r →
      IsItemInRange (short_item r g position)
  short_item_in g position lies there = record {
    start = omega (arith, lies.start, is.short);
    end = omega (arith, lies.end, is.short);
    frequency = λ rank. absurd (omega (arith, rank));
    others = λ rank. number_in position there;
    tick = tt;
    basic = λ rank. absurd (omega (arith, rank));
  }

  known_tick : (o : Option ℤ) → IfSome o IsTickInRange → IsTickInRange (unwrap_or o (pos 0))
  known_tick None h = (omega (arith, ints), omega (arith, ints))
  known_tick (Some tick) h = h

  ten_item_in : (g : Group) (position : ℕ) → IsIn (sample_count r) g → position < channel_count r →
      IsItemInRange (ten_item r g position)
  ten_item_in g position lies there = record {
    start = omega (arith, lies.start, is.short);
    end = omega (arith, lies.end, is.short);
    frequency = λ rank. absurd (omega (arith, rank));
    others = λ rank. number_in position there;
    tick = known_tick g.tick lies.tick;
    basic = λ rank. absurd (omega (arith, rank));
  }

  two_hour_item_in : (g : Group) (position : ℕ) → IsIn (sample_count r) g → position < channel_count r →
      IsItemInRange (two_hour_item r g position)
  two_hour_item_in g position lies there = record {
    start = omega (arith, lies.start, is.short);
    end = omega (arith, lies.end, is.short);
    frequency = λ rank. absurd (omega (arith, rank));
    others = λ rank. number_in position there;
    tick = known_tick g.tick lies.tick;
    basic = λ rank. absurd (omega (arith, rank));
  }

  event_item_in : (e : Event) → IsPlaced (channel_count r) (sample_count r) e → IsItemInRange (event_item r e)
  event_item_in e placed = at e.kind
    where
      start : e.start ≤ MOST_SAMPLES
      start = omega (arith, placed.start, is.short)

      end : e.end ≤ MOST_SAMPLES
      end = omega (arith, placed.end, is.short)

      number : (0 < number_of r e.channel) × (number_of r e.channel ≤ MOST_NUMBER)
      number = let range = is.numbered e.channel 0 placed.channel in (range.0, omega (arith, range.1))

      at : (kind : Kind) → IsItemInRange (item_of_kind kind (number_of r e.channel) e)
      at Dip = record {
        start = start;
        end = end;
        frequency = λ rank. absurd (omega (arith, rank));
        others = λ rank. number;
        tick = tt;
        basic = λ rank. absurd (omega (arith, rank));
      }
      at Swell = record {
        start = start;
        end = end;
        frequency = λ rank. absurd (omega (arith, rank));
        others = λ rank. number;
        tick = tt;
        basic = λ rank. absurd (omega (arith, rank));
      }
      at Interruption = record {
        start = start;
        end = end;
        frequency = λ rank. absurd (omega (arith, rank));
        others = λ rank. number;
        tick = tt;
        basic = λ rank. absurd (omega (arith, rank));
      }

  -- a basic interval lies in the recording
  basics_lie : (events : List Event) →
      All (λ b. Lies (sample_count r) b.part) (basics_of r events (reference_cycles r))
  basics_lie events =
      let boundaries = reference_cycles r in
      let same : length (samples_at r r.reference) ≡ sample_count r =
      is.even r.reference (omega (arith, is.reference, is.paired)) in
      let all = cycles_lie (samples_at r r.reference) (recorded_rule r) (rule_of_recording r is) in
      let lie : All (λ k. k < sample_count r) boundaries =
      subst (λ n. All (λ k. k < n) boundaries) same all.below in
      All-map (λ b. Lies (sample_count r) b.part) _ (runs_of r boundaries)
      (λ k d inside. (
        looked_up boundaries _ (sample_count r) lie,
        looked_up boundaries _ (sample_count r) lie,
      ))

  -- all items of a recording are in range
  pub items_in_range : (limits : Limits) → All IsItemInRange (all_items r limits)
  unfolding items_under
  items_in_range limits =
      let P = IsItemInRange in
      let n = sample_count r in
      let channels = channel_count r in
      let events = recorded_events r limits in
      let boundaries = reference_cycles r in
      let basics = basics_of r events boundaries in
      let tens = tens_of r basics in
      let lie = basics_lie events in
      let tens_lie = tens_in (clock_of r) n channels clock_is is.short basics lie in
      All-append P _ (event_items r events)
      (All-append P _ (for_each_channel r (two_hour_item r) (two_hours_of r tens))
      (All-append P _ (for_each_channel r (ten_item r) tens)
      (All-append P _ (for_each_channel r (short_item r) (shorts_of r basics))
      (All-append P (reading_items events (readings_of r boundaries)) (basic_items r basics)
      (All-map P (reading_item events) (readings_of r boundaries)
      (All-weaker (IsReadingIn n) (λ g. P (reading_item events g)) (reading_item_in events)
      (readings_of r boundaries) (readings_in (clock_of r) n clock_is is.short boundaries)))
      (each_channel (Lies n) (basic_item r) basic_item_in (parts_of basics)
      (All-map (Lies n) (λ b. b.part) basics lie)))
      (each_channel (IsIn n) (short_item r) short_item_in (shorts_of r basics)
      (shorts_in (clock_of r) n channels clock_is is.short basics lie)))
      (each_channel (IsIn n) (ten_item r) ten_item_in tens tens_lie))
      (each_channel (IsIn n) (two_hour_item r) two_hour_item_in (two_hours_of r tens)
      (two_hours_in (clock_of r) n channels clock_is is.short basics lie tens tens_lie)))
      (All-map P (event_item r) events
      (All-weaker (IsPlaced channels n) (λ e. P (event_item r e)) event_item_in events
      (events_placed r limits is)))
