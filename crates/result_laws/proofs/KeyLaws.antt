-- No two items of a result have one key.
use Rattle.std.proofs.Common.{◌≡◌, ℕ, ◌+◌, ◌<◌, ◌≤◌, ◌&&◌, nat_le, Bool, true, false, List, [], ◌∷◌, ◌++◌, length, map, filter, flat_map, ℤ, ◌≤ℤ◌, Option, Some, AllPairs, refl, sym, ◌∙◌, ap, arith}
use Rattle.std.specs.List.{AllByRecursion}
use Rattle.std.specs.List.Sorted.{IsStrictlyIncreasing}
use Rattle.std.proofs.lemmas.Bool.Decides.{nat_tests}
use Rattle.std.proofs.lemmas.List.Elements.{filter_passes, recursion_from_All}
use Rattle.std.proofs.lemmas.List.Kept.{AllPairs-from_increasing}
use Rattle.std.proofs.lemmas.Option.{cond_some}
use Rattle.aggregate.specs.declared.group.Group.{Group}
use Rattle.aggregate.specs.Aggregation.{Basic, Part, parts_of, tick_pairs}
use Rattle.event_detect.specs.declared.event.Event.{Event}
use Rattle.event_detect.specs.declared.kind.Kind.{Kind}
use Rattle.event_detect.specs.declared.kind.Kind.TheVariants.{Dip, Swell, Interruption}
use Rattle.event_detect.specs.declared.limits.Limits.{Limits}
use Rattle.event_detect.specs.Threshold.{IsInOrder}
use Rattle.event_detect.specs.VoltageEvent.{event_over, events, extents}
use Rattle.freq10s.specs.declared.reading.Reading.{Reading}
use Rattle.freq10s.specs.Frequency.{reading_of, readings}
use Rattle.polyphase.specs.PolyphaseEvent.{ChannelWindow, all_polyphase_events, conditions, kinds, polyphase_events}
use Rattle.pq_base.specs.Recorded.{Recorded, IsRecording, sample_count}
use Rattle.pq_items.specs.declared.item.Item.{Item}
use Rattle.pq_items.specs.ItemOrder.{Key, item_cmp}
use Rattle.pq_items.specs.ItemTable.{channel_of, rank_of, start_of}
use Rattle.pq_sequence.specs.MeasuredRecording.{basics_of, clock_of, positions, readings_of, recorded_events, recorded_windows, reference_cycles, shorts_of, tens_of, two_hours_of}
use Rattle.pq_sequence.specs.SequentialResult.{all_items, basic_item, event_item, event_items, for_each_channel, item_of_kind, items_under, number_of, reading_item, sequential, short_item, ten_item, two_hour_item}
use Rattle.pq_time.specs.declared.clock.Clock.{Clock}
use Rattle.pq_time.specs.Tick.{tick_place}
use Rattle.result_laws.specs.DistinctKeys.{KeysAreDistinct, KeysDiffer}
use Rattle.result_laws.proofs.BasicRuns.{Precedes, cycles_rise, recorded_precede}
use Rattle.result_laws.proofs.EventStarts.{IsBefore, events_rise}
use Rattle.result_laws.proofs.GroupLaws.{shorts_rise, tens_rise}
use Rattle.result_laws.proofs.ItemLists.{channel_ranks, event_ranks, reading_ranks}
use Rattle.result_laws.proofs.MergedOrder.{recorded_before}
use Rattle.result_laws.proofs.NumberLaws.{numbers_bound, numbers_rise}
use Rattle.result_laws.proofs.PairLaws.{Pairwise, all_append, all_each, all_map, all_weaker, pairs_pairwise, pairwise_all, pairwise_append, pairwise_filter, pairwise_filter_map, pairwise_flat_map, pairwise_in_order, pairwise_map, pairwise_pairs, pairwise_weaker}
use Rattle.result_laws.proofs.TickPairs.{tick_rises, ticks_apart}
use Rattle.result_laws.proofs.TwoHourLaws.{two_hours_rise}

-- ---- what tells keys apart

by_start : (a b : Item) → start_of a < start_of b → KeysDiffer a b
by_start a b less = λ same.
    let e : start_of a ≡ start_of b = ap (λ (k : Key). k.start) same in
    omega (arith, less, e)

by_rank : (a b : Item) → rank_of a < rank_of b → KeysDiffer a b
by_rank a b less = λ same.
    let e : rank_of a ≡ rank_of b = ap (λ (k : Key). k.rank) same in
    omega (arith, less, e)

by_channel : (a b : Item) → channel_of a < channel_of b → KeysDiffer a b
by_channel a b less = λ same.
    let e : channel_of a ≡ channel_of b = ap (λ (k : Key). k.channel) same in
    omega (arith, less, e)

-- ---- intervals of each channel

module _ {X : Type 0} (r : Recorded) (rising : IsStrictlyIncreasing r.numbers) (item_of : X → ℕ → Item)
    (begin : X → ℕ) (starts : (x : X) (p : ℕ) → start_of (item_of x p) ≡ begin x)
    (channel_is : (x : X) (p : ℕ) → channel_of (item_of x p) ≡ number_of r p) where
  abbrev channels : ℕ
  channels = length r.numbers

  one_interval : (x : X) → Pairwise KeysDiffer (map (item_of x) (positions r))
  one_interval x =
      pairwise_map KeysDiffer (item_of x) (positions r)
      (pairwise_all (λ p. p < channels) (λ p q. p < q) (λ p q. KeysDiffer (item_of x p) (item_of x q))
      (λ p q in_p in_q less.
      let numbers = AllPairs-from_increasing r.numbers rising p q 0 less in_q in
      let one = channel_is x p in
      let two = channel_is x q in
      by_channel (item_of x p) (item_of x q) (omega (arith, numbers, one, two)))
      (positions r) (numbers_bound 0 channels channels (omega arith)) (numbers_rise 0 channels))

  two_intervals : (x y : X) → begin x < begin y →
      AllByRecursion (λ i. AllByRecursion (KeysDiffer i) (map (item_of y) (positions r)))
      (map (item_of x) (positions r))
  two_intervals x y less =
      all_map (λ i. AllByRecursion (KeysDiffer i) (map (item_of y) (positions r))) (item_of x) (positions r)
      (all_each (λ p. AllByRecursion (KeysDiffer (item_of x p)) (map (item_of y) (positions r)))
      (λ p. all_map (KeysDiffer (item_of x p)) (item_of y) (positions r)
      (all_each (λ q. KeysDiffer (item_of x p) (item_of y q))
      (λ q.
      let one = starts x p in
      let two = starts y q in
      by_start (item_of x p) (item_of y q) (omega (arith, less, one, two)))
      (positions r)))
      (positions r))

  intervals_apart : (xs : List X) → Pairwise (λ x y. begin x < begin y) xs →
      Pairwise KeysDiffer (for_each_channel r item_of xs)
  intervals_apart xs rise =
      pairwise_flat_map KeysDiffer (λ x. map (item_of x) (positions r)) xs
      (all_each (λ x. Pairwise KeysDiffer (map (item_of x) (positions r))) one_interval xs)
      (pairwise_weaker (λ x y. begin x < begin y)
      (λ x y. AllByRecursion (λ i. AllByRecursion (KeysDiffer i) (map (item_of y) (positions r)))
      (map (item_of x) (positions r))) two_intervals xs rise)

-- ---- readings

within_test : (p b q : ℕ) → (nat_le p b && nat_le b q) ≡ true → (p ≤ b) × (b ≤ q)
within_test p b q h = at (nat_le p b) refl h
  where
    le_of : (a b : ℕ) → nat_le a b ≡ true → a ≤ b
    le_of a b h = grind (arith, nat_tests, h)

    at : (c : Bool) → nat_le p b ≡ c → (c && nat_le b q) ≡ true → (p ≤ b) × (b ≤ q)
    at true is e = (le_of p b is, le_of b q e)
    at false is e = absurd (let bad : ⊥ = cc in bad)

-- two boundaries lie in a span that has some samples
two_within : (p q : ℕ) (bs : List ℕ) → Pairwise (λ a b. a < b) bs →
    AllByRecursion (λ b. (nat_le p b && nat_le b q) ≡ true) bs → 2 ≤ length bs → p < q
two_within p q [] rise all two = absurd (omega (arith, two))
two_within p q (b ∷ []) rise all two = absurd (omega (arith, two))
two_within p q (b ∷ c ∷ bs) rise all two =
    let first = within_test p b q all.0 in
    let second = within_test p c q all.1.0 in
    let less = rise.0.0 in
    omega (arith, first, second, less)

module _ (clock : Clock) (n : ℕ) (cb : List ℕ) (rising : AllPairs (λ a b. a < b) cb) where
  reading_span : (t : ℤ) (p q : ℕ) (g : Reading) → reading_of clock.rate cb t p q ≡ Some g →
      (g.start ≡ p) × (p < q)
  unfolding reading_of
  reading_span t p q g e =
      let test : ℕ → Bool = λ b. nat_le p b && nat_le b q in
      let within = filter test cb in
      let parts = cond_some (nat_le 2 (length within)) _ g e in (
        sym (ap (λ (x : Reading). x.start) parts.1),
        two_within p q within
            (pairwise_filter (λ (a b : ℕ). a < b) test cb (pairs_pairwise (λ (a b : ℕ). a < b) cb rising))
            (recursion_from_All (λ b. test b ≡ true) within (filter_passes test cb))
            (le_of (length within) parts.0),
      )
    where
      le_of : (a : ℕ) → nat_le 2 a ≡ true → 2 ≤ a
      le_of a h = grind (arith, nat_tests, h)

  abbrev reading_at : ℤ × ℤ → Option Reading
  reading_at p = reading_of clock.rate cb p.0 (tick_place clock n p.0) (tick_place clock n p.1)

  readings_rise : Pairwise (λ (g h : Reading). g.start < h.start) (readings clock n cb)
  unfolding readings
  readings_rise =
      pairwise_filter_map (λ (g h : Reading). g.start < h.start) reading_at (tick_pairs clock n 10)
      (pairwise_weaker (λ (p q : ℤ × ℤ). p.1 ≤ℤ q.0)
      (λ p q. (x y : Reading) → reading_at p ≡ Some x → reading_at q ≡ Some y → x.start < y.start)
      (λ p q order x y is_x is_y.
      let one = reading_span p.0 (tick_place clock n p.0) (tick_place clock n p.1) x is_x in
      let two = reading_span q.0 (tick_place clock n q.0) (tick_place clock n q.1) y is_y in
      let places = tick_rises clock n p.1 q.0 order in
      omega (arith, one, two, places))
      (tick_pairs clock n 10) (ticks_apart clock n 10))

-- ---- events

event_start : (kind : Kind) (number : ℕ) (e : Event) → start_of (item_of_kind kind number e) ≡ e.start
event_start Dip number e = refl
event_start Swell number e = refl
event_start Interruption number e = refl

kind_rank : Kind → ℕ
kind_rank Dip = 5
kind_rank Swell = 6
kind_rank Interruption = 7

event_rank : (kind : Kind) (number : ℕ) (e : Event) → rank_of (item_of_kind kind number e) ≡ kind_rank kind
unfolding kind_rank
event_rank Dip number e = refl
event_rank Swell number e = refl
event_rank Interruption number e = refl

module _ (r : Recorded) (limits : Limits) (count n : ℕ) (ms : List ChannelWindow)
    (order : Pairwise IsBefore ms) (sound : IsInOrder limits) where
  abbrev of_kind : Kind → List Event
  of_kind kind = polyphase_events kind limits count n ms

  -- two events have different keys as items
  abbrev EventsDiffer : Event → Event → Type 0
  EventsDiffer a b = KeysDiffer (event_item r a) (event_item r b)

  kinds_are : (kind : Kind) → AllByRecursion (λ e. e.kind ≡ kind) (of_kind kind)
  unfolding events event_over
  kinds_are kind =
      let cs = conditions kind limits count ms in
      all_map (λ (e : Event). e.kind ≡ kind) (event_over kind n cs) (extents cs)
      (all_each (λ x. (event_over kind n cs x).kind ≡ kind) (λ x. refl) (extents cs))

  one_kind : (kind : Kind) → Pairwise EventsDiffer (of_kind kind)
  one_kind kind =
      pairwise_weaker (λ (a b : Event). a.start < b.start) EventsDiffer
      (λ a b less.
      let one = event_start a.kind (number_of r a.channel) a in
      let two = event_start b.kind (number_of r b.channel) b in
      by_start (event_item r a) (event_item r b) (omega (arith, less, one, two)))
      (of_kind kind) (events_rise limits count ms order sound kind n)

  two_kinds : (a b : Kind) → kind_rank a < kind_rank b →
      AllByRecursion (λ e. AllByRecursion (EventsDiffer e) (of_kind b)) (of_kind a)
  two_kinds a b less =
      all_weaker (λ (e : Event). e.kind ≡ a) (λ e. AllByRecursion (EventsDiffer e) (of_kind b))
      (λ e is_a.
      all_weaker (λ (f : Event). f.kind ≡ b) (EventsDiffer e)
      (λ f is_b.
      let one : rank_of (event_item r e) ≡ kind_rank a =
      event_rank e.kind (number_of r e.channel) e ∙ ap kind_rank is_a in
      let two : rank_of (event_item r f) ≡ kind_rank b =
      event_rank f.kind (number_of r f.channel) f ∙ ap kind_rank is_b in
      by_rank (event_item r e) (event_item r f) (omega (arith, less, one, two)))
      (of_kind b) (kinds_are b))
      (of_kind a) (kinds_are a)

  events_apart : Pairwise KeysDiffer (event_items r (all_polyphase_events limits count n ms))
  unfolding all_polyphase_events kind_rank
  events_apart =
      pairwise_map KeysDiffer (event_item r) (flat_map of_kind kinds)
      (pairwise_flat_map EventsDiffer of_kind kinds
      (one_kind Dip, (one_kind Swell, (one_kind Interruption, tt))) (
        (two_kinds Dip Swell (omega arith), (two_kinds Dip Interruption (omega arith), tt)),
        ((two_kinds Swell Interruption (omega arith), tt), (tt, tt)),
      ))

-- ---- all kinds

-- items that differ, of ranks below k
record AreApart (k : ℕ) (xs : List Item) : Type 0 where
  apart : Pairwise KeysDiffer xs
  below : AllByRecursion (λ i. rank_of i < k) xs

across : (k : ℕ) (xs ys : List Item) → AllByRecursion (λ i. rank_of i < k) xs →
    AllByRecursion (λ i. k ≤ rank_of i) ys → AllByRecursion (λ i. AllByRecursion (KeysDiffer i) ys) xs
across k xs ys low high =
    all_weaker (λ i. rank_of i < k) (λ i. AllByRecursion (KeysDiffer i) ys)
    (λ i less. all_weaker (λ j. k ≤ rank_of j) (KeysDiffer i)
    (λ j from. by_rank i j (omega (arith, less, from))) ys high) xs low

join : (k : ℕ) (xs ys : List Item) → AreApart k xs → Pairwise KeysDiffer ys →
    AllByRecursion (λ i. rank_of i ≡ k) ys → AreApart (k + 1) (xs ++ ys)
join k xs ys h apart ranks = record {
  apart = pairwise_append KeysDiffer xs ys h.apart apart
      (across k xs ys h.below
      (all_weaker (λ i. rank_of i ≡ k) (λ i. k ≤ rank_of i) (λ i is. omega (arith, is)) ys ranks));
  below = all_append (λ i. rank_of i < k + 1) xs ys
      (all_weaker (λ i. rank_of i < k) (λ i. rank_of i < k + 1) (λ i less. omega (arith, less)) xs h.below)
      (all_weaker (λ i. rank_of i ≡ k) (λ i. rank_of i < k + 1) (λ i is. omega (arith, is)) ys ranks);
}

module _ (r : Recorded) (limits : Limits) (is : IsRecording r) (sound : IsInOrder limits) where
  abbrev found : List Event
  found = recorded_events r limits

  abbrev measured : List Basic
  measured = basics_of r found (reference_cycles r)

  readings_apart : Pairwise KeysDiffer (map (reading_item found) (readings_of r (reference_cycles r)))
  readings_apart =
      pairwise_map KeysDiffer (reading_item found) (readings_of r (reference_cycles r))
      (pairwise_weaker (λ (g h : Reading). g.start < h.start)
      (λ g h. KeysDiffer (reading_item found g) (reading_item found h))
      (λ g h less. by_start (reading_item found g) (reading_item found h) less)
      (readings_of r (reference_cycles r))
      (readings_rise (clock_of r) (sample_count r) (reference_cycles r) (cycles_rise r is)))

  basics_apart : Pairwise KeysDiffer (for_each_channel r (basic_item r) (parts_of measured))
  basics_apart =
      intervals_apart r is.rising (basic_item r) (λ (x : Part). x.start) (λ x p. refl) (λ x p. refl)
      (parts_of measured)
      (pairwise_map (λ (x y : Part). x.start < y.start) (λ (b : Basic). b.part) measured
      (pairwise_weaker Precedes (λ (a b : Basic). a.part.start < b.part.start) (λ a b before. before.starts)
      measured (recorded_precede r found is)))

  shorts_apart : Pairwise KeysDiffer (for_each_channel r (short_item r) (shorts_of r measured))
  shorts_apart =
      intervals_apart r is.rising (short_item r) (λ (g : Group). g.start) (λ x p. refl) (λ x p. refl)
      (shorts_of r measured)
      (shorts_rise measured (recorded_precede r found is) (length r.numbers))

  tens_apart : Pairwise KeysDiffer (for_each_channel r (ten_item r) (tens_of r measured))
  tens_apart =
      intervals_apart r is.rising (ten_item r) (λ (g : Group). g.start) (λ x p. refl) (λ x p. refl)
      (tens_of r measured)
      (tens_rise (clock_of r) (sample_count r) (length r.numbers) measured (recorded_precede r found is))

  twos_apart : Pairwise KeysDiffer
      (for_each_channel r (two_hour_item r) (two_hours_of r (tens_of r measured)))
  twos_apart =
      intervals_apart r is.rising (two_hour_item r) (λ (g : Group). g.start) (λ x p. refl) (λ x p. refl)
      (two_hours_of r (tens_of r measured))
      (two_hours_rise (clock_of r) (sample_count r) (length r.numbers) measured (recorded_precede r found is))

  all_apart : Pairwise KeysDiffer (all_items r limits)
  unfolding items_under
  all_apart =
      let tens = tens_of r measured in
      let a = map (reading_item found) (readings_of r (reference_cycles r)) in
      let b = for_each_channel r (basic_item r) (parts_of measured) in
      let c = for_each_channel r (short_item r) (shorts_of r measured) in
      let d = for_each_channel r (ten_item r) tens in
      let e = for_each_channel r (two_hour_item r) (two_hours_of r tens) in
      let f = event_items r found in
      let one : AreApart 1 a = record {
        apart = readings_apart;
        below = all_weaker (λ i. rank_of i ≡ 0) (λ i. rank_of i < 1) (λ i is. omega (arith, is)) a
            (reading_ranks found (readings_of r (reference_cycles r)));
      } in
      let two : AreApart 2 (a ++ b) =
      join 1 a b one basics_apart (channel_ranks r (basic_item r) 1 (λ x p. refl) (parts_of measured)) in
      let three : AreApart 3 (a ++ b ++ c) =
      join 2 (a ++ b) c two shorts_apart
      (channel_ranks r (short_item r) 2 (λ x p. refl) (shorts_of r measured)) in
      let four : AreApart 4 (a ++ b ++ c ++ d) =
      join 3 (a ++ b ++ c) d three tens_apart (channel_ranks r (ten_item r) 3 (λ x p. refl) tens) in
      let five : AreApart 5 (a ++ b ++ c ++ d ++ e) =
      join 4 (a ++ b ++ c ++ d) e four twos_apart
      (channel_ranks r (two_hour_item r) 4 (λ x p. refl) (two_hours_of r tens)) in
      pairwise_append KeysDiffer (a ++ b ++ c ++ d ++ e) f five.apart
      (events_apart r limits (length r.numbers) (sample_count r) (recorded_windows r) (recorded_before r is)
      sound)
      (across 5 (a ++ b ++ c ++ d ++ e) f five.below (event_ranks r found))

pub keys_distinct : KeysAreDistinct
unfolding sequential
keys_distinct r limits is sound =
    pairwise_pairs KeysDiffer (sequential r limits)
    (pairwise_in_order item_cmp KeysDiffer (λ a b differ same. differ (sym same)) (all_items r limits)
    (all_apart r limits is sound))
