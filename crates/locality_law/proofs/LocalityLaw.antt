-- The locality law: kind by kind the items that end by a place are the same, and then so is their order.
use Rattle.std.proofs.Common.{◌≡◌, ℕ, ◌≤◌, Bool, true, false, cond, nat_le, List, [], ◌∷◌, ◌++◌, length, map, filter, filter_map, flat_map, zip, drop, slice_index, unwrap_or, pos, ℤ, Option, Some, None, IfSome, refl, sym, ◌∙◌, ap, arith}
use Rattle.std.specs.List.{AllByRecursion, cons_option}
use Rattle.std.proofs.lemmas.Bool.Decides.{nat_tests}
use Rattle.std.proofs.lemmas.List.Elements.{filter-append, filter_agree}
use Rattle.aggregate.specs.declared.group.Group.{Group}
use Rattle.aggregate.specs.Aggregation.{Basic, Part, parts_of}
use Rattle.event_detect.specs.declared.event.Event.{Event}
use Rattle.event_detect.specs.declared.kind.Kind.{Kind}
use Rattle.event_detect.specs.declared.kind.Kind.TheVariants.{Dip, Swell, Interruption}
use Rattle.event_detect.specs.declared.limits.Limits.{Limits}
use Rattle.freq10s.specs.declared.reading.Reading.{Reading}
use Rattle.freq10s.specs.Frequency.{boundaries_within, reading_of, readings}
use Rattle.freq10s.specs.Intervals.{FollowFrom, interval_between, intervals_between}
use Rattle.freq10s.proofs.IntervalLaws.{ticks_follow}
use Rattle.lanes.specs.Lane.{recorded_readings}
use Rattle.locality_law.specs.Locality.{AgreeUpTo, IsSameFrame, Locality}
use Rattle.locality_law.proofs.BasicAgreement.{basics_agree, shorts_agree, tens_agree, two_hours_agree}
use Rattle.locality_law.proofs.EventAgreement.{events_agree, same_channels, touch_agrees}
use Rattle.locality_law.proofs.LaneAgreement.{readings_agree}
use Rattle.pq_base.specs.Recorded.{Recorded, IsRecording, sample_count}
use Rattle.pq_items.specs.declared.item.Item.{Item}
use Rattle.pq_items.specs.declared.item.Item.TheVariants as item
use Rattle.pq_items.specs.ItemOrder.{item_cmp}
use Rattle.pq_items.specs.ItemTable.{end_of}
use Rattle.pq_items.proofs.OrderLaws.{item_cmp_weak}
use Rattle.pq_sequence.specs.BasicInterval.{cycles_of}
use Rattle.pq_sequence.specs.MeasuredRecording.{basics_of, clock_of, positions, recorded_events, reference_cycles, shorts_of, tens_of, two_hours_of}
use Rattle.pq_sequence.specs.SequentialResult.{all_items, basic_item, basic_items, cut, event_item, event_items, for_each_channel, item_of_kind, items_under, reading_item, reading_items, sequential, short_item, ten_item, two_hour_item}
use Rattle.pq_time.specs.declared.clock.Clock.{Clock}
use Rattle.pq_time.specs.Tick.{tick_place, ticks}
use Rattle.pq_words.specs.Sorted.{in_order}
use Rattle.pq_words.specs.Steps.{numbers_below}
use Rattle.settled_laws.specs.SettledEvents.{events_by}
use Rattle.settled_laws.specs.SettledIntervals.{basics_by, groups_by}
use Rattle.settled_laws.proofs.ListLaws.{all_both, all_kept, all_pass, filter_mapped, filter_ordered}

-- the item ends by place w
abbrev pub ends_until : ℕ → Item → Bool
ends_until w i = nat_le (end_of i) w

-- ---- one item for each channel

module _ {X : Type 0} (w : ℕ) (end_at : X → ℕ) (item_of : X → ℕ → Item)
    (ends : (x : X) (c : ℕ) → end_of (item_of x c) ≡ end_at x) where
  one_filtered : (x : X) (b : Bool) (cs : List ℕ) → nat_le (end_at x) w ≡ b →
      filter (ends_until w) (map (item_of x) cs) ≡ cond b (map (item_of x) cs) []
  one_filtered x true [] is = refl
  one_filtered x false [] is = refl
  one_filtered x true (c ∷ cs) is =
      let rest = filter (ends_until w) (map (item_of x) cs) in
      ap (λ t. cond t (item_of x c ∷ rest) rest) (ap (λ n. nat_le n w) (ends x c) ∙ is)
      ∙ ap (λ is. item_of x c ∷ is) (one_filtered x true cs is)
  one_filtered x false (c ∷ cs) is =
      let rest = filter (ends_until w) (map (item_of x) cs) in
      ap (λ t. cond t (item_of x c ∷ rest) rest) (ap (λ n. nat_le n w) (ends x c) ∙ is)
      ∙ one_filtered x false cs is

  pub each_filtered : (cs : List ℕ) (xs : List X) →
      filter (ends_until w) (flat_map (λ x. map (item_of x) cs) xs)
      ≡ flat_map (λ x. map (item_of x) cs) (filter (λ x. nat_le (end_at x) w) xs)
  each_filtered cs [] = refl
  each_filtered cs (x ∷ xs) =
      filter-append (ends_until w) (map (item_of x) cs) (flat_map (λ x. map (item_of x) cs) xs)
      ∙ ap (λ is. filter (ends_until w) (map (item_of x) cs) ++ is) (each_filtered cs xs)
      ∙ at (nat_le (end_at x) w) refl
    where
      at : (b : Bool) → nat_le (end_at x) w ≡ b →
          filter (ends_until w) (map (item_of x) cs)
          ++ flat_map (λ x. map (item_of x) cs) (filter (λ x. nat_le (end_at x) w) xs)
          ≡ flat_map (λ x. map (item_of x) cs)
          (cond b (x ∷ filter (λ x. nat_le (end_at x) w) xs) (filter (λ x. nat_le (end_at x) w) xs))
      at true is =
          ap (λ is. is ++ flat_map (λ x. map (item_of x) cs) (filter (λ x. nat_le (end_at x) w) xs))
          (one_filtered x true cs is)
      at false is =
          ap (λ is. is ++ flat_map (λ x. map (item_of x) cs) (filter (λ x. nat_le (end_at x) w) xs))
          (one_filtered x false cs is)

-- ---- readings begin no later than they end

reading_span : (rate : ℕ) (boundaries : List ℕ) (tick : ℤ) (p q : ℕ) → p ≤ q →
    IfSome (reading_of rate boundaries tick p q) (λ g. g.start ≤ g.end)
unfolding reading_of
reading_span rate boundaries tick p q order =
    at (nat_le 2 (length (boundaries_within boundaries p q))) _ order
  where
    at : (b : Bool) (g : Reading) → g.start ≤ g.end → IfSome (cond b (Some g) None) (λ g. g.start ≤ g.end)
    at true g h = h
    at false g h = tt

module _ (clock : Clock) (n : ℕ) (boundaries : List ℕ) where
  abbrev reading_at : ℤ × ℤ → Option Reading
  reading_at pair =
      reading_of clock.rate boundaries pair.0 (tick_place clock n pair.0) (tick_place clock n pair.1)

  pairs_ordered : (low : ℕ) (pairs : List (ℤ × ℤ)) →
      FollowFrom low (map (λ pair. interval_between clock n pair.0 pair.1) pairs) →
      AllByRecursion (λ g. g.start ≤ g.end) (filter_map reading_at pairs)
  pairs_ordered low [] h = tt
  pairs_ordered low (pair ∷ pairs) h =
      at (reading_at pair)
      (reading_span clock.rate boundaries pair.0 (tick_place clock n pair.0) (tick_place clock n pair.1) h.1)
      (pairs_ordered (tick_place clock n pair.1) pairs h.2)
    where
      at : (o : Option Reading) → IfSome o (λ g. g.start ≤ g.end) →
          AllByRecursion (λ g. g.start ≤ g.end) (filter_map reading_at pairs) →
          AllByRecursion (λ g. g.start ≤ g.end) (cons_option o (filter_map reading_at pairs))
      at None is rest = rest
      at (Some g) is rest = (is, rest)

  pub readings_ordered : AllByRecursion (λ g. g.start ≤ g.end) (readings clock n boundaries)
  unfolding readings intervals_between
  readings_ordered =
      let all = ticks clock n 10 in pairs_ordered 0 (zip all (drop 1 all)) (ticks_follow clock n)

-- ---- events

event_end : (r : Recorded) (e : Event) → end_of (event_item r e) ≡ e.end
event_end r e = at e.kind (slice_index r.numbers e.channel)
  where
    at : (kind : Kind) (number : ℕ) → end_of (item_of_kind kind number e) ≡ e.end
    at Dip number = refl
    at Swell number = refl
    at Interruption number = refl

both_filtered : (p : Item → Bool) (xs us ys vs : List Item) → filter p xs ≡ filter p us →
    filter p ys ≡ filter p vs → filter p (xs ++ ys) ≡ filter p (us ++ vs)
both_filtered p xs us ys vs e f =
    filter-append p xs ys ∙ ap (λ zs. zs ++ filter p ys) e ∙ ap (λ zs. filter p us ++ zs) f
    ∙ sym (filter-append p us vs)

-- ---- kind by kind

module _ (a b : Recorded) (limits : Limits) (w : ℕ) (given_a : IsRecording a) (given_b : IsRecording b)
    (frame : IsSameFrame a b) (agree : AgreeUpTo w a b) where
  abbrev events_a : List Event
  events_a = recorded_events a limits

  abbrev events_b : List Event
  events_b = recorded_events b limits

  abbrev basics_a : List Basic
  basics_a = basics_of a events_a (reference_cycles a)

  abbrev basics_b : List Basic
  basics_b = basics_of b events_b (reference_cycles b)

  flags_same : (gs : List Reading) → AllByRecursion (λ g. (g.start ≤ g.end) × (g.end ≤ w)) gs →
      reading_items events_a gs ≡ reading_items events_b gs
  flags_same [] h = refl
  flags_same (g ∷ gs) h =
      ap (λ f. item.Frequency g.tick g.start g.end g.cycles g.microhertz f ∷ reading_items events_a gs)
      (touch_agrees a b w given_a given_b frame agree limits g.start g.end h.0.0 h.0.1)
      ∙ ap (λ is. reading_item events_b g ∷ is) (flags_same gs h.1)

  by_is : (e : ℕ) → nat_le e w ≡ true → e ≤ w
  by_is e h = grind (arith, nat_tests, h)

  frequencies : filter (ends_until w) (reading_items events_a (recorded_readings a))
      ≡ filter (ends_until w) (reading_items events_b (recorded_readings b))
  frequencies =
      let early = filter (λ g. nat_le g.end w) (recorded_readings a) in
      filter_mapped (ends_until w) (reading_item events_a) (recorded_readings a)
      ∙ flags_same early
      (all_both (λ g. g.start ≤ g.end) (λ g. nat_le g.end w ≡ true) (λ g. (g.start ≤ g.end) × (g.end ≤ w))
      (λ g order by. (order, by_is g.end by)) early
      (all_kept (λ g. g.start ≤ g.end) (λ g. nat_le g.end w) (recorded_readings a)
      (readings_ordered (clock_of a) (sample_count a) (reference_cycles a)))
      (all_pass (λ g. nat_le g.end w) (recorded_readings a)))
      ∙ ap (reading_items events_b)
      (readings_agree w a b (same_channels a b w given_a given_b frame agree) agree)
      ∙ sym (filter_mapped (ends_until w) (reading_item events_b) (recorded_readings b))

  -- the parts of the basic intervals that end by w
  parts_by : (bs : List Basic) → filter (λ p. nat_le p.end w) (parts_of bs) ≡ parts_of (basics_by w bs)
  parts_by bs = filter_mapped (λ p. nat_le p.end w) (λ b. b.part) bs

  basics : filter (ends_until w) (basic_items a basics_a) ≡ filter (ends_until w) (basic_items b basics_b)
  basics =
      let by : List ℕ → ℕ → List Part → List Item = λ numbers lf ps.
      flat_map (λ p. map (λ position. item.Basic (slice_index numbers position) p.start p.end (cycles_of lf)
      (slice_index p.values position) p.flagged) (numbers_below (length numbers))) ps in
      each_filtered w (λ p. p.end) (basic_item a) (λ p position. refl) (positions a) (parts_of basics_a)
      ∙ ap (by a.numbers a.lf) (parts_by basics_a)
      ∙ ap (λ ns. by ns a.lf (parts_of (basics_by w basics_a))) frame.numbers
      ∙ ap (λ lf. by b.numbers lf (parts_of (basics_by w basics_a))) frame.lf
      ∙ ap (λ bs. by b.numbers b.lf (parts_of bs)) (basics_agree a b w given_a given_b frame agree limits)
      ∙ sym (ap (by b.numbers b.lf) (parts_by basics_b))
      ∙ sym (each_filtered w (λ p. p.end) (basic_item b) (λ p position. refl) (positions b)
      (parts_of basics_b))

  shorts : filter (ends_until w) (for_each_channel a (short_item a) (shorts_of a basics_a))
      ≡ filter (ends_until w) (for_each_channel b (short_item b) (shorts_of b basics_b))
  shorts =
      let ga = shorts_of a basics_a in
      let gb = shorts_of b basics_b in
      let by : List ℕ → List Group → List Item = λ numbers gs.
      flat_map (λ g. map (λ position. item.Short (slice_index numbers position) g.start g.end
      (slice_index g.values position) g.flagged) (numbers_below (length numbers))) gs in
      each_filtered w (λ g. g.end) (short_item a) (λ g position. refl) (positions a) ga
      ∙ ap (λ ns. by ns (groups_by w ga)) frame.numbers
      ∙ ap (by b.numbers) (shorts_agree a b w given_a given_b frame agree limits)
      ∙ sym (each_filtered w (λ g. g.end) (short_item b) (λ g position. refl) (positions b) gb)

  tens : filter (ends_until w) (for_each_channel a (ten_item a) (tens_of a basics_a))
      ≡ filter (ends_until w) (for_each_channel b (ten_item b) (tens_of b basics_b))
  tens =
      let ga = tens_of a basics_a in
      let gb = tens_of b basics_b in
      let by : List ℕ → List Group → List Item = λ numbers gs.
      flat_map (λ g. map (λ position. item.Ten (slice_index numbers position) (unwrap_or g.tick (pos 0))
      g.start g.end g.count (slice_index g.values position) g.flagged) (numbers_below (length numbers))) gs in
      each_filtered w (λ g. g.end) (ten_item a) (λ g position. refl) (positions a) ga
      ∙ ap (λ ns. by ns (groups_by w ga)) frame.numbers
      ∙ ap (by b.numbers) (tens_agree a b w given_a given_b frame agree limits)
      ∙ sym (each_filtered w (λ g. g.end) (ten_item b) (λ g position. refl) (positions b) gb)

  two_hours :
      filter (ends_until w) (for_each_channel a (two_hour_item a) (two_hours_of a (tens_of a basics_a)))
      ≡ filter (ends_until w) (for_each_channel b (two_hour_item b) (two_hours_of b (tens_of b basics_b)))
  two_hours =
      let ga = two_hours_of a (tens_of a basics_a) in
      let gb = two_hours_of b (tens_of b basics_b) in
      let by : List ℕ → List Group → List Item = λ numbers gs.
      flat_map (λ g. map (λ position. item.TwoHour (slice_index numbers position) (unwrap_or g.tick (pos 0))
      g.start g.end (slice_index g.values position) g.flagged) (numbers_below (length numbers))) gs in
      each_filtered w (λ g. g.end) (two_hour_item a) (λ g position. refl) (positions a) ga
      ∙ ap (λ ns. by ns (groups_by w ga)) frame.numbers
      ∙ ap (by b.numbers) (two_hours_agree a b w given_a given_b frame agree limits)
      ∙ sym (each_filtered w (λ g. g.end) (two_hour_item b) (λ g position. refl) (positions b) gb)

  events_told : (r : Recorded) → filter (ends_until w) (event_items r (recorded_events r limits))
      ≡ event_items r (events_by w (recorded_events r limits))
  events_told r =
      filter_mapped (ends_until w) (event_item r) (recorded_events r limits)
      ∙ ap (event_items r)
      (filter_agree (λ e. nat_le (end_of (event_item r e)) w) (λ e. nat_le e.end w)
      (λ e. ap (λ n. nat_le n w) (event_end r e)) (recorded_events r limits))

  events : filter (ends_until w) (event_items a events_a) ≡ filter (ends_until w) (event_items b events_b)
  events =
      let by : List ℕ → List Event → List Item = λ numbers es.
      map (λ e. item_of_kind e.kind (slice_index numbers e.channel) e) es in
      events_told a
      ∙ ap (λ ns. by ns (events_by w events_a)) frame.numbers
      ∙ ap (by b.numbers) (events_agree a b w given_a given_b frame agree limits)
      ∙ sym (events_told b)

  items_agree : filter (ends_until w) (all_items a limits) ≡ filter (ends_until w) (all_items b limits)
  unfolding items_under
  items_agree =
      both_filtered (ends_until w) _ _ _ _
      (both_filtered (ends_until w) _ _ _ _
      (both_filtered (ends_until w) _ _ _ _
      (both_filtered (ends_until w) _ _ _ _ (both_filtered (ends_until w) _ _ _ _ frequencies basics) shorts)
      tens)
      two_hours)
      events

  cuts_agree : cut w (sequential a limits) ≡ cut w (sequential b limits)
  unfolding cut sequential
  cuts_agree =
      filter_ordered item_cmp (ends_until w) item_cmp_weak (all_items a limits)
      ∙ ap (in_order item_cmp) items_agree
      ∙ sym (filter_ordered item_cmp (ends_until w) item_cmp_weak (all_items b limits))

-- lanes that agree up to w have one cut at w
pub locality : Locality
locality a b limits w given_a given_b frame until agree = cuts_agree a b limits w given_a given_b frame agree
