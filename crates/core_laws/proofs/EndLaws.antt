-- All items of a recording end by its number of samples.
use Rattle.std.proofs.Common.{◌≡◌, ℕ, zero, suc, ◌<◌, ◌≤◌, ◌==◌, Bool, true, false, cond, if◌then◌else◌, List, [], ◌∷◌, length, map, filter_map, find, zip, drop, slice_range, slice_index_or, All, ℤ, Option, Some, None, IfSome, option_map, option_and_then, unwrap_or, slice_get, subst, arith}
use Rattle.std.specs.List.{cons_option}
use Rattle.std.specs.Option.{option_map_or}
use Rattle.std.proofs.lemmas.List.Elements.{All-append, All-cons, All-drop, All-head, All-map, All-nil, All-tail, All-take, All-weaker}
use Rattle.std.proofs.lemmas.List.Sorted.{All-permutation}
use Rattle.aggregate.specs.declared.group.Group.{Group}
use Rattle.aggregate.specs.Aggregation.{Basic, Part, as_part, group_of, has_tick, is_front_from, parts_of, reaches, segment_at, segment_of, short_groups, ten_group, ten_groups, tick_pairs, two_hour_group, two_hour_groups}
use Rattle.event_detect.specs.declared.event.Event.{Event}
use Rattle.event_detect.specs.declared.kind.Kind.{Kind}
use Rattle.event_detect.specs.declared.kind.Kind.TheVariants.{Dip, Swell, Interruption}
use Rattle.event_detect.specs.declared.limits.Limits.{Limits}
use Rattle.freq10s.specs.declared.reading.Reading.{Reading}
use Rattle.freq10s.specs.Frequency.{reading_of, readings}
use Rattle.pq_base.specs.Recorded.{Recorded, IsRecording, sample_count, samples_at}
use Rattle.pq_items.specs.declared.item.Item.{Item}
use Rattle.pq_items.specs.ItemOrder.{item_cmp}
use Rattle.pq_items.specs.ItemTable.{end_of}
use Rattle.pq_sequence.specs.MeasuredRecording.{basics_of, channel_count, clock_of, positions, readings_of, recorded_events, recorded_rule, reference_cycles, runs_of, shorts_of, tens_of, two_hours_of}
use Rattle.pq_sequence.specs.SequentialResult.{all_items, basic_item, basic_items, event_item, event_items, for_each_channel, item_of_kind, items_under, number_of, reading_item, reading_items, sequential, short_item, ten_item, two_hour_item}
use Rattle.pq_sequence.specs.WholeResult.{IsPlaced}
use Rattle.pq_sequence.proofs.PlaceLaws.{all_flat, looked_up}
use Rattle.pq_sequence.proofs.ResultLaws.{events_placed, rule_of_recording}
use Rattle.pq_time.specs.declared.clock.Clock.{Clock}
use Rattle.pq_time.specs.Tick.{tick_place, ticks}
use Rattle.pq_time.specs.Time.{is_taken_by, place_of}
use Rattle.pq_words.specs.First.{IsFirst, first_between}
use Rattle.pq_words.specs.Steps.{steps_from}
use Rattle.pq_words.proofs.FirstLaws.{first_between_is}
use Rattle.pq_words.proofs.SortedLaws.{in_order_permutes}
use Rattle.zero_cross.proofs.BoundaryLaws.{cycles_lie}

-- ---- what is picked from a list

pub got : {X : Type 0} (P : X → Type 0) (xs : List X) (i : ℕ) → All P xs → IfSome (slice_get xs i) P
got P [] i h = tt
got P (x ∷ xs) zero h = All-head P x xs h
got P (x ∷ xs) (suc i) h = got P xs i (All-tail P x xs h)

one_of : {X : Type 0} (P : X → Type 0) (b : Bool) (o q : Option X) → IfSome o P → IfSome q P →
    IfSome (cond b o q) P
one_of P true o q h g = h
one_of P false o q h g = g

found : {X : Type 0} (P : X → Type 0) (p : X → Bool) (xs : List X) → All P xs → IfSome (find p xs) P
found P p [] h = tt
found P p (x ∷ xs) h = one_of P (p x) (Some x) (find p xs) (All-head P x xs h)
    (found P p xs (All-tail P x xs h))

put : {Y : Type 0} (P : Y → Type 0) (o : Option Y) (ys : List Y) → IfSome o P → All P ys →
    All P (cons_option o ys)
put P None ys h rest = rest
put P (Some y) ys h rest = All-cons P y ys h rest

all_found : {X Y : Type 0} (P : Y → Type 0) (f : X → Option Y) (xs : List X) →
    ((x : X) → IfSome (f x) P) → All P (filter_map f xs)
all_found P f [] h = All-nil P
all_found P f (x ∷ xs) h = put P (f x) (filter_map f xs) (h x) (all_found P f xs h)

-- ---- intervals

-- a part, and what contains parts, ends by n
abbrev PartEnds : ℕ → Part → Type 0
PartEnds n p = p.end ≤ n

abbrev GroupEnds : ℕ → Group → Type 0
GroupEnds n g = g.end ≤ n

end_lies : (n : ℕ) (o : Option Part) → IfSome o (PartEnds n) → option_map_or (λ p. p.end) o 0 ≤ n
end_lies n None h = omega arith
end_lies n (Some p) h = h

group_ends : (n : ℕ) (tick : Option ℤ) (channels : ℕ) (parts : List Part) → All (PartEnds n) parts →
    GroupEnds n (group_of tick channels parts)
unfolding group_of
group_ends n tick channels parts lie = end_lies n (slice_get parts _) (got (PartEnds n) parts _ lie)

module _ (clock : Clock) (n channels : ℕ) (basics : List Basic) (lie : All (λ b. PartEnds n b.part) basics)
  where
    range_ends : (a b : ℕ) → All (PartEnds n) (parts_of (slice_range basics a b))
    range_ends a b = All-map (PartEnds n) (λ b. b.part) (slice_range basics a b)
        (All-take (λ b. PartEnds n b.part) _ (drop a basics) (All-drop (λ b. PartEnds n b.part) a basics lie))

    shorts_end : All (GroupEnds n) (short_groups channels basics)
    unfolding short_groups
    shorts_end = All-map (GroupEnds n)
        (λ run. group_of None channels (parts_of (slice_range basics run.start run.end)))
        _ (λ k d inside. let run = slice_index_or _ k d in
        group_ends n None channels (parts_of (slice_range basics run.start run.end))
        (range_ends run.start run.end))

    ten_ends : (tick next : ℤ) → IfSome (ten_group clock n channels basics tick next) (GroupEnds n)
    unfolding ten_group segment_of
    ten_ends tick next =
        at (first_between (is_front_from basics (tick_place clock n tick)) 0 (length basics))
      where
        made : List Basic → Option Group
        made segment =
            if reaches (parts_of segment) (tick_place clock n next)
            then Some (group_of (Some tick) channels (parts_of segment)) else None

        at : (o : Option ℕ) → IfSome (option_and_then made (option_map (segment_at basics) o)) (GroupEnds n)
        at None = tt
        at (Some k) =
            one_of (GroupEnds n) (reaches (parts_of (segment_at basics k)) (tick_place clock n next))
            (Some (group_of (Some tick) channels (parts_of (segment_at basics k)))) None
            (group_ends n (Some tick) channels (parts_of (segment_at basics k)) (range_ends k _)) tt

    tens_end : All (GroupEnds n) (ten_groups clock n channels basics)
    unfolding ten_groups
    tens_end =
        all_found (GroupEnds n) (λ p. ten_group clock n channels basics p.0 p.1) (tick_pairs clock n 600)
        (λ p. ten_ends p.0 p.1)

module _ (clock : Clock) (n channels : ℕ) (tens : List Group) (are : All (GroupEnds n) tens) where
  two_hour_ends : (tick : ℤ) → IfSome (two_hour_group channels tens tick) (GroupEnds n)
  unfolding two_hour_group
  two_hour_ends tick =
      let twelve = filter_map (λ t. find (has_tick t) tens) (steps_from tick 600 12) in
      let all : All (GroupEnds n) twelve =
      all_found (GroupEnds n) (λ t. find (has_tick t) tens) (steps_from tick 600 12)
      (λ t. found (GroupEnds n) (has_tick t) tens are) in
      one_of (GroupEnds n) (length twelve == 12) (Some (group_of (Some tick) channels (map as_part twelve)))
      None
      (group_ends n (Some tick) channels (map as_part twelve)
      (All-map (PartEnds n) as_part twelve (All-weaker (GroupEnds n) (λ g. PartEnds n (as_part g))
      (λ g h. h) twelve all))) tt

  two_hours_end : All (GroupEnds n) (two_hour_groups clock n channels tens)
  unfolding two_hour_groups
  two_hours_end =
      all_found (GroupEnds n) (two_hour_group channels tens) (ticks clock n 7200) two_hour_ends

-- ---- readings

place_within : (clock : Clock) (moment : ℤ) (n : ℕ) → place_of clock moment n ≤ n
unfolding place_of
place_within clock moment n = at (first_between (is_taken_by clock moment) 0 n)
    (first_between_is (is_taken_by clock moment) 0 n)
  where
    at : (o : Option ℕ) → IsFirst (is_taken_by clock moment) 0 n o → unwrap_or o n ≤ n
    at None h = omega arith
    at (Some k) h = omega (arith, h.below)

abbrev ReadingEnds : ℕ → Reading → Type 0
ReadingEnds n g = g.end ≤ n

module _ (clock : Clock) (n : ℕ) (boundaries : List ℕ) where
  reading_ends : (tick : ℤ) (p q : ℕ) → q ≤ n →
      IfSome (reading_of clock.rate boundaries tick p q) (ReadingEnds n)
  unfolding reading_of
  reading_ends tick p q end = one_of (ReadingEnds n) _ (Some _) None end tt

  readings_end : All (ReadingEnds n) (readings clock n boundaries)
  unfolding readings
  readings_end =
      let all = ticks clock n 10 in
      all_found (ReadingEnds n) (λ pair. reading_of clock.rate boundaries pair.0 (tick_place clock n pair.0)
      (tick_place clock n pair.1)) (zip all (drop 1 all))
      (λ pair. reading_ends pair.0 (tick_place clock n pair.0) (tick_place clock n pair.1)
      (place_within clock _ n))

-- ---- items

-- an item ends by n
abbrev pub ItemEnds : ℕ → Item → Type 0
ItemEnds n x = end_of x ≤ n

event_ends : (r : Recorded) (n : ℕ) (e : Event) → e.end ≤ n → ItemEnds n (event_item r e)
event_ends r n e end = at e.kind
  where
    at : (kind : Kind) → ItemEnds n (item_of_kind kind (number_of r e.channel) e)
    at Dip = end
    at Swell = end
    at Interruption = end

module _ (r : Recorded) (is : IsRecording r) where
  each_channel : {X : Type 0} (P : X → Type 0) (item_of : X → ℕ → Item) →
      ((x : X) (position : ℕ) → P x → ItemEnds (sample_count r) (item_of x position)) →
      (xs : List X) → All P xs → All (ItemEnds (sample_count r)) (for_each_channel r item_of xs)
  each_channel P item_of each xs all =
      let Q = ItemEnds (sample_count r) in
      all_flat Q (λ x. map (item_of x) (positions r)) xs
      (All-weaker P (λ x. All Q (map (item_of x) (positions r)))
      (λ x h. All-map Q (item_of x) (positions r) (λ k d inside. each x _ h)) xs all)

  basics_end : (events : List Event) →
      All (λ b. PartEnds (sample_count r) b.part) (basics_of r events (reference_cycles r))
  basics_end events =
      let boundaries = reference_cycles r in
      let same : length (samples_at r r.reference) ≡ sample_count r =
      is.even r.reference (omega (arith, is.reference, is.paired)) in
      let all = cycles_lie (samples_at r r.reference) (recorded_rule r) (rule_of_recording r is) in
      let lie : All (λ k. k < sample_count r) boundaries =
      subst (λ n. All (λ k. k < n) boundaries) same all.below in
      All-map (λ b. PartEnds (sample_count r) b.part) _ (runs_of r boundaries)
      (λ k d inside. looked_up boundaries _ (sample_count r) lie)

  all_items_end : (limits : Limits) → All (ItemEnds (sample_count r)) (all_items r limits)
  unfolding items_under
  all_items_end limits =
      let n = sample_count r in
      let P = ItemEnds n in
      let channels = channel_count r in
      let events = recorded_events r limits in
      let boundaries = reference_cycles r in
      let basics = basics_of r events boundaries in
      let tens = tens_of r basics in
      let lie = basics_end events in
      let tens_lie = tens_end (clock_of r) n channels basics lie in
      All-append P _ (event_items r events)
      (All-append P _ (for_each_channel r (two_hour_item r) (two_hours_of r tens))
      (All-append P _ (for_each_channel r (ten_item r) tens)
      (All-append P _ (for_each_channel r (short_item r) (shorts_of r basics))
      (All-append P (reading_items events (readings_of r boundaries)) (basic_items r basics)
      (All-map P (reading_item events) (readings_of r boundaries)
      (readings_end (clock_of r) n boundaries))
      (each_channel (PartEnds n) (basic_item r) (λ p position h. h) (parts_of basics)
      (All-map (PartEnds n) (λ b. b.part) basics lie)))
      (each_channel (GroupEnds n) (short_item r) (λ g position h. h) (shorts_of r basics)
      (shorts_end (clock_of r) n channels basics lie)))
      (each_channel (GroupEnds n) (ten_item r) (λ g position h. h) tens tens_lie))
      (each_channel (GroupEnds n) (two_hour_item r) (λ g position h. h) (two_hours_of r tens)
      (two_hours_end (clock_of r) n channels tens tens_lie)))
      (All-map P (event_item r) events
      (All-weaker (IsPlaced channels n) (λ e. P (event_item r e)) (λ e placed. event_ends r n e placed.end)
      events (events_placed r limits is)))

  -- all items of the result end by the number of samples
  pub items_end : (limits : Limits) → All (ItemEnds (sample_count r)) (sequential r limits)
  unfolding sequential
  items_end limits = All-permutation (ItemEnds (sample_count r)) (all_items r limits) (sequential r limits)
      (in_order_permutes item_cmp (all_items r limits)) (all_items_end limits)
