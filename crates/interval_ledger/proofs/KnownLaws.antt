-- What is merged tells the items that end by a place, once what is not merged lies after it.
use Rattle.std.proofs.Common.{◌≡◌, ℕ, ◌<◌, ◌≤◌, Bool, false, nat_le, List, [], ◌∷◌, ◌++◌, map, filter, flat_map, take, drop, refl, sym, ◌∙◌, ap, subst, arith}
use Rattle.std.specs.List.{AllByRecursion}
use Rattle.std.proofs.lemmas.Bool.Decides.{nat_tests}
use Rattle.std.proofs.lemmas.List.{append-nil, map-append, take-append-drop}
use Rattle.std.proofs.lemmas.List.Elements.{filter-append, filter_agree}
use Rattle.aggregate.specs.declared.group.Group.{Group}
use Rattle.aggregate.specs.Aggregation.{Basic, Part, parts_of, tick_pairs}
use Rattle.event_detect.specs.declared.event.Event.{Event}
use Rattle.event_detect.specs.declared.limits.Limits.{Limits}
use Rattle.event_detect.specs.VoltageEvent.{ended_events}
use Rattle.freq10s.specs.declared.reading.Reading.{Reading}
use Rattle.interval_ledger.specs.Merged.{Merged, all_basics, known_events, known_items, known, IsSettled}
use Rattle.interval_ledger.proofs.ItemLaws.{ends_until, each_filtered, event_end}
use Rattle.interval_ledger.proofs.WindowLaws.{not_empty}
use Rattle.lanes.specs.Lane.{recorded_readings}
use Rattle.polyphase.specs.PolyphaseEvent.{ChannelWindow, all_polyphase_events, conditions, kinds}
use Rattle.pq_base.specs.Recorded.{Recorded, IsRecording, sample_count}
use Rattle.pq_items.specs.declared.item.Item.{Item}
use Rattle.pq_items.specs.ItemTable.{end_of}
use Rattle.pq_sequence.specs.MeasuredRecording.{channel_count, clock_of, positions, recorded_events, recorded_places, recorded_windows, shorts_of, tens_of, two_hours_of}
use Rattle.pq_sequence.specs.SequentialResult.{all_items, basic_item, basic_items, event_item, event_items, for_each_channel, items_under, reading_item, reading_items, short_item, ten_item, two_hour_item}
use Rattle.pq_time.specs.Tick.{tick_place}
use Rattle.settled_laws.proofs.BasicLaws.{AreLinked}
use Rattle.settled_laws.proofs.BuildLaws.{front_rises, linked_rise}
use Rattle.settled_laws.proofs.EarlyLaws.{IsWindow}
use Rattle.settled_laws.proofs.IntervalLaws.{basics_are_linked, ticks_end}
use Rattle.settled_laws.proofs.ListLaws.{all_both, all_from, all_mapped, filter_joined, filter_mapped, filter_none}
use Rattle.settled_laws.proofs.SettledLaws.{IsFrom, all_settled}
use Rattle.settled_laws.proofs.ShortLaws.{IsAfter, ends_by, shorts_settled}
use Rattle.settled_laws.proofs.TenLaws.{EndsSegment, tens_settled}
use Rattle.settled_laws.proofs.TickLaws.{EndsRise, two_hours_settled}

-- ---- lists in two parts

pub all_right : {X : Type 0} (P : X → Type 0) (xs ys : List X) → AllByRecursion P (xs ++ ys) →
    AllByRecursion P ys
all_right P [] ys h = h
all_right P (x ∷ xs) ys h = all_right P xs ys h.1

late_is : (a w : ℕ) → w < a → nat_le a w ≡ false
late_is a w h = grind (arith, nat_tests, h)

-- what fails adds nothing
filter_left : {X : Type 0} (p : X → Bool) (xs ys : List X) → AllByRecursion (λ y. p y ≡ false) ys →
    filter p (xs ++ ys) ≡ filter p xs
filter_left p xs ys h =
    filter-append p xs ys
    ∙ ap (λ zs. filter p xs ++ zs) (filter_none p ys h)
    ∙ append-nil (filter p xs)

pub both_kept : (p : Item → Bool) (xs xs' ys ys' : List Item) → filter p xs ≡ filter p xs' →
    filter p ys ≡ filter p ys' → filter p (xs ++ ys) ≡ filter p (xs' ++ ys')
both_kept p xs xs' ys ys' e f =
    filter-append p xs ys
    ∙ ap (λ zs. zs ++ filter p ys) e
    ∙ ap (λ zs. filter p xs' ++ zs) f
    ∙ sym (filter-append p xs' ys')

module _ (r : Recorded) (limits : Limits) (w : ℕ) (given : IsRecording r) where
  -- ---- readings

  module _ (early others : List Reading) (split : recorded_readings r ≡ early ++ others)
      (after : AllByRecursion (λ x. w < x.end) others) where
    pub readings_known : filter (ends_until w)
        (reading_items (recorded_events r limits) (recorded_readings r))
        ≡ filter (ends_until w) (reading_items (recorded_events r limits) early)
    readings_known =
        let made : Reading → Item = reading_item (recorded_events r limits) in
        filter_mapped (ends_until w) made (recorded_readings r)
        ∙ ap (λ xs. map made (filter (λ x. nat_le x.end w) xs)) split
        ∙ ap (map made) (filter_left (λ x. nat_le x.end w) early others
        (all_from (λ x. w < x.end) (λ x. nat_le x.end w ≡ false) (λ x h. late_is x.end w h) others after))
        ∙ sym (filter_mapped (ends_until w) made early)

  -- ---- basic intervals, and what they make

  module _ (core later : List Basic) (split : all_basics r limits ≡ core ++ later)
      (after : AllByRecursion (IsAfter w) later) where
    linked : AreLinked (recorded_places r) (core ++ later)
    linked = subst (AreLinked (recorded_places r)) split
        (basics_are_linked r (recorded_events r limits) given)

    rise : EndsRise (core ++ later)
    rise = linked_rise (recorded_places r) (core ++ later) linked

    segments : AllByRecursion (λ p.
        EndsSegment (core ++ later) (tick_place (clock_of r) (sample_count r) p.1))
        (tick_pairs (clock_of r) (sample_count r) 600)
    segments = ticks_end (clock_of r) (sample_count r) (core ++ later) linked

    pub basics_known : filter (ends_until w) (basic_items r (all_basics r limits))
        ≡ filter (ends_until w) (basic_items r core)
    basics_known =
        let by : List Part → List Item = flat_map (λ p. map (basic_item r p) (positions r)) in
        let late : AllByRecursion (λ p. nat_le p.end w ≡ false) (parts_of later) =
        all_mapped (λ p. nat_le p.end w ≡ false) (λ b. b.part) later
        (all_from (IsAfter w) (λ b. nat_le b.part.end w ≡ false) (λ b h. late_is b.part.end w h) later after)
        in
        each_filtered w (λ p. p.end) (basic_item r) (λ p c. refl) (positions r)
        (parts_of (all_basics r limits))
        ∙ ap (λ bs. by (filter (λ p. nat_le p.end w) (parts_of bs))) split
        ∙ ap (λ ps. by (filter (λ p. nat_le p.end w) ps)) (map-append (λ b. b.part) core later)
        ∙ ap by (filter_left (λ p. nat_le p.end w) (parts_of core) (parts_of later) late)
        ∙ sym (each_filtered w (λ p. p.end) (basic_item r) (λ p c. refl) (positions r) (parts_of core))

    groups_known : (item_of : Group → ℕ → Item) → ((g : Group) (c : ℕ) → end_of (item_of g c) ≡ g.end) →
        (gs hs : List Group) → filter (ends_by w) gs ≡ filter (ends_by w) hs →
        filter (ends_until w) (for_each_channel r item_of gs)
        ≡ filter (ends_until w) (for_each_channel r item_of hs)
    groups_known item_of ends gs hs e =
        each_filtered w (λ g. g.end) item_of ends (positions r) gs
        ∙ ap (flat_map (λ g. map (item_of g) (positions r))) e
        ∙ sym (each_filtered w (λ g. g.end) item_of ends (positions r) hs)

    pub shorts_known : filter (ends_until w)
        (for_each_channel r (short_item r) (shorts_of r (all_basics r limits)))
        ≡ filter (ends_until w) (for_each_channel r (short_item r) (shorts_of r core))
    shorts_known =
        groups_known (short_item r) (λ g c. refl) (shorts_of r (all_basics r limits)) (shorts_of r core)
        (ap (λ bs. filter (ends_by w) (shorts_of r bs)) split
        ∙ shorts_settled (channel_count r) w core later after)

    pub tens_known : filter (ends_until w) (for_each_channel r (ten_item r) (tens_of r (all_basics r limits)))
        ≡ filter (ends_until w) (for_each_channel r (ten_item r) (tens_of r core))
    tens_known =
        groups_known (ten_item r) (λ g c. refl) (tens_of r (all_basics r limits)) (tens_of r core)
        (ap (λ bs. filter (ends_by w) (tens_of r bs)) split
        ∙ tens_settled (clock_of r) (sample_count r) (channel_count r) w core later after segments)

    pub two_hours_known :
        filter (ends_until w)
        (for_each_channel r (two_hour_item r) (two_hours_of r (tens_of r (all_basics r limits))))
        ≡ filter (ends_until w) (for_each_channel r (two_hour_item r) (two_hours_of r (tens_of r core)))
    two_hours_known =
        groups_known (two_hour_item r) (λ g c. refl) (two_hours_of r (tens_of r (all_basics r limits)))
        (two_hours_of r (tens_of r core))
        (ap (λ bs. filter (ends_by w) (two_hours_of r (tens_of r bs))) split
        ∙ two_hours_settled (clock_of r) (sample_count r) (channel_count r) w core later after segments
        (front_rises core later rise) rise)

  -- ---- events

  module _ (fed more : List ChannelWindow) (split : recorded_windows r ≡ fed ++ more)
      (after : AllByRecursion (λ x. w ≤ x.window.start) more) where
    pub more_from : AllByRecursion (IsFrom w) more
    more_from =
        all_both (λ x. IsWindow x.window) (λ x. w ≤ x.window.start) (IsFrom w)
        (λ x is h. (h, omega (arith, is, h)))
        more
        (all_right (λ x. IsWindow x.window) fed more
        (subst (AllByRecursion (λ x. IsWindow x.window)) split (not_empty r given))) after

    events_by : (es : List Event) →
        filter (ends_until w) (event_items r es) ≡ event_items r (filter (λ e. nat_le e.end w) es)
    events_by es =
        filter_mapped (ends_until w) (event_item r) es
        ∙ ap (map (event_item r))
        (filter_agree (λ e. nat_le (end_of (event_item r e)) w) (λ e. nat_le e.end w)
        (λ e. ap (λ n. nat_le n w) (event_end r e)) es)

    pub events_known : w < sample_count r →
        filter (ends_until w) (event_items r (recorded_events r limits))
        ≡ filter (ends_until w) (event_items r (known_events r limits fed))
    events_known less =
        events_by (recorded_events r limits)
        ∙ ap (map (event_item r))
        (ap (λ ms. filter (λ e. nat_le e.end w)
        (all_polyphase_events limits (channel_count r) (sample_count r) ms)) split
        ∙ all_settled limits (channel_count r) (sample_count r) w fed more less more_from
        ∙ sym (filter_joined (λ e. nat_le e.end w)
        (λ kind. ended_events kind (conditions kind limits (channel_count r) fed)) kinds))
        ∙ sym (events_by (known_events r limits fed))

  -- ---- all items

  -- the items that end by w are those that are known
  pub known_settled : (m : Merged) → w < sample_count r → IsSettled r limits m w →
      filter (ends_until w) (all_items r limits) ≡ filter (ends_until w) (known r limits m)
  unfolding items_under known_items
  known_settled m less settled =
      let at_windows = sym (take-append-drop m.windows (recorded_windows r)) in
      let at_basics = sym (take-append-drop m.basics (all_basics r limits)) in
      let at_readings = sym (take-append-drop m.readings (recorded_readings r)) in
      let core = take m.basics (all_basics r limits) in
      let later = drop m.basics (all_basics r limits) in
      let p = ends_until w in
      both_kept p _ _ _ _ (both_kept p _ _ _ _ (both_kept p _ _ _ _ (both_kept p _ _ _ _ (both_kept p _ _ _ _
      (readings_known (take m.readings (recorded_readings r)) (drop m.readings (recorded_readings r))
      at_readings
      settled.readings)
      (basics_known core later at_basics settled.basics))
      (shorts_known core later at_basics settled.basics))
      (tens_known core later at_basics settled.basics))
      (two_hours_known core later at_basics settled.basics))
      (events_known (take m.windows (recorded_windows r)) (drop m.windows (recorded_windows r)) at_windows
      settled.windows less)
