-- One more window, basic interval or reading that is merged adds items to what is known, and they end after
-- the mark.
use Rattle.std.proofs.Common.{◌≡◌, ℕ, zero, suc, ◌+◌, ◌<◌, ◌≤◌, max, Bool, true, false, cond, not, nat_le, List, [], ◌∷◌, ◌++◌, map, filter, flat_map, take, drop, slice_get, Option, Some, option_to_list, refl, sym, ◌∙◌, ap, subst, arith}
use Rattle.std.specs.List.{AllByRecursion, sum_by}
use Rattle.std.proofs.lemmas.List.{map-append}
use Rattle.std.proofs.lemmas.List.Elements.{filter-append}
use Rattle.std.proofs.lemmas.List.Sums.{sum_by-append, sum_by-cons}
use Rattle.std.proofs.lemmas.Grind.{flat_map-append}
use Rattle.aggregate.specs.declared.group.Out.{Out}
use Rattle.aggregate.specs.Aggregation.{Basic, parts_of}
use Rattle.event_detect.specs.declared.event.Event.{Event}
use Rattle.event_detect.specs.declared.kind.Kind.{Kind}
use Rattle.event_detect.specs.declared.limits.Limits.{Limits}
use Rattle.event_detect.specs.VoltageEvent.{ended_events}
use Rattle.freq10s.specs.declared.reading.Reading.{Reading}
use Rattle.interval_ledger.specs.Added.{IsCompleted, answered, answered_items, completed_items, with_basic, with_reading, with_window}
use Rattle.interval_ledger.specs.Merged.{Merged, all_basics, known_events, known_items, known, IsSettled, IsAbreast, IsAtMark}
use Rattle.interval_ledger.proofs.ItemLaws.{ends_until}
use Rattle.interval_ledger.proofs.KnownLaws.{known_settled}
use Rattle.interval_ledger.proofs.ReleaseLaws.{ends_after}
use Rattle.lanes.specs.Lane.{recorded_readings}
use Rattle.polyphase.specs.Poly.{answer_of}
use Rattle.polyphase.specs.PolyphaseEvent.{ChannelWindow, EndsAtWindow, conditions, kinds}
use Rattle.polyphase.proofs.MovedLaws.{IsMoved, moved_append, moved_back, moved_order, moved_same, moved_trans}
use Rattle.pq_base.specs.Recorded.{Recorded, IsRecording, sample_count}
use Rattle.pq_items.specs.declared.item.Item.{Item}
use Rattle.pq_items.specs.ItemOrder.{item_cmp}
use Rattle.pq_items.specs.ItemTable.{end_of}
use Rattle.pq_items.proofs.OrderLaws.{item_cmp_total, item_cmp_same}
use Rattle.pq_sequence.specs.MeasuredRecording.{channel_count, positions, recorded_events, recorded_windows, shorts_of, tens_of, two_hours_of}
use Rattle.pq_sequence.specs.SequentialResult.{basic_item, basic_items, event_item, event_items, for_each_channel, reading_item, reading_items, short_item, ten_item, two_hour_item}
use Rattle.pq_words.specs.Sorted.{in_order}
use Rattle.settled_laws.proofs.ListLaws.{all_append, all_both, all_from}
use Rattle.settled_laws.proofs.MovedLaws.{moved_filter, order_moved}

-- ---- one more of a list

pub taken_more : {X : Type 0} (xs : List X) (k : ℕ) (x : X) → slice_get xs k ≡ Some x →
    take (k + 1) xs ≡ take k xs ++ x ∷ []
taken_more xs k x is = let step : k + 1 ≡ suc k = omega arith in ap (λ n. take n xs) step ∙ go xs k is
  where
    go : (xs : List _) (k : ℕ) → slice_get xs k ≡ Some x → take (suc k) xs ≡ take k xs ++ x ∷ []
    go [] k is = absurd (let bad : ⊥ = cc in bad)
    go (y ∷ ys) zero is = ap (λ z. z ∷ []) (first y is)
      where
        first : (y : _) → Some y ≡ Some x → y ≡ x
        first y e = cc
    go (y ∷ ys) (suc k) is = ap (λ zs. y ∷ zs) (go ys k is)

dropped_more : {X : Type 0} (P : X → Type 0) (xs : List X) (k : ℕ) → AllByRecursion P (drop k xs) →
    AllByRecursion P (drop (k + 1) xs)
dropped_more P xs k h =
    let step : suc k ≡ k + 1 = omega arith in subst (λ n. AllByRecursion P (drop n xs)) step (go xs k h)
  where
    go : (xs : List _) (k : ℕ) → AllByRecursion P (drop k xs) → AllByRecursion P (drop (suc k) xs)
    go [] zero h = tt
    go [] (suc k) h = tt
    go (x ∷ xs) zero h = h.1
    go (x ∷ xs) (suc k) h = go xs k h

-- ---- what is added ends after the mark

none_left : (xs : List Item) → IsMoved xs [] → xs ≡ []
none_left [] h = refl
none_left (x ∷ xs) h = let e = h (λ i. 1) in absurd (omega (arith, e, sum_by-cons (λ i. 1) x xs))

kept_after : (mark : ℕ) (xs : List Item) → filter (ends_until mark) xs ≡ [] → filter (ends_after mark) xs ≡ xs
kept_after mark [] h = refl
kept_after mark (x ∷ xs) h = at (nat_le (end_of x) mark) h (λ e. kept_after mark xs e)
  where
    at : (b : Bool) → cond b (x ∷ filter (ends_until mark) xs) (filter (ends_until mark) xs) ≡ [] →
        (filter (ends_until mark) xs ≡ [] → filter (ends_after mark) xs ≡ xs) →
        cond (not b) (x ∷ filter (ends_after mark) xs) (filter (ends_after mark) xs) ≡ x ∷ xs
    at true h rest = absurd (let bad : ⊥ = cc in bad)
    at false h rest = ap (λ ys. x ∷ ys) (rest h)

module _ (mark : ℕ) (before after added pending : List Item) where
  -- what is added to what is known, with the items up to the mark the same, is added to what is pending
  pub pending_more : IsMoved after (before ++ added) →
      IsMoved (filter (ends_until mark) after) (filter (ends_until mark) before) →
      in_order item_cmp pending ≡ in_order item_cmp (filter (ends_after mark) before) →
      in_order item_cmp (pending ++ added) ≡ in_order item_cmp (filter (ends_after mark) after)
  pending_more moved same is =
      let low : Item → Bool = ends_until mark in
      let high : Item → Bool = ends_after mark in
      let none : filter low added ≡ [] = none_left (filter low added)
      (λ f.
      let a = moved_filter low after (before ++ added) moved f in
      let b = ap (sum_by f) (filter-append low before added) in
      let c = sum_by-append f (filter low before) (filter low added) in
      let d = same f in
      let e : sum_by f (filter low added) ≡ 0 = omega (arith, a, b, c, d) in
      e) in
      moved_order item_cmp item_cmp_total item_cmp_same (pending ++ added) (filter high after)
      (moved_trans (pending ++ added) (filter high before ++ added) (filter high after)
      (moved_append pending (filter high before) added added
      (order_moved item_cmp pending (filter high before) is) (λ f. refl))
      (moved_back (filter high after) (filter high before ++ added)
      (moved_trans (filter high after) (filter high (before ++ added)) (filter high before ++ added)
      (moved_filter high after (before ++ added) moved)
      (moved_same (filter high (before ++ added)) (filter high before ++ added)
      (filter-append high before added ∙ ap (λ xs. filter high before ++ xs) (kept_after mark added none))))))

pub joined_two : (f g h : Kind → List Event) → ((k : Kind) → f k ≡ g k ++ h k) → (ks : List Kind) →
    IsMoved (flat_map f ks) (flat_map g ks ++ flat_map h ks)
joined_two f g h same [] i = refl
joined_two f g h same (k ∷ ks) i =
    let a = joined_two f g h same ks i in
    let b = ap (sum_by i) (same k) in
    let c = sum_by-append i (g k) (h k) in
    let d = sum_by-append i (f k) (flat_map f ks) in
    let e = sum_by-append i (g k ++ flat_map g ks) (h k ++ flat_map h ks) in
    let e1 = sum_by-append i (g k) (flat_map g ks) in
    let e2 = sum_by-append i (h k) (flat_map h ks) in
    let e3 = sum_by-append i (flat_map g ks) (flat_map h ks) in
    omega (arith, a, b, c, d, e, e1, e2, e3)

pub moved_mapped : (f : Event → Item) (xs ys : List Event) → IsMoved xs ys → IsMoved (map f xs) (map f ys)
moved_mapped f xs ys h i = weighed xs ∙ h (λ e. i (f e)) ∙ sym (weighed ys)
  where
    weighed : (xs : List Event) → sum_by i (map f xs) ≡ sum_by (λ e. i (f e)) xs
    weighed [] = refl
    weighed (x ∷ xs) =
        sum_by-cons i (f x) (map f xs)
        ∙ ap (λ n. i (f x) + n) (weighed xs)
        ∙ sym (sum_by-cons (λ e. i (f e)) x xs)

module _ (r : Recorded) (limits : Limits) (given : IsRecording r) where
  -- two states of merging that a mark settles know the same items up to it
  same_until : (mark : ℕ) (m m' : Merged) → mark < sample_count r → IsSettled r limits m mark →
      IsSettled r limits m' mark →
      IsMoved (filter (ends_until mark) (known r limits m')) (filter (ends_until mark) (known r limits m))
  same_until mark m m' less s s' =
      moved_same (filter (ends_until mark) (known r limits m')) (filter (ends_until mark) (known r limits m))
      (sym (known_settled r limits mark given m' less s') ∙ known_settled r limits mark given m less s)

  -- ---- one more window

  -- the items of basic intervals, readings and groups
  abbrev front : List Basic → List Reading → List Item
  front basics early =
      reading_items (recorded_events r limits) early
      ++ basic_items r basics
      ++ for_each_channel r (short_item r) (shorts_of r basics)
      ++ for_each_channel r (ten_item r) (tens_of r basics)
      ++ for_each_channel r (two_hour_item r) (two_hours_of r (tens_of r basics))

  six : (f : Item → ℕ) (a b c d e g : List Item) → sum_by f (a ++ b ++ c ++ d ++ e ++ g)
      ≡ sum_by f a + sum_by f b + sum_by f c + sum_by f d + sum_by f e + sum_by f g
  six f a b c d e g =
      let h1 = sum_by-append f (a ++ b ++ c ++ d ++ e) g in
      let h2 = sum_by-append f (a ++ b ++ c ++ d) e in
      let h3 = sum_by-append f (a ++ b ++ c) d in
      let h4 = sum_by-append f (a ++ b) c in
      let h5 = sum_by-append f a b in
      omega (arith, h1, h2, h3, h4, h5)

  four : (f : Item → ℕ) (a b c d : List Item) → sum_by f (a ++ b ++ c ++ d)
      ≡ sum_by f a + sum_by f b + sum_by f c + sum_by f d
  four f a b c d =
      let h3 = sum_by-append f (a ++ b ++ c) d in
      let h4 = sum_by-append f (a ++ b) c in
      let h5 = sum_by-append f a b in
      omega (arith, h3, h4, h5)

  window_adds : (fed : List ChannelWindow) (basics : List Basic) (early : List Reading) (x : ChannelWindow)
      (answers : List (Option Event)) →
      ((kind : Kind) → EndsAtWindow kind limits (channel_count r) fed x (answer_of kind answers)) →
      IsMoved (known_items r limits (fed ++ x ∷ []) basics early)
      (known_items r limits fed basics early ++ answered_items r answers)
  unfolding known_items
  window_adds fed basics early x answers ends f =
      let readings = reading_items (recorded_events r limits) early in
      let own = basic_items r basics in
      let shorts = for_each_channel r (short_item r) (shorts_of r basics) in
      let tens = for_each_channel r (ten_item r) (tens_of r basics) in
      let twos = for_each_channel r (two_hour_item r) (two_hours_of r (tens_of r basics)) in
      let old = known_events r limits fed in
      let new = answered answers in
      let later = known_events r limits (fed ++ x ∷ []) in
      let moved : IsMoved (event_items r later) (event_items r (old ++ new)) =
      moved_mapped (event_item r) later (old ++ new)
      (joined_two (λ kind. ended_events kind (conditions kind limits (channel_count r) (fed ++ x ∷ [])))
      (λ kind. ended_events kind (conditions kind limits (channel_count r) fed))
      (λ kind. option_to_list (answer_of kind answers)) ends kinds) in
      let a = six f readings own shorts tens twos (event_items r later) in
      let b = moved f in
      let c = ap (sum_by f) (map-append (event_item r) old new) in
      let d = sum_by-append f (event_items r old) (event_items r new) in
      let e = sum_by-append f (readings ++ own ++ shorts ++ tens ++ twos ++ event_items r old)
      (event_items r new) in
      let g = six f readings own shorts tens twos (event_items r old) in
      omega (arith, a, b, c, d, e, g)

  more_abreast : (m : Merged) (near : ℕ) (x : ChannelWindow)
      → slice_get (recorded_windows r) m.windows ≡ Some x →
      IsAbreast r limits m near →
      AllByRecursion (λ b. x.window.start < b.part.end) (drop m.basics (all_basics r limits)) →
      AllByRecursion (λ y. x.window.start < y.end) (drop m.readings (recorded_readings r)) →
      IsAbreast r limits (with_window m) (max near (x.window.start + 1))
  more_abreast m near x is at before_basics before_readings =
      let next = max near (x.window.start + 1) in
      record {
        windows =
            subst (AllByRecursion (λ y. y.window.start < next))
            (sym (taken_more (recorded_windows r) m.windows x is))
            (all_append (λ y. y.window.start < next) (take m.windows (recorded_windows r)) (x ∷ [])
            (all_from (λ y. y.window.start < near) (λ y. y.window.start < next) (λ y h. omega (arith, h))
            (take m.windows (recorded_windows r)) at.windows)
            (omega arith, tt));
        basics =
            all_both (λ b. near ≤ b.part.end) (λ b. x.window.start < b.part.end) (λ b. next ≤ b.part.end)
            (λ b h g. omega (arith, h, g)) (drop m.basics (all_basics r limits)) at.basics before_basics;
        readings =
            all_both (λ b. near ≤ b.end) (λ b. x.window.start < b.end) (λ b. next ≤ b.end)
            (λ b h g. omega (arith, h, g)) (drop m.readings (recorded_readings r)) at.readings
            before_readings;
      }

  -- a window is merged, and the events that it ends are pending: it begins before each basic interval and
  -- each
  -- reading ends that is to come
  pub window_merged : (m : Merged) (near mark : ℕ) (released pending : List Item) (x : ChannelWindow)
      (answers : List (Option Event)) → mark < sample_count r →
      IsAtMark r limits m near mark released pending →
      slice_get (recorded_windows r) m.windows ≡ Some x →
      ((kind : Kind) → EndsAtWindow kind limits (channel_count r) (take m.windows (recorded_windows r)) x
      (answer_of kind answers)) →
      AllByRecursion (λ b. x.window.start < b.part.end) (drop m.basics (all_basics r limits)) →
      AllByRecursion (λ y. x.window.start < y.end) (drop m.readings (recorded_readings r)) →
      IsAtMark r limits (with_window m) (max near (x.window.start + 1)) mark released
      (pending ++ answered_items r answers)
  window_merged m near mark released pending x answers less at is ends before_basics before_readings =
      let fed = take m.windows (recorded_windows r) in
      let basics = take m.basics (all_basics r limits) in
      let early = take m.readings (recorded_readings r) in
      let settled : IsSettled r limits (with_window m) mark = record {
        windows = dropped_more (λ y. mark ≤ y.window.start) (recorded_windows r) m.windows at.settled.windows;
        basics = at.settled.basics;
        readings = at.settled.readings;
      } in
      record {
        settled = settled;
        abreast = more_abreast m near x is at.abreast before_basics before_readings;
        is_cut = at.is_cut;
        is_pending =
            pending_more mark (known r limits m) (known r limits (with_window m)) (answered_items r answers)
            pending
            (subst (λ ms. IsMoved (known_items r limits ms basics early)
            (known r limits m ++ answered_items r answers))
            (sym (taken_more (recorded_windows r) m.windows x is))
            (window_adds fed basics early x answers ends))
            (same_until mark m (with_window m) less at.settled settled) at.is_pending;
      }

  -- ---- one more basic interval

  each_more : {X : Type 0} (item_of : X → ℕ → Item) (all xs ys : List X) → all ≡ xs ++ ys → (f : Item → ℕ) →
      sum_by f (for_each_channel r item_of all)
      ≡ sum_by f (for_each_channel r item_of xs) + sum_by f (for_each_channel r item_of ys)
  each_more item_of all xs ys e f =
      ap (λ zs. sum_by f (for_each_channel r item_of zs)) e
      ∙ ap (sum_by f) (flat_map-append (λ x. map (item_of x) (positions r)) xs ys)
      ∙ sum_by-append f (for_each_channel r item_of xs) (for_each_channel r item_of ys)

  basic_adds : (fed : List ChannelWindow) (basics : List Basic) (early : List Reading) (b : Basic) (out : Out)
      →
      IsCompleted r basics b out →
      IsMoved (known_items r limits fed (basics ++ b ∷ []) early)
      (known_items r limits fed basics early ++ completed_items r b out)
  unfolding known_items
  basic_adds fed basics early b out done f =
      let more = basics ++ b ∷ [] in
      let readings = reading_items (recorded_events r limits) early in
      let events = event_items r (known_events r limits fed) in
      let shorts : List Basic → List Item = λ bs. for_each_channel r (short_item r) (shorts_of r bs) in
      let tens : List Basic → List Item = λ bs. for_each_channel r (ten_item r) (tens_of r bs) in
      let twos : List Basic → List Item =
      λ bs. for_each_channel r (two_hour_item r) (two_hours_of r (tens_of r bs)) in
      let a = six f readings (basic_items r more) (shorts more) (tens more) (twos more) events in
      let c = six f readings (basic_items r basics) (shorts basics) (tens basics) (twos basics) events in
      let d = four f (basic_items r (b ∷ [])) (for_each_channel r (short_item r) (option_to_list out.short))
      (for_each_channel r (ten_item r) (option_to_list out.ten))
      (for_each_channel r (two_hour_item r) (option_to_list out.two)) in
      let e = sum_by-append f
      (readings ++ basic_items r basics ++ shorts basics ++ tens basics ++ twos basics ++ events)
      (completed_items r b out) in
      let h1 = each_more (basic_item r) (parts_of more) (parts_of basics) (parts_of (b ∷ []))
      (map-append (λ x. x.part) basics (b ∷ [])) f in
      let h2 = each_more (short_item r) (shorts_of r more) (shorts_of r basics) (option_to_list out.short)
      done.short f in
      let h3 = each_more (ten_item r) (tens_of r more) (tens_of r basics) (option_to_list out.ten) done.ten f
      in
      let h4 = each_more (two_hour_item r) (two_hours_of r (tens_of r more))
      (two_hours_of r (tens_of r basics))
      (option_to_list out.two) done.two f in
      omega (arith, a, c, d, e, h1, h2, h3, h4)

  -- a basic interval is merged, with its flag, and its items and those that it completes are pending
  pub basic_merged : (m : Merged) (near mark : ℕ) (released pending : List Item) (b : Basic) (out : Out) →
      mark < sample_count r → IsAtMark r limits m near mark released pending →
      slice_get (all_basics r limits) m.basics ≡ Some b →
      IsCompleted r (take m.basics (all_basics r limits)) b out →
      IsAtMark r limits (with_basic m) near mark released (pending ++ completed_items r b out)
  basic_merged m near mark released pending b out less at is done =
      let fed = take m.windows (recorded_windows r) in
      let basics = take m.basics (all_basics r limits) in
      let early = take m.readings (recorded_readings r) in
      let settled : IsSettled r limits (with_basic m) mark = record {
        windows = at.settled.windows;
        basics = dropped_more (λ b. mark < b.part.end) (all_basics r limits) m.basics at.settled.basics;
        readings = at.settled.readings;
      } in
      record {
        settled = settled;
        abreast = record {
          windows = at.abreast.windows;
          basics = dropped_more (λ b. near ≤ b.part.end) (all_basics r limits) m.basics at.abreast.basics;
          readings = at.abreast.readings;
        };
        is_cut = at.is_cut;
        is_pending =
            pending_more mark (known r limits m) (known r limits (with_basic m)) (completed_items r b out)
            pending
            (subst (λ bs. IsMoved (known_items r limits fed bs early)
            (known r limits m ++ completed_items r b out))
            (sym (taken_more (all_basics r limits) m.basics b is))
            (basic_adds fed basics early b out done))
            (same_until mark m (with_basic m) less at.settled settled) at.is_pending;
      }

  -- ---- one more reading

  reading_adds : (fed : List ChannelWindow) (basics : List Basic) (early : List Reading) (x : Reading) →
      IsMoved (known_items r limits fed basics (early ++ x ∷ []))
      (known_items r limits fed basics early ++ reading_item (recorded_events r limits) x ∷ [])
  unfolding known_items
  reading_adds fed basics early x f =
      let made : Reading → Item = reading_item (recorded_events r limits) in
      let events = event_items r (known_events r limits fed) in
      let own = basic_items r basics in
      let shorts = for_each_channel r (short_item r) (shorts_of r basics) in
      let tens = for_each_channel r (ten_item r) (tens_of r basics) in
      let twos = for_each_channel r (two_hour_item r) (two_hours_of r (tens_of r basics)) in
      let a = six f (map made (early ++ x ∷ [])) own shorts tens twos events in
      let c = six f (map made early) own shorts tens twos events in
      let d = ap (sum_by f) (map-append made early (x ∷ [])) in
      let e = sum_by-append f (map made early) (made x ∷ []) in
      let g = sum_by-append f (map made early ++ own ++ shorts ++ tens ++ twos ++ events) (made x ∷ []) in
      omega (arith, a, c, d, e, g)

  -- a reading is merged, with its flag, and its item is pending
  pub reading_merged : (m : Merged) (near mark : ℕ) (released pending : List Item) (x : Reading) →
      mark < sample_count r → IsAtMark r limits m near mark released pending →
      slice_get (recorded_readings r) m.readings ≡ Some x →
      IsAtMark r limits (with_reading m) near mark released
      (pending ++ reading_item (recorded_events r limits) x ∷ [])
  reading_merged m near mark released pending x less at is =
      let fed = take m.windows (recorded_windows r) in
      let basics = take m.basics (all_basics r limits) in
      let early = take m.readings (recorded_readings r) in
      let added : List Item = reading_item (recorded_events r limits) x ∷ [] in
      let settled : IsSettled r limits (with_reading m) mark = record {
        windows = at.settled.windows;
        basics = at.settled.basics;
        readings = dropped_more (λ x. mark < x.end) (recorded_readings r) m.readings at.settled.readings;
      } in
      record {
        settled = settled;
        abreast = record {
          windows = at.abreast.windows;
          basics = at.abreast.basics;
          readings = dropped_more (λ x. near ≤ x.end) (recorded_readings r) m.readings at.abreast.readings;
        };
        is_cut = at.is_cut;
        is_pending =
            pending_more mark (known r limits m) (known r limits (with_reading m)) added pending
            (subst (λ xs. IsMoved (known_items r limits fed basics xs) (known r limits m ++ added))
            (sym (taken_more (recorded_readings r) m.readings x is)) (reading_adds fed basics early x))
            (same_until mark m (with_reading m) less at.settled settled) at.is_pending;
      }
