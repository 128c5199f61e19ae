-- At the end of the recording everything is merged, and the events that are open there are known too.
use Rattle.std.proofs.Common.{◌≡◌, ℕ, ◌<◌, ◌≤◌, Bool, List, [], ◌∷◌, ◌++◌, map, filter, take, drop, Option, option_to_list, refl, sym, ◌∙◌, ap, subst, arith}
use Rattle.std.specs.List.{AllByRecursion}
use Rattle.std.proofs.lemmas.List.{append-nil, map-append, append_assoc, take-append-drop}
use Rattle.std.proofs.lemmas.List.Elements.{filter-append}
use Rattle.aggregate.specs.Aggregation.{Basic}
use Rattle.event_detect.specs.declared.event.Event.{Event}
use Rattle.event_detect.specs.declared.kind.Kind.{Kind}
use Rattle.event_detect.specs.declared.limits.Limits.{Limits}
use Rattle.event_detect.specs.VoltageEvent.{ended_events, IsLeftOpen}
use Rattle.freq10s.specs.declared.reading.Reading.{Reading}
use Rattle.interval_ledger.specs.Added.{answered, answered_items}
use Rattle.interval_ledger.specs.Merged.{Merged, all_basics, known_events, known_items, known, IsSettled, IsAtMark}
use Rattle.interval_ledger.proofs.ItemLaws.{ends_until}
use Rattle.interval_ledger.proofs.KnownLaws.{all_right, both_kept, readings_known, basics_known, shorts_known, tens_known, two_hours_known, known_settled}
use Rattle.interval_ledger.proofs.ReleaseLaws.{filters_meet, until_later, cut_released}
use Rattle.interval_ledger.proofs.StepLaws.{joined_two, moved_mapped, pending_more}
use Rattle.interval_ledger.proofs.WindowLaws.{begun_before}
use Rattle.lanes.specs.Lane.{recorded_readings}
use Rattle.polyphase.specs.Poly.{answer_of}
use Rattle.polyphase.specs.PolyphaseEvent.{ChannelWindow, all_polyphase_events, conditions, kinds, polyphase_events}
use Rattle.polyphase.proofs.MovedLaws.{IsMoved, moved_append, moved_back, moved_order, moved_same, moved_trans}
use Rattle.pq_base.specs.Recorded.{Recorded, IsRecording, sample_count}
use Rattle.pq_items.specs.declared.item.Item.{Item}
use Rattle.pq_items.specs.ItemOrder.{item_cmp}
use Rattle.pq_items.specs.ItemTable.{end_of}
use Rattle.pq_items.proofs.OrderLaws.{item_cmp_total, item_cmp_same}
use Rattle.pq_sequence.specs.MeasuredRecording.{channel_count, recorded_events, recorded_windows, shorts_of, tens_of, two_hours_of}
use Rattle.pq_sequence.specs.SequentialResult.{all_items, basic_items, cut, event_item, for_each_channel, items_under, reading_items, sequential, short_item, ten_item, two_hour_item}
use Rattle.pq_words.specs.Sorted.{in_order}
use Rattle.settled_laws.proofs.MovedLaws.{moved_filter}

none_between : (n : ℕ) (xs : List ChannelWindow) → AllByRecursion (λ x. x.window.start < n) xs →
    AllByRecursion (λ x. n ≤ x.window.start) xs → xs ≡ []
none_between n [] h g = refl
none_between n (x ∷ xs) h g = let a = h.0 in let b = g.0 in absurd (omega (arith, a, b))

both_moved : (p : Item → Bool) (xs xs' ys ys' : List Item) → filter p xs ≡ filter p xs' → IsMoved ys ys' →
    IsMoved (filter p (xs ++ ys)) (filter p (xs' ++ ys'))
both_moved p xs xs' ys ys' e h =
    moved_trans (filter p (xs ++ ys)) (filter p xs ++ filter p ys) (filter p (xs' ++ ys'))
    (moved_same (filter p (xs ++ ys)) (filter p xs ++ filter p ys) (filter-append p xs ys))
    (moved_trans (filter p xs ++ filter p ys) (filter p xs' ++ filter p ys') (filter p (xs' ++ ys'))
    (moved_append (filter p xs) (filter p xs') (filter p ys) (filter p ys')
    (moved_same (filter p xs) (filter p xs') e) (moved_filter p ys ys' h))
    (moved_same (filter p xs' ++ filter p ys') (filter p (xs' ++ ys')) (sym (filter-append p xs' ys'))))

module _ (r : Recorded) (limits : Limits) (given : IsRecording r) where
  abbrev IsOpenSo : List ChannelWindow → List (Option Event) → Type 0
  IsOpenSo fed answers = (kind : Kind) →
      IsLeftOpen kind (sample_count r) (conditions kind limits (channel_count r) fed) (answer_of kind answers)

  -- nothing begins at the end
  pub all_windows_in : (m : Merged) →
      AllByRecursion (λ x. sample_count r ≤ x.window.start) (drop m.windows (recorded_windows r)) →
      take m.windows (recorded_windows r) ≡ recorded_windows r
  all_windows_in m late =
      let fed = take m.windows (recorded_windows r) in
      let more = drop m.windows (recorded_windows r) in
      let split : fed ++ more ≡ recorded_windows r = take-append-drop m.windows (recorded_windows r) in
      let begun : AllByRecursion (λ x. x.window.start < sample_count r) (fed ++ more) =
      subst (AllByRecursion (λ x. x.window.start < sample_count r)) (sym split) (begun_before r given) in
      let none : more ≡ [] = none_between (sample_count r) more
      (all_right (λ x. x.window.start < sample_count r) fed more begun) late in
      sym (append-nil fed) ∙ ap (λ ms. fed ++ ms) (sym none) ∙ split

  -- all events are those that have ended and those that are open at the end
  events_finished : (fed : List ChannelWindow) (answers : List (Option Event)) → fed ≡ recorded_windows r →
      IsOpenSo fed answers → IsMoved (recorded_events r limits)
      (known_events r limits fed ++ answered answers)
  unfolding all_polyphase_events
  events_finished fed answers whole open_so =
      let all : List ChannelWindow → List Event =
      all_polyphase_events limits (channel_count r) (sample_count r) in
      moved_trans (all (recorded_windows r)) (all fed) (known_events r limits fed ++ answered answers)
      (moved_same (all (recorded_windows r)) (all fed) (ap all (sym whole)))
      (joined_two (λ kind. polyphase_events kind limits (channel_count r) (sample_count r) fed)
      (λ kind. ended_events kind (conditions kind limits (channel_count r) fed))
      (λ kind. option_to_list (answer_of kind answers)) open_so kinds)

  -- the items that end by the end are those that are known, with the open events
  pub all_known : (m : Merged) (answers : List (Option Event)) → IsSettled r limits m (sample_count r) →
      IsOpenSo (take m.windows (recorded_windows r)) answers →
      IsMoved (filter (ends_until (sample_count r)) (all_items r limits))
      (filter (ends_until (sample_count r)) (known r limits m ++ answered_items r answers))
  unfolding items_under known_items
  all_known m answers settled open_so =
      let n = sample_count r in
      let p = ends_until n in
      let fed = take m.windows (recorded_windows r) in
      let core = take m.basics (all_basics r limits) in
      let later = drop m.basics (all_basics r limits) in
      let early = take m.readings (recorded_readings r) in
      let at_basics = sym (take-append-drop m.basics (all_basics r limits)) in
      let at_readings = sym (take-append-drop m.readings (recorded_readings r)) in
      let made = event_item r in
      let front : List Reading → List Basic → List Item = λ xs bs.
      reading_items (recorded_events r limits) xs
      ++ basic_items r bs
      ++ for_each_channel r (short_item r) (shorts_of r bs)
      ++ for_each_channel r (ten_item r) (tens_of r bs)
      ++ for_each_channel r (two_hour_item r) (two_hours_of r (tens_of r bs)) in
      let whole = front (recorded_readings r) (all_basics r limits) in
      let fronts_same : filter p whole ≡ filter p (front early core) =
      both_kept p _ _ _ _ (both_kept p _ _ _ _ (both_kept p _ _ _ _ (both_kept p _ _ _ _
      (readings_known r limits n given early (drop m.readings (recorded_readings r)) at_readings
      settled.readings)
      (basics_known r limits n given core later at_basics settled.basics))
      (shorts_known r limits n given core later at_basics settled.basics))
      (tens_known r limits n given core later at_basics settled.basics))
      (two_hours_known r limits n given core later at_basics settled.basics) in
      let ended = known_events r limits fed in
      let left = answered answers in
      let events_same : IsMoved (map made (recorded_events r limits)) (map made ended ++ map made left) =
      moved_trans (map made (recorded_events r limits)) (map made (ended ++ left))
      (map made ended ++ map made left)
      (moved_mapped made (recorded_events r limits) (ended ++ left)
      (events_finished fed answers (all_windows_in m settled.windows) open_so))
      (moved_same (map made (ended ++ left)) (map made ended ++ map made left) (map-append made ended left))
      in
      moved_trans (filter p (whole ++ map made (recorded_events r limits)))
      (filter p (front early core ++ (map made ended ++ map made left)))
      (filter p ((front early core ++ map made ended) ++ map made left))
      (both_moved p whole (front early core) (map made (recorded_events r limits))
      (map made ended ++ map made left) fronts_same events_same)
      (moved_same _ _ (ap (filter p)
      (sym (append_assoc (front early core) (map made ended) (map made left)))))

  -- the last step of the mark: the open events are pending too, and what is pending and ends by the end
  -- counts
  -- as released
  pub mark_ends : (m : Merged) (near mark : ℕ) (released pending : List Item) (answers : List (Option Event))
      →
      mark < sample_count r → IsAtMark r limits m near mark released pending →
      IsSettled r limits m (sample_count r) → IsOpenSo (take m.windows (recorded_windows r)) answers →
      released ++ filter (ends_until (sample_count r))
      (in_order item_cmp (pending ++ answered_items r answers))
      ≡ cut (sample_count r) (sequential r limits)
  unfolding sequential
  mark_ends m near mark released pending answers less at settled open_so =
      let n = sample_count r in
      let p = ends_until n in
      let q = ends_until mark in
      let before = known r limits m in
      let left = answered_items r answers in
      let items = all_items r limits in
      let told = all_known m answers settled open_so in
      let sub : (i : Item) → q i ≡ _ → p i ≡ _ = λ i h.
      until_later (end_of i) mark n (omega (arith, less)) h in
      let low : IsMoved (filter q (before ++ left)) (filter q before) =
      moved_trans (filter q (before ++ left)) (filter q (filter p (before ++ left))) (filter q before)
      (moved_same _ _ (sym (filters_meet q p sub (before ++ left))))
      (moved_trans (filter q (filter p (before ++ left))) (filter q (filter p items)) (filter q before)
      (moved_filter q (filter p (before ++ left)) (filter p items)
      (moved_back (filter p items) (filter p (before ++ left)) told))
      (moved_same _ _
      (filters_meet q p sub items ∙ known_settled r limits mark given m less at.settled))) in
      ap (λ xs. xs ++ filter p (in_order item_cmp (pending ++ left))) at.is_cut
      ∙ sym (cut_released mark n (omega (arith, less)) items (before ++ left) (pending ++ left)
      (pending_more mark before (before ++ left) left pending
      (moved_same (before ++ left) (before ++ left) refl) low at.is_pending)
      (moved_order item_cmp item_cmp_total item_cmp_same (filter p items) (filter p (before ++ left)) told))
