-- What is known, after one more window or reading, and after a move of the mark.
use Rattle.std.proofs.Common.{◌≡◌, ℕ, ◌+◌, max, Bool, List, [], ◌∷◌, ◌++◌, filter, take, Option, None, refl, sym, ◌∙◌, ap, subst, append-nil, arith}
use Rattle.std.specs.List.{list_any}
use Rattle.aggregate.specs.declared.group.Out.{Out}
use Rattle.aggregate.specs.Aggregation.{Basic}
use Rattle.aggregate.specs.Aggregator.{AggregatorView, Completes, HasSeen as HasSeenBasics, KeepsSetting, SeesMore as SeesMoreBasics}
use Rattle.event_detect.specs.declared.event.Event.{Event}
use Rattle.event_detect.specs.declared.limits.Limits.{Limits}
use Rattle.freq10s.specs.declared.reading.Reading.{Reading}
use Rattle.interval_ledger.specs.Added.{answered_items, completed_items, with_basic, with_window, with_reading}
use Rattle.interval_ledger.specs.Known.{AddsBasic, AddsReading, AddsWindow, Ends, KnownView, MovesMark}
use Rattle.interval_ledger.specs.Label.{Adds}
use Rattle.interval_ledger.specs.Merged.{IsAtMark, Merged, all_basics}
use Rattle.interval_ledger.specs.Outbox.{Outgoing, Releases, is_due}
use Rattle.interval_ledger.specs.Watch.{HasSeen, HasSetting, Passes, SeesMore, TellsTouch, WatchView}
use Rattle.interval_ledger.proofs.FedLaws.{completed_so, ends_so, leaves_so, may_feed}
use Rattle.interval_ledger.proofs.FinishLaws.{mark_ends}
use Rattle.interval_ledger.proofs.ReleaseLaws.{mark_moves}
use Rattle.interval_ledger.proofs.StepLaws.{basic_merged, reading_merged, taken_more, window_merged}
use Rattle.polyphase.specs.Poly.{Ends as PolyEnds, LeavesOpen}
use Rattle.polyphase.specs.PolyphaseEvent.{ChannelWindow, kinds}
use Rattle.pq_base.specs.Recorded.{Recorded, sample_count}
use Rattle.pq_items.specs.declared.item.Item.{Item}
use Rattle.pq_items.specs.declared.item.Item.TheVariants.{Frequency}
use Rattle.pq_items.specs.ItemOrder.{item_cmp}
use Rattle.pq_words.specs.Sorted.{in_order}
use Rattle.pq_sequence.specs.MeasuredRecording.{channel_count, recorded_windows}
use Rattle.settled_laws.specs.Touch.{touches_now}

-- the lists of an outbox, seen otherwise
at_lists : (r : Recorded) (limits : Limits) (m : Merged) (near mark : ℕ)
    (released pending released' pending' : List Item) → released' ≡ released → pending' ≡ pending →
    IsAtMark r limits m near mark released pending → IsAtMark r limits m near mark released' pending'
at_lists r limits m near mark released pending released' pending' e f at =
    subst (λ xs. IsAtMark r limits m near mark released' xs) (sym f)
    (subst (λ xs. IsAtMark r limits m near mark xs pending) (sym e) at)

-- a watch took one more window, and the events that it ended wait too
pub window_known : (old : KnownView) (watch : WatchView) (room out : Outgoing) (x : ChannelWindow)
    (answers : List (Option Event)) → room.released ≡ old.outbox.released →
    room.pending ≡ old.outbox.pending → PolyEnds old.watch.poly x answers → SeesMore old.watch watch x →
    HasSetting watch old.watch.poly.channels old.watch.poly.limits →
    Adds 3 room out (answered_items old.recording answers) →
    AddsWindow old (record old { watch = watch; outbox = out }) x
window_known old watch room out x answers same_released same_pending ends more setting adds m near mark given
    less known next =
    let r = old.recording in
    let limits = old.limits in
    let fed = take m.windows (recorded_windows r) in
    record {
      at = at_lists r limits (with_window m) (max near (x.window.start + 1)) mark old.outbox.released
          (old.outbox.pending ++ answered_items r answers) out.released out.pending
          (adds.released_same ∙ same_released)
          (adds.pending_more ∙ ap (λ xs. xs ++ answered_items r answers) same_pending)
          (window_merged r limits given m near mark old.outbox.released old.outbox.pending x answers less
          known.at next.is_next
          (ends_so old.watch.poly limits (channel_count r) fed x answers known.seen.poly
          known.watching.limits_same known.watching.channels_same ends)
          next.basics next.readings);
      seen = subst (HasSeen watch) (sym (taken_more (recorded_windows r) m.windows x next.is_next))
          (more fed known.seen);
      watching = record {
        channels_same = setting.channels_same ∙ known.watching.channels_same;
        limits_same = setting.limits_same ∙ known.watching.limits_same;
      };
      fed = known.fed;
      grouping = known.grouping;
    }

-- a watch took one more window that ended no event
pub passed_known : (old : KnownView) (watch : WatchView) (x : ChannelWindow) → Passes old.watch watch x →
    HasSetting watch old.watch.poly.channels old.watch.poly.limits →
    AddsWindow old (record old { watch = watch }) x
passed_known old watch x passed setting =
    window_known old watch old.outbox old.outbox x (None ∷ None ∷ None ∷ []) refl refl passed.ends passed.sees
    setting record {
      released_same = refl;
      pending_more = sym (append-nil old.outbox.pending);
      room_left = omega arith;
    }

-- a reading waits too, with the flag that the watch tells
pub reading_known : (old : KnownView) (room out : Outgoing) (x : Reading) (flagged : Bool) →
    room.released ≡ old.outbox.released → room.pending ≡ old.outbox.pending →
    TellsTouch old.watch x.start flagged →
    Adds 1 room out (Frequency x.tick x.start x.end x.cycles x.microhertz flagged ∷ []) →
    AddsReading old (record old { outbox = out }) x
reading_known old room out x flagged same_released same_pending tells adds m near mark given less known next
    told =
    let r = old.recording in
    let limits = old.limits in
    let fed = take m.windows (recorded_windows r) in
    let touched : Limits → ℕ → Bool =
    λ l n. list_any (λ kind. touches_now kind l n x.start fed) kinds in
    let flag = tells fed known.seen
    ∙ ap (λ l. touched l old.watch.poly.channels) known.watching.limits_same
    ∙ ap (touched limits) known.watching.channels_same
    ∙ sym told in
    record {
      at = at_lists r limits (with_reading m) near mark old.outbox.released _ out.released out.pending
          (adds.released_same ∙ same_released)
          (adds.pending_more
          ∙ ap (λ xs. xs ++ Frequency x.tick x.start x.end x.cycles x.microhertz flagged ∷ []) same_pending
          ∙ ap (λ b. old.outbox.pending ++ Frequency x.tick x.start x.end x.cycles x.microhertz b ∷ []) flag)
          (reading_merged r limits given m near mark old.outbox.released old.outbox.pending x less known.at
          next);
      seen = known.seen;
      watching = known.watching;
      fed = known.fed;
      grouping = known.grouping;
    }

-- the mark moves, and what ends by it is released
pub mark_known : (old : KnownView) (out : Outgoing) (w : ℕ) → Releases w old.outbox out →
    MovesMark w old (record old { outbox = out })
mark_known old out w releases m near mark given more less known settled =
    let r = old.recording in
    let limits = old.limits in
    record {
      at = at_lists r limits m near w _ _ out.released out.pending releases.released releases.pending
          (mark_moves r limits m near mark w old.outbox.released old.outbox.pending given more less known.at
          settled);
      seen = known.seen;
      watching = known.watching;
      fed = known.fed;
      grouping = known.grouping;
    }

-- a basic interval waits too, and what it completes
pub basic_known : (old : KnownView) (aggregator : AggregatorView) (room out : Outgoing) (b : Basic) (o : Out)
    (most : ℕ) → room.released ≡ old.outbox.released → room.pending ≡ old.outbox.pending →
    Completes old.aggregator b o → SeesMoreBasics old.aggregator aggregator b →
    KeepsSetting old.aggregator aggregator → Adds most room out (completed_items old.recording b o) →
    AddsBasic old (record old { aggregator = aggregator; outbox = out }) b
basic_known old aggregator room out b o most same_released same_pending completes more keeps adds m near mark
    given less known next are =
    let r = old.recording in
    let limits = old.limits in
    let fed = take m.basics (all_basics r limits) in
    record {
      at = at_lists r limits (with_basic m) near mark old.outbox.released
          (old.outbox.pending ++ completed_items r b o) out.released out.pending
          (adds.released_same ∙ same_released)
          (adds.pending_more ∙ ap (λ xs. xs ++ completed_items r b o) same_pending)
          (basic_merged r limits given m near mark old.outbox.released old.outbox.pending b o less known.at
          next
          (completed_so old.aggregator r known.grouping fed b o known.fed are completes));
      seen = known.seen;
      watching = known.watching;
      fed = subst (HasSeenBasics aggregator) (sym (taken_more (all_basics r limits) m.basics b next))
          (more fed known.fed (may_feed old.aggregator r known.grouping (fed ++ b ∷ []) are));
      grouping = record {
        clock_is = keeps.same_clock ∙ known.grouping.clock_is;
        samples_are = keeps.same_samples ∙ known.grouping.samples_are;
        channels_are = keeps.same_channels ∙ known.grouping.channels_are;
      };
    }

-- the events that are left open wait too, and everything is released
pub end_known : (old : KnownView) (watch : WatchView) (n : ℕ) (room mid out : Outgoing)
    (answers : List (Option Event)) → n ≡ sample_count old.recording →
    room.released ≡ old.outbox.released → room.pending ≡ old.outbox.pending →
    LeavesOpen old.watch.poly n answers → Adds 3 room mid (answered_items old.recording answers) →
    Releases n mid out → Ends old (record old { watch = watch; outbox = out })
end_known old watch n room mid out answers is_end same_released same_pending leaves adds releases m near mark
    given less known settled =
    let r = old.recording in
    let limits = old.limits in
    let fed = take m.windows (recorded_windows r) in
    let added = answered_items r answers in
    let before = old.outbox.released in
    let waiting = old.outbox.pending ++ added in
    releases.released
    ∙ ap (λ xs. xs ++ filter (is_due n) (in_order item_cmp mid.pending)) (adds.released_same ∙ same_released)
    ∙ ap (λ xs. before ++ filter (is_due n) (in_order item_cmp xs))
    (adds.pending_more ∙ ap (λ xs. xs ++ added) same_pending)
    ∙ ap (λ k. before ++ filter (is_due k) (in_order item_cmp waiting)) is_end
    ∙ mark_ends r limits given m near mark before old.outbox.pending answers less known.at settled
    (leaves_so old.watch.poly limits (channel_count r) (sample_count r) fed answers known.seen.poly
    known.watching.limits_same known.watching.channels_same
    (subst (λ k. LeavesOpen old.watch.poly k answers) is_end leaves))
