-- What contracts see of what is known: the items that are released or wait, and what finds the next of them.
use Rattle.std.specs.Prelude.{◌≡◌, ℕ, ◌+◌, ◌<◌, ◌≤◌, max, [], ◌∷◌, ◌++◌, length, take, drop, Some, slice_get}
use Rattle.std.specs.List.{AllByRecursion, list_any}
use Rattle.aggregate.specs.Aggregation.{Basic}
use Rattle.aggregate.specs.BasicOrder.{AreBasics}
use Rattle.aggregate.specs.Aggregator.{AggregatorView, HasSeen as HasSeenBasics, HasSetting as HasSettingOfBasics}
use Rattle.event_detect.specs.declared.limits.Limits.{Limits}
use Rattle.event_detect.specs.Flag.{is_touched}
use Rattle.freq10s.specs.declared.reading.Reading.{Reading}
use Rattle.interval_ledger.specs.Added.{with_basic, with_reading, with_window}
use Rattle.interval_ledger.specs.Merged.{IsAtMark, IsSettled, Merged, all_basics}
use Rattle.interval_ledger.specs.Outbox.{Outgoing}
use Rattle.interval_ledger.specs.Watch.{HasSeen, HasSetting, WatchView}
use Rattle.lanes.specs.Lane.{recorded_readings}
use Rattle.polyphase.specs.PolyphaseEvent.{ChannelWindow, kinds}
use Rattle.pq_base.specs.Recorded.{IsRecording, Recorded, sample_count}
use Rattle.pq_sequence.specs.MeasuredRecording.{channel_count, clock_of, recorded_events, recorded_windows}
use Rattle.pq_sequence.specs.SequentialResult.{cut, sequential}
use Rattle.settled_laws.specs.Touch.{touches_now}

pub record KnownView : Type 0 where
  pub recording : Recorded
  pub limits : Limits
  pub watch : WatchView
  pub aggregator : AggregatorView
  pub outbox : Outgoing

-- with so many windows, basic intervals and readings merged, at a mark below the end
pub record IsKnown (k : KnownView) (m : Merged) (near mark : ℕ) : Type 0 where
  pub at : IsAtMark k.recording k.limits m near mark k.outbox.released k.outbox.pending
  pub seen : HasSeen k.watch (take m.windows (recorded_windows k.recording))
  pub watching : HasSetting k.watch (channel_count k.recording) k.limits
  pub fed : HasSeenBasics k.aggregator (take m.basics (all_basics k.recording k.limits))
  pub grouping : HasSettingOfBasics k.aggregator (clock_of k.recording) (sample_count k.recording)
      (channel_count k.recording)

-- nothing is merged, released or pending
pub record IsOpened (r : Recorded) (limits : Limits) (k : KnownView) : Type 0 where
  pub recording_is : k.recording ≡ r
  pub limits_are : k.limits ≡ limits
  pub seen : HasSeen k.watch []
  pub watching : HasSetting k.watch (channel_count r) limits
  pub fed : HasSeenBasics k.aggregator []
  pub grouping : HasSettingOfBasics k.aggregator (clock_of r) (sample_count r) (channel_count r)
  pub none_released : k.outbox.released ≡ []
  pub none_pending : k.outbox.pending ≡ []

-- nothing changed but how much room there is
pub record KeepsKnown (old new : KnownView) : Type 0 where
  pub recording_same : new.recording ≡ old.recording
  pub limits_same : new.limits ≡ old.limits
  pub watch_same : new.watch ≡ old.watch
  pub aggregator_same : new.aggregator ≡ old.aggregator
  pub released_same : new.outbox.released ≡ old.outbox.released
  pub pending_same : new.outbox.pending ≡ old.outbox.pending

-- the window is the next of the merged ones, and each basic interval and reading to come ends after its start
pub record IsNextWindow (r : Recorded) (limits : Limits) (m : Merged) (x : ChannelWindow) : Type 0 where
  pub is_next : slice_get (recorded_windows r) m.windows ≡ Some x
  pub basics : AllByRecursion (λ b. x.window.start < b.part.end) (drop m.basics (all_basics r limits))
  pub readings : AllByRecursion (λ y. x.window.start < y.end) (drop m.readings (recorded_readings r))

-- whatever was merged, where the window is the next, it is merged too
abbrev pub AddsWindow : KnownView → KnownView → ChannelWindow → Type 0
AddsWindow old new x = (m : Merged) (near mark : ℕ) → IsRecording old.recording →
    mark < sample_count old.recording → IsKnown old m near mark →
    IsNextWindow old.recording old.limits m x →
    IsKnown new (with_window m) (max near (x.window.start + 1)) mark

-- a span is touched where the merged windows tell so
abbrev pub IsToldNow : Recorded → Limits → Merged → ℕ → ℕ → Type 0
IsToldNow r limits m start end = is_touched (recorded_events r limits) start end
    ≡ list_any (λ kind. touches_now kind limits (channel_count r) start
    (take m.windows (recorded_windows r))) kinds

-- whatever was merged, where the reading is the next and its flag is told, it is merged too
abbrev pub AddsReading : KnownView → KnownView → Reading → Type 0
AddsReading old new x = (m : Merged) (near mark : ℕ) → IsRecording old.recording →
    mark < sample_count old.recording → IsKnown old m near mark →
    slice_get (recorded_readings old.recording) m.readings ≡ Some x →
    IsToldNow old.recording old.limits m x.start x.end →
    IsKnown new (with_reading m) near mark

-- the basic intervals that are merged, and one more, come in order
abbrev pub AreInOrder : Recorded → Limits → Merged → Basic → Type 0
AreInOrder r limits m b = AreBasics (clock_of r) (sample_count r) (channel_count r)
    (take m.basics (all_basics r limits) ++ b ∷ [])

-- whatever was merged, where the basic interval is the next, it is merged too
abbrev pub AddsBasic : KnownView → KnownView → Basic → Type 0
AddsBasic old new b = (m : Merged) (near mark : ℕ) → IsRecording old.recording →
    mark < sample_count old.recording → IsKnown old m near mark →
    slice_get (all_basics old.recording old.limits) m.basics ≡ Some b →
    AreInOrder old.recording old.limits m b → IsKnown new (with_basic m) near mark

-- whatever was merged, where that settles a place below the end, the mark is there
abbrev pub MovesMark : ℕ → KnownView → KnownView → Type 0
MovesMark w old new = (m : Merged) (near mark : ℕ) → IsRecording old.recording → mark ≤ w →
    w < sample_count old.recording → IsKnown old m near mark →
    IsSettled old.recording old.limits m w → IsKnown new m near w

-- whatever was merged, where that settles the end, everything is released
abbrev pub Ends : KnownView → KnownView → Type 0
Ends old new = (m : Merged) (near mark : ℕ) → IsRecording old.recording →
    mark < sample_count old.recording → IsKnown old m near mark →
    IsSettled old.recording old.limits m (sample_count old.recording) →
    new.outbox.released ≡ cut (sample_count old.recording) (sequential old.recording old.limits)

-- so many steps more as items more are released
abbrev pub TicksReleased : ℕ → ℕ → KnownView → KnownView → Type 0
TicksReleased before after old new =
    after + length old.outbox.released ≡ before + length new.outbox.released

-- the recording and the limits stay
pub record KeepsName (old new : KnownView) : Type 0 where
  pub recording_same : new.recording ≡ old.recording
  pub limits_same : new.limits ≡ old.limits
