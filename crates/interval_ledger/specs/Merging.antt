-- What contracts see of merging: what is posted, how much of it is merged, and what is known by that. All of
-- it is profile.
use Rattle.std.specs.Prelude.{◌≡◌, ◌⊎◌, ℕ, ◌+◌, ◌-◌, ◌^◌, ◌<◌, ◌≤◌, List, [], ◌∷◌, length, map, take, sum, sum_by, Option, None, Some, slice_get, slice_set, option_and_then}
use Rattle.std.specs.Option.{option_map_or}
use Rattle.aggregate.specs.Aggregation.{Basic}
use Rattle.event_detect.specs.declared.window.Window.{Window}
use Rattle.interval_ledger.specs.declared.merging.Merging.{Merging}
use Rattle.interval_ledger.specs.declared.next_due.Due.{Due}
use Rattle.interval_ledger.specs.Channel.{ChannelView, first_starts, with_merged}
use Rattle.interval_ledger.specs.Earliest.{NoneBelow}
use Rattle.interval_ledger.specs.Heads.{HeadsArePosted, heads_of}
use Rattle.interval_ledger.specs.Known.{IsKnown}
use Rattle.interval_ledger.specs.Left.{IsLeft}
use Rattle.interval_ledger.specs.Merged.{Merged, all_basics}
use Rattle.interval_ledger.specs.NextDue.{IsNextDue}
use Rattle.interval_ledger.specs.Posted.{ArePosted, AreWithinReach, due_end, merged_of}
use Rattle.interval_ledger.specs.Settlement.{needed_items}
use Rattle.pq_base.specs.Recorded.{IsRecording, sample_count}
use Rattle.pq_sequence.specs.MeasuredRecording.{recorded_places}
use Rattle.pq_sequence.specs.SequentialResult.{cut, sequential}

-- where the last of some basic intervals begins, or the one before them, if there is one
abbrev pub start_after : Option ℕ → List Basic → Option ℕ
start_after before [] = before
start_after before (b ∷ later) = start_after (Some b.part.start) later

abbrev pub latest_start : List Basic → Option ℕ
latest_start basics = start_after None basics

-- so many windows are merged, with the basic intervals and the readings that are
abbrev pub merged_by : Merging → ℕ → Merged
merged_by s windows = record { windows = windows; basics = s.basics_merged; readings = s.readings_merged }

-- what is posted is of a recording
pub record HasPosted (s : Merging) : Type 0 where
  pub given : IsRecording s.known.recording
  pub samples_are : s.samples ≡ sample_count s.known.recording
  pub posted : ArePosted s.known.recording s.channels.items s.readings.items

-- of each lane no more is merged than is posted
abbrev pub HasHeads : Merging → Type 0
HasHeads s = HeadsArePosted s.channels.items s.readings.items s.basics_merged s.readings_merged

-- how many items of all lanes are merged
abbrev pub merged_items : Merging → ℕ
merged_items s = sum (heads_of s.channels.items s.basics_merged s.readings_merged)

-- at a mark below the end: what is known is of what is merged, and what is left is of what is not
pub record IsMerging (s : Merging) : Type 0 where
  pub windows : ℕ
  pub near : ℕ
  pub below : s.mark < s.samples
  pub known : IsKnown s.known (merged_by s windows) near s.mark
  pub left : IsLeft s.known.recording windows (merged_of s.channels.items)
  pub places : s.segments.places ≡ recorded_places s.known.recording
  pub before : s.segments.before
      ≡ latest_start (take s.basics_merged (all_basics s.known.recording s.known.limits))
  pub heads : HasHeads s

-- at the end: what is released is the whole result, and all that it needs is merged
pub record HasEnded (s : Merging) : Type 0 where
  pub at_end : s.mark ≡ s.samples
  pub is_cut : s.known.outbox.released ≡ cut s.mark (sequential s.known.recording s.known.limits)
  pub heads : HasHeads s
  pub needed : needed_items s.known.recording s.mark ≤ merged_items s

-- what is released is the cut at the mark, and the rest can be merged
pub record HoldsCut (s : Merging) : Type 0 where
  pub posted : HasPosted s
  pub at : IsMerging s ⊎ HasEnded s

-- what is posted stays, and the recording and the limits
pub record KeepsPosted (old new : Merging) : Type 0 where
  pub samples_same : new.samples ≡ old.samples
  pub recording_same : new.known.recording ≡ old.known.recording
  pub limits_same : new.known.limits ≡ old.known.limits
  pub values_same : map (λ c. c.values) new.channels.items ≡ map (λ c. c.values) old.channels.items
  pub windows_same : map (λ c. c.windows) new.channels.items ≡ map (λ c. c.windows) old.channels.items
  pub readings_same : new.readings ≡ old.readings

-- so does the mark
pub record KeepsMark (old new : Merging) : Type 0 where
  pub posted : KeepsPosted old new
  pub mark_same : new.mark ≡ old.mark

-- so do the basic intervals and readings that are merged, and the mark
pub record MergesWindows (old new : Merging) : Type 0 where
  pub posted : KeepsPosted old new
  pub basics_same : new.basics_merged ≡ old.basics_merged
  pub readings_same : new.readings_merged ≡ old.readings_merged
  pub mark_same : new.mark ≡ old.mark

-- a place is within the reach of each lane
abbrev pub IsWithinReach : Merging → ℕ → Type 0
IsWithinReach s w = AreWithinReach s.known.recording s.channels.items s.readings.items w

-- what is due next of basic intervals and readings, up to a place within the reaches
pub record IsDue (s : Merging) (w : ℕ) (due : Option Due) : Type 0 where
  pub within : IsWithinReach s w
  pub small : w < 2 ^ 64
  pub next : IsNextDue s.channels.items s.basics_merged s.readings.items s.readings_merged w due

-- no window is left that begins before a place
abbrev pub NoneBefore : Merging → ℕ → Type 0
NoneBefore s until = NoneBelow (first_starts s.channels.items) until

-- the basic interval or reading is due next, up to some place
pub record IsNext (s : Merging) (due : Due) : Type 0 where
  pub w : ℕ
  pub is_due : IsDue s w (Some due)

-- nothing is left that ends by a place, nor a window that begins before it
pub record HasMerged (s : Merging) (w : ℕ) : Type 0 where
  pub is_due : IsDue s w None
  pub none : NoneBefore s w

-- windows that begin before a place may be merged: what is due next ends there
pub record MayMergeUntil (s : Merging) (until : ℕ) : Type 0 where
  pub w : ℕ
  pub due : Option Due
  pub is_due : IsDue s w due
  pub ends : until ≡ due_end w due

-- how many windows that are posted are left, of a channel and of all
abbrev pub left_of : ChannelView → ℕ
left_of c = length c.windows.items - c.merged

abbrev pub count_left : Merging → ℕ
count_left s = sum_by left_of s.channels.items

-- the first window that is left of the channel at a position
abbrev pub first_left : List ChannelView → ℕ → Option Window
first_left channels position =
    option_and_then (λ (c : ChannelView). slice_get c.windows.items c.merged) (slice_get channels position)

-- it counts as merged, and no other
abbrev pub TakesWindow : List ChannelView → List ChannelView → ℕ → Type 0
TakesWindow old new position = (c : ChannelView) → slice_get old position ≡ Some c →
    new ≡ slice_set old position (with_merged c)

-- how many basic intervals and readings that are posted are left, by the first channel
abbrev pub due_left : Merging → ℕ
due_left s =
    option_map_or (λ (c : ChannelView). length c.values.items) (slice_get s.channels.items 0) 0
    - s.basics_merged
    + (length s.readings.items - s.readings_merged)

-- no item less is merged, and there are no more steps than items more
pub record MergesItems (before after : ℕ) (old new : Merging) : Type 0 where
  pub rises : merged_items old ≤ merged_items new
  pub ticks : after + merged_items old ≤ before + merged_items new

-- how many items are merged or released
abbrev pub merging_done : Merging → ℕ
merging_done s = merged_items s + length s.known.outbox.released

-- no item less is merged, and there are at most as many steps as items more that are merged or released, and
-- so many more
pub record DoesItems (spare before after : ℕ) (old new : Merging) : Type 0 where
  pub rises : merged_items old ≤ merged_items new
  pub ticks : after + merging_done old ≤ before + merging_done new + spare
