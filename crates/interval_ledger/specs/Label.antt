-- What contracts say of items, as they are put with those that wait.
use Rattle.std.specs.Prelude.{◌≡◌, ℕ, ◌+◌, ◌*◌, ◌≤◌, Bool, List, ◌++◌, length}
use Rattle.aggregate.specs.declared.group.Group.{Group}
use Rattle.aggregate.specs.declared.group.Out.{Out}
use Rattle.aggregate.specs.Aggregation.{Part}
use Rattle.aggregate.specs.BasicOrder.{basic_of}
use Rattle.freq10s.specs.declared.reading.Reading.{Reading}
use Rattle.interval_ledger.specs.Added.{completed_items}
use Rattle.interval_ledger.specs.Outbox.{Outgoing}
use Rattle.pq_base.specs.Recorded.{Recorded}
use Rattle.pq_items.specs.declared.item.Item.{Item}
use Rattle.pq_items.specs.declared.item.Item.TheVariants as item
use Rattle.pq_sequence.specs.declared.items.Length.{Length}
use Rattle.pq_sequence.specs.Measured.{group_item}
use Rattle.pq_sequence.specs.SequentialResult.{basic_item, channel_items, for_each_channel}
use Rattle.ten_twelve.specs.declared.span.Span.{Span}

-- a frequency reading as an item, with its flag
abbrev pub frequency_item : Reading → Bool → Item
frequency_item g flagged = item.Frequency g.tick g.start g.end g.cycles g.microhertz flagged

-- these items are pending too, at most so much of the room is taken, and what is released stays
pub record Adds (most : ℕ) (old new : Outgoing) (items : List Item) : Type 0 where
  pub released_same : new.released ≡ old.released
  pub pending_more : new.pending ≡ old.pending ++ items
  pub room_left : old.room ≤ new.room + most

-- so are a basic interval, an aggregated interval of a length, or several, as items, one a channel
abbrev pub AddsPart : Recorded → Part → Outgoing → Outgoing → Type 0
AddsPart r part old new = Adds (length r.numbers) old new (channel_items r (basic_item r part))

abbrev pub AddsGroup : Length → Recorded → Group → Outgoing → Outgoing → Type 0
AddsGroup long r group old new =
    Adds (length r.numbers) old new (channel_items r (group_item long r group))

abbrev pub AddsGroups : Length → Recorded → List Group → Outgoing → Outgoing → Type 0
AddsGroups long r groups old new =
    Adds (length r.numbers) old new (for_each_channel r (group_item long r) groups)

-- so are a basic interval and the intervals that it completes
abbrev pub AddsCompleted : Recorded → Span → List ℕ → Bool → Out → Outgoing → Outgoing → Type 0
AddsCompleted r span values flagged out old new = (front : Bool) →
    Adds (4 * length r.numbers) old new (completed_items r (basic_of front span values flagged) out)
