-- What contracts see of a ledger: what it is about, how many items of each lane are posted, the mark, up to
-- which the sequential result is released, and how many items of all lanes are merged. All of it is profile.
use Rattle.std.specs.Prelude.{◌≡◌, ℕ, ◌+◌, ◌≤◌, List, length, Some, slice_get}
use Rattle.interval_ledger.specs.declared.ledger.Ledger.{Ledger}
use Rattle.interval_ledger.specs.declared.subject.Subject.{Subject}
use Rattle.interval_ledger.specs.Settlement.{IsMergedWithin, SettlementView, posted_count, settled_items, with_posts}
use Rattle.lanes.specs.declared.lane_item.LaneItem.{LaneItem}
use Rattle.lanes.specs.Lane.{IsWithinReaches, lane_count, lane_items, reach}
use Rattle.pq_items.specs.declared.item.Item.{Item}

abbrev pub view_of : Ledger → SettlementView
view_of l = l.settlement

-- the recording and the limits, after which it is named
abbrev pub subject_of : Ledger → Subject
subject_of l = record { recording = (view_of l).recording; limits = (view_of l).limits }

-- how many lanes there are
abbrev pub lanes_of : Ledger → ℕ
lanes_of l = lane_count (view_of l).recording

-- how many items of a lane are posted, and how far these settle it
abbrev pub count_of : Ledger → ℕ → ℕ
count_of l lane = posted_count (view_of l) lane

abbrev pub reach_of : Ledger → ℕ → ℕ
reach_of l lane = reach (view_of l).recording lane (count_of l lane)

-- the place up to which the result is released, and what is released: the part of the sequential result that
-- ends by it
abbrev pub mark_of : Ledger → ℕ
mark_of l = (view_of l).mark

abbrev pub released_of : Ledger → List Item
released_of l = settled_items (view_of l)

-- how many items of all lanes are merged, which is what makes them known
abbrev pub merged_of : Ledger → ℕ
merged_of l = (view_of l).merged

-- the item is the lane's next
abbrev pub IsNextItem : Ledger → ℕ → LaneItem → Type 0
IsNextItem l lane item = slice_get (lane_items (view_of l).recording lane) (count_of l lane) ≡ Some item

-- the items are the lane's next, in order
abbrev pub AreNextItems : Ledger → ℕ → List LaneItem → Type 0
AreNextItems l lane items = (k : ℕ) (item : LaneItem) → slice_get items k ≡ Some item →
    slice_get (lane_items (view_of l).recording lane) (count_of l lane + k) ≡ Some item

-- a place is within the reach of each lane
abbrev pub IsReached : Ledger → ℕ → Type 0
IsReached l w = IsWithinReaches (view_of l).recording (view_of l).counts w

-- so many items of the lane more are posted, and all else is the same
abbrev pub PostsMany : Ledger → Ledger → ℕ → ℕ → Type 0
PostsMany old new lane many = view_of new ≡ with_posts (view_of old) lane many

abbrev pub PostsOne : Ledger → Ledger → ℕ → Type 0
PostsOne old new lane = PostsMany old new lane 1

-- nothing but the mark, and what is released by it, is another
pub record KeepsCounts (old new : Ledger) : Type 0 where
  pub subject_same : subject_of new ≡ subject_of old
  pub counts_same : (view_of new).counts ≡ (view_of old).counts

-- no item less is merged: at least as many as the mark needs, and at most those that are posted
pub record MergesOn (old new : Ledger) : Type 0 where
  pub rises : merged_of old ≤ merged_of new
  pub within : IsMergedWithin (view_of new)

-- a tick at most for each newly merged item and for each newly released one, and one more
abbrev pub TicksAtMost : ℕ → ℕ → Ledger → Ledger → Type 0
TicksAtMost before after old new =
    after + (merged_of old + length (released_of old))
    ≤ before + (merged_of new + length (released_of new)) + 1
