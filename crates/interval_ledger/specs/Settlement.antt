-- What contracts see of a settlement: what it is about, how many items of each lane are posted, up to which
-- place the result is settled, and how many items of all lanes are merged. All of it is profile.
use Rattle.std.specs.Prelude.{◌≡◌, ℕ, ◌+◌, ◌<◌, ◌≤◌, List, length, replicate, slice_index, slice_set, sum, sum_by}
use Rattle.event_detect.specs.declared.limits.Limits.{Limits}
use Rattle.lanes.specs.Lane.{IsWithinReaches, lane_count, lane_items, need}
use Rattle.pq_base.specs.Recorded.{IsRecording, Recorded}
use Rattle.pq_items.specs.declared.item.Item.{Item}
use Rattle.pq_sequence.specs.SequentialResult.{cut, sequential}
use Rattle.pq_words.specs.Steps.{numbers_below}

pub record SettlementView : Type 0 where
  pub recording : Recorded
  pub limits : Limits
  pub counts : List ℕ
  pub mark : ℕ
  pub merged : ℕ

-- what is released: the part of the result that ends by the mark
abbrev pub settled_items : SettlementView → List Item
settled_items s = cut s.mark (sequential s.recording s.limits)

-- how many items of a lane are posted
abbrev pub posted_count : SettlementView → ℕ → ℕ
posted_count s lane = slice_index s.counts lane

-- how many items of all lanes a place needs
abbrev pub needed_items : Recorded → ℕ → ℕ
needed_items r w = sum_by (λ lane. need r lane w) (numbers_below (lane_count r))

-- merged are at least as many items as the mark needs, and at most those that are posted
pub record IsMergedWithin (s : SettlementView) : Type 0 where
  pub needed : needed_items s.recording s.mark ≤ s.merged
  pub posted : s.merged ≤ sum s.counts

-- of a recording: there is a count for each lane, at most that of its items, and the mark is within the reach
-- of each lane; as many items are merged as it needs
pub record IsPosted (s : SettlementView) : Type 0 where
  pub given : ∥ IsRecording s.recording ∥₁
  pub sized : length s.counts ≡ lane_count s.recording
  pub most : (lane : ℕ) → lane < lane_count s.recording →
      slice_index s.counts lane ≤ length (lane_items s.recording lane)
  pub within : IsWithinReaches s.recording s.counts s.mark
  pub merged : IsMergedWithin s

-- nothing is posted yet
abbrev pub nothing_posted : Recorded → Limits → SettlementView
nothing_posted r limits = record {
  recording = r;
  limits = limits;
  counts = replicate (lane_count r) 0;
  mark = 0;
  merged = 0;
}

-- so many items of a lane more are posted
abbrev pub with_posts : SettlementView → ℕ → ℕ → SettlementView
with_posts s lane many = record s { counts = slice_set s.counts lane (posted_count s lane + many) }

-- one item more
abbrev pub with_post : SettlementView → ℕ → SettlementView
with_post s lane = with_posts s lane 1

-- the mark is at a place, and so many items are merged
abbrev pub advanced_to : SettlementView → ℕ → ℕ → SettlementView
advanced_to s mark merged = record s { mark = mark; merged = merged }

-- how many items are merged or released
abbrev pub items_done : SettlementView → ℕ
items_done s = s.merged + length (settled_items s)

-- no item less is merged, and there are at most as many steps as items more that are merged or released, and
-- one more
pub record Advances (before after : ℕ) (old new : SettlementView) : Type 0 where
  pub rises : old.merged ≤ new.merged
  pub ticks : after + items_done old ≤ before + items_done new + 1
