-- What holds of every settlement inside: what is posted is of the recording's lanes, and what is released is
-- the cut at the mark. All of it is profile.
use Rattle.event_detect.specs.Threshold.{IsInOrder}
use Rattle.interval_ledger.specs.declared.merging.Merging.{Merging}
use Rattle.interval_ledger.specs.Count.{HasRoom, counts_of}
use Rattle.interval_ledger.specs.Merging.{HoldsCut, merged_items}
use Rattle.interval_ledger.specs.Settlement.{IsPosted, SettlementView}

-- what is seen of it
abbrev pub settlement_of : Merging → SettlementView
settlement_of s = record {
  recording = s.known.recording;
  limits = s.known.limits;
  counts = counts_of s.channels.items s.readings.items;
  mark = s.mark;
  merged = merged_items s;
}

pub record IsLedger (s : Merging) : Type 0 where
  -- posted are the first items of each lane, and what is merged of them is known
  pub merging : HoldsCut s
  -- there is room for the others
  pub room : HasRoom s.known.recording s.channels.items s.readings
  -- the thresholds are in order (5.4, 5.5)
  pub ordered : IsInOrder s.known.limits
  -- what is posted, and that the mark is within the reaches
  pub posted : IsPosted (settlement_of s)
