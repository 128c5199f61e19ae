-- The subject: the law that the items of a result are told apart by their keys.
-- Sections are those of IEC 61000-4-30:2015; "profile" marks a choice of this project.
use Rattle.std.specs.Prelude.{◌≡◌, AllPairs}
use Rattle.event_detect.specs.declared.limits.Limits.{Limits}
use Rattle.event_detect.specs.Threshold.{IsInOrder}
use Rattle.pq_base.specs.Recorded.{Recorded, IsRecording}
use Rattle.pq_items.specs.declared.item.Item.{Item}
use Rattle.pq_items.specs.ItemOrder.{key_of}
use Rattle.pq_sequence.specs.SequentialResult.{sequential}

-- two items have different keys: another end, another rank of the kind, another start or another channel
abbrev pub KeysDiffer : Item → Item → Type 0
KeysDiffer a b = ¬ (key_of a ≡ key_of b)

-- no two items of a result, of any recording and under any limits in order, have one key (profile)
abbrev pub KeysAreDistinct : Type 0
KeysAreDistinct = (r : Recorded) (limits : Limits) → IsRecording r → IsInOrder limits →
    AllPairs KeysDiffer (sequential r limits)
