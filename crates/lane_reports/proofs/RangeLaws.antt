-- All items that a session is given are in range.
use Rattle.std.proofs.Common.{All}
use Rattle.interval_ledger.specs.declared.ledger.Ledger.{Ledger}
use Rattle.interval_ledger.specs.declared.subject.Subject.{Subject}
use Rattle.lane_workers.specs.Running.{recording_of}
use Rattle.pq_base.specs.Recorded.{IsRecording}
use Rattle.pq_items.specs.ItemRange.{IsItemInRange}
use Rattle.pq_sequence.proofs.RangeLaws.{items_in_range}
use Rattle.pq_sequence.proofs.ResultLaws.{result_in_range}
use Rattle.progress_words.specs.declared.shared.Shared.{Ghosts}
use Rattle.query_session.specs.Session.{result_of, view_of}
use Rattle.query_session.specs.declared.session.SessionOf.{SessionOf}

pub result_ranges : {g : Ghosts Ledger Subject} (s : SessionOf Ledger g) → IsRecording (recording_of s) →
    All IsItemInRange (result_of s)
result_ranges s recording = let limits = (view_of s).name.limits in
    result_in_range (recording_of s) limits (items_in_range (recording_of s) recording limits)
