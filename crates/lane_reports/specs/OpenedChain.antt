-- What contracts see of a chain before its lanes run (profile).
use Rattle.std.specs.Prelude.{◌≡◌}
use Rattle.event_detect.specs.declared.limits.Limits.{Limits}
use Rattle.interval_ledger.specs.declared.ledger.Ledger.{Ledger}
use Rattle.interval_ledger.specs.declared.subject.Subject.{Subject}
use Rattle.lane_workers.specs.Running.{IsAlone, recording_of}
use Rattle.pq_base.specs.Recorded.{Recorded, IsRecording}
use Rattle.pq_sequence.specs.SequentialResult.{sequential}
use Rattle.progress_words.specs.declared.shared.Shared.{Ghosts}
use Rattle.query_session.specs.declared.chain.ChainOf.{ChainOf}
use Rattle.query_session.specs.declared.session.SessionOf.{SessionOf}
use Rattle.query_session.specs.Session.{IsIdle, IsSessionOf, result_of}

-- the session of a chain has done nothing, and its result is that of this recording under these limits
pub record IsReady {g : Ghosts Ledger Subject} (chain : ChainOf Ledger Subject) (r : Recorded)
    (limits : Limits) (s : SessionOf Ledger g) : Type 0 where
  pub mine : IsSessionOf chain s
  pub idle : IsIdle s
  pub alone : IsAlone s
  pub recording : IsRecording (recording_of s)
  pub cursor : s.cursor ≡ 0
  pub result : result_of s ≡ sequential r limits
