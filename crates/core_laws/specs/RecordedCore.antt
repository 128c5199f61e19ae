-- The subject: the laws of cores, as laws of every recording. All of it is profile.
use Rattle.std.specs.Prelude.{◌≡◌, ℕ, List, length, slice_get, Some, Ok}
use Rattle.chain_core.specs.declared.answer.Answer.{Answer}
use Rattle.chain_core.specs.declared.step.Step.{Step}
use Rattle.chain_core.specs.Core.{Core, View}
use Rattle.chain_core.specs.GivenItems.{IsGivenFrom, given}
use Rattle.chain_core.specs.MeasuredOf.{measured_of}
use Rattle.chain_core.specs.Play.{answers_from}
use Rattle.chain_core.specs.SoundCore.{IsMeasured, IsReached, IsSound, ReadsRightly}
use Rattle.event_detect.specs.declared.limits.Limits.{Limits}
use Rattle.pq_base.specs.Recorded.{Recorded, IsRecording}

-- of what is measured of a recording, the keys of each lane rise up to the number of samples, and so do the
-- ends of the items
abbrev pub RecordingsAreMeasured : Type 0
RecordingsAreMeasured = (r : Recorded) (limits : Limits) → IsRecording r → IsMeasured (measured_of r limits)

-- by every list of steps over a recording, from every core on, each session that is there is given the items
-- of the result from its cursor on, in order, none changed or repeated
abbrev pub RecordedSessionsAreGiven : Type 0
RecordedSessionsAreGiven = (r : Recorded) (limits : Limits) (c : Core) (index session : ℕ) (v : View)
    (steps : List Step) (answers : List Answer) → slice_get c.numbers.views session ≡ Some v →
    answers_from (measured_of r limits) index c steps ≡ Ok answers →
    IsGivenFrom (measured_of r limits) v (given session steps answers)

-- the three facts hold of every core that events reach over a recording
abbrev pub RecordedCoresAreSound : Type 0
RecordedCoresAreSound = (r : Recorded) (limits : Limits) (c : Core) → IsRecording r →
    IsReached (measured_of r limits) c → IsSound (measured_of r limits) c.numbers (length c.phases.sessions)

-- the law of a read holds of every session of every such core
abbrev pub RecordedReadsAreRight : Type 0
RecordedReadsAreRight = (r : Recorded) (limits : Limits) (c : Core) (session : ℕ) (v : View) →
    IsRecording r → IsReached (measured_of r limits) c → slice_get c.numbers.views session ≡ Some v →
    ReadsRightly (measured_of r limits) c.numbers v
