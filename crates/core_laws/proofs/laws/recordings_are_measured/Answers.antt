-- The laws are lemmas.
use Rattle.core_laws.proofs.MeasuredLaws as laws
use Rattle.core_laws.proofs.laws.recordings_are_measured.Goals as goal

pub returns-clause-measured : goal.returns-clause-measured
returns-clause-measured c = laws.recordings_are_measured

pub returns-clause-given : goal.returns-clause-given
returns-clause-given c = laws.recorded_sessions_are_given

pub returns-clause-sound : goal.returns-clause-sound
returns-clause-sound c = laws.recorded_cores_are_sound

pub returns-clause-reads : goal.returns-clause-reads
returns-clause-reads c = laws.recorded_reads_are_right
