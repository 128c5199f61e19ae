-- Nothing runs, so nothing need have been seen.
use Rattle.std.proofs.Common.{None, refl}
use Rattle.event_detect.proofs.DetectorLaws.{nothing_seen}
use Rattle.event_detect.proofs.detector.Detector.new.Goals as goal

pub returns-clause-value : goal.returns-clause-value
returns-clause-value c = nothing_seen (record { kind = c.args.kind; running = None }) refl
