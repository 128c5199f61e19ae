-- Nothing runs any more, so nothing need have been seen.
use Rattle.std.proofs.Common.{option_map, ap}
use Rattle.event_detect.specs.Detector.{running_view}
use Rattle.event_detect.proofs.DetectorLaws.{watch, nothing_seen}
use Rattle.event_detect.proofs.detector.Detector.finish.Goals as goal

pub returns-in_err-running-clause-seen : goal.returns-in_err-running-clause-seen
returns-in_err-running-clause-seen c = nothing_seen
    (watch c.self.inside.kind (option_map running_view c.take.new.self))
    (ap (option_map running_view) c.take.ensures.after)

pub returns-clause-seen : goal.returns-clause-seen
returns-clause-seen c = nothing_seen (watch c.self.inside.kind (option_map running_view c.take.new.self))
    (ap (option_map running_view) c.take.ensures.after)
