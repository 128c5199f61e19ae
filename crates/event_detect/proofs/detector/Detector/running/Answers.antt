-- The start of what runs is that of the event that is left open.
use Rattle.std.proofs.Common.{rules}
use Rattle.event_detect.proofs.DetectorLaws.{starts_open}
use Rattle.event_detect.proofs.detector.Detector.running.Goals as goal

pub returns-clause-start : goal.returns-clause-start
returns-clause-start c = starts_open c.args.self.now c.map.result (search rules)
