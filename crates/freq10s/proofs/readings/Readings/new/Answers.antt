use Rattle.std.proofs.Common.{length, ◌∙◌, ap}
use Rattle.zero_cross.specs.Boundary.{cycle_boundaries}
use Rattle.freq10s.specs.Intervals.{intervals_between}
use Rattle.freq10s.specs.Readings.{readings_over}
use Rattle.pq_time.specs.Tick.{ticks}
use Rattle.freq10s.proofs.ReadingLaws.{all_readings}
use Rattle.freq10s.proofs.readings.Readings.new.Goals as goal

-- the readings over all intervals
pub returns : goal.returns
returns c =
    let rate = c.args.clock.rate in
    let n = length c.args.samples.now in
    let boundaries = cycle_boundaries c.args.samples.now c.args.rule in
    ap (readings_over rate c.new-2.result) c.new.ensures.value
    ∙ ap (λ found. readings_over rate found (intervals_between c.args.clock n (ticks c.args.clock n 10)))
    c.new-2.ensures.value
    ∙ all_readings c.args.clock n boundaries
