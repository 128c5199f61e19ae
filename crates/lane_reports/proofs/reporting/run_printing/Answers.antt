use Rattle.std.proofs.Common.{refl}
use Rattle.lane_reports.proofs.PrintedLaws.{run_printed}
use Rattle.lane_reports.proofs.reporting.run_printing.Goals as goal

-- the printer has the clock that it was made with
pub returns-clause-printed : goal.returns-clause-printed
returns-clause-printed g c =
    let told = g.O.Sink in
    run_printed (λ p. p.clock) (λ p. told.taken p.out.now) (λ p. told.faults p.out.now) told.counts_each
    g.B.Start.before _ c.args.session.now c.run_lanes.new.session c.args.printer.now
    c.run_lanes.new.printer (λ m. m.clock) (λ p. refl) c.run_lanes.result c.run_lanes.ensures.runs
