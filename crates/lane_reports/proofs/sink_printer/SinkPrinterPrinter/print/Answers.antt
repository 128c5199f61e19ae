use Rattle.std.proofs.lemmas.Result.{on_err_weaker}
use Rattle.lane_reports.proofs.RowLaws.{more_cut_off}
use Rattle.lane_reports.proofs.sink_printer.SinkPrinterPrinter.print.Goals as goal

-- a front of the rows was taken, or nothing
pub returns-clause-broke : goal.returns-clause-broke
returns-clause-broke g c = on_err_weaker c.write_rows.result
    (λ front. more_cut_off c.args.self.now.clock g.B.Start.before _ _ c.args.items.now front)
    c.write_rows.ensures.front
