use Rattle.lane_reports.proofs.reporting.lane_report.Given as goal

-- the sink has taken these bytes before
abbrev pub ghosts-report_from : goal.ghosts-report_from
ghosts-report_from g a = record { before = g.O.Sink.taken a.out.now }
