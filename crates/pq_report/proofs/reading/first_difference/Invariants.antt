use Rattle.std.proofs.Common.{◌≡◌, ◌+◌, drop, map}
use Rattle.pq_report.specs.ReportReading.{names_read}
use Rattle.pq_report.proofs.reading.first_difference.Given as goal

-- the names before the index are the fields'
abbrev pub invariant-loop-index : goal.invariant-loop-index
invariant-loop-index l =
    names_read 1 (map (λ f. f.now) l.names) (map (λ f. f.now) l.fields)
    ≡ names_read (l.index + 1) (drop l.index (map (λ f. f.now) l.names)) (drop l.index (map
    (λ f. f.now) l.fields))
