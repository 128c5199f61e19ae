use Rattle.std.proofs.Common.{◌∙◌, ap, sym, option_and_then}
use Rattle.freq10s.specs.Readings.{reading_by}
use Rattle.freq10s.proofs.ReadingLaws.{reading_is}
use Rattle.freq10s.proofs.readings.read.Goals as goal

-- no boundary lies in the interval
pub returns-in_err-cycles-clause-value : goal.returns-in_err-cycles-clause-value
returns-in_err-cycles-clause-value c =
    c.from_residual.ensures
    ∙ ap (option_and_then (reading_by c.args.rate c.args.interval)) c.in_err-cycles.ensures.value
    ∙ sym (reading_is c.args.rate c.args.boundaries.now c.args.interval)

-- the reading of the cycles in it
pub returns-clause-value : goal.returns-clause-value
returns-clause-value c =
    c.reading.ensures
    ∙ ap (option_and_then (reading_by c.args.rate c.args.interval)) c.in_ok-cycles.ensures.value
    ∙ sym (reading_is c.args.rate c.args.boundaries.now c.args.interval)
