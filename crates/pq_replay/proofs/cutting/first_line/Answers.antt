use Rattle.pq_replay.proofs.CuttingLemmas.{lines_cut}
use Rattle.pq_replay.proofs.cutting.first_line.Goals as goal

-- a line before a line end
pub returns-in-Some-clause-value : goal.returns-in-Some-clause-value
returns-in-Some-clause-value c = lines_cut c.args.text.now c.in-Some.line.now c.in-Some.rest.now
    c.without_carriage_return.result.now c.in-Some.ensures.value c.without_carriage_return.ensures
