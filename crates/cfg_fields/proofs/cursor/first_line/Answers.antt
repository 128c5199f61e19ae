use Rattle.std.proofs.Common.{sym, arith}
use Rattle.std.proofs.lemmas.Bool.Decides.{nat_tests}
use Rattle.cfg_fields.proofs.LineLemmas.{lines_cut, last_line}
use Rattle.cfg_fields.proofs.cursor.first_line.Goals as goal

-- a line feed was found
pub returns-in-Some-clause-value : goal.returns-in-Some-clause-value
returns-in-Some-clause-value c = rw c.without_carriage_return.ensures
    (lines_cut c.args.text.now c.in-Some.end (sym c.in-Some.ensures.value))

-- no line feed was found
pub returns-in-None-clause-value : goal.returns-in-None-clause-value
returns-in-None-clause-value c = last_line c.args.text.now (grind (arith, nat_tests))
    (sym c.in-None.ensures.value)
