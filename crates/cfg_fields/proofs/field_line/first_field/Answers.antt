use Rattle.std.proofs.Common.{sym}
use Rattle.cfg_fields.proofs.LineLemmas.{fields_cut, one_field}
use Rattle.cfg_fields.proofs.field_line.first_field.Goals as goal

-- a comma was found
pub returns-in-Some-clause-value : goal.returns-in-Some-clause-value
returns-in-Some-clause-value c = rw c.trimmed.ensures
    (fields_cut c.args.text.now c.in-Some.end (sym c.in-Some.ensures.value))

-- no comma was found
pub returns-in-None-clause-none : goal.returns-in-None-clause-none
returns-in-None-clause-none c = one_field c.args.text.now (sym c.in-None.ensures.value)
