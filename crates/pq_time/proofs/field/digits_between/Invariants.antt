use Rattle.pq_time.proofs.FieldLemmas.{IsRead}
use Rattle.pq_time.proofs.field.digits_between.Given as goal

abbrev pub invariant-loop-byte : goal.invariant-loop-byte
invariant-loop-byte l = IsRead l.text l.byte-index l.value
