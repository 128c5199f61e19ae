-- What contracts see of `ReadAll`, why a file was not read (profile).
use Rattle.std.specs.Prelude.{Bool, true, false, Result, Err}
use Rattle.pq_base.specs.declared.shelf.ReadAll.{ReadAll}
use Rattle.pq_base.specs.declared.shelf.ReadAll.TheVariants as why

-- a call of the shelf failed
abbrev pub is_failed : {X : Type 0} → Result X ReadAll → Bool
is_failed (Err why.Failed) = true
is_failed r = false
