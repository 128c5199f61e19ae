use Rattle.std.proofs.Common.{arith}
use Rattle.fixed_rms.proofs.RootLaws.{isqrt_only}
use Rattle.fixed_rms.proofs.integer_root.isqrt.Goals as goal

-- there is one greatest root
pub returns-clause-value : goal.returns-clause-value
returns-clause-value c = isqrt_only c.args.x c.raise_to_root.result (omega arith) c.raise_to_root.ensures
