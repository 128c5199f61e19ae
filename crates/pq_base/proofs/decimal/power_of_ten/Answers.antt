use Rattle.std.proofs.Common.{arith}
use Rattle.std.proofs.Math.Nat.{one-le-pow}
use Rattle.pq_base.proofs.RoundLemmas.{fits_128}
use Rattle.pq_base.proofs.decimal.power_of_ten.Goals as goal

pub pow-requires : goal.pow-requires
pow-requires c = fits_128 c.args.power c.requires

pub returns-clause-some : goal.returns-clause-some
returns-clause-some c = omega (arith, one-le-pow c.args.power 10 (omega arith), c.pow.ensures)
