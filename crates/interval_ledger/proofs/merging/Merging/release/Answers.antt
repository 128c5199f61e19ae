use Rattle.std.proofs.Common.{arith}
use Rattle.interval_ledger.proofs.StateLaws.{mark_moved}
use Rattle.interval_ledger.proofs.merging.Merging.release.Goals as goal

-- what ends by the place is released
pub returns-clause-cut : goal.returns-clause-cut
returns-clause-cut g c =
    mark_moved c.args.self.now c.requires.posted c.requires.at c.args.w c.requires.merged c.release.new.self
    c.release.ensures.name c.requires.later c.requires.other c.release.ensures.value

-- a step for each
pub returns-clause-ticks : goal.returns-clause-ticks
returns-clause-ticks g c =
    let cost = c.release.ensures.cost in record { rises = omega arith; ticks = omega (arith, cost) }
