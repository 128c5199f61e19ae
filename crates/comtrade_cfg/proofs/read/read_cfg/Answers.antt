use Rattle.comtrade_cfg.proofs.GrammarLaws.{found_by, only_by}
use Rattle.comtrade_cfg.proofs.read.read_cfg.Goals as goal

-- what was read is in the grammar
pub returns-clause-found : goal.returns-clause-found
returns-clause-found c = found_by c.read.result c.args.bytes.now c.read.ensures

-- and nothing in it is refused
pub returns-clause-only : goal.returns-clause-only
returns-clause-only c = only_by c.read.result c.args.bytes.now c.read.ensures
