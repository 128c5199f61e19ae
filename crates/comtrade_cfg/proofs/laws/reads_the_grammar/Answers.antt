use Rattle.comtrade_cfg.proofs.GrammarLaws as GrammarLaws
use Rattle.comtrade_cfg.proofs.laws.reads_the_grammar.Goals as goal

pub returns : goal.returns
returns c = GrammarLaws.reads_the_grammar
