use Rattle.generator_laws.proofs.CfgLaws.{cfg_said, cfg_selected, chosen, configuration}
use Rattle.generator_laws.proofs.DatLaws.{dat_read}
use Rattle.generator_laws.proofs.laws.generated_files_are_read.Goals as goal

pub returns : goal.returns
returns c = (configuration, chosen, record { said = cfg_said; selected = cfg_selected; made = dat_read })
