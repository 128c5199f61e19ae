-- The subject: the law that the files of a generated recording say that recording.
use Rattle.std.specs.Prelude.{◌≡◌, ℕ, None, Ok}
use Rattle.comtrade_cfg.specs.CfgText.{configuration_of}
use Rattle.comtrade_cfg.specs.Configuration.{Configuration}
use Rattle.comtrade_cfg.specs.Selecting.{Selected, selected_of}
use Rattle.comtrade_dat.specs.Samples.{samples_of}
use Rattle.pq_generate.specs.GeneratedRecording.{cfg_text, dat_text}
use Rattle.pq_generate.specs.MeasuredRecording.{generated_recording}

-- the cfg says this configuration, of which these channels are measured where none are named, and the dat of
-- each seed then makes the recording of that seed
pub record FilesAreReadBy (c : Configuration) (s : Selected) : Type 0 where
  pub said : configuration_of cfg_text ≡ Ok c
  pub selected : selected_of c None None ≡ Ok s
  pub made : (seed : ℕ) → samples_of c s (dat_text seed) ≡ Ok (generated_recording seed)

-- so no file of a generated recording is refused, and what is measured of them is the generated recording
abbrev pub FilesAreRead : Type 0
FilesAreRead = (c : Configuration) × (s : Selected) × FilesAreReadBy c s
