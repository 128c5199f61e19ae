-- The subject: the way from a cfg and a dat to a recording: what is judged, and in which order (profile).
use Rattle.std.specs.Prelude.{◌≡◌, ℕ, List, Option, Result, Ok}
use Rattle.command_words.specs.Commands.{Measurement, measuring_view}
use Rattle.command_words.specs.declared.command.Measuring.{Measuring}
use Rattle.comtrade_cfg.specs.CfgText.{configuration_of}
use Rattle.comtrade_cfg.specs.Configuration.{Configuration, cfg_view}
use Rattle.comtrade_cfg.specs.Selecting.{Selected, selected_of, selection_view}
use Rattle.comtrade_dat.specs.DatReader.{DatReading, HasRead}
use Rattle.comtrade_dat.specs.Samples.{samples_of}
use Rattle.pq_base.specs.Recorded.{Recorded}
use Rattle.pq_course.specs.InputFile.{asks_for}
use Rattle.pq_course.specs.Judged.{goes_on}
use Rattle.pq_course.specs.Parts.{IsReadFor}
use Rattle.pq_course.specs.TopCall.{Reading}
use Rattle.pq_course.specs.Verdict.{Course}
use Rattle.pq_course.specs.declared.input_file.InputFile.TheVariants as file
use Rattle.pq_run.specs.declared.selected_cfg.SelectedCfg.{SelectedCfg}
use Rattle.pq_words.specs.FirstFault.{◌>>=◌, GivesUnless}
use Rattle.pq_words.specs.Text.{Text}
use Rattle.status_text.specs.Refusals.{cfg_refusal, dat_refusal, or_refused, select_refusal}
use Rattle.status_text.specs.declared.status.Status.{Status}
use Rattle.status_text.specs.declared.status.Status.TheVariants as status

-- what a call gives is what is judged, unless it finds no memory
abbrev pub Gives : {A : Type 0} → Result A Status → Result A Status → Type 0
Gives result judged = GivesUnless status.OutOfMemory (λ x. x) result judged

-- a configuration, and its selected channels
pub record SelectedConfiguration : Type 0 where
  pub configuration : Configuration
  pub selected : Selected

-- the same as it is held in memory
abbrev pub selected_cfg_view : SelectedCfg → SelectedConfiguration
selected_cfg_view s = record { configuration = cfg_view s.cfg; selected = selection_view s.selection }

abbrev pub GivesSelected : Result SelectedCfg Status → Result SelectedConfiguration Status → Type 0
GivesSelected result judged = GivesUnless status.OutOfMemory selected_cfg_view result judged

-- a cfg, judged in order: its lines, and the selection of wanted channels and a reference
unfoldable pub selected_configuration : Option (List ℕ) → Option ℕ → Text
    → Result SelectedConfiguration Status
selected_configuration wanted reference cfg = do
  c ← or_refused cfg_refusal (configuration_of cfg)
  s ← or_refused select_refusal (selected_of c wanted reference)
  Ok (record { configuration = c; selected = s })

-- what some cfg that is not refused says, under some wanted channels and some reference
abbrev pub IsSelectedConfiguration : SelectedConfiguration → Type 0
IsSelectedConfiguration s = (wanted : Option (List ℕ)) × (reference : Option ℕ) × (cfg : Text)
    × (selected_configuration wanted reference cfg ≡ Ok s)

-- a dat: the recording that it makes, or its refusal
abbrev pub dat_recording : SelectedConfiguration → Text → Result Recorded Status
dat_recording s dat = or_refused dat_refusal (samples_of s.configuration s.selected dat)

-- a reader for the dat of a configuration and a selection of it has been fed these bytes
abbrev pub HasReadDat : SelectedConfiguration → Text → DatReading → Type 0
HasReadDat s dat reader = HasRead s.configuration s.selected dat reader

-- a reader gives the recording of whatever dat it has been fed, or the dat's refusal
abbrev pub GivesDat : DatReading → Result Recorded Status → Type 0
GivesDat reader result = (s : SelectedConfiguration) (dat : Text) → HasReadDat s dat reader →
    Gives result (dat_recording s dat)

-- the dat is asked for, and the course goes on with the recording where it is good
abbrev pub dat_course : Measurement → SelectedConfiguration → (Recorded → Course Status) → Course Status
dat_course m s go = asks_for file.Dat m.dat (λ dat. goes_on (dat_recording s dat) go)

-- a cfg: the dat is asked for where it is good
abbrev pub cfg_course : Measurement → (Recorded → Course Status) → Text → Course Status
cfg_course m go cfg = goes_on (selected_configuration m.channels m.reference cfg) (λ s. dat_course m s go)

-- the cfg is asked for, and then the dat
abbrev pub recording_course : Measurement → (Recorded → Course Status) → Course Status
recording_course m go = asks_for file.Cfg m.cfg (cfg_course m go)

-- the files of a measurement were read for their recording
abbrev pub IsRecordingRead : Measuring → Reading → Result Recorded Status → Type 0
IsRecordingRead m r result = IsReadFor (recording_course (measuring_view m)) r result
