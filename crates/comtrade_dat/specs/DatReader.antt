-- What contracts see of a reader of a dat, and what it means that it was fed these bytes.
use Rattle.std.specs.Prelude.{◌≡◌, ◌++◌, map, Some, Result}
use Rattle.comtrade_cfg.specs.CfgText.{IsConfiguration}
use Rattle.comtrade_cfg.specs.Configuration.{Configuration}
use Rattle.comtrade_cfg.specs.Selecting.{IsSelected, Selected}
use Rattle.comtrade_dat.specs.Channel.{unread}
use Rattle.comtrade_dat.specs.Progress.{IsFed, IsWhole}
use Rattle.comtrade_dat.specs.Samples.{Gives, record_size, samples_of}
use Rattle.comtrade_dat.specs.declared.dat_fault.DatFault.{DatFault}
use Rattle.comtrade_dat.specs.declared.dat_fault.DatFault.TheVariants as fault
use Rattle.comtrade_dat.specs.declared.decoded.Decoded.{Decoded}
use Rattle.comtrade_dat.specs.declared.progress.Progress.{Progress}
use Rattle.pq_base.specs.Recorded.{Recorded}
use Rattle.pq_words.specs.Text.{Text}

-- a reader by its configuration, its selection, and how far it has come
pub record DatReading : Type 0 where
  pub configuration : Configuration
  pub selected : Selected
  pub progress : Progress

-- a reader that was opened with this configuration and this selection has been fed these bytes
pub record HasRead (c : Configuration) (s : Selected) (fed : Text) (r : DatReading) : Type 0 where
  pub configuration : r.configuration ≡ c
  pub selected : r.selected ≡ s
  pub progress : IsFed (record_size c) s.positions c.endsamp (map (unread c) s.positions) r.progress fed

-- whatever it was fed before, it has been fed this piece after it
abbrev pub FeedsOn : DatReading → Text → DatReading → Type 0
FeedsOn old piece new =
    (c : Configuration) (s : Selected) (fed : Text) → HasRead c s fed old → HasRead c s (fed ++ piece) new

-- the end gives the recording, or the first fault, of whatever it was fed
abbrev pub GivesAllFed : DatReading → Result Recorded DatFault → Type 0
GivesAllFed r result =
    (c : Configuration) (s : Selected) (fed : Text) → HasRead c s fed r → Gives result (samples_of c s fed)

-- there was no memory for what it was fed
abbrev pub HasNoMemory : DatReading → Type 0
HasNoMemory r = r.progress.fault ≡ Some fault.OutOfMemory

-- these records are all of these bytes
abbrev pub IsWholeOf : Configuration → Selected → Decoded → Text → Type 0
IsWholeOf c s d fed = IsWhole (record_size c) s.positions c.endsamp (map (unread c) s.positions) d fed

-- the same of whatever bytes these records are all of
abbrev pub GivesWhole : Configuration → Selected → Decoded → Result Recorded DatFault → Type 0
GivesWhole c s d result = (fed : Text) → IsWholeOf c s d fed → Gives result (samples_of c s fed)

-- records that are all of some bytes
abbrev pub IsOfWhole : Configuration → Selected → Decoded → Type 0
IsOfWhole c s d = (fed : Text) × IsWholeOf c s d fed

-- a reader of a configuration that some text says, and of a selection of it, has been fed some bytes
pub record IsReader (r : DatReading) : Type 0 where
  pub said : IsConfiguration r.configuration
  pub chosen : IsSelected r.configuration r.selected
  pub fed : Text
  pub read : HasRead r.configuration r.selected fed r
