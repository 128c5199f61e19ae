-- What a cfg says: the configuration of a recording (C37.111, configuration file).
use Rattle.std.specs.Prelude.{ℕ, List, ℤ, Option}
use Rattle.pq_words.specs.Text.{Text}
use Rattle.comtrade_cfg.specs.declared.cfg.Analogue.{Analogue}
use Rattle.comtrade_cfg.specs.declared.cfg.StatusLine.{StatusLine}
use Rattle.comtrade_cfg.specs.declared.cfg.Zone.{Zone}
use Rattle.comtrade_cfg.specs.declared.cfg.FileType.{FileType}
use Rattle.comtrade_cfg.specs.declared.cfg.Cfg.{Cfg}

-- a cfg without where it lies in memory: its two moments in UTC, nanoseconds since 1970; its rate in
-- microhertz
pub record Configuration : Type 0 where
  pub station : Text
  pub device : Text
  pub revision : ℕ
  pub analogue : List Analogue
  pub status : List StatusLine
  pub lf : ℕ
  pub rate : ℕ
  pub endsamp : ℕ
  pub first : ℤ
  pub trigger : ℤ
  pub file_type : FileType
  pub timemult : Text
  pub zone : Option Zone

-- the configuration that a cfg in memory holds
abbrev pub cfg_view : Cfg → Configuration
cfg_view c = record {
  station = c.station;
  device = c.device;
  revision = c.revision;
  analogue = c.analogue.items;
  status = c.status.items;
  lf = c.lf;
  rate = c.rate;
  endsamp = c.endsamp;
  first = c.first;
  trigger = c.trigger;
  file_type = c.file_type;
  timemult = c.timemult;
  zone = c.zone;
}
