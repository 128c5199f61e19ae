-- What the cfg says, and what is selected of it.
use Rattle.std.proofs.Common.{◌≡◌, [], ◌∷◌, refl, pos, None, Ok}
use Rattle.std.specs.Prelude.{codes}
use Rattle.cfg_fields.specs.Fields.{text_field, number_field, position_field, decimal_text, decimal_field, channel_count, frequency_field, rate_field, samples_field, leap_field}
use Rattle.comtrade_cfg.specs.CfgText.{configuration_of, configuration_ahead, lines_behind, channel_lines, station_fields, analogue_fields, status_fields}
use Rattle.comtrade_cfg.specs.Configuration.{Configuration}
use Rattle.comtrade_cfg.specs.Selecting.{Selected, coefficients_at, selected_of}
use Rattle.comtrade_cfg.specs.declared.cfg.Analogue.{Analogue}
use Rattle.comtrade_cfg.specs.declared.cfg.FileType.TheVariants.{Binary}
use Rattle.comtrade_cfg.specs.declared.voltage.Coefficients.{Coefficients}
use Rattle.jiff_core.specs.Calendar.{days_from_civil, day_count, days_of_years, days_of_months}
use Rattle.pq_base.specs.Decimal.{decimal_of}
use Rattle.pq_generate.specs.GeneratedRecording.{cfg_text}
use Rattle.pq_time.specs.Moment.{written_moment}
use Rattle.pq_time.specs.Written.{date_of, clock_time_of}
use Rattle.pq_words.specs.Text.{Text}

-- a channel of this name and phase
abbrev channel : Text → Text → Analogue
channel id phase = record {
  id = id;
  phase = phase;
  component = [];
  unit = codes "V";
  a = codes "0.0325";
  b = codes "0";
  skew = codes "0";
  least = codes "-32767";
  greatest = codes "32767";
  primary = codes "1";
  secondary = codes "1";
  side = codes "P";
}

abbrev pub configuration : Configuration
configuration = record {
  station = codes "generated";
  device = codes "pqa";
  revision = 1999;
  analogue = channel (codes "UA") (codes "A") ∷ channel (codes "UB") (codes "B")
      ∷ channel (codes "UC") (codes "C") ∷ [];
  status = [];
  lf = 50;
  rate = 1200000000;
  endsamp = 722400;
  first = pos 1709294399000000000;
  trigger = pos 1709294399000000000;
  file_type = Binary;
  timemult = codes "1";
  zone = None;
}

pub cfg_said : configuration_of cfg_text ≡ Ok configuration
unfolding cfg_text text_field number_field position_field decimal_text decimal_field channel_count
    frequency_field rate_field samples_field leap_field station_fields analogue_fields status_fields
    configuration_of configuration_ahead lines_behind channel_lines decimal_of written_moment date_of
    clock_time_of days_from_civil day_count days_of_years days_of_months
cfg_said = refl

-- all three channels, of which the first is the reference
abbrev pub chosen : Selected
chosen = record { positions = 0 ∷ 1 ∷ 2 ∷ []; reference = 0 }

pub cfg_selected : selected_of configuration None None ≡ Ok chosen
unfolding selected_of decimal_of
cfg_selected = refl

-- 0.0325 V for a count, and nothing beside it
abbrev pub coefficients : Coefficients
coefficients = record { a = pos 32500000000; b = pos 0 }

pub first_coefficients : coefficients_at configuration 0 ≡ coefficients
unfolding decimal_of
first_coefficients = refl

pub second_coefficients : coefficients_at configuration 1 ≡ coefficients
unfolding decimal_of
second_coefficients = refl

pub third_coefficients : coefficients_at configuration 2 ≡ coefficients
unfolding decimal_of
third_coefficients = refl
