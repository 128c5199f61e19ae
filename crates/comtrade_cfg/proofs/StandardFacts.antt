-- Worked cfgs and their faults, so that a wrong rule in the specs does not check.
use Rattle.std.proofs.Common.{◌≡◌, [], ◌∷◌, ◌++◌, map, take, length, refl, pos, Some, None, Ok}
use Rattle.std.specs.Prelude.{codes}
use Rattle.std.specs.Result.{result_err}
use Rattle.pq_base.specs.Decimal.{decimal_of}
use Rattle.pq_time.specs.Written.{date_of, clock_time_of as time_of}
use Rattle.pq_time.specs.Moment.{written_moment}
use Rattle.jiff_core.specs.Calendar.{days_from_civil, day_count, days_of_years, days_of_months}
use Rattle.comtrade_cfg.specs.declared.cfg.FileType.TheVariants.{Binary}
use Rattle.cfg_fields.specs.declared.fault.CfgFault.TheVariants as fault
use Rattle.cfg_fields.specs.declared.fault.Quantity.TheVariants as quantity
use Rattle.cfg_fields.specs.declared.fault.Unsupported.TheVariants as unsupported
use Rattle.cfg_fields.specs.Fields.{text_field, number_field, position_field, decimal_text, decimal_field, channel_count, frequency_field, rate_field, samples_field, leap_field}
use Rattle.comtrade_cfg.specs.CfgText.{configuration_of, configuration_ahead, lines_behind, channel_lines, station_fields, analogue_fields, status_fields}
use Rattle.comtrade_cfg.proofs.TwoIntervalsCfg.{demo, demo_with}

pub bytes : length demo ≡ 139
bytes = refl

-- the cfg of two_intervals is good, with these values
pub good : configuration_of demo ≡ Ok (record {
  station = codes "demo";
  device = codes "pqa";
  revision = 1999;
  analogue = record {
    id = codes "UA";
    phase = codes "A";
    component = [];
    unit = codes "V";
    a =
        codes "0.0325";
    b = codes "0";
    skew = codes "0";
    least = codes "-32767";
    greatest = codes "32767";
    primary = codes "1";
    secondary = codes "1";
    side = codes "P";
  } ∷ [];
  status = [];
  lf = 50;
  rate = 1200000000;
  endsamp = 552;
  first = pos 1709294401000000000;
  trigger = pos 1709294401000000000;
  file_type = Binary;
  timemult = codes "1";
  zone = None;
})
unfolding text_field number_field position_field decimal_text decimal_field channel_count frequency_field
    rate_field samples_field leap_field station_fields analogue_fields status_fields configuration_of
    configuration_ahead lines_behind channel_lines decimal_of written_moment date_of time_of days_from_civil
    day_count
    days_of_years days_of_months
good = refl

-- cut after so many bytes
pub cuts : map (λ n. result_err (configuration_of (take n demo)))
    (0 ∷ 4 ∷ 8 ∷ 9 ∷ 12 ∷ 13 ∷ 14 ∷ 62 ∷ 74 ∷ 135 ∷ 136 ∷ 137 ∷ 138 ∷ [])
    ≡ Some (fault.Line 1) ∷ Some (fault.Line 1) ∷ Some (fault.Unsupported unsupported.Revision 1) ∷ Some
    (fault.Field 1 3) ∷ Some (fault.Unsupported unsupported.Revision 1)
    ∷ Some (fault.Line 2) ∷ Some (fault.Line 2) ∷ Some (fault.Line 4) ∷ Some (fault.Line 7) ∷ Some
    (fault.Field 9 1) ∷ Some (fault.Line 10) ∷ Some (fault.Line 10) ∷ None ∷ []
unfolding text_field number_field position_field decimal_text decimal_field channel_count frequency_field
    rate_field samples_field leap_field station_fields analogue_fields status_fields configuration_of
    configuration_ahead lines_behind channel_lines decimal_of written_moment date_of time_of days_from_civil
    day_count
    days_of_years days_of_months
cuts = refl

-- fields at fault
pub fields_at_fault : map (λ text. result_err (configuration_of text))
    (demo_with 2 (codes "2,1A,0D") ∷ demo_with 2 (codes "1,1A,0X") ∷ demo_with 7 (codes "30/02/2024,12:00:01")
    ∷ demo_with 1 (codes "demo,pqa") ∷ demo_with 9 (codes "FLOAT32")
    ∷ demo_with 6 (codes "1200,x") ∷ demo_with 6 (codes "799.999999,552") ∷ demo_with 6 (codes "800,552") ∷
    demo_with 2 (codes "1000,1000A,0D") ∷ demo_with 2 (codes "999,999A,0D")
    ∷ demo_with 6 (codes "1200,50000001") ∷ (demo ++ codes "  " ++ 10 ∷ []) ∷ (demo ++ 10 ∷ codes "x") ∷ [])
    ≡ Some (fault.Field 2 1) ∷ Some (fault.Field 2 3) ∷ Some (fault.Field 7 1) ∷ Some
    (fault.Unsupported unsupported.Revision 1) ∷ Some (fault.Unsupported unsupported.FileType 9)
    ∷ Some (fault.Field 6 2) ∷ Some (fault.Limit quantity.Rate 6) ∷ None ∷ Some
    (fault.Limit quantity.Analogue 2) ∷ Some (fault.Line 4)
    ∷ Some (fault.Limit quantity.Samples 6) ∷ None ∷ Some (fault.Line 12) ∷ []
unfolding text_field number_field position_field decimal_text decimal_field channel_count frequency_field
    rate_field samples_field leap_field station_fields analogue_fields status_fields configuration_of
    configuration_ahead lines_behind channel_lines decimal_of written_moment date_of time_of days_from_civil
    day_count
    days_of_years days_of_months
fields_at_fault = refl
