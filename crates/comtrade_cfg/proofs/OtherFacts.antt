-- Canonical texts, the cfg with 32 states, and selections.
use Rattle.std.proofs.Common.{◌≡◌, ℤ, List, [], ◌∷◌, ◌++◌, map, refl, replicate, take, pos, Some, None, Ok, Err}
use Rattle.std.specs.Prelude.{codes, option_map, decimal}
use Rattle.std.specs.List.{flat_map, range_with_len}
use Rattle.std.specs.Fmt.{digits}
use Rattle.std.specs.Result.{result_err, result_ok}
use Rattle.pq_words.specs.Text.{Text}
use Rattle.pq_base.specs.Decimal.{decimal_of}
use Rattle.pq_time.specs.Written.{date_of, clock_time_of as time_of, code_of, minutes_of}
use Rattle.pq_time.specs.Moment.{written_moment}
use Rattle.pq_time.specs.Printed.{date_shown}
use Rattle.jiff_core.specs.Calendar.{days_from_civil, day_count, days_of_years, days_of_months}
use Rattle.comtrade_cfg.specs.declared.select_fault.SelectFault.TheVariants as fault
use Rattle.cfg_fields.specs.Fields.{text_field, number_field, position_field, decimal_text, decimal_field, channel_count, frequency_field, rate_field, samples_field, leap_field}
use Rattle.comtrade_cfg.specs.CfgText.{configuration_of, configuration_ahead, lines_behind, channel_lines, station_fields, analogue_fields, status_fields}
use Rattle.pq_words.specs.First.{first_between, first_of}
use Rattle.comtrade_cfg.specs.Canonical.{canonical_text}
use Rattle.comtrade_cfg.specs.Selecting.{coefficients_of, selected_of}
use Rattle.comtrade_cfg.proofs.TwoIntervalsCfg.{demo, demo_lines, demo_with}

abbrev with_cr_lf : List Text → Text
with_cr_lf lines = flat_map (λ line. line ++ 13 ∷ 10 ∷ []) lines

-- the canonical text of two_intervals has its lines, ended by CR LF
pub canonical : option_map canonical_text (result_ok (configuration_of demo)) ≡ Some (with_cr_lf demo_lines)
unfolding digits canonical_text date_shown first_between first_of text_field number_field position_field
    decimal_text decimal_field channel_count frequency_field rate_field samples_field leap_field
    station_fields analogue_fields status_fields configuration_of configuration_ahead lines_behind
    channel_lines decimal_of written_moment date_of time_of
    days_from_civil day_count days_of_years days_of_months
canonical = refl

abbrev status_lines : List Text
status_lines = map (λ n. decimal n ++ codes ",IN " ++ decimal n ++ codes ",,,0") (range_with_len 1 32)

abbrev channels_32 : List Text
channels_32 =
    codes "1, VA ,A,,V,1.525879E-02,0.000000E+00,0,-32767,32767,400,1,P" ∷ codes
    "2, VB ,B,,V,1.525879E-02,0.000000E+00,0,-32767,32767,400,1,P"
    ∷ codes "3, VC ,C,,V,1.525879E-02,0.000000E+00,0,-32767,32767,400,1,P" ∷ codes
    "4, VN ,N,,v,1.525879E-02,0.000000E+00,0,-32767,32767,400,1,P"
    ∷ codes "5, IA ,A,,A,3.051758E-02,0.000000E+00,0,-32767,32767,1000,1,P" ∷ codes
    "6, IB ,B,,A,3.051758E-02,0.000000E+00,0,-32767,32767,1000,1,P"
    ∷ codes "7, IC ,C,,A,3.051758E-02,0.000000E+00,0,-32767,32767,1000,1,P" ∷ codes
    "8, IN ,N,,A,3.051758E-02,0.000000E+00,0,-32767,32767,1000,1,P" ∷ []

abbrev cfg_32 : Text
cfg_32 = with_cr_lf (codes "Substation 7 , R-2200 ,2013" ∷ codes "40,8A,32D" ∷ channels_32 ++ status_lines
    ++ codes "50.00" ∷ codes "1" ∷ codes "4800.000,9600" ∷ codes "01/03/2024,06:30:01.000000" ∷ codes
    "01/03/2024,06:30:01.500000" ∷ codes "binary" ∷ codes "1.0" ∷ codes "-5h30,-5h30" ∷ codes "b,3" ∷ [])

abbrev canonical_channels_32 : List Text
canonical_channels_32 =
    codes "1,VA,A,,V,1.525879E-02,0.000000E+00,0,-32767,32767,400,1,P" ∷ codes
    "2,VB,B,,V,1.525879E-02,0.000000E+00,0,-32767,32767,400,1,P"
    ∷ codes "3,VC,C,,V,1.525879E-02,0.000000E+00,0,-32767,32767,400,1,P" ∷ codes
    "4,VN,N,,v,1.525879E-02,0.000000E+00,0,-32767,32767,400,1,P"
    ∷ codes "5,IA,A,,A,3.051758E-02,0.000000E+00,0,-32767,32767,1000,1,P" ∷ codes
    "6,IB,B,,A,3.051758E-02,0.000000E+00,0,-32767,32767,1000,1,P"
    ∷ codes "7,IC,C,,A,3.051758E-02,0.000000E+00,0,-32767,32767,1000,1,P" ∷ codes
    "8,IN,N,,A,3.051758E-02,0.000000E+00,0,-32767,32767,1000,1,P" ∷ []

abbrev canonical_32 : Text
canonical_32 = with_cr_lf (codes "Substation 7,R-2200,2013" ∷ codes "40,8A,32D" ∷ canonical_channels_32
    ++ status_lines
    ++ codes "50" ∷ codes "1" ∷ codes "4800,9600" ∷ codes "01/03/2024,06:30:01.000000" ∷ codes
    "01/03/2024,06:30:01.500000" ∷ codes "BINARY" ∷ codes "1.0" ∷ codes "-5h30,-5h30" ∷ codes "B,3" ∷ [])

-- the cfg of 2013 with 32 states is good: its first moment is 12:00:01 UTC, and it is printed so
pub printed_2013 : option_map {U = ℤ × Text} (λ c. (c.first, canonical_text c))
    (result_ok (configuration_of cfg_32)) ≡ Some (pos 1709294401000000000, canonical_32)
unfolding digits canonical_text date_shown first_between first_of text_field number_field position_field
    decimal_text decimal_field channel_count frequency_field rate_field samples_field leap_field
    station_fields analogue_fields status_fields configuration_of configuration_ahead lines_behind
    channel_lines decimal_of written_moment date_of time_of code_of minutes_of days_from_civil day_count
    days_of_years days_of_months
printed_2013 = refl

-- its channels 1 to 4 are selected; a current, an absent and a repeated one are refused
pub selections_2013 : option_map (λ c. selected_of c None None ∷ selected_of c (Some (3 ∷ 1 ∷ [])) (Some 3) ∷
    selected_of c (Some (5 ∷ [])) None ∷ selected_of c (Some (9 ∷ [])) None
    ∷ selected_of c (Some (1 ∷ 1 ∷ [])) None ∷ selected_of c (Some (1 ∷ 2 ∷ [])) (Some 4) ∷ selected_of c
    (Some []) None ∷ []) (result_ok (configuration_of cfg_32))
    ≡ Some (Ok (record { positions = 0 ∷ 1 ∷ 2 ∷ 3 ∷ []; reference = 0 }) ∷ Ok
    (record { positions = 0 ∷ 2 ∷ []; reference = 1 }) ∷ Err (fault.Channel 5) ∷ Err (fault.Channel 9)
    ∷ Err (fault.Channel 1) ∷ Err (fault.Channel 4) ∷ Err (fault.Channel 0) ∷ [])
unfolding digits selected_of text_field number_field position_field decimal_text decimal_field channel_count
    frequency_field rate_field samples_field leap_field station_fields analogue_fields status_fields
    configuration_of configuration_ahead lines_behind channel_lines decimal_of written_moment date_of
    time_of code_of
    minutes_of days_from_civil day_count days_of_years days_of_months
selections_2013 = refl

-- they have 15,258,790,000 picovolts a count, and none beside
pub coefficients_2013 : option_map (λ c. map coefficients_of (take 4 c.analogue))
    (result_ok (configuration_of cfg_32)) ≡ Some (replicate 4 (record { a = pos 15_258_790_000; b = pos 0 }))
unfolding digits text_field number_field position_field decimal_text decimal_field channel_count
    frequency_field rate_field samples_field leap_field station_fields analogue_fields status_fields
    configuration_of configuration_ahead lines_behind channel_lines decimal_of written_moment date_of
    time_of code_of
    minutes_of days_from_civil day_count days_of_years days_of_months
coefficients_2013 = refl

abbrev demo_of : Text → Text
demo_of a = demo_with 3 (codes "1,UA,A,,V," ++ a ++ codes ",0,0,-32767,32767,1,1,P")

-- a coefficient of 305.2 V per count passes the limit of the value, 305.1 does not
pub value_limits : map (λ a. option_map (λ c. result_err (selected_of c None None))
    (result_ok (configuration_of (demo_of a)))) (codes "305.2" ∷ codes "305.1" ∷ [])
    ≡ Some (Some (fault.Value 3)) ∷ Some None ∷ []
unfolding digits selected_of text_field number_field position_field decimal_text decimal_field channel_count
    frequency_field rate_field samples_field leap_field station_fields analogue_fields status_fields
    configuration_of configuration_ahead lines_behind channel_lines decimal_of written_moment date_of
    time_of code_of
    minutes_of days_from_civil day_count days_of_years days_of_months
value_limits = refl
