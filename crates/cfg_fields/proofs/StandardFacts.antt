-- Worked lines and fields, so that a wrong rule in the specs does not check.
use Rattle.std.proofs.Common.{◌≡◌, [], ◌∷◌, ◌++◌, map, refl, pos, negsuc, Some, None, Ok, Err}
use Rattle.std.specs.Prelude.{codes}
use Rattle.pq_base.specs.Decimal.{decimal_of}
use Rattle.pq_time.specs.Written.{date_of, clock_time_of as time_of, code_of, minutes_of}
use Rattle.pq_time.specs.Moment.{written_moment}
use Rattle.cfg_fields.specs.declared.fault.CfgFault.TheVariants as fault
use Rattle.cfg_fields.specs.declared.fault.Quantity.TheVariants as quantity
use Rattle.cfg_fields.specs.declared.fault.Unsupported.TheVariants as unsupported
use Rattle.cfg_fields.specs.Fields.{ahead_of, fields_of, line_of, only_blank_lines, text_field, number_field, position_field, channel_count, decimal_field, frequency_field, rate_field, samples_field, moment_fields, hexadecimal, leap_field, local_code_of}

-- lines end with LF or CR LF, a CR elsewhere stays, and the end of the text after a line end begins no line
pub three_lines : ahead_of (codes "a" ++ 13 ∷ 10 ∷ 98 ∷ 13 ∷ codes "c" ++ 10 ∷ 10 ∷ [])
    ≡ record { number = 1; lines = codes "a" ∷ (98 ∷ 13 ∷ codes "c") ∷ [] ∷ [] }
three_lines = refl

-- blanks go from both ends of a field and stay within it, and an empty field is one
pub blanks_go : fields_of (codes " VA ,,R 22" ++ 9 ∷ codes ",") ≡ codes "VA" ∷ [] ∷ codes "R 22" ∷ [] ∷ []
blanks_go = refl

-- the line after the last is missing, and the first line that isn't blank is surplus
pub lines_at_fault : (line_of 10 [] ≡ Err (fault.Line 10)) ×
    (only_blank_lines 11 (codes "  " ∷ [] ∷ []) ≡ Ok tt) ×
    (only_blank_lines 11 (codes "  " ∷ codes "x" ∷ []) ≡ Err (fault.Line 12))
lines_at_fault = (refl, refl, refl)

-- a text holds no CR
pub texts : map (text_field 3 2) (codes "VA" ∷ [] ∷ (86 ∷ 13 ∷ []) ∷ [])
    ≡ Ok (codes "VA") ∷ Ok [] ∷ Err (fault.Field 3 2) ∷ []
unfolding text_field
texts = refl

-- leading zeros are allowed; a sign, an eleventh digit and nothing at all are not
pub numbers : map (number_field 5 1) (codes "0001" ∷ codes "+1" ∷ codes "12345678901" ∷ [] ∷ [])
    ≡ Ok 1 ∷ Err (fault.Field 5 1) ∷ Err (fault.Field 5 1) ∷ Err (fault.Field 5 1) ∷ []
unfolding number_field
numbers = refl

-- a position is this one and no other
pub positions : map (position_field 2 4 1) (codes "02" ∷ codes "3" ∷ []) ≡ Ok 2 ∷ Err (fault.Field 4 1) ∷ []
unfolding number_field position_field
positions = refl

-- up to 999 channels, with the one letter
pub counts : map (channel_count 65 quantity.Analogue 2 2)
    (codes "1A" ∷ codes "1a" ∷ codes "999A" ∷ codes "1000A" ∷ codes "1D" ∷ codes "A" ∷ [])
    ≡ Ok 1 ∷ Ok 1 ∷ Ok 999 ∷ Err (fault.Limit quantity.Analogue 2) ∷ Err (fault.Field 2 2) ∷ Err
    (fault.Field 2 2) ∷ []
unfolding channel_count
counts = refl

-- fifty or sixty hertz after rounding to microhertz
pub frequencies : map (frequency_field 4 1) (codes "50.00" ∷ codes "5e1" ∷ codes "59.9999995" ∷ codes
    "59.9999994" ∷ codes "x" ∷ [])
    ≡ Ok 50 ∷ Ok 50 ∷ Ok 60 ∷ Err (fault.Unsupported unsupported.Frequency 4) ∷ Err (fault.Field 4 1) ∷ []
unfolding decimal_of decimal_field frequency_field
frequencies = refl

-- at 50 Hz from 800 to 200,000 samples a second, judged after rounding to microhertz
pub rates : map (rate_field 50 6 1) (codes "1200" ∷ codes "799.9999995" ∷ codes "799.9999994" ∷ codes
    "200000.0000004" ∷ codes "200000.0000005" ∷ [])
    ≡ Ok 1200000000 ∷ Ok 800000000 ∷ Err (fault.Limit quantity.Rate 6) ∷ Ok 200000000000 ∷ Err
    (fault.Limit quantity.Rate 6) ∷ []
unfolding decimal_of decimal_field rate_field
rates = refl

-- up to fifty million samples
pub samples : map (samples_field 6 2) (codes "50000000" ∷ codes "50000001" ∷ codes "5e1" ∷ [])
    ≡ Ok 50000000 ∷ Err (fault.Limit quantity.Samples 6) ∷ Err (fault.Field 6 2) ∷ []
unfolding number_field samples_field
samples = refl

-- the date is judged before the time
pub moments : (moment_fields 7 (Ok (pos 5)) ≡ Ok (pos 5)) ×
    (moment_fields 7 (written_moment (codes "30/02/2024") (codes "24:00:00")) ≡ Err (fault.Field 7 1))
    × (moment_fields 7 (written_moment (codes "29/02/2024") (codes "24:00:00")) ≡ Err (fault.Field 7 2))
unfolding written_moment date_of time_of
moments = (refl, refl, refl)

-- the time quality is one hexadecimal digit
pub qualities : map hexadecimal (codes "9" ∷ codes "b" ∷ codes "F" ∷ codes "g" ∷ codes "10" ∷ [] ∷ [])
    ≡ Some 9 ∷ Some 11 ∷ Some 15 ∷ None ∷ None ∷ None ∷ []
qualities = refl

-- an announced leap second is unsupported
pub leap_seconds : map (leap_field 13 2) (codes "0" ∷ codes "3" ∷ codes "1" ∷ codes "4" ∷ [])
    ≡ Ok 0 ∷ Ok 3 ∷ Err (fault.Unsupported unsupported.LeapSecond 13) ∷ Err (fault.Field 13 2) ∷ []
unfolding leap_field
leap_seconds = refl

-- a local code is a time code, or x
pub local_codes : map local_code_of (codes "-5h30" ∷ codes "X" ∷ codes "15" ∷ [])
    ≡ Some (Some (negsuc 329)) ∷ Some None ∷ None ∷ []
unfolding code_of minutes_of
local_codes = refl
