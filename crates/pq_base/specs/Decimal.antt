-- Decimals, the real numbers of cfg fields, and their rounding to whole units (profile).
use Rattle.std.specs.Prelude.{◌≡◌, ℕ, ◌+◌, ◌*◌, ◌/◌, ◌^◌, Bool, true, false, ◌||◌, ◌==◌, nat_le, if◌then◌else◌, List, [], ◌∷◌, ◌++◌, length, ℤ, pos, negsuc, neg_ℤ, ◌+ℤ◌, ◌-ℤ◌, Option, Some, None, option_map, option_and_then}
use Rattle.std.specs.Char.{is_ascii_digit}
use Rattle.std.specs.List.{list_all, slice_split}
use Rattle.std.specs.Option.{option_map_or}
use Rattle.std.specs.Str.Parse.{digits_value_after}
use Rattle.pq_words.specs.Text.{Text, parted_at, digits_between}
use Rattle.pq_base.specs.declared.decimal.Scaled.{Scaled}

-- the sign of a text, and the text after it: an optional `+` or `-`
abbrev pub signed_text : Text → Bool × Text
signed_text [] = (false, [])
signed_text (c ∷ text) = if c == 45 then (true, text) else
    (if c == 43 then (false, text) else (false, c ∷ text))

-- minus n where the sign is negative, else n
abbrev pub with_sign : Bool → ℕ → ℤ
with_sign true n = neg_ℤ (pos n)
with_sign false n = pos n

-- a text cut at the first byte that passes, if one does: its parts are the front and those of the rest
abbrev pub IsCut : (ℕ → Bool) → Text → Text → Option Text → Type 0
IsCut test text front rest =
    slice_split test text ≡ front ∷ option_map_or (slice_split test) rest []

-- the number that the digits of `front` and then those of the text write; None where a byte is no digit
abbrev pub digits_from : ℕ → Text → Option ℕ
digits_from front text =
    if list_all is_ascii_digit text then Some (digits_value_after 10 front text) else None

-- `e` or `E`
abbrev pub is_exponent_mark : ℕ → Bool
is_exponent_mark c = (c == 101) || (c == 69)

-- an optional sign and one to three digits
abbrev pub exponent_of : Text → Option ℤ
exponent_of text = let s = signed_text text in option_map (with_sign s.0) (digits_between 1 3 s.1)

-- 1 to 32 digits in all, of which `fraction` stand after the point
abbrev pub scaled_by : Bool → Text → Text → ℤ → Option Scaled
scaled_by negative whole fraction exponent =
    option_map (λ n. record { negative = negative; digits = n; exponent = exponent -ℤ pos (length fraction) })
    (digits_between 1 32 (whole ++ fraction))

-- the digits of a mantissa that is parted at its point, if it has one
abbrev pub mantissa_of : Bool → List Text → ℤ → Option Scaled
mantissa_of negative (whole ∷ []) exponent = scaled_by negative whole [] exponent
mantissa_of negative (whole ∷ fraction ∷ []) exponent = scaled_by negative whole fraction exponent
mantissa_of negative _ exponent = None

-- a text without its sign, parted at its exponent mark, if it has one
abbrev pub unsigned_decimal : Bool → List Text → Option Scaled
unsigned_decimal negative (mantissa ∷ []) = mantissa_of negative (parted_at 46 mantissa) (pos 0)
unsigned_decimal negative (mantissa ∷ exponent ∷ []) =
    option_and_then (mantissa_of negative (parted_at 46 mantissa)) (exponent_of exponent)
unsigned_decimal negative _ = None

-- the value of a Decimal; None where the text is no Decimal
unfoldable pub decimal_of : Text → Option Scaled
decimal_of text = let s = signed_text text in unsigned_decimal s.0 (slice_split is_exponent_mark s.1)

-- n divided by d, rounded half up: half away from zero, of a magnitude
abbrev pub rounded_quotient : ℕ → ℕ → ℕ
rounded_quotient n d = (2 * n + d) / (2 * d)

-- the magnitude of digits times ten to the exponent, rounded
abbrev pub rounded_power : ℕ → ℤ → ℕ
rounded_power digits (pos e) = digits * 10 ^ e
rounded_power digits (negsuc e) = rounded_quotient digits (10 ^ (e + 1))

-- the magnitude of the value times ten to the shift, rounded half away from zero
abbrev pub shifted_magnitude : Scaled → ℕ → ℕ
shifted_magnitude x shift = rounded_power x.digits (x.exponent +ℤ pos shift)

-- the value times ten to the shift, rounded half away from zero to a whole number
abbrev pub shifted : Scaled → ℕ → ℤ
shifted x shift = with_sign x.negative (shifted_magnitude x shift)

-- the same; None where its magnitude is above `most`
abbrev pub shifted_within : ℕ → Scaled → ℕ → Option ℤ
shifted_within most x shift = if nat_le (shifted_magnitude x shift) most then Some (shifted x shift) else None

-- an integer divided by d, rounded half away from zero
abbrev pub rounded_ratio : ℤ → ℕ → ℤ
rounded_ratio (pos n) d = pos (rounded_quotient n d)
rounded_ratio (negsuc n) d = neg_ℤ (pos (rounded_quotient (n + 1) d))
