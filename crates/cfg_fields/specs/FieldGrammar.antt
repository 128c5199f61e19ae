-- What a field is where it says its value, apart from any order of reading (C37.111, configuration file).
use Rattle.std.specs.Prelude.{◌≡◌, ◌==◌, ℤ, Some, option_map, IsFalse}
use Rattle.std.specs.List.{list_any}
use Rattle.pq_words.specs.Text.{Text}
use Rattle.pq_base.specs.Decimal.{decimal_of, shifted}

-- a text holds no CR
abbrev pub IsTextField : Text → Type 0
IsTextField text = IsFalse (list_any (λ c. c == 13) text)

-- a Decimal that is z after rounding to millionths
abbrev pub IsMillionths : Text → ℤ → Type 0
IsMillionths text z = option_map (λ x. shifted x 6) (decimal_of text) ≡ Some z
