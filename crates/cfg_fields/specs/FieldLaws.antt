-- The laws of fields: a field is read as a value exactly where it holds it, and a printed number reads back.
use Rattle.std.specs.Prelude.{◌≡◌, ◌↔◌, ◌⊎◌, ℕ, ◌*◌, ◌^◌, ◌<◌, ◌≤◌, [], ◌∷◌, ◌++◌, pos, Some, Ok, decimal, IsSome, IsTrue}
use Rattle.pq_words.specs.Text.{Text, number}
use Rattle.pq_words.specs.declared.limits.TheConstants.{MOST_SAMPLES}
use Rattle.pq_base.specs.Decimal.{decimal_of}
use Rattle.cfg_fields.specs.declared.limits.TheConstants.{MOST_CHANNELS}
use Rattle.cfg_fields.specs.declared.fault.Quantity.{Quantity}
use Rattle.cfg_fields.specs.FieldGrammar.{IsMillionths, IsTextField}
use Rattle.cfg_fields.specs.Fields.{channel_count, decimal_text, frequency_field, is_rate, leap_digit, leap_field, lettered, number_field, position_field, rate_field, samples_field, text_field}

-- each field of a line is read as a value exactly where it holds it
pub record ReadsFields : Type 0 where
  pub texts : (line field : ℕ) (text : Text) → (text_field line field text ≡ Ok text) ↔ IsTextField text
  pub numbers : (line field : ℕ) (text : Text) (n : ℕ) →
      (number_field line field text ≡ Ok n) ↔ (number text ≡ Some n)
  pub positions : (position line field : ℕ) (text : Text) →
      (position_field position line field text ≡ Ok position) ↔ (number text ≡ Some position)
  pub spellings : (line field : ℕ) (text : Text) →
      (decimal_text line field text ≡ Ok text) ↔ IsSome (decimal_of text)
  pub counts : (capital : ℕ) (what : Quantity) (line field : ℕ) (text : Text) (n : ℕ) →
      (channel_count capital what line field text ≡ Ok n) ↔
      ((lettered capital text ≡ Some n) × (n ≤ MOST_CHANNELS))
  pub frequencies : (line field : ℕ) (text : Text) (n : ℕ) → (frequency_field line field text ≡ Ok n) ↔
      (IsMillionths text (pos (n * 10 ^ 6)) × ((n ≡ 50) ⊎ (n ≡ 60)))
  pub rates : (lf line field : ℕ) (text : Text) (n : ℕ) → (rate_field lf line field text ≡ Ok n) ↔
      (IsMillionths text (pos n) × IsTrue (is_rate lf n))
  pub sample_counts : (line field : ℕ) (text : Text) (n : ℕ) → (samples_field line field text ≡ Ok n) ↔
      ((number text ≡ Some n) × (n ≤ MOST_SAMPLES))
  pub leaps : (line field : ℕ) (text : Text) (n : ℕ) → (leap_field line field text ≡ Ok n) ↔
      ((leap_digit text ≡ Some n) × ((n ≡ 0) ⊎ (n ≡ 3)))

-- a printed number, also before a letter, reads back to itself
pub record ReadsNumbersBack : Type 0 where
  pub alone : (n : ℕ) → n < 10 ^ 10 → number (decimal n) ≡ Some n
  pub with_letter : (capital n : ℕ) → n < 10 ^ 10 → lettered capital (decimal n ++ capital ∷ []) ≡ Some n
