-- Rows that haven't ten fields.
use Rattle.std.proofs.Common.{◌≡◌, ◌≢◌, suc, ◌≤◌, false, List, [], ◌∷◌, length, refl, ap, arith, Err}
use Rattle.pq_report.specs.ReportReading.{are_ten, fields_read}
use Rattle.pq_time.specs.declared.clock.Clock.{Clock}
use Rattle.pq_time.proofs.FieldLemmas.{some_part}
use Rattle.pq_words.specs.Text.{Text, parted_at}

not_ten : (fields : List Text) → length fields ≢ 10 → are_ten fields ≡ false
not_ten [] h = refl
not_ten (a ∷ []) h = refl
not_ten (a ∷ b ∷ []) h = refl
not_ten (a ∷ b ∷ c ∷ []) h = refl
not_ten (a ∷ b ∷ c ∷ d ∷ []) h = refl
not_ten (a ∷ b ∷ c ∷ d ∷ e ∷ []) h = refl
not_ten (a ∷ b ∷ c ∷ d ∷ e ∷ f ∷ []) h = refl
not_ten (a ∷ b ∷ c ∷ d ∷ e ∷ f ∷ g ∷ []) h = refl
not_ten (a ∷ b ∷ c ∷ d ∷ e ∷ f ∷ g ∷ i ∷ []) h = refl
not_ten (a ∷ b ∷ c ∷ d ∷ e ∷ f ∷ g ∷ i ∷ j ∷ []) h = refl
not_ten (a ∷ b ∷ c ∷ d ∷ e ∷ f ∷ g ∷ i ∷ j ∷ k ∷ []) h = absurd (h refl)
not_ten (a ∷ b ∷ c ∷ d ∷ e ∷ f ∷ g ∷ i ∷ j ∷ k ∷ l ∷ fields) h = refl

-- three fields before others
length_three : (a b c : Text) (all rest : List Text) → all ≡ a ∷ b ∷ c ∷ rest → length all ≡ suc (suc (suc
    (length rest)))
length_three a b c all rest is = ap length is

-- six fields, and three at most behind them
pub few_fields : (a b c d e f : Text) (all one two : List Text) → all ≡ a ∷ b ∷ c ∷ one → one
    ≡ d ∷ e ∷ f ∷ two → length two ≤ 3 → are_ten all ≡ false
few_fields a b c d e f all one two is next few =
    not_ten all (λ ten. omega (
      arith,
      ten,
      few,
      length_three a b c all one is,
      length_three d e f one two
          next,
    ))

-- nine fields, and two at least behind them
pub many_fields : (a b c d e f g h i x y : Text) (all one two three : List Text) → all ≡ a ∷ b ∷ c ∷ one → one
    ≡ d ∷ e ∷ f ∷ two → two ≡ g ∷ h ∷ i ∷ three → three ≡ x ∷ parted_at 44 y → are_ten all ≡ false
many_fields a b c d e f g h i x y all one two three is next third last =
    let length_last : length three ≡ suc (length (parted_at 44 y)) = ap length last in
    not_ten all (λ ten. omega (
      arith,
      ten,
      length_three a b c all one is,
      length_three d e f one two next,
      length_three g h i two three third,
      length_last,
      some_part 44 y,
    ))

-- a row of another number of fields
pub no_item : (clock : Clock) (fields : List Text) → are_ten fields ≡ false → fields_read clock fields ≡ Err 0
unfolding fields_read
no_item clock [] h = refl
no_item clock (a ∷ []) h = refl
no_item clock (a ∷ b ∷ []) h = refl
no_item clock (a ∷ b ∷ c ∷ []) h = refl
no_item clock (a ∷ b ∷ c ∷ d ∷ []) h = refl
no_item clock (a ∷ b ∷ c ∷ d ∷ e ∷ []) h = refl
no_item clock (a ∷ b ∷ c ∷ d ∷ e ∷ f ∷ []) h = refl
no_item clock (a ∷ b ∷ c ∷ d ∷ e ∷ f ∷ g ∷ []) h = refl
no_item clock (a ∷ b ∷ c ∷ d ∷ e ∷ f ∷ g ∷ i ∷ []) h = refl
no_item clock (a ∷ b ∷ c ∷ d ∷ e ∷ f ∷ g ∷ i ∷ j ∷ []) h = refl
no_item clock (a ∷ b ∷ c ∷ d ∷ e ∷ f ∷ g ∷ i ∷ j ∷ k ∷ []) h = absurd cc
no_item clock (a ∷ b ∷ c ∷ d ∷ e ∷ f ∷ g ∷ i ∷ j ∷ k ∷ l ∷ fields) h = refl
