-- Texts of bytes that need no quotes, end no row and part no fields.
use Rattle.std.proofs.Common.{◌≡◌, ℕ, zero, suc, ◌+◌, ◌/◌, ◌%◌, ◌<◌, ◌^◌, Bool, true, false, ◌&&◌, [], ◌∷◌, ◌++◌, ℤ, Option, Some, None, refl, ◌∙◌, arith, decimal}
use Rattle.std.proofs.lemmas.Bool.Decides.{nat_tests}
use Rattle.std.proofs.lemmas.Fmt.{decimal_by_steps}
use Rattle.std.proofs.lemmas.List.Folds.{list_all-append}
use Rattle.std.specs.Prelude.{nat_le}
use Rattle.std.specs.List.{list_all}
use Rattle.pq_report.specs.ReportText.{flag_word, kind_word, mark_word, open_word, tick_text}
use Rattle.pq_report.specs.declared.kind.ItemKind.{ItemKind}
use Rattle.pq_report.specs.declared.kind.ItemKind.TheVariants as kind
use Rattle.pq_time.specs.Printed.{date_shown, hms_text, printed_moment, time_shown, time_text, ymd_text}
use Rattle.pq_time.specs.Tick.{moment_of}
use Rattle.pq_time.specs.Written.{CivilDate, TimeOfDay}
use Rattle.pq_words.specs.Text.{Text, padded}

-- a byte from `-` on, as digits, letters, points and colons are; no comma, quote or line end
abbrev pub is_plain : ℕ → Bool
is_plain b = nat_le 45 b

abbrev pub IsPlain : Text → Type 0
IsPlain text = list_all is_plain text ≡ true

both : (a b : Bool) → a ≡ true → b ≡ true → (a && b) ≡ true
both true true e f = refl
both true false e f = f
both false b e f = e

pub plain_append : (xs ys : Text) → IsPlain xs → IsPlain ys → IsPlain (xs ++ ys)
plain_append xs ys e f =
    list_all-append is_plain xs ys ∙ both (list_all is_plain xs) (list_all is_plain ys) e f

plain_digit : (n : ℕ) → IsPlain ((48 + n) ∷ [])
plain_digit n =
    let is : nat_le 45 (48 + n) ≡ true = grind (arith, nat_tests) in
    both (nat_le 45 (48 + n)) true is refl

pub plain_decimal : (n : ℕ) → n < 2 ^ 64 → IsPlain (decimal n)
plain_decimal n small = decimal_by_steps (λ _ ds. IsPlain ds) (λ n _. plain_digit n)
    (λ n ds _ front. plain_append ds ((48 + n % 10) ∷ []) front (plain_digit (n % 10))) n small

pub plain_padded : (k n : ℕ) → IsPlain (padded k n)
plain_padded zero n = refl
plain_padded (suc k) n =
    plain_append (padded k (n / 10)) ((48 + n % 10) ∷ []) (plain_padded k (n / 10)) (plain_digit (n % 10))

plain_ymd : (d : CivilDate) → IsPlain (ymd_text d)
plain_ymd d = plain_append (padded 4 d.year) (45 ∷ padded 2 d.month ++ 45 ∷ padded 2 d.day)
    (plain_padded 4 d.year) (plain_append (padded 2 d.month) (45 ∷ padded 2 d.day) (plain_padded 2 d.month)
    (plain_padded 2 d.day))

plain_hms : (t : TimeOfDay) → IsPlain (hms_text t)
plain_hms t = plain_append (padded 2 t.hour) (58 ∷ padded 2 t.minute ++ 58 ∷ padded 2 t.second)
    (plain_padded 2 t.hour) (plain_append (padded 2 t.minute) (58 ∷ padded 2 t.second)
    (plain_padded 2 t.minute) (plain_padded 2 t.second))

plain_time : (t : TimeOfDay) → IsPlain (time_text t)
plain_time t = plain_append (hms_text t) (46 ∷ padded 9 t.nanosecond) (plain_hms t)
    (plain_padded 9 t.nanosecond)

pub plain_moment : (moment : ℤ) → IsPlain (printed_moment moment)
unfolding printed_moment
plain_moment moment =
    let d = date_shown moment in
    let t = time_shown moment in
    plain_append (ymd_text d) (84 ∷ time_text t ++ 90 ∷ []) (plain_ymd d)
    (plain_append (time_text t) (90 ∷ []) (plain_time t) refl)

pub plain_tick : (tick : Option ℤ) → IsPlain (tick_text tick)
plain_tick None = refl
plain_tick (Some second) = plain_moment (moment_of second)

pub plain_kind : (k : ItemKind) → IsPlain (kind_word k)
plain_kind kind.Frequency = refl
plain_kind kind.Basic = refl
plain_kind kind.Short = refl
plain_kind kind.Ten = refl
plain_kind kind.TwoHour = refl
plain_kind kind.Dip = refl
plain_kind kind.Swell = refl
plain_kind kind.Interruption = refl

plain_flag : (mark : Bool) → IsPlain (flag_word mark)
plain_flag true = refl
plain_flag false = refl

plain_open : (mark : Bool) → IsPlain (open_word mark)
plain_open true = refl
plain_open false = refl

pub plain_mark : (k : ItemKind) (mark : Bool) → IsPlain (mark_word k mark)
plain_mark kind.Frequency mark = plain_flag mark
plain_mark kind.Basic mark = plain_flag mark
plain_mark kind.Short mark = plain_flag mark
plain_mark kind.Ten mark = plain_flag mark
plain_mark kind.TwoHour mark = plain_flag mark
plain_mark kind.Dip mark = plain_open mark
plain_mark kind.Swell mark = plain_open mark
plain_mark kind.Interruption mark = plain_open mark
