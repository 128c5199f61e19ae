-- Each field is told by its value, and each value by its field.
use Rattle.std.proofs.Common.{◌≡◌, ℕ, ◌+◌, ◌%◌, ◌^◌, ◌<◌, Bool, true, false, ◌&&◌, nat_le, nat_lt, if◌then◌else◌, List, [], ◌∷◌, length, ℤ, Option, Some, None, option_map, find, bytes_eq, decimal, refl, sym, ap, ◌∙◌, subst, arith}
use Rattle.std.proofs.lemmas.Bool.Decides.{nat_tests}
use Rattle.std.proofs.lemmas.Fmt.{decimal_by_steps, decimal_is_IsNumeral, decimal_nonempty, length-decimal-le}
use Rattle.std.proofs.lemmas.List.Folds.{list_all-append}
use Rattle.std.proofs.lemmas.Slice.Eq.{bytes_eq-Decides}
use Rattle.std.specs.Char.{is_ascii_digit}
use Rattle.std.specs.List.{list_all}
use Rattle.std.specs.Str.Parse.{digits_value}
use Rattle.pq_items.specs.ItemRange.{IsTickInRange}
use Rattle.pq_report.specs.ReportReading.{has_ticks, kind_read, kinds, mark_read, number_read, passing, second_read, tick_read}
use Rattle.pq_report.specs.ReportText.{kind_word, mark_word, second_text, tick_text}
use Rattle.pq_report.specs.declared.kind.ItemKind.{ItemKind}
use Rattle.pq_report.specs.declared.kind.ItemKind.TheVariants as kind
use Rattle.pq_report.proofs.DigitLemmas.{both, test_all}
use Rattle.pq_report.proofs.TickLemmas.{second_found, second_is}
use Rattle.pq_words.specs.Text.{Text, digits_between}

pub front_true : (a b : Bool) → (a && b) ≡ true → (a ≡ true) × (b ≡ true)
front_true true b e = (refl, e)
front_true false b e = absurd cc

chosen : {A : Type 0} (b : Bool) (x y : A) → (if b then Some x else None) ≡ Some y → (b ≡ true) × (x ≡ y)
chosen true x y e = (refl, cc)
chosen false x y e = absurd cc

-- a value that passed
pub passing_is : {A : Type 0} (test : A → Bool) (o : Option A) (x : A) → passing test o ≡ Some x →
    (o ≡ Some x) × (test x ≡ true)
passing_is test (Some y) x e =
    let h = chosen (test y) y x e in
    (ap Some h.1, subst (λ z. test z ≡ true) h.1 h.0)
passing_is test None x e = absurd cc

pub passing_back : {A : Type 0} (test : A → Bool) (o : Option A) (x : A) → o ≡ Some x → test x ≡ true →
    passing test o ≡ Some x
passing_back test o x is passes = rw (is, passes) refl

-- ---- numbers

digits_of_decimal : (n : ℕ) → n < 2 ^ 64 → list_all is_ascii_digit (decimal n) ≡ true
digits_of_decimal n small = decimal_by_steps (λ _ ds. list_all is_ascii_digit ds ≡ true)
    (λ m less. both (is_ascii_digit (48 + m)) true (grind (arith, nat_tests)) refl)
    (λ m ds _ front. list_all-append is_ascii_digit ds ((48 + m % 10) ∷ [])
    ∙ both (list_all is_ascii_digit ds)
    (is_ascii_digit (48 + m % 10) && true) front (both (is_ascii_digit (48 + m % 10)) true
    (grind (arith, nat_tests)) refl)) n small

decimal_digits : (n : ℕ) → n < 2 ^ 64 → digits_between 1 20 (decimal n) ≡ Some n
decimal_digits n small =
    let some = decimal_nonempty n small in
    let long = length-decimal-le 20 n (omega arith) (omega (arith, small)) small in
    test_all (nat_le 1 (length (decimal n))) (nat_le (length (decimal n)) 20) (list_all is_ascii_digit
    (decimal n))
    (digits_value 10 (decimal n)) n (grind (arith, nat_tests, some)) (grind (arith, nat_tests, long))
    (digits_of_decimal n small) (decimal_is_IsNumeral n small).1

pub number_is : (field : Text) (n : ℕ) → number_read field ≡ Some n → (field ≡ decimal n) × (n < 2 ^ 64)
unfolding number_read
number_is field n is =
    let h = passing_is (λ k. nat_lt k (2 ^ 64) && bytes_eq field (decimal k))
    (digits_between 1 20 field) n is in
    let parts = front_true (nat_lt n (2 ^ 64)) (bytes_eq field (decimal n)) h.1 in
    ((bytes_eq-Decides field (decimal n)).0 parts.1, grind (arith, nat_tests, parts.0))

pub number_back : (n : ℕ) → n < 2 ^ 64 → number_read (decimal n) ≡ Some n
unfolding number_read
number_back n small =
    let less : nat_lt n (2 ^ 64) ≡ true = grind (arith, nat_tests, small) in
    passing_back (λ k. nat_lt k (2 ^ 64) && bytes_eq (decimal n) (decimal k)) (digits_between 1 20
    (decimal n)) n
    (decimal_digits n small) (both (nat_lt n (2 ^ 64)) (bytes_eq (decimal n) (decimal n)) less
    ((bytes_eq-Decides (decimal n) (decimal n)).1 refl))

-- ---- words

found_passes : {A : Type 0} (p : A → Bool) (xs : List A) (x : A) → find p xs ≡ Some x → p x ≡ true
found_passes p [] x e = absurd cc
found_passes p (y ∷ ys) x e = at (p y) refl (found_passes p ys x) e
  where
    at : (b : Bool) → p y ≡ b → (find p ys ≡ Some x → p x ≡ true) →
        (if b then Some y else find p ys) ≡ Some x →
        p x ≡ true
    at true is rest e = let same : y ≡ x = cc in subst (λ z. p z ≡ true) same is
    at false is rest e = rest e

pub kind_is : (field : Text) (k : ItemKind) → kind_read field ≡ Some k → field ≡ kind_word k
unfolding kind_read
kind_is field k is = (bytes_eq-Decides field (kind_word k)).0 (found_passes (λ j. bytes_eq field
    (kind_word j)) kinds k is)

pub kind_back : (k : ItemKind) → kind_read (kind_word k) ≡ Some k
unfolding kind_read
kind_back kind.Frequency = refl
kind_back kind.Basic = refl
kind_back kind.Short = refl
kind_back kind.Ten = refl
kind_back kind.TwoHour = refl
kind_back kind.Dip = refl
kind_back kind.Swell = refl
kind_back kind.Interruption = refl

mark_by : (field yes no : Text) (a b : Bool) (m : Bool) → bytes_eq field yes ≡ a → bytes_eq field no ≡ b →
    (if a then Some true else (if b then Some false else None)) ≡ Some m → (w : Bool → Text) → w true ≡ yes →
    w false ≡ no → field ≡ w m
mark_by field one two true b m e f is w p q =
    let same : true ≡ m = cc in (bytes_eq-Decides field one).0 e ∙ sym p ∙ ap w same
mark_by field one two false true m e f is w p q =
    let same : false ≡ m = cc in (bytes_eq-Decides field two).0 f ∙ sym q ∙ ap w same
mark_by field one two false false m e f is w p q = absurd cc

pub mark_is : (k : ItemKind) (field : Text) (m : Bool) → mark_read k field ≡ Some m → field ≡ mark_word k m
mark_is k field m is = mark_by field (mark_word k true) (mark_word k false) (bytes_eq field
    (mark_word k true))
    (bytes_eq field (mark_word k false)) m refl refl is (mark_word k) refl refl

pub mark_back : (k : ItemKind) (m : Bool) → mark_read k (mark_word k m) ≡ Some m
mark_back kind.Frequency true = refl
mark_back kind.Frequency false = refl
mark_back kind.Basic true = refl
mark_back kind.Basic false = refl
mark_back kind.Short true = refl
mark_back kind.Short false = refl
mark_back kind.Ten true = refl
mark_back kind.Ten false = refl
mark_back kind.TwoHour true = refl
mark_back kind.TwoHour false = refl
mark_back kind.Dip true = refl
mark_back kind.Dip false = refl
mark_back kind.Swell true = refl
mark_back kind.Swell false = refl
mark_back kind.Interruption true = refl
mark_back kind.Interruption false = refl

-- ---- ticks

some_is : (field : Text) (r : Option ℤ) (t : Option ℤ) → second_read field ≡ r → option_map Some r ≡ Some t →
    (second : ℤ) × (t ≡ Some second) × IsTickInRange second × (field ≡ second_text second)
some_is field (Some s) t is e =
    let same : t ≡ Some s = cc in
    let h = second_is field s is in
    (s, same, h.0, h.1)
some_is field None t is e = absurd cc

tick_by : (b : Bool) (field : Text) (t : Option ℤ) →
    (if b then option_map Some (second_read field) else (if bytes_eq field [] then Some None else None)) ≡
    Some t →
    (field ≡ tick_text t) × (b ≡ true → (second : ℤ) × (t ≡ Some second) × IsTickInRange second)
    × (b ≡ false → t ≡ None)
tick_by true field t e =
    let (s, same, range, text) = some_is field (second_read field) t refl e in
    (text ∙ sym (ap tick_text same), (λ _. (s, same, range)), λ bad. absurd cc)
tick_by false field t e =
    let h = chosen (bytes_eq field []) None t e in
    ((bytes_eq-Decides field []).0 h.0 ∙ ap tick_text h.1, (λ bad. absurd cc), λ _. sym h.1)

pub tick_is : (k : ItemKind) (field : Text) (t : Option ℤ) → tick_read k field ≡ Some t →
    (field ≡ tick_text t) × (has_ticks k ≡ true → (second : ℤ) × (t ≡ Some second) × IsTickInRange second)
    × (has_ticks k ≡ false → t ≡ None)
tick_is k field t e = tick_by (has_ticks k) field t e

pub tick_back : (k : ItemKind) (second : ℤ) → has_ticks k ≡ true → IsTickInRange second →
    tick_read k (second_text second) ≡ Some (Some second)
tick_back k second has range = rw has (ap (option_map Some) (second_found
    (second_text second) second range refl))
