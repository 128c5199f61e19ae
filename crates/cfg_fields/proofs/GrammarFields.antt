-- What each kind of field holds: a field is read as a value exactly where it holds it.
use Rattle.std.proofs.Common.{◌≡◌, ℕ, ◌*◌, ◌^◌, ◌≤◌, ◌⊎◌, inl, inr, Bool, true, false, cond, not, Option, Some, None, ℤ, pos, negsuc, Result, Ok, refl, sym, subst, ap, ◌∙◌, nat_le, ◌==◌, ◌||◌}
use Rattle.std.specs.Prelude.{option_map, IsTrue, IsSome}
use Rattle.std.specs.Option.{ok_or}
use Rattle.std.proofs.lemmas.Bool.{eqb-true, eq-eqb, leb-true, le-leb}
use Rattle.pq_words.specs.Text.{Text, number}
use Rattle.pq_words.specs.FirstFault.{◌>>=◌, provided}
use Rattle.pq_words.proofs.ReadingLemmas.{provided_ok, some_ok}
use Rattle.pq_base.specs.declared.decimal.Scaled.{Scaled}
use Rattle.pq_base.specs.Decimal.{decimal_of, shifted}
use Rattle.std.specs.List.{list_any}
use Rattle.cfg_fields.specs.declared.fault.CfgFault.{CfgFault}
use Rattle.cfg_fields.specs.declared.fault.CfgFault.TheVariants as fault
use Rattle.cfg_fields.specs.declared.fault.Quantity.{Quantity}
use Rattle.cfg_fields.specs.declared.fault.Quantity.TheVariants as quantity
use Rattle.cfg_fields.specs.declared.fault.Unsupported.TheVariants as unsupported
use Rattle.cfg_fields.specs.Fields.{field_or_fault, text_field, number_field, position_field, decimal_field, decimal_text, lettered, channel_count, frequency_of, frequency_field, is_rate, rate_of, rate_field, samples_field, leap_digit, leap_field}
use Rattle.cfg_fields.specs.FieldGrammar.{IsTextField, IsMillionths}
use Rattle.cfg_fields.proofs.ReadingLaws.{from_bind, same_ok, goes}
use Rattle.cfg_fields.proofs.WrittenFacts.{mapped_some}

-- one of two tests held
pub either : (a b : Bool) → (a || b) ≡ true → (a ≡ true) ⊎ (b ≡ true)
either true b e = inl refl
either false b e = inr e

-- a number is one of two
pub one_of : (n a b : ℕ) → ((n == a) || (n == b)) ≡ true → (n ≡ a) ⊎ (n ≡ b)
one_of n a b e = at (either (n == a) (n == b) e)
  where
    at : ((n == a) ≡ true) ⊎ ((n == b) ≡ true) → (n ≡ a) ⊎ (n ≡ b)
    at (inl h) = inl (eqb-true n a h)
    at (inr h) = inr (eqb-true n b h)

-- either of two numbers passes
pub among : (n a b : ℕ) → (n ≡ a) ⊎ (n ≡ b) → ((n == a) || (n == b)) ≡ true
among n a b (inl h) = ap (λ t. t || (n == b)) (eq-eqb n a h)
among n a b (inr h) = at (n == a) (eq-eqb n b h)
  where
    at : (t : Bool) → (n == b) ≡ true → (t || (n == b)) ≡ true
    at true e = refl
    at false e = e

-- ---- texts, numbers and decimals

-- what is not true is false
not_true : (b : Bool) → not b ≡ true → b ≡ false
not_true true e = absurd cc
not_true false e = refl

-- a text field that was read
pub text_found : (line field : ℕ) (text value : Text) → text_field line field text ≡ Ok value
    → IsTextField text
unfolding text_field
text_found line field text value e =
    not_true (list_any (λ c. c == 13) text)
    (provided_ok (not (list_any (λ c. c == 13) text)) (fault.Field line field) text value e).0

-- a text field that was read, for what is shown of it and of what came after it
pub text_step : {B : Type 0} (line field : ℕ) (text : Text) (f : Text → Result B CfgFault) (y : B) →
    (text_field line field text >>= f) ≡ Ok y → {P : Type 0} → (IsTextField text → f text ≡ Ok y → P) → P
unfolding text_field
text_step line field text f y e g =
    from_bind (text_field line field text) f y e (λ value is e.
    let p = provided_ok _ (fault.Field line field) text value is in
    g (not_true _ p.0) (ap f p.1 ∙ e))

-- a text is read as a text field
pub text_again : (line field : ℕ) (text : Text) → IsTextField text → text_field line field text ≡ Ok text
unfolding text_field
text_again line field text h = ap (λ b. provided (not b) (fault.Field line field) text) h

-- a Number that was read
pub number_found : (line field : ℕ) (text : Text) (n : ℕ) → number_field line field text ≡ Ok n → number text
    ≡ Some n
unfolding number_field
number_found line field text n e = some_ok (number text) (fault.Field line field) n e

-- a Number is read as a number
pub number_again : (line field : ℕ) (text : Text) (n : ℕ) → number text ≡ Some n →
    number_field line field text ≡ Ok n
unfolding number_field
number_again line field text n h = ap (λ o. field_or_fault line field o) h

-- a position that was read
pub position_found : (position line field : ℕ) (text : Text) (n : ℕ) → position_field position line field text
    ≡ Ok n → number text ≡ Some position
unfolding position_field
position_found position line field text n e =
    from_bind (number_field line field text) _ n e (λ k k_is e.
    let p = provided_ok (k == position) (fault.Field line field) k n e in
    number_found line field text k k_is ∙ ap Some (eqb-true k position p.0))

-- a position is read as a position
pub position_again : (position line field : ℕ) (text : Text) → number text ≡ Some position →
    position_field position line field text ≡ Ok position
unfolding position_field
position_again position line field text h =
    goes (number_field line field text) _ position (number_again line field text position h)
    ∙ ap (λ b. provided b (fault.Field line field) position) (eq-eqb position position refl)

-- a Decimal that was read
pub decimal_found : (line field : ℕ) (text : Text) (x : Scaled) → decimal_field line field text ≡ Ok x →
    decimal_of text ≡ Some x
unfolding decimal_field
decimal_found line field text x e = some_ok (decimal_of text) (fault.Field line field) x e

-- a Decimal is read as a decimal
pub decimal_again : (line field : ℕ) (text : Text) (x : Scaled) → decimal_of text ≡ Some x →
    decimal_field line field text ≡ Ok x
unfolding decimal_field
decimal_again line field text x h = ap (λ o. field_or_fault line field o) h

-- what is a value is there
is_there : {A : Type 0} (o : Option A) (x : A) → o ≡ Some x → IsSome o
is_there (Some y) x e = refl
is_there None x e = absurd cc

-- what is there is a value
what_is : {A : Type 0} (o : Option A) → IsSome o → (x : A) × (o ≡ Some x)
what_is (Some x) h = (x, refl)
what_is None h = absurd cc

-- a Decimal that keeps its spelling was read
pub spelling_found : (line field : ℕ) (text value : Text) → decimal_text line field text ≡ Ok value →
    IsSome (decimal_of text) × (text ≡ value)
unfolding decimal_text
spelling_found line field text value e =
    from_bind (decimal_field line field text) _ value e
    (λ x x_is same. (is_there (decimal_of text) x (decimal_found line field text x x_is), same_ok same))

-- the same, for what is shown of it and of what came after it
pub spelling_step : {B : Type 0} (line field : ℕ) (text : Text) (f : Text → Result B CfgFault) (y : B) →
    (decimal_text line field text >>= f) ≡ Ok y → {P : Type 0} →
    (IsSome (decimal_of text) → f text ≡ Ok y → P) → P
spelling_step line field text f y e g =
    from_bind (decimal_text line field text) f y e (λ value is e. let d =
    spelling_found line field text value is in g d.0 (ap f d.1 ∙ e))

-- a Decimal is read with its spelling
pub spelling_again : (line field : ℕ) (text : Text) → IsSome (decimal_of text) → decimal_text line field text
    ≡ Ok text
unfolding decimal_text
spelling_again line field text h =
    let d = what_is (decimal_of text) h in
    goes (decimal_field line field text) _ d.0 (decimal_again line field text d.0 d.1)

-- ---- numbers with limits

-- a number of channels that was read
pub count_found : (capital : ℕ) (what : Quantity) (line field : ℕ) (text : Text) (n : ℕ) →
    channel_count capital what line field text ≡ Ok n → (lettered capital text ≡ Some n) × (n ≤ 999)
unfolding channel_count
count_found capital what line field text n e =
    from_bind (field_or_fault line field (lettered capital text)) _ n e (λ k k_is e.
    let p = provided_ok (nat_le k 999) (fault.Limit what line) k n e in (
      some_ok (lettered capital text) (fault.Field line field) k k_is ∙ ap Some p.1,
      subst (λ n. n ≤ 999) p.1 (leb-true k 999 p.0),
    ))

-- a number of channels is read as such
pub count_again : (capital : ℕ) (what : Quantity) (line field : ℕ) (text : Text) (n : ℕ) →
    lettered capital text ≡ Some n → n ≤ 999 → channel_count capital what line field text ≡ Ok n
unfolding channel_count
count_again capital what line field text n h few =
    goes (field_or_fault line field (lettered capital text)) _ n (ap (λ o. field_or_fault line field o) h)
    ∙ ap (λ b. provided b (fault.Limit what line) n) (le-leb n 999 few)

-- which microhertz give a line frequency
frequency_from : (z : ℤ) (n : ℕ) → frequency_of z ≡ Some n → (z ≡ pos (n * 10 ^ 6)) × ((n ≡ 50) ⊎ (n ≡ 60))
frequency_from (pos k) n e = at (k == 50000000) (k == 60000000) refl refl e
  where
    at : (a b : Bool) → (k == 50000000) ≡ a → (k == 60000000) ≡ b → cond a (Some 50) (cond b (Some 60) None)
        ≡ Some n → (pos k ≡ pos (n * 10 ^ 6)) × ((n ≡ 50) ⊎ (n ≡ 60))
    at true b p q e = let same : 50 ≡ n = cc in (
      ap pos (eqb-true k 50000000 p)
          ∙ ap (λ n. pos (n * 10 ^ 6)) same,
      inl (sym same),
    )
    at false true p q e = let same : 60 ≡ n = cc in (
      ap pos (eqb-true k 60000000 q)
          ∙ ap (λ n. pos (n * 10 ^ 6)) same,
      inr (sym same),
    )
    at false false p q e = absurd cc
frequency_from (negsuc k) n e = absurd cc

-- a line frequency that was read
pub frequency_found : (line field : ℕ) (text : Text) (n : ℕ) → frequency_field line field text ≡ Ok n →
    IsMillionths text (pos (n * 10 ^ 6)) × ((n ≡ 50) ⊎ (n ≡ 60))
unfolding frequency_field
frequency_found line field text n e =
    from_bind (decimal_field line field text) _ n e (λ x x_is e.
    let f = frequency_from (shifted x 6) n (some_ok (frequency_of (shifted x 6)) _ n e) in
    (ap (λ o. option_map (λ x. shifted x 6) o) (decimal_found line field text x x_is) ∙ ap Some f.0, f.1))

-- fifty and sixty hertz are line frequencies
frequency_known : (n : ℕ) → (n ≡ 50) ⊎ (n ≡ 60) → frequency_of (pos (n * 10 ^ 6)) ≡ Some n
frequency_known n (inl h) = subst (λ n. frequency_of (pos (n * 10 ^ 6)) ≡ Some n) (sym h) refl
frequency_known n (inr h) = subst (λ n. frequency_of (pos (n * 10 ^ 6)) ≡ Some n) (sym h) refl

-- a line frequency is read as such
pub frequency_again : (line field : ℕ) (text : Text) (n : ℕ) → IsMillionths text (pos (n * 10 ^ 6)) →
    (n ≡ 50) ⊎ (n ≡ 60) → frequency_field line field text ≡ Ok n
unfolding frequency_field
frequency_again line field text n h known =
    let d = mapped_some (λ (x : Scaled). shifted x 6) (decimal_of text) (pos (n * 10 ^ 6)) h in
    goes (decimal_field line field text) _ d.0 (decimal_again line field text d.0 d.1)
    ∙ ap (λ o. ok_or o (fault.Unsupported unsupported.Frequency line))
    (ap frequency_of d.2 ∙ frequency_known n known)

-- which microhertz give a rate
rate_from : (lf : ℕ) (z : ℤ) (n : ℕ) → rate_of lf z ≡ Some n → (z ≡ pos n) × IsTrue (is_rate lf n)
rate_from lf (pos k) n e = at (is_rate lf k) refl e
  where
    at : (b : Bool) → is_rate lf k ≡ b → cond b (Some k) None ≡ Some n → (pos k ≡ pos n) ×
        IsTrue (is_rate lf n)
    at true is e = let same : k ≡ n = cc in (ap pos same, sym (ap (is_rate lf) same) ∙ is)
    at false is e = absurd cc
rate_from lf (negsuc k) n e = absurd cc

-- a rate that was read
pub rate_found : (lf line field : ℕ) (text : Text) (n : ℕ) → rate_field lf line field text ≡ Ok n →
    IsMillionths text (pos n) × IsTrue (is_rate lf n)
unfolding rate_field
rate_found lf line field text n e =
    from_bind (decimal_field line field text) _ n e (λ x x_is e.
    let r = rate_from lf (shifted x 6) n (some_ok (rate_of lf (shifted x 6)) _ n e) in
    (ap (λ o. option_map (λ x. shifted x 6) o) (decimal_found line field text x x_is) ∙ ap Some r.0, r.1))

-- a rate is read as such
pub rate_again : (lf line field : ℕ) (text : Text) (n : ℕ) → IsMillionths text (pos n) → IsTrue (is_rate lf n)
    → rate_field lf line field text ≡ Ok n
unfolding rate_field
rate_again lf line field text n h within =
    let d = mapped_some (λ (x : Scaled). shifted x 6) (decimal_of text) (pos n) h in
    goes (decimal_field line field text) _ d.0 (decimal_again line field text d.0 d.1)
    ∙ ap (λ o. ok_or o (fault.Limit quantity.Rate line))
    (ap (rate_of lf) d.2 ∙ ap (λ b. cond b (Some n) None) within)

-- a number of samples that was read
pub samples_found : (line field : ℕ) (text : Text) (n : ℕ) → samples_field line field text ≡ Ok n →
    (number text ≡ Some n) × (n ≤ 50000000)
unfolding samples_field
samples_found line field text n e =
    from_bind (number_field line field text) _ n e (λ k k_is e.
    let p = provided_ok (nat_le k 50000000) (fault.Limit quantity.Samples line) k n e in (
      number_found line field text k k_is ∙ ap Some p.1,
      subst (λ n. n ≤ 50000000) p.1 (leb-true k 50000000 p.0),
    ))

-- a number of samples is read as such
pub samples_again : (line field : ℕ) (text : Text) (n : ℕ) → number text ≡ Some n → n ≤ 50000000 →
    samples_field line field text ≡ Ok n
unfolding samples_field
samples_again line field text n h few =
    goes (number_field line field text) _ n (number_again line field text n h)
    ∙ ap (λ b. provided b (fault.Limit quantity.Samples line) n) (le-leb n 50000000 few)

-- a leap second field that was read
pub leap_found : (line field : ℕ) (text : Text) (n : ℕ) → leap_field line field text ≡ Ok n →
    (leap_digit text ≡ Some n) × ((n ≡ 0) ⊎ (n ≡ 3))
unfolding leap_field
leap_found line field text n e =
    from_bind (field_or_fault line field (leap_digit text)) _ n e (λ k k_is e.
    let p = provided_ok ((k == 0) || (k == 3)) (fault.Unsupported unsupported.LeapSecond line) k n e in (
      some_ok (leap_digit text) (fault.Field line field) k k_is ∙ ap Some p.1,
      subst (λ n. (n ≡ 0) ⊎ (n ≡ 3)) p.1 (one_of k 0 3 p.0),
    ))

-- a leap second field is read as such
pub leap_again : (line field : ℕ) (text : Text) (n : ℕ) → leap_digit text ≡ Some n → (n ≡ 0) ⊎ (n ≡ 3) →
    leap_field line field text ≡ Ok n
unfolding leap_field
leap_again line field text n h known =
    goes (field_or_fault line field (leap_digit text)) _ n (ap (λ o. field_or_fault line field o) h)
    ∙ ap (λ b. provided b (fault.Unsupported unsupported.LeapSecond line) n) (among n 0 3 known)
