-- Each rule for a field tells a fault of the line that it is asked of.
use Rattle.std.proofs.Common.{◌≡◌, ℕ, ◌*◌, ◌==◌, ◌&&◌, ◌||◌, Bool, true, false, ℤ, List, Option, Some, None, Result, Ok, Err, refl, sym, subst, ap, ◌∙◌}
use Rattle.std.specs.Prelude.{nat_le, not}
use Rattle.std.specs.Option.{ok_or}
use Rattle.std.specs.List.{list_any}
use Rattle.pq_words.specs.Text.{Text, number}
use Rattle.pq_words.specs.FirstFault.{◌>>=◌, provided}
use Rattle.pq_words.specs.declared.limits.TheConstants.{MOST_SAMPLES}
use Rattle.pq_base.specs.Decimal.{decimal_of, shifted}
use Rattle.pq_time.specs.declared.bad_moment.BadMoment.{BadMoment}
use Rattle.pq_time.specs.declared.bad_moment.BadMoment.TheVariants as bad
use Rattle.cfg_fields.specs.declared.limits.TheConstants.{MOST_CHANNELS}
use Rattle.cfg_fields.specs.declared.fault.CfgFault.{CfgFault}
use Rattle.cfg_fields.specs.declared.fault.CfgFault.TheVariants as fault
use Rattle.cfg_fields.specs.declared.fault.Quantity.{Quantity}
use Rattle.cfg_fields.specs.declared.fault.Quantity.TheVariants as quantity
use Rattle.cfg_fields.specs.declared.fault.Unsupported.TheVariants as unsupported
use Rattle.cfg_fields.specs.Fields.{channel_count, decimal_field, decimal_text, field_or_fault, frequency_field, frequency_of, leap_digit, leap_field, lettered, line_of_fault, moment_fields, number_field, position_field, rate_field, rate_of, samples_field, text_field}

-- a fault of what was read is at this line
pub record IsAtLine {A : Type 0} (line : ℕ) (read : Result A CfgFault) : Type 0 where
  pub at : (e : CfgFault) → read ≡ Err e → line_of_fault e ≡ line

pub at_ok : {A : Type 0} (line : ℕ) (x : A) → IsAtLine line (Ok x)
at_ok line x = record { at = λ e is. absurd cc }

pub at_err : {A : Type 0} (line : ℕ) (d : CfgFault) → line_of_fault d ≡ line → IsAtLine {A = A} line (Err d)
at_err {A} line d here = record { at = λ e is. let same : d ≡ e = cc in ap line_of_fault (sym same) ∙ here }

pub at_bind : {A B : Type 0} (line : ℕ) (r : Result A CfgFault) (f : A → Result B CfgFault)
    → IsAtLine line r →
    ((x : A) → IsAtLine line (f x)) → IsAtLine line (r >>= f)
at_bind line (Ok x) f first later = later x
at_bind line (Err d) f first later = at_err line d (first.at d refl)

pub at_provided : {A : Type 0} (line : ℕ) (test : Bool) (d : CfgFault) (x : A) → line_of_fault d ≡ line →
    IsAtLine line (provided test d x)
at_provided line true d x here = at_ok line x
at_provided line false d x here = at_err line d here

pub at_ok_or : {A : Type 0} (line : ℕ) (o : Option A) (d : CfgFault) → line_of_fault d ≡ line →
    IsAtLine line (ok_or o d)
at_ok_or line (Some x) d here = at_ok line x
at_ok_or line None d here = at_err line d here

-- ---- the fields

pub text_at : (line field : ℕ) (text : Text) → IsAtLine line (text_field line field text)
unfolding text_field
text_at line field text = at_provided line (not (list_any (λ c. c == 13) text))
    (fault.Field line field) text refl

pub number_at : (line field : ℕ) (text : Text) → IsAtLine line (number_field line field text)
unfolding number_field
number_at line field text = at_ok_or line (number text) (fault.Field line field) refl

pub position_at : (position line field : ℕ) (text : Text) → IsAtLine line
    (position_field position line field text)
unfolding position_field
position_at position line field text =
    at_bind line (number_field line field text) _ (number_at line field text)
    (λ n. at_provided line (n == position) (fault.Field line field) n refl)

decimal_at : (line field : ℕ) (text : Text) → IsAtLine line (decimal_field line field text)
unfolding decimal_field
decimal_at line field text = at_ok_or line (decimal_of text) (fault.Field line field) refl

pub spelling_at : (line field : ℕ) (text : Text) → IsAtLine line (decimal_text line field text)
unfolding decimal_text
spelling_at line field text =
    at_bind line (decimal_field line field text) _ (decimal_at line field text) (λ x. at_ok line text)

pub count_at_line : (capital : ℕ) (what : Quantity) (line field : ℕ) (text : Text) →
    IsAtLine line (channel_count capital what line field text)
unfolding channel_count
count_at_line capital what line field text =
    at_bind line (field_or_fault line field (lettered capital text)) _
    (at_ok_or line (lettered capital text) (fault.Field line field) refl)
    (λ n. at_provided line (nat_le n MOST_CHANNELS) (fault.Limit what line) n refl)

pub frequency_at : (line field : ℕ) (text : Text) → IsAtLine line (frequency_field line field text)
unfolding frequency_field
frequency_at line field text =
    at_bind line (decimal_field line field text) _ (decimal_at line field text)
    (λ x. at_ok_or line (frequency_of (shifted x 6)) (fault.Unsupported unsupported.Frequency line) refl)

pub rate_at : (lf line field : ℕ) (text : Text) → IsAtLine line (rate_field lf line field text)
unfolding rate_field
rate_at lf line field text =
    at_bind line (decimal_field line field text) _ (decimal_at line field text)
    (λ x. at_ok_or line (rate_of lf (shifted x 6)) (fault.Limit quantity.Rate line) refl)

pub samples_at_line : (line field : ℕ) (text : Text) → IsAtLine line (samples_field line field text)
unfolding samples_field
samples_at_line line field text =
    at_bind line (number_field line field text) _ (number_at line field text)
    (λ n. at_provided line (nat_le n MOST_SAMPLES) (fault.Limit quantity.Samples line) n refl)

pub moment_at_line : (line : ℕ) (r : Result ℤ BadMoment) → IsAtLine line (moment_fields line r)
moment_at_line line (Ok moment) = at_ok line moment
moment_at_line line (Err bad.Date) = at_err line (fault.Field line 1) refl
moment_at_line line (Err bad.Time) = at_err line (fault.Field line 2) refl

pub leap_at : (line field : ℕ) (text : Text) → IsAtLine line (leap_field line field text)
unfolding leap_field
leap_at line field text =
    at_bind line (field_or_fault line field (leap_digit text)) _
    (at_ok_or line (leap_digit text) (fault.Field line field) refl)
    (λ leap. at_provided line ((leap == 0) || (leap == 3)) (fault.Unsupported unsupported.LeapSecond line)
    leap refl)
