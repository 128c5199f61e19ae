-- The order of faults: each line is read by a rule that tells faults of its own line.
use Rattle.std.proofs.Common.{◌≡◌, ℕ, zero, suc, ◌+◌, ◌<◌, ◌≤◌, ◌==◌, ◌||◌, Bool, true, false, cond, List, [], ◌∷◌, length, take, ℤ, Option, Some, None, Ok, Err, refl, sym, ap, ◌∙◌, arith}
use Rattle.std.specs.Prelude.{codes}
use Rattle.std.specs.Str.{str_eq_ignore_ascii_case}
use Rattle.pq_words.specs.Text.{Text}
use Rattle.pq_words.specs.FirstFault.{◌>>=◌}
use Rattle.pq_time.specs.Moment.{written_moment}
use Rattle.pq_time.specs.Written.{code_of}
use Rattle.cfg_fields.specs.declared.fault.CfgFault.{CfgFault}
use Rattle.cfg_fields.specs.declared.fault.CfgFault.TheVariants as fault
use Rattle.cfg_fields.specs.declared.fault.Quantity.TheVariants as quantity
use Rattle.cfg_fields.specs.declared.fault.Unsupported.TheVariants as unsupported
use Rattle.cfg_fields.specs.Fields.{LineRule, channel_count, decimal_text, field_or_fault, hexadecimal, leap_field, line_of_fault, local_code_of, number_field, on_line, position_field, rate_field, samples_field, text_field}
use Rattle.cfg_fields.proofs.FaultLines.{IsAtLine, at_bind, at_err, at_ok, at_ok_or, at_provided, count_at_line, frequency_at, leap_at, moment_at_line, number_at, position_at, rate_at, samples_at_line, spelling_at, text_at}
use Rattle.comtrade_cfg.specs.declared.cfg.Analogue.{Analogue}
use Rattle.comtrade_cfg.specs.declared.cfg.StatusLine.{StatusLine}
use Rattle.comtrade_cfg.specs.declared.cfg.Zone.{Zone}
use Rattle.comtrade_cfg.specs.declared.cfg.FileType.TheVariants.{Binary}
use Rattle.comtrade_cfg.specs.declared.head_lines.Station.{Station}
use Rattle.comtrade_cfg.specs.CfgText.{analogue_fields, analogue_line, channel_lines, configuration_ahead, lines_behind, counts_line, file_type_line, frequency_line, is_other_file_type, rates_line, sampling_line, stamp_line, station_fields, station_line, status_fields, status_line, time_code_line, time_quality_line, timemult_line, zone_lines}
use Rattle.comtrade_cfg.specs.FaultOrder.{HasNoFault, OrdersFaults, said_by}
use Rattle.comtrade_cfg.proofs.LocalReading.{IsLocal, IsLocalEnd, blank_local, both_local, line_local, nothing_local, then_local}

-- ---- the rules of lines

wrong : {A : Type 0} (n : ℕ) → IsAtLine {A = A} n (Err (fault.Line n))
wrong n = at_err n (fault.Line n) refl

station_at : (n : ℕ) (fields : List Text) → IsAtLine n (station_line n fields)
unfolding station_fields
station_at n [] = wrong n
station_at n (a ∷ []) = wrong n
station_at n (a ∷ b ∷ []) = at_err n (fault.Unsupported unsupported.Revision n) refl
station_at n (station ∷ device ∷ revision ∷ []) =
    at_bind n (text_field n 1 station) _ (text_at n 1 station) (λ s.
    at_bind n (text_field n 2 device) _ (text_at n 2 device) (λ d.
    at_bind n (number_field n 3 revision) _ (number_at n 3 revision) (λ r.
    at_provided n ((r == 1999) || (r == 2013)) (fault.Unsupported unsupported.Revision n) _ refl)))
station_at n (a ∷ b ∷ c ∷ d ∷ more) = wrong n

counts_at : (n : ℕ) (fields : List Text) → IsAtLine n (counts_line n fields)
counts_at n [] = wrong n
counts_at n (a ∷ []) = wrong n
counts_at n (a ∷ b ∷ []) = wrong n
counts_at n (total ∷ analogue ∷ status ∷ []) =
    at_bind n (channel_count 65 quantity.Analogue n 2 analogue) _
    (count_at_line 65 quantity.Analogue n 2 analogue) (λ a.
    at_bind n (channel_count 68 quantity.Status n 3 status) _ (count_at_line 68 quantity.Status n 3 status)
    (λ d.
    at_bind n (position_field (a + d) n 1 total) _ (position_at (a + d) n 1 total) (λ t. at_ok n _)))
counts_at n (a ∷ b ∷ c ∷ d ∷ more) = wrong n

analogue_at : (position n : ℕ) (fields : List Text) → IsAtLine n (analogue_line position n fields)
unfolding analogue_fields
analogue_at position n (an ∷ id ∷ phase ∷ component ∷ unit ∷ a ∷ b ∷ skew ∷ min ∷ max ∷ primary ∷ secondary ∷
    ps ∷ []) =
    at_bind n (position_field position n 1 an) _ (position_at position n 1 an) (λ x1.
    at_bind n (text_field n 2 id) _ (text_at n 2 id) (λ x2.
    at_bind n (text_field n 3 phase) _ (text_at n 3 phase) (λ x3.
    at_bind n (text_field n 4 component) _ (text_at n 4 component) (λ x4.
    at_bind n (text_field n 5 unit) _ (text_at n 5 unit) (λ x5.
    at_bind n (decimal_text n 6 a) _ (spelling_at n 6 a) (λ x6.
    at_bind n (decimal_text n 7 b) _ (spelling_at n 7 b) (λ x7.
    at_bind n (text_field n 8 skew) _ (text_at n 8 skew) (λ x8.
    at_bind n (text_field n 9 min) _ (text_at n 9 min) (λ x9.
    at_bind n (text_field n 10 max) _ (text_at n 10 max) (λ x10.
    at_bind n (text_field n 11 primary) _ (text_at n 11 primary) (λ x11.
    at_bind n (text_field n 12 secondary) _ (text_at n 12 secondary) (λ x12.
    at_bind n (text_field n 13 ps) _ (text_at n 13 ps) (λ x13. at_ok n _)))))))))))))
analogue_at position n _ = wrong n

status_at : (position n : ℕ) (fields : List Text) → IsAtLine n (status_line position n fields)
unfolding status_fields
status_at position n (dn ∷ id ∷ phase ∷ component ∷ normal ∷ []) =
    at_bind n (position_field position n 1 dn) _ (position_at position n 1 dn) (λ x1.
    at_bind n (text_field n 2 id) _ (text_at n 2 id) (λ x2.
    at_bind n (text_field n 3 phase) _ (text_at n 3 phase) (λ x3.
    at_bind n (text_field n 4 component) _ (text_at n 4 component) (λ x4.
    at_bind n (text_field n 5 normal) _ (text_at n 5 normal) (λ x5. at_ok n _)))))
status_at position n _ = wrong n

frequency_line_at : (n : ℕ) (fields : List Text) → IsAtLine n (frequency_line n fields)
frequency_line_at n [] = wrong n
frequency_line_at n (lf ∷ []) = frequency_at n 1 lf
frequency_line_at n (a ∷ b ∷ more) = wrong n

rates_at : (n : ℕ) (fields : List Text) → IsAtLine n (rates_line n fields)
rates_at n [] = wrong n
rates_at n (nrates ∷ []) =
    at_bind n (number_field n 1 nrates) _ (number_at n 1 nrates)
    (λ r. at_provided n (r == 1) (fault.Unsupported unsupported.Rates n) r refl)
rates_at n (a ∷ b ∷ more) = wrong n

sampling_at : (lf n : ℕ) (fields : List Text) → IsAtLine n (sampling_line lf n fields)
sampling_at lf n [] = wrong n
sampling_at lf n (a ∷ []) = wrong n
sampling_at lf n (samp ∷ endsamp ∷ []) =
    at_bind n (rate_field lf n 1 samp) _ (rate_at lf n 1 samp) (λ rate.
    at_bind n (samples_field n 2 endsamp) _ (samples_at_line n 2 endsamp) (λ s. at_ok n _))
sampling_at lf n (a ∷ b ∷ c ∷ more) = wrong n

stamp_at : (n : ℕ) (fields : List Text) → IsAtLine n (stamp_line n fields)
stamp_at n [] = wrong n
stamp_at n (a ∷ []) = wrong n
stamp_at n (date ∷ time ∷ []) = moment_at_line n (written_moment date time)
stamp_at n (a ∷ b ∷ c ∷ more) = wrong n

file_type_at : (n : ℕ) (fields : List Text) → IsAtLine n (file_type_line n fields)
file_type_at n [] = wrong n
file_type_at n (ft ∷ []) = at (str_eq_ignore_ascii_case ft (codes "BINARY")) (is_other_file_type ft)
  where
    at : (b c : Bool) → IsAtLine n (cond b (Ok Binary)
        (cond c (Err (fault.Unsupported unsupported.FileType n)) (Err (fault.Field n 1))))
    at true c = at_ok n Binary
    at false true = at_err n (fault.Unsupported unsupported.FileType n) refl
    at false false = at_err n (fault.Field n 1) refl
file_type_at n (a ∷ b ∷ more) = wrong n

timemult_at : (n : ℕ) (fields : List Text) → IsAtLine n (timemult_line n fields)
timemult_at n [] = wrong n
timemult_at n (timemult ∷ []) = spelling_at n 1 timemult
timemult_at n (a ∷ b ∷ more) = wrong n

codes_at : (n : ℕ) (fields : List Text) → IsAtLine n (time_code_line n fields)
codes_at n [] = wrong n
codes_at n (a ∷ []) = wrong n
codes_at n (time_code ∷ local_code ∷ []) =
    at_bind n (field_or_fault n 1 (code_of time_code)) _ (at_ok_or n (code_of time_code)
    (fault.Field n 1) refl)
    (λ t. at_bind n (field_or_fault n 2 (local_code_of local_code)) _
    (at_ok_or n (local_code_of local_code) (fault.Field n 2) refl) (λ l. at_ok n _))
codes_at n (a ∷ b ∷ c ∷ more) = wrong n

quality_at : (n : ℕ) (fields : List Text) → IsAtLine n (time_quality_line n fields)
quality_at n [] = wrong n
quality_at n (a ∷ []) = wrong n
quality_at n (tmq_code ∷ leapsec ∷ []) =
    at_bind n (field_or_fault n 1 (hexadecimal tmq_code)) _
    (at_ok_or n (hexadecimal tmq_code) (fault.Field n 1) refl)
    (λ q. at_bind n (leap_field n 2 leapsec) _ (leap_at n 2 leapsec) (λ l. at_ok n _))
quality_at n (a ∷ b ∷ c ∷ more) = wrong n

-- ---- readings of several lines

channels_local : {A : Type 0} (rule : ℕ → LineRule A) → ((p n : ℕ) (fields : List Text) →
    IsAtLine n (rule p n fields)) → (position count : ℕ) → IsLocal (channel_lines rule position count)
unfolding channel_lines
channels_local rule at_line position zero = nothing_local []
channels_local rule at_line position (suc count) =
    both_local (on_line (rule position))
    (λ x ahead. channel_lines rule (position + 1) count ahead >>= λ others. Ok (x ∷ others.0, others.1))
    (line_local (rule position) (at_line position))
    (λ x. both_local (channel_lines rule (position + 1) count) (λ others ahead. Ok (x ∷ others, ahead))
    (channels_local rule at_line (position + 1) count) (λ others. nothing_local (x ∷ others)))

zone_of : ℤ × Option ℤ → ℕ × ℕ → Zone
zone_of codes quality =
    record { time_code = codes.0; local_code = codes.1; quality = quality.0; leap = quality.1 }

zone_local : (is_2013 : Bool) → IsLocal (zone_lines is_2013)
zone_local true =
    both_local (on_line time_code_line)
    (λ codes ahead. on_line time_quality_line ahead >>= λ quality. Ok (
      Some (record {
        time_code = codes.0;
        local_code = codes.1;
        quality = quality.0.0;
        leap = quality.0.1;
      }),
      quality.1,
    ))
    (line_local time_code_line codes_at)
    (λ codes. both_local (on_line time_quality_line) (λ quality ahead. Ok (
      Some (record {
        time_code = codes.0;
        local_code = codes.1;
        quality = quality.0;
        leap = quality.1;
      }),
      ahead,
    ))
    (line_local time_quality_line quality_at) (λ quality. nothing_local _))
zone_local false = nothing_local None

-- ---- the whole

behind_local : (station : Station) (analogue : List Analogue) (status : List StatusLine) →
    IsLocalEnd (lines_behind station analogue status)
unfolding lines_behind
behind_local station analogue status =
    then_local (on_line frequency_line) _ (line_local frequency_line frequency_line_at) (λ lf.
    then_local (on_line rates_line) _ (line_local rates_line rates_at) (λ rates.
    then_local (on_line (sampling_line lf)) _ (line_local (sampling_line lf) (sampling_at lf)) (λ sampling.
    then_local (on_line stamp_line) _ (line_local stamp_line stamp_at) (λ first.
    then_local (on_line stamp_line) _ (line_local stamp_line stamp_at) (λ trigger.
    then_local (on_line file_type_line) _ (line_local file_type_line file_type_at) (λ file_type.
    then_local (on_line timemult_line) _ (line_local timemult_line timemult_at) (λ timemult.
    then_local (zone_lines (station.revision == 2013)) _ (zone_local (station.revision == 2013)) (λ zone.
    blank_local _))))))))

ahead_local : IsLocalEnd configuration_ahead
unfolding configuration_ahead
ahead_local =
    then_local (on_line station_line) _ (line_local station_line station_at) (λ station.
    then_local (on_line counts_line) _ (line_local counts_line counts_at) (λ counts.
    then_local (channel_lines analogue_line 1 counts.analogue) _
    (channels_local analogue_line analogue_at 1 counts.analogue) (λ analogue.
    then_local (channel_lines status_line 1 counts.status) _
    (channels_local status_line status_at 1 counts.status) (λ status. behind_local station analogue status))))

-- as many lines as were taken are taken again
take_few : (lines : List Text) (k : ℕ) → length (take k lines) ≤ k
take_few lines zero = omega arith
take_few [] (suc k) = omega arith
take_few (x ∷ lines) (suc k) = let rest = take_few lines k in omega (arith, rest)

take_again : (lines : List Text) (k : ℕ) → take (length (take k lines)) lines ≡ take k lines
take_again lines zero = refl
take_again [] (suc k) = refl
take_again (x ∷ lines) (suc k) = ap (λ ls. x ∷ ls) (take_again lines k)

one_more : (n : ℕ) → 1 + n ≡ n + 1
one_more n = omega arith

-- the law of the order of faults
pub orders_faults : OrdersFaults
orders_faults = record { same = same; first = first }
  where
    same : (lines others : List Text) (e : CfgFault) → said_by lines ≡ Err e →
        take (line_of_fault e) others ≡ take (line_of_fault e) lines → said_by others ≡ Err e
    same lines others e fails agree =
        let s = ahead_local.ends 1 lines e fails in
        let k : line_of_fault e ≡ s.before + 1 = omega (arith, s.line) in
        s.same others (ap (λ k. take k others) (sym k) ∙ agree ∙ ap (λ k. take k lines) k)

    first : (lines : List Text) (e : CfgFault) (k : ℕ) → said_by lines ≡ Err e → k < line_of_fault e →
        HasNoFault (take k lines)
    first lines e k fails before d h =
        let s = ahead_local.ends 1 lines e fails in
        let size : ℕ = length (take k lines) in
        let told = s.first size (omega (arith, s.line, before, take_few lines k)) d
        (ap said_by (take_again lines k) ∙ h) in
        told ∙ ap fault.Line (one_more size)
