-- How large the parts of a configuration are that some text says.
use Rattle.std.proofs.Common.{◌≡◌, ℕ, zero, suc, ◌+◌, ◌*◌, ◌^◌, ◌<◌, ◌≤◌, ◌⊎◌, Bool, true, false, cond, List, [], ◌∷◌, length, ℤ, pos, neg_ℤ, Option, Some, None, Result, Ok, Err, refl, sym, subst, ap, ◌∙◌, arith, nat_le, nat_lt, ◌==◌, ◌&&◌}
use Rattle.std.specs.Option.{ForSome}
use Rattle.std.specs.Char.{digit_value}
use Rattle.std.proofs.lemmas.Bool.{and_parts, ltb-true, leb-true}
use Rattle.jiff_core.specs.Calendar.{days_in_month, IsBetween}
use Rattle.jiff_core.specs.declared.civil.date.Date.{Date}
use Rattle.jiff_core.proofs.SignedLemmas.{signed_arith}
use Rattle.pq_words.specs.Text.{Text}
use Rattle.pq_words.specs.Magnitude.{IsWithin}
use Rattle.pq_words.proofs.ReadingLemmas.{some_ok}
use Rattle.pq_time.specs.declared.bad_moment.BadMoment.TheVariants as bad
use Rattle.pq_time.specs.declared.bad_moment.BadMoment.{BadMoment}
use Rattle.pq_time.specs.Written.{CivilDate, TimeOfDay, is_civil_date, date_of, clock_time_of as time_of, code_of}
use Rattle.pq_time.specs.Moment.{day_number, nanoseconds_in_day, moment_at, moment_read, written_moment, utc_of}
use Rattle.pq_time.proofs.DayLemmas.{written_day}
use Rattle.comtrade_cfg.specs.declared.head_lines.ChannelCounts.{ChannelCounts}
use Rattle.comtrade_cfg.specs.declared.sampling_lines.Sampling.{Sampling}
use Rattle.comtrade_cfg.specs.declared.cfg.Zone.{Zone}
use Rattle.cfg_fields.specs.declared.fault.CfgFault.TheVariants as fault
use Rattle.cfg_fields.specs.declared.fault.Quantity.TheVariants as quantity
use Rattle.comtrade_cfg.specs.Configuration.{Configuration}
use Rattle.cfg_fields.specs.Fields.{Ahead, LineRule, ahead_of, on_line, channel_count, position_field, rate_field, samples_field, moment_fields, fields_of, local_code_of, leap_field, field_or_fault, hexadecimal}
use Rattle.comtrade_cfg.specs.CfgText.{configuration_of, configuration_ahead, channel_lines, counts_line, frequency_line, sampling_line, stamp_line, zone_lines, time_code_line, time_quality_line, analogue_line, status_line, offset_of, IsConfiguration}
use Rattle.comtrade_cfg.specs.Bounds.{ConfigurationsAreBounded, IsBounded}
use Rattle.comtrade_cfg.proofs.LinesRead.{LinesRead, lines_read}
use Rattle.cfg_fields.proofs.ReadingLaws.{line_read, from_bind, same_ok}
use Rattle.cfg_fields.proofs.GrammarFields.{count_found, frequency_found, rate_found, samples_found}
use Rattle.cfg_fields.proofs.WrittenFacts.{date_civil, IsClockTime, time_clock, code_small}

-- ---- channels

counts_small : (line : ℕ) (fields : List Text) (n : ChannelCounts) → counts_line line fields ≡ Ok n →
    (n.analogue ≤ 999) × (n.status ≤ 999)
counts_small line [] n e = absurd cc
counts_small line (a ∷ []) n e = absurd cc
counts_small line (a ∷ b ∷ []) n e = absurd cc
counts_small line (total ∷ analogue ∷ status ∷ []) n e =
    from_bind (channel_count 65 quantity.Analogue line 2 analogue) _ n e
    (λ a a_is e. from_bind (channel_count 68 quantity.Status line 3 status) _ n e (λ d d_is e.
    from_bind (position_field (a + d) line 1 total) _ n e (λ t t_is e.
    let same_a : a ≡ n.analogue = ap (λ (n : ChannelCounts). n.analogue) (same_ok e) in
    let same_d : d ≡ n.status = ap (λ (n : ChannelCounts). n.status) (same_ok e) in (
      omega (arith, same_a, (count_found 65 quantity.Analogue line 2 analogue a a_is).1),
      omega (arith, same_d, (count_found 68 quantity.Status line 3 status d d_is).1),
    ))))
counts_small line (a ∷ b ∷ c ∷ d ∷ more) n e = absurd cc

-- as many lines as were asked for
pub channels_read : {A : Type 0} (rule : ℕ → LineRule A) (position n : ℕ) (start : Ahead) (y : List A × Ahead)
    → channel_lines rule position n start ≡ Ok y → length y.0 ≡ n
unfolding channel_lines
channels_read {A} rule position zero start y e = let same : [] ≡ y.0 =
    ap (λ (z : List A × Ahead). z.0) (same_ok e) in ap length (sym same)
channels_read {A} rule position (suc n) start y e =
    from_bind (on_line (rule position) start) _ y e (λ first first_is e. from_bind
    (channel_lines rule (position + 1) n first.1) _ y e (λ others others_is e.
    let same : first.0 ∷ others.0 ≡ y.0 = ap (λ (z : List A × Ahead). z.0) (same_ok e) in
    ap length (sym same) ∙ ap suc (channels_read rule (position + 1) n first.1 others others_is)))

-- ---- frequency and rate

frequency_line_read : (line : ℕ) (fields : List Text) (n : ℕ) → frequency_line line fields ≡ Ok n →
    (n ≡ 50) ⊎ (n ≡ 60)
frequency_line_read line [] n e = absurd cc
frequency_line_read line (lf ∷ []) n e = (frequency_found line 1 lf n e).1
frequency_line_read line (a ∷ b ∷ more) n e = absurd cc

rate_read : (lf line field : ℕ) (text : Text) (n : ℕ) → rate_field lf line field text ≡ Ok n →
    (16 * lf * 10 ^ 6 ≤ n) × (n ≤ 200_000_000_000)
rate_read lf line field text n e =
    let p = and_parts (nat_le (16 * lf * 10 ^ 6) n) (nat_le n 200000000000)
    (rate_found lf line field text n e).1 in
    (leb-true (16 * lf * 10 ^ 6) n p.0, leb-true n 200000000000 p.1)

sampling_read : (lf line : ℕ) (fields : List Text) (s : Sampling) → sampling_line lf line fields ≡ Ok s →
    (16 * lf * 10 ^ 6 ≤ s.rate) × (s.rate ≤ 200_000_000_000) × (s.endsamp ≤ 50_000_000)
sampling_read lf line [] s e = absurd cc
sampling_read lf line (a ∷ []) s e = absurd cc
sampling_read lf line (samp ∷ endsamp ∷ []) s e =
    from_bind (rate_field lf line 1 samp) _ s e (λ rate rate_is e. from_bind (samples_field line 2 endsamp) _
    s e (λ n n_is e.
    let same_rate : rate ≡ s.rate = ap (λ (s : Sampling). s.rate) (same_ok e) in
    let same_n : n ≡ s.endsamp = ap (λ (s : Sampling). s.endsamp) (same_ok e) in
    let r = rate_read lf line 1 samp rate rate_is in (
      omega (arith, same_rate, r.0),
      omega (arith, same_rate, r.1),
      omega (arith, same_n, (samples_found line 2 endsamp n n_is).1),
    )))
sampling_read lf line (a ∷ b ∷ c ∷ more) s e = absurd cc

-- ---- moments

-- a written moment is that of a date and a time that were read
pub record IsRead (date time : Text) (written : ℤ) : Type 0 where
  pub day : CivilDate
  pub clock : TimeOfDay
  pub day_is : date_of date ≡ Some day
  pub clock_is : time_of time ≡ Some clock
  pub is : moment_at day clock ≡ written

moment_of : (date time : Text) (d : Option CivilDate) (t : Option TimeOfDay) (written : ℤ) → date_of date ≡ d
    → time_of time ≡ t → moment_read d t ≡ Ok written → IsRead date time written
moment_of date time None t written d_is t_is e = absurd cc
moment_of date time (Some d) None written d_is t_is e = absurd cc
moment_of date time (Some d) (Some t) written d_is t_is e =
    record { day = d; clock = t; day_is = d_is; clock_is = t_is; is = same_ok e }

moment_fields_read : (line : ℕ) (r : Result ℤ BadMoment) (written : ℤ) → moment_fields line r ≡ Ok written → r
    ≡ Ok written
moment_fields_read line (Ok m) written e = ap Ok (same_ok e)
moment_fields_read line (Err bad.Date) written e = absurd cc
moment_fields_read line (Err bad.Time) written e = absurd cc

-- the two fields of a stamp line
pub stamp_read : (line : ℕ) (fields : List Text) (written : ℤ) → stamp_line line fields ≡ Ok written →
    (date : Text) × (time : Text) × IsRead date time written
unfolding written_moment
stamp_read line [] written e = absurd cc
stamp_read line (a ∷ []) written e = absurd cc
stamp_read line (date ∷ time ∷ []) written e = (
  date,
  time,
  moment_of date time (date_of date) (time_of time) written refl refl
      (moment_fields_read line (written_moment date time) written e),
)
stamp_read line (a ∷ b ∷ c ∷ more) written e = absurd cc

-- ---- the day of a date

-- the calendar has the day, from 1900 to 2199
pub record IsCivil (d : CivilDate) : Type 0 where
  pub from : 1900 ≤ d.year
  pub until : d.year ≤ 2199
  pub month : (1 ≤ d.month) × (d.month ≤ 12)
  pub day : (1 ≤ d.day) × (d.day ≤ days_in_month (pos d.year) d.month)

pub civil : (d : CivilDate) → is_civil_date d ≡ true → IsCivil d
civil d is =
    let p = and_parts (nat_le 1900 d.year && nat_le d.year 2199)
    ((nat_le 1 d.month && nat_le d.month 12) && (nat_le 1 d.day && nat_le d.day
    (days_in_month (pos d.year) d.month))) is in
    let y = and_parts (nat_le 1900 d.year) (nat_le d.year 2199) p.0 in
    let q = and_parts (nat_le 1 d.month && nat_le d.month 12)
    (nat_le 1 d.day && nat_le d.day (days_in_month (pos d.year) d.month)) p.1 in
    let m = and_parts (nat_le 1 d.month) (nat_le d.month 12) q.0 in
    let k = and_parts (nat_le 1 d.day) (nat_le d.day (days_in_month (pos d.year) d.month)) q.1 in
    record {
      from = leb-true 1900 d.year y.0;
      until = leb-true d.year 2199 y.1;
      month = (leb-true 1 d.month m.0, leb-true d.month 12 m.1);
      day = (leb-true 1 d.day k.0, leb-true d.day (days_in_month (pos d.year) d.month) k.1);
    }

-- the same date as jiff has it
abbrev pub date_in : (d : CivilDate) → IsCivil d → Date
date_in d c = record {
  year = pos d.year;
  month = d.month;
  day = d.day;
  year_in = (omega (arith, signed_arith, c.from, c.until), omega (arith, signed_arith, c.from, c.until));
  month_in = c.month;
  day_in = c.day;
}

-- its day number
pub day_between : (d : CivilDate) → IsCivil d → IsBetween (neg_ℤ (pos 25_567)) (pos 84_005) (day_number d)
day_between d c = written_day (date_in d c) (omega (arith, signed_arith, c.from))
    (omega (arith, signed_arith, c.until))

-- a time of day is less than a day
pub nanoseconds_bound : (t : TimeOfDay) → IsClockTime t → nanoseconds_in_day t < 86_400_000_000_000
nanoseconds_bound t c = omega (arith, c.hour, c.minute, c.second, c.nanosecond)

-- a moment from 1900 to 2199
pub moment_within : (d : CivilDate) (t : TimeOfDay) → IsCivil d → IsClockTime t →
    IsWithin (7_300 * 10 ^ 15) (moment_at d t)
moment_within d t civil clock =
    let day = day_between d civil in
    let rest = nanoseconds_bound t clock in
    omega (arith, signed_arith, day, rest)

-- ---- zones

codes_small : (line : ℕ) (fields : List Text) (x : ℤ × Option ℤ) → time_code_line line fields ≡ Ok x →
    IsWithin 899 x.0
codes_small line [] x e = absurd cc
codes_small line (a ∷ []) x e = absurd cc
codes_small line (time_code ∷ local_code ∷ []) x e =
    from_bind (field_or_fault line 1 (code_of time_code)) _ x e
    (λ t t_is e. from_bind (field_or_fault line 2 (local_code_of local_code)) _ x e (λ l l_is e.
    let same : t ≡ x.0 = ap (λ (x : ℤ × Option ℤ). x.0) (same_ok e) in
    subst (IsWithin 899) same (code_small time_code t (some_ok (code_of time_code) _ t t_is))))
codes_small line (a ∷ b ∷ c ∷ more) x e = absurd cc

-- the offset of written moments is less than 15 hours to either side
pub offset_small : (is_2013 : Bool) (start : Ahead) (y : Option Zone × Ahead) → zone_lines is_2013 start
    ≡ Ok y → IsWithin 899 (offset_of y.0)
offset_small true start y e =
    from_bind (on_line time_code_line start) _ y e (λ codes codes_is e. from_bind
    (on_line time_quality_line codes.1) _ y e (λ quality quality_is e.
    let r = line_read time_code_line start codes codes_is in
    let same : codes.0.0 ≡ offset_of y.0 = ap (λ (y : Option Zone × Ahead). offset_of y.0) (same_ok e) in
    subst (IsWithin 899) same (codes_small start.number (fields_of r.line) codes.0 r.value)))
offset_small false start y e =
    let same : pos 0 ≡ offset_of y.0 = ap (λ (y : Option Zone × Ahead). offset_of y.0) (same_ok e) in
    subst (IsWithin 899) same (omega (arith, signed_arith), omega (arith, signed_arith))

hexadecimal_small : (text : Text) (n : ℕ) → hexadecimal text ≡ Some n → n < 16
hexadecimal_small [] n e = absurd cc
hexadecimal_small (c ∷ []) n e = at (nat_lt (digit_value c) 16) refl e
  where
    at : (b : Bool) → nat_lt (digit_value c) 16 ≡ b → cond b (Some (digit_value c)) None ≡ Some n → n < 16
    at true is e = let same : digit_value c ≡ n = cc in omega (arith, same, ltb-true (digit_value c) 16 is)
    at false is e = absurd cc
hexadecimal_small (c ∷ d ∷ more) n e = absurd cc

-- the time quality of a line is a hexadecimal digit
pub quality_small : (line : ℕ) (fields : List Text) (x : ℕ × ℕ) → time_quality_line line fields ≡ Ok x →
    x.0 < 16
quality_small line [] x e = absurd cc
quality_small line (a ∷ []) x e = absurd cc
quality_small line (tmq_code ∷ leapsec ∷ []) x e =
    from_bind (field_or_fault line 1 (hexadecimal tmq_code)) _ x e
    (λ q q_is e. from_bind (leap_field line 2 leapsec) _ x e (λ l l_is e.
    let same : q ≡ x.0 = ap (λ (x : ℕ × ℕ). x.0) (same_ok e) in
    omega (arith, same, hexadecimal_small tmq_code q (some_ok (hexadecimal tmq_code) _ q q_is))))
quality_small line (a ∷ b ∷ c ∷ more) x e = absurd cc

-- the time quality is one hexadecimal digit
pub zone_quality : (is_2013 : Bool) (start : Ahead) (y : Option Zone × Ahead) → zone_lines is_2013 start
    ≡ Ok y → ForSome y.0 (λ z. z.quality < 16)
zone_quality true start y e z there =
    from_bind (on_line time_code_line start) _ y e (λ codes codes_is e. from_bind
    (on_line time_quality_line codes.1) _ y e (λ quality quality_is e.
    let r = line_read time_quality_line codes.1 quality quality_is in
    let zone : Zone = record {
      time_code = codes.0.0;
      local_code = codes.0.1;
      quality = quality.0.0;
      leap =
          quality.0.1;
    } in
    let same : Some zone ≡ Some z = ap (λ (y : Option Zone × Ahead). y.0) (same_ok e) ∙ there in
    let is : zone ≡ z = cc in
    subst (λ (z : Zone). z.quality < 16) is (quality_small codes.1.number (fields_of r.line) quality.0
    r.value)))
zone_quality false start y e z there = absurd (let same : None ≡ Some z =
    ap (λ (y : Option Zone × Ahead). y.0) (same_ok e) ∙ there in cc)

-- ---- the whole

utc_within : (written minutes : ℤ) → IsWithin (7_300 * 10 ^ 15) written → IsWithin 899 minutes →
    IsWithin (8 * 10 ^ 18) (utc_of written minutes)
utc_within written minutes w m = omega (arith, signed_arith, w, m)

-- a moment that was read
pub stamp_within : (start : Ahead) (y : ℤ × Ahead) → on_line stamp_line start ≡ Ok y →
    IsWithin (7_300 * 10 ^ 15) y.0
stamp_within start y e =
    let r = line_read stamp_line start y e in
    let s = stamp_read start.number (fields_of r.line) y.0 r.value in
    let m = s.2 in
    subst (IsWithin (7_300 * 10 ^ 15)) m.is (moment_within m.day m.clock
    (civil m.day (date_civil s.0 m.day m.day_is)) (time_clock s.1 m.clock m.clock_is))

-- what was read from lines is bounded
pub bounded : (start : Ahead) (c : Configuration) → LinesRead start c → IsBounded c
bounded start c r =
    let counts = line_read counts_line r.station.1 r.counts r.counts_is in
    let few = counts_small r.station.1.number (fields_of counts.line) r.counts.0 counts.value in
    let frequency = line_read frequency_line r.status.1 r.lf r.lf_is in
    let sampling = line_read (sampling_line r.lf.0) r.rates.1 r.sampling r.sampling_is in
    let rate = sampling_read r.lf.0 r.rates.1.number (fields_of sampling.line) r.sampling.0 sampling.value in
    let analogue = channels_read analogue_line 1 r.counts.0.analogue r.counts.1 r.analogue r.analogue_is in
    let status = channels_read status_line 1 r.counts.0.status r.analogue.1 r.status r.status_is in
    let offset = offset_small (r.station.0.revision == 2013) r.timemult.1 r.zone r.zone_is in
    subst IsBounded r.is (record {
      lf = frequency_line_read r.status.1.number (fields_of frequency.line) r.lf.0 frequency.value;
      slowest = rate.0;
      fastest = rate.1;
      endsamp = rate.2;
      analogue = omega (arith, few, analogue);
      status = omega (arith, few, status);
      first = utc_within r.first.0 (offset_of r.zone.0) (stamp_within r.sampling.1 r.first r.first_is) offset;
      trigger = utc_within r.trigger.0 (offset_of r.zone.0) (stamp_within r.first.1 r.trigger r.trigger_is)
          offset;
      offset = offset;
      quality = zone_quality (r.station.0.revision == 2013) r.timemult.1 r.zone r.zone_is;
    })

-- a configuration that a text says was read from lines
pub from_text : (text : Text) (c : Configuration) → configuration_of text ≡ Ok c → (length text ≤ 1_048_576) ×
    LinesRead (ahead_of text) c
unfolding configuration_of
from_text text c e = at (nat_le (length text) 1048576) refl e
  where
    at : (b : Bool) → nat_le (length text) 1048576 ≡ b →
        cond b (configuration_ahead (ahead_of text)) (Err (fault.Limit quantity.CfgBytes 0)) ≡ Ok c
        → (length text ≤ 1_048_576) × LinesRead (ahead_of text) c
    at true is e = (leb-true (length text) 1048576 is, lines_read (ahead_of text) c e)
    at false is e = absurd cc

-- what a text says is bounded
pub text_bounded : (text : Text) (c : Configuration) → configuration_of text ≡ Ok c → IsBounded c
text_bounded text c e = bounded (ahead_of text) c (from_text text c e).1

-- the law of bounds
pub configuration_bounded : ConfigurationsAreBounded
configuration_bounded c says = text_bounded says.0 c says.1

-- it has at most 999 channels of each kind
pub few : (c : Configuration) → IsConfiguration c → (length c.analogue ≤ 999) × (length c.status ≤ 999)
few c says = let b = configuration_bounded c says in (b.analogue, b.status)
