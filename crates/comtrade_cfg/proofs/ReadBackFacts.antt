-- What holds of a configuration that some text says: the facts by which its canonical text is read back.
use Rattle.std.proofs.Common.{◌≡◌, ℕ, zero, suc, ◌+◌, ◌<◌, ◌⊎◌, inl, inr, ◌==◌, ◌||◌, not, Bool, true, false, cond, ℤ, List, [], ◌∷◌, Option, Some, None, Ok, refl, sym, subst, ap, ◌∙◌, arith}
use Rattle.std.specs.List.{list_any, AllByRecursion}
use Rattle.std.specs.Option.{ForSome, option_map}
use Rattle.std.specs.Prelude.{codes}
use Rattle.std.specs.Str.{str_eq_ignore_ascii_case}
use Rattle.std.proofs.lemmas.Bool.{eqb-true}
use Rattle.jiff_core.proofs.SignedLemmas.{signed_arith}
use Rattle.pq_words.specs.Text.{Text}
use Rattle.pq_words.specs.Magnitude.{IsWithin}
use Rattle.pq_words.proofs.ReadingLemmas.{provided_ok, some_ok}
use Rattle.pq_base.specs.declared.decimal.Scaled.{Scaled}
use Rattle.pq_base.specs.Decimal.{decimal_of}
use Rattle.pq_time.specs.Written.{CivilDate, TimeOfDay, code_of}
use Rattle.pq_time.specs.Moment.{moment_at, written_of, utc_of}
use Rattle.comtrade_cfg.specs.declared.cfg.Analogue.{Analogue}
use Rattle.comtrade_cfg.specs.declared.cfg.StatusLine.{StatusLine}
use Rattle.comtrade_cfg.specs.declared.cfg.Zone.{Zone}
use Rattle.comtrade_cfg.specs.declared.head_lines.Station.{Station}
use Rattle.cfg_fields.specs.declared.fault.CfgFault.TheVariants as fault
use Rattle.cfg_fields.specs.declared.fault.Unsupported.TheVariants as unsupported
use Rattle.comtrade_cfg.specs.Configuration.{Configuration}
use Rattle.cfg_fields.specs.Fields.{Ahead, LineRule, ahead_of, line_of, on_line, fields_of, text_field, number_field, position_field, decimal_text, decimal_field, field_or_fault, hexadecimal, leap_digit, leap_field, local_code_of}
use Rattle.comtrade_cfg.specs.CfgText.{IsConfiguration, channel_lines, station_line, station_fields, counts_line, analogue_line, analogue_fields, status_line, status_fields, frequency_line, rates_line, sampling_line, stamp_line, file_type_line, timemult_line, time_code_line, time_quality_line, zone_lines, offset_of}
use Rattle.cfg_fields.proofs.FieldTexts.{IsFree, IsField}
use Rattle.comtrade_cfg.proofs.CanonicalFacts.{fields_are, lines_are}
use Rattle.comtrade_cfg.proofs.LinesRead.{LinesRead}
use Rattle.cfg_fields.proofs.ReadingLaws.{line_read, from_bind, same_ok}
use Rattle.cfg_fields.proofs.WrittenFacts.{IsClockTime, date_civil, time_clock, code_small}
use Rattle.comtrade_cfg.specs.Bounds.{IsBounded}
use Rattle.comtrade_cfg.proofs.ConfigurationBounds.{IsCivil, civil, bounded, from_text, stamp_read, quality_small}

-- ---- one line

-- the fields of a line that was read, and what its rule gave
pub record FieldsRead {A : Type 0} (rule : LineRule A) (number : ℕ) (y : A × Ahead) : Type 0 where
  pub fields : List Text
  pub are : AllByRecursion IsField fields
  pub value : rule number fields ≡ Ok y.0
  pub after : AllByRecursion (IsFree 10) y.1.lines

next_free : (number : ℕ) (lines : List Text) (line : Text) (after : Ahead) → AllByRecursion (IsFree 10) lines
    → line_of number lines ≡ Ok (line, after) → IsFree 10 line × AllByRecursion (IsFree 10) after.lines
next_free number [] line after h e = absurd cc
next_free number (first ∷ others) line after h e =
    let same = same_ok e in (
      subst (IsFree 10) (ap (λ (p : Text × Ahead). p.0) same) h.0,
      subst (AllByRecursion (IsFree 10)) (ap (λ (p : Text × Ahead). p.1.lines) same) h.1,
    )

pub fields_read : {A : Type 0} (rule : LineRule A) (start : Ahead) (y : A × Ahead) → on_line rule start ≡ Ok y
    → AllByRecursion (IsFree 10) start.lines → FieldsRead rule start.number y
fields_read rule start y e h =
    let r = line_read rule start y e in
    let free = next_free start.number start.lines r.line y.1 h r.there in
    record { fields = fields_of r.line; are = fields_are r.line free.0; value = r.value; after = free.1 }

-- ---- texts and decimals

-- a text field as it was read
pub record IsText (text : Text) : Type 0 where
  pub field : IsField text
  pub carriage_return : IsFree 13 text

-- a decimal as it was read
pub record IsDecimal (text : Text) : Type 0 where
  pub field : IsField text
  pub value : Scaled
  pub is : decimal_of text ≡ Some value

not_true : (b : Bool) → not b ≡ true → b ≡ false
not_true true e = absurd cc
not_true false e = refl

pub text_read : (line field : ℕ) (text value : Text) → IsField text → text_field line field text ≡ Ok value →
    IsText value
unfolding text_field
text_read line field text value h e =
    let p = provided_ok (not (list_any (λ c. c == 13) text)) (fault.Field line field) text value e in
    subst IsText p.1 (record { field = h; carriage_return = not_true (list_any (λ c. c == 13) text) p.0 })

pub decimal_read : (line field : ℕ) (text value : Text) → IsField text → decimal_text line field text
    ≡ Ok value → IsDecimal value
unfolding decimal_text decimal_field
decimal_read line field text value h e =
    from_bind (field_or_fault line field (decimal_of text)) _ value e (λ x x_is e.
    subst IsDecimal (same_ok e) (record {
      field = h;
      value = x;
      is =
          some_ok (decimal_of text) (fault.Field line field) x x_is;
    }))

-- ---- station and channels

either : (a b : Bool) → (a || b) ≡ true → (a ≡ true) ⊎ (b ≡ true)
either true b e = inl refl
either false b e = inr e

pub record IsGoodStation (s : Station) : Type 0 where
  pub station : IsText s.station
  pub device : IsText s.device
  pub revision : (s.revision ≡ 1999) ⊎ (s.revision ≡ 2013)

known_revision : (n : ℕ) → ((n == 1999) || (n == 2013)) ≡ true → (n ≡ 1999) ⊎ (n ≡ 2013)
known_revision n e = at (either (n == 1999) (n == 2013) e)
  where
    at : ((n == 1999) ≡ true) ⊎ ((n == 2013) ≡ true) → (n ≡ 1999) ⊎ (n ≡ 2013)
    at (inl h) = inl (eqb-true n 1999 h)
    at (inr h) = inr (eqb-true n 2013 h)

station_fields_read : (line : ℕ) (station device revision : Text) (s : Station) → IsField station →
    IsField device → station_fields line station device revision ≡ Ok s → IsGoodStation s
unfolding station_fields
station_fields_read line station device revision s p q e =
    from_bind (text_field line 1 station) _ s e (λ a a_is e. from_bind (text_field line 2 device) _ s e
    (λ b b_is e. from_bind (number_field line 3 revision) _ s e (λ n n_is e.
    let g = provided_ok ((n == 1999) || (n == 2013)) (fault.Unsupported unsupported.Revision line)
    (record { station = a; device = b; revision = n }) s e in
    subst IsGoodStation g.1 (record {
      station = text_read line 1 station a p a_is;
      device =
          text_read line 2 device b q b_is;
      revision = known_revision n g.0;
    }))))

station_good : (line : ℕ) (fields : List Text) (s : Station) → AllByRecursion IsField fields →
    station_line line fields ≡ Ok s → IsGoodStation s
station_good line [] s h e = absurd cc
station_good line (a ∷ []) s h e = absurd cc
station_good line (a ∷ b ∷ []) s h e = absurd cc
station_good line (a ∷ b ∷ c ∷ []) s h e = station_fields_read line a b c s h.0 h.1.0 e
station_good line (a ∷ b ∷ c ∷ d ∷ more) s h e = absurd cc

pub record IsGoodAnalogue (ch : Analogue) : Type 0 where
  pub id : IsText ch.id
  pub phase : IsText ch.phase
  pub component : IsText ch.component
  pub unit : IsText ch.unit
  pub a : IsDecimal ch.a
  pub b : IsDecimal ch.b
  pub skew : IsText ch.skew
  pub least : IsText ch.least
  pub greatest : IsText ch.greatest
  pub primary : IsText ch.primary
  pub secondary : IsText ch.secondary
  pub side : IsText ch.side

analogue_fields_read : (position line : ℕ) (an id phase component unit a b skew min max primary secondary ps :
    Text) (ch : Analogue)
    → AllByRecursion IsField (id ∷ phase ∷ component ∷ unit ∷ a ∷ b ∷ skew ∷ min ∷ max ∷ primary ∷ secondary ∷
    ps ∷ [])
    → analogue_fields position line an id phase component unit a b skew min max primary secondary ps ≡ Ok ch →
    IsGoodAnalogue ch
unfolding analogue_fields
analogue_fields_read position line an id phase component unit a b skew min max primary secondary ps ch h e =
    from_bind (position_field position line 1 an) _ ch e (λ n n_is e.
    from_bind (text_field line 2 id) _ ch e (λ f2 is2 e.
    from_bind (text_field line 3 phase) _ ch e (λ f3 is3 e.
    from_bind (text_field line 4 component) _ ch e (λ f4 is4 e.
    from_bind (text_field line 5 unit) _ ch e (λ f5 is5 e.
    from_bind (decimal_text line 6 a) _ ch e (λ f6 is6 e.
    from_bind (decimal_text line 7 b) _ ch e (λ f7 is7 e.
    from_bind (text_field line 8 skew) _ ch e (λ f8 is8 e.
    from_bind (text_field line 9 min) _ ch e (λ f9 is9 e.
    from_bind (text_field line 10 max) _ ch e (λ f10 is10 e.
    from_bind (text_field line 11 primary) _ ch e (λ f11 is11 e.
    from_bind (text_field line 12 secondary) _ ch e (λ f12 is12 e.
    from_bind (text_field line 13 ps) _ ch e (λ f13 is13 e.
    subst IsGoodAnalogue (same_ok e) (record {
      id = text_read line 2 id f2 h.0 is2;
      phase = text_read line 3 phase f3 h.1.0 is3;
      component = text_read line 4 component f4 h.1.1.0 is4;
      unit = text_read line 5 unit f5 h.1.1.1.0 is5;
      a = decimal_read line 6 a f6 h.1.1.1.1.0 is6;
      b = decimal_read line 7 b f7 h.1.1.1.1.1.0 is7;
      skew = text_read line 8 skew f8 h.1.1.1.1.1.1.0 is8;
      least = text_read line 9 min f9 h.1.1.1.1.1.1.1.0 is9;
      greatest = text_read line 10 max f10 h.1.1.1.1.1.1.1.1.0 is10;
      primary = text_read line 11 primary f11 h.1.1.1.1.1.1.1.1.1.0 is11;
      secondary = text_read line 12 secondary f12 h.1.1.1.1.1.1.1.1.1.1.0 is12;
      side = text_read line 13 ps f13 h.1.1.1.1.1.1.1.1.1.1.1.0 is13;
    }))))))))))))))

analogue_good : (position line : ℕ) (fields : List Text) (ch : Analogue) → AllByRecursion IsField fields →
    analogue_line position line fields ≡ Ok ch → IsGoodAnalogue ch
analogue_good position line (an ∷ id ∷ phase ∷ component ∷ unit ∷ a ∷ b ∷ skew ∷ min ∷ max ∷ primary ∷
    secondary ∷ ps ∷ []) ch h e =
    analogue_fields_read position line an id phase component unit a b skew min max primary secondary ps ch h.1
    e
analogue_good position line _ ch h e = absurd cc

pub record IsGoodStatus (ch : StatusLine) : Type 0 where
  pub id : IsText ch.id
  pub phase : IsText ch.phase
  pub component : IsText ch.component
  pub normal : IsText ch.normal

status_fields_read : (position line : ℕ) (dn id phase component normal : Text) (ch : StatusLine) →
    AllByRecursion IsField (id ∷ phase ∷ component ∷ normal ∷ [])
    → status_fields position line dn id phase component normal ≡ Ok ch → IsGoodStatus ch
unfolding status_fields
status_fields_read position line dn id phase component normal ch h e =
    from_bind (position_field position line 1 dn) _ ch e (λ n n_is e.
    from_bind (text_field line 2 id) _ ch e (λ f2 is2 e.
    from_bind (text_field line 3 phase) _ ch e (λ f3 is3 e.
    from_bind (text_field line 4 component) _ ch e (λ f4 is4 e.
    from_bind (text_field line 5 normal) _ ch e (λ f5 is5 e.
    subst IsGoodStatus (same_ok e) (record {
      id = text_read line 2 id f2 h.0 is2;
      phase =
          text_read line 3 phase f3 h.1.0 is3;
      component = text_read line 4 component f4 h.1.1.0 is4;
      normal =
          text_read line 5 normal f5 h.1.1.1.0 is5;
    }))))))

status_good : (position line : ℕ) (fields : List Text) (ch : StatusLine) → AllByRecursion IsField fields →
    status_line position line fields ≡ Ok ch → IsGoodStatus ch
status_good position line (dn ∷ id ∷ phase ∷ component ∷ normal ∷ []) ch h e =
    status_fields_read position line dn id phase component normal ch h.1 e
status_good position line _ ch h e = absurd cc

-- the lines of channels
pub channels_good : {A : Type 0} (rule : ℕ → LineRule A) (P : A → Type 0) →
    ((position line : ℕ) (fields : List Text) (x : A) → AllByRecursion IsField fields →
    rule position line fields ≡ Ok x → P x)
    → (position n : ℕ) (start : Ahead) (y : List A × Ahead) → channel_lines rule position n start ≡ Ok y →
    AllByRecursion (IsFree 10) start.lines → AllByRecursion P y.0 × AllByRecursion (IsFree 10) y.1.lines
unfolding channel_lines
channels_good {A} rule P each position zero start y e h =
    let same = same_ok e in (
      subst (AllByRecursion P) (ap (λ (z : List A × Ahead). z.0) same) tt,
      subst (AllByRecursion (IsFree 10)) (ap (λ (z : List A × Ahead). z.1.lines) same) h,
    )
channels_good {A} rule P each position (suc n) start y e h =
    from_bind (on_line (rule position) start) _ y e (λ first first_is e. from_bind
    (channel_lines rule (position + 1) n first.1) _ y e (λ others others_is e.
    let same = same_ok e in
    let r = fields_read (rule position) start first first_is h in
    let more = channels_good rule P each (position + 1) n first.1 others others_is r.after in (
      subst (AllByRecursion P) (ap (λ (z : List A × Ahead). z.0) same)
          (each position start.number r.fields first.0 r.are r.value, more.0),
      subst (AllByRecursion (IsFree 10)) (ap (λ (z : List A × Ahead). z.1.lines) same) more.1,
    )))

-- ---- moments

-- the moment at which a clock shows a date from 1900 to 2199 and a time of day
pub record IsWritten (written : ℤ) : Type 0 where
  pub day : CivilDate
  pub clock : TimeOfDay
  pub civil : IsCivil day
  pub in_day : IsClockTime clock
  pub is : moment_at day clock ≡ written

stamp_good : (line : ℕ) (fields : List Text) (written : ℤ) → stamp_line line fields ≡ Ok written →
    IsWritten written
stamp_good line fields written e =
    let s = stamp_read line fields written e in
    let m = s.2 in
    record {
      day = m.day;
      clock = m.clock;
      civil = civil m.day (date_civil s.0 m.day m.day_is);
      in_day =
          time_clock s.1 m.clock m.clock_is;
      is = m.is;
    }

-- the offset is taken away and added again
written_again : (written minutes : ℤ) → written_of (utc_of written minutes) minutes ≡ written
written_again written minutes = omega (arith, signed_arith)

-- ---- form and zone

timemult_good : (line : ℕ) (fields : List Text) (timemult : Text) → AllByRecursion IsField fields →
    timemult_line line fields ≡ Ok timemult → IsDecimal timemult
timemult_good line [] timemult h e = absurd cc
timemult_good line (a ∷ []) timemult h e = decimal_read line 1 a timemult h.0 e
timemult_good line (a ∷ b ∷ more) timemult h e = absurd cc

local_small : (text : Text) (code : Option ℤ) → local_code_of text ≡ Some code → ForSome code (IsWithin 899)
local_small text code e = at (str_eq_ignore_ascii_case text (codes "x")) (code_of text) refl e
  where
    at : (b : Bool) (o : Option ℤ) → code_of text ≡ o → cond b (Some None) (option_map (λ (z : ℤ). Some z) o)
        ≡ Some code → ForSome code (IsWithin 899)
    at true o is e z there = absurd (let none : None ≡ code = cc in let some : None ≡ Some z = none ∙ there in
        cc)
    at false None is e z there = absurd cc
    at false (Some y) is e z there = let same : Some y ≡ code = cc in let one : Some y ≡ Some z = same
        ∙ there in let value : y ≡ z = cc in subst (IsWithin 899) value (code_small text y is)

pub record IsGoodZone (z : Zone) : Type 0 where
  pub time_code : IsWithin 899 z.time_code
  pub local_code : ForSome z.local_code (IsWithin 899)
  pub quality : z.quality < 16
  pub leap : (z.leap ≡ 0) ⊎ (z.leap ≡ 3)

codes_good : (line : ℕ) (fields : List Text) (x : ℤ × Option ℤ) → time_code_line line fields ≡ Ok x →
    IsWithin 899 x.0 × ForSome x.1 (IsWithin 899)
codes_good line [] x e = absurd cc
codes_good line (a ∷ []) x e = absurd cc
codes_good line (time_code ∷ local_code ∷ []) x e =
    from_bind (field_or_fault line 1 (code_of time_code)) _ x e
    (λ t t_is e. from_bind (field_or_fault line 2 (local_code_of local_code)) _ x e (λ l l_is e.
    let same = same_ok e in (
      subst (IsWithin 899) (ap (λ (x : ℤ × Option ℤ). x.0) same)
          (code_small time_code t (some_ok (code_of time_code) _ t t_is)),
      subst (λ (o : Option ℤ). ForSome o (IsWithin 899)) (ap (λ (x : ℤ × Option ℤ). x.1) same)
          (local_small local_code l (some_ok (local_code_of local_code) _ l l_is)),
    )))
codes_good line (a ∷ b ∷ c ∷ more) x e = absurd cc

leap_known : (line field : ℕ) (text : Text) (n : ℕ) → leap_field line field text ≡ Ok n → (n ≡ 0) ⊎ (n ≡ 3)
unfolding leap_field
leap_known line field text n e =
    from_bind (field_or_fault line field (leap_digit text)) _ n e (λ k k_is e.
    let g = provided_ok ((k == 0) || (k == 3)) (fault.Unsupported unsupported.LeapSecond line) k n e in
    subst (λ n. (n ≡ 0) ⊎ (n ≡ 3)) g.1 (at k (either (k == 0) (k == 3) g.0)))
  where
    at : (k : ℕ) → ((k == 0) ≡ true) ⊎ ((k == 3) ≡ true) → (k ≡ 0) ⊎ (k ≡ 3)
    at k (inl h) = inl (eqb-true k 0 h)
    at k (inr h) = inr (eqb-true k 3 h)

leap_good : (line : ℕ) (fields : List Text) (x : ℕ × ℕ) → time_quality_line line fields ≡ Ok x →
    (x.1 ≡ 0) ⊎ (x.1 ≡ 3)
leap_good line [] x e = absurd cc
leap_good line (a ∷ []) x e = absurd cc
leap_good line (tmq_code ∷ leapsec ∷ []) x e =
    from_bind (field_or_fault line 1 (hexadecimal tmq_code)) _ x e
    (λ q q_is e. from_bind (leap_field line 2 leapsec) _ x e (λ l l_is e.
    subst (λ n. (n ≡ 0) ⊎ (n ≡ 3)) (ap (λ (x : ℕ × ℕ). x.1) (same_ok e)) (leap_known line 2 leapsec l l_is)))
leap_good line (a ∷ b ∷ c ∷ more) x e = absurd cc

-- revision 2013 has the two lines, and 1999 has not
abbrev pub HasZone : Bool → Option Zone → Type 0
HasZone is_2013 None = is_2013 ≡ false
HasZone is_2013 (Some z) = (is_2013 ≡ true) × IsGoodZone z

zone_good : (is_2013 : Bool) (start : Ahead) (y : Option Zone × Ahead) → zone_lines is_2013 start ≡ Ok y →
    HasZone is_2013 y.0
zone_good true start y e =
    from_bind (on_line time_code_line start) _ y e (λ codes codes_is e. from_bind
    (on_line time_quality_line codes.1) _ y e (λ quality quality_is e.
    let r = line_read time_code_line start codes codes_is in
    let s = line_read time_quality_line codes.1 quality quality_is in
    let c = codes_good start.number (fields_of r.line) codes.0 r.value in
    subst (HasZone true) (ap (λ (y : Option Zone × Ahead). y.0) (same_ok e)) (
      refl,
      record {
        time_code = c.0;
        local_code = c.1;
        quality = quality_small codes.1.number (fields_of s.line) quality.0 s.value;
        leap = leap_good codes.1.number (fields_of s.line) quality.0 s.value;
      },
    )))
zone_good false start y e = subst (HasZone false) (ap (λ (y : Option Zone × Ahead). y.0) (same_ok e)) refl

-- ---- the whole

-- what holds of a configuration that some text says
pub record IsGood (c : Configuration) : Type 0 where
  pub station : IsText c.station
  pub device : IsText c.device
  pub revision : (c.revision ≡ 1999) ⊎ (c.revision ≡ 2013)
  pub analogue : AllByRecursion IsGoodAnalogue c.analogue
  pub status : AllByRecursion IsGoodStatus c.status
  pub bounds : IsBounded c
  pub first : IsWritten (written_of c.first (offset_of c.zone))
  pub trigger : IsWritten (written_of c.trigger (offset_of c.zone))
  pub timemult : IsDecimal c.timemult
  pub zone : HasZone (c.revision == 2013) c.zone

good : (start : Ahead) (c : Configuration) → LinesRead start c → AllByRecursion (IsFree 10) start.lines →
    IsGood c
good start c r h =
    let station = fields_read station_line start r.station r.station_is h in
    let s = station_good start.number station.fields r.station.0 station.are station.value in
    let counts = fields_read counts_line r.station.1 r.counts r.counts_is station.after in
    let analogue = channels_good analogue_line IsGoodAnalogue analogue_good 1 r.counts.0.analogue r.counts.1
    r.analogue r.analogue_is counts.after in
    let status = channels_good status_line IsGoodStatus status_good 1 r.counts.0.status r.analogue.1 r.status
    r.status_is analogue.1 in
    let lf = fields_read frequency_line r.status.1 r.lf r.lf_is status.1 in
    let rates = fields_read rates_line r.lf.1 r.rates r.rates_is lf.after in
    let sampling = fields_read (sampling_line r.lf.0) r.rates.1 r.sampling r.sampling_is rates.after in
    let first = fields_read stamp_line r.sampling.1 r.first r.first_is sampling.after in
    let trigger = fields_read stamp_line r.first.1 r.trigger r.trigger_is first.after in
    let file_type = fields_read file_type_line r.trigger.1 r.file_type r.file_type_is trigger.after in
    let timemult = fields_read timemult_line r.file_type.1 r.timemult r.timemult_is file_type.after in
    let offset : ℤ = offset_of r.zone.0 in
    let bounds : IsBounded c = bounded start c r in
    subst IsGood r.is (record {
      station = s.station;
      device = s.device;
      revision = s.revision;
      analogue = analogue.0;
      status = status.0;
      bounds = subst IsBounded (sym r.is) bounds;
      first = subst IsWritten (sym (written_again r.first.0 offset))
          (stamp_good r.sampling.1.number first.fields r.first.0 first.value);
      trigger = subst IsWritten (sym (written_again r.trigger.0 offset))
          (stamp_good r.first.1.number trigger.fields r.trigger.0 trigger.value);
      timemult = timemult_good r.file_type.1.number timemult.fields r.timemult.0 timemult.are timemult.value;
      zone = zone_good (r.station.0.revision == 2013) r.timemult.1 r.zone r.zone_is;
    })

-- what some text says is good
pub configuration_good : (c : Configuration) → IsConfiguration c → IsGood c
configuration_good c says = good (ahead_of says.0) c (from_text says.0 c says.1).1 (lines_are says.0)
