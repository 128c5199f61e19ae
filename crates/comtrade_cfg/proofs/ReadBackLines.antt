-- Each line of a canonical text is read back.
use Rattle.std.proofs.Common.{◌≡◌, ℕ, ◌+◌, ◌*◌, ◌^◌, ◌<◌, ◌≤◌, ◌⊎◌, inl, inr, ◌==◌, ◌||◌, not, nat_le, Bool, true, cond, ℤ, List, [], ◌∷◌, ◌++◌, map, length, Option, Some, None, Ok, refl, sym, subst, ap, ◌∙◌, arith}
use Rattle.std.specs.Prelude.{decimal}
use Rattle.std.specs.Option.{ok_or}
use Rattle.std.specs.List.{list_any, AllByRecursion}
use Rattle.std.specs.Fmt.{digits}
use Rattle.std.proofs.lemmas.Bool.{and_from, eq-eqb, le-leb}
use Rattle.pq_words.specs.Text.{Text}
use Rattle.pq_words.specs.FirstFault.{◌>>=◌, provided}
use Rattle.pq_base.specs.Decimal.{decimal_of}
use Rattle.pq_time.specs.Moment.{written_moment}
use Rattle.pq_time.specs.Written.{code_of}
use Rattle.pq_time.specs.Printed.{date_shown, time_shown}
use Rattle.comtrade_cfg.specs.declared.cfg.Analogue.{Analogue}
use Rattle.comtrade_cfg.specs.declared.cfg.StatusLine.{StatusLine}
use Rattle.comtrade_cfg.specs.declared.cfg.Zone.{Zone}
use Rattle.comtrade_cfg.specs.declared.cfg.FileType.{FileType}
use Rattle.comtrade_cfg.specs.declared.cfg.FileType.TheVariants.{Binary}
use Rattle.cfg_fields.specs.declared.fault.CfgFault.TheVariants as fault
use Rattle.cfg_fields.specs.declared.fault.Quantity.{Quantity}
use Rattle.cfg_fields.specs.declared.fault.Quantity.TheVariants as quantity
use Rattle.cfg_fields.specs.declared.fault.Unsupported.TheVariants as unsupported
use Rattle.cfg_fields.specs.Fields.{Reading, LineRule, on_line, text_field, number_field, position_field, decimal_text, decimal_field, field_or_fault, channel_count, lettered, frequency_field, rate_field, rate_of, is_rate, samples_field, moment_fields, hexadecimal, leap_digit, leap_field, local_code_of}
use Rattle.comtrade_cfg.specs.CfgText.{channel_lines, station_line, station_fields, counts_line, analogue_line, analogue_fields as analogue_read, status_line, status_fields as status_read, frequency_line, rates_line, sampling_line, stamp_line, file_type_line, timemult_line, time_code_line, time_quality_line, zone_lines}
use Rattle.comtrade_cfg.specs.Canonical.{row_of, rate_text, stamp_text, date_text, time_text, code_text, hexadecimal_text, file_type_text, analogue_fields, status_fields, numbered_rows, zone_rows}
use Rattle.comtrade_cfg.specs.Canonical.{local_code_text}
use Rattle.comtrade_cfg.proofs.LinesRead.{then_ok}
use Rattle.comtrade_cfg.proofs.ReadBackText.{fields_back, row_free}
use Rattle.cfg_fields.proofs.FieldTexts.{IsFree, IsField}
use Rattle.comtrade_cfg.proofs.ReadBackFacts.{IsText, IsDecimal, IsGoodAnalogue, IsGoodStatus, IsGoodZone, HasZone, IsWritten}
use Rattle.cfg_fields.proofs.ReadBackNumbers.{number_back, lettered_back, plain_field, plain_decimal, plain_joined}
use Rattle.comtrade_cfg.proofs.ReadBackMoments.{moment_back, plain_date, plain_time, code_back}
use Rattle.comtrade_cfg.proofs.ReadBackRate.{rate_back, plain_rate, hexadecimal_back, plain_hexadecimal, leap_back, local_back, plain_code, plain_local}

-- ---- steps

-- a test that holds
pub passes : {A E : Type 0} (test : Bool) (e : E) (x : A) → test ≡ true → provided test e x ≡ Ok x
passes {A} {E} test e x h = ap (λ b. provided b e x) h

-- a row that its rule reads
pub row_back : {A : Type 0} (rule : LineRule A) (n : ℕ) (field : Text) (fields rest : List Text) (x : A) →
    AllByRecursion IsField (field ∷ fields) → rule n (field ∷ fields) ≡ Ok x
    → on_line rule (record { number = n; lines = row_of (field ∷ fields) ∷ rest })
    ≡ Ok (x, record { number = n + 1; lines = rest })
row_back {A} rule n field fields rest x h e =
    let after : A → Reading A = λ x. Ok (x, record { number = n + 1; lines = rest }) in
    ap (λ fs. rule n fs >>= after) (fields_back field fields h) ∙ ap (λ r. r >>= after) e

-- ---- fields

pub text_back : (line field : ℕ) (text : Text) → IsText text → text_field line field text ≡ Ok text
unfolding text_field
text_back line field text h = passes (not (list_any (λ c. c == 13) text)) (fault.Field line field) text
    (ap not h.carriage_return)

pub decimal_back : (line field : ℕ) (text : Text) → IsDecimal text → decimal_text line field text ≡ Ok text
unfolding decimal_text decimal_field
decimal_back line field text h = ap (λ o. field_or_fault line field o >>= λ x. Ok text) h.is

pub number_field_back : (line field n : ℕ) → n < 10 ^ 10 → number_field line field (decimal n) ≡ Ok n
unfolding number_field
number_field_back line field n small = ap (field_or_fault line field) (number_back n small)

pub position_back : (line field n : ℕ) → n < 10 ^ 10 → position_field n line field (decimal n) ≡ Ok n
unfolding position_field
position_back line field n small =
    then_ok (number_field line field (decimal n)) _ n _ (number_field_back line field n small)
    (passes (n == n) (fault.Field line field) n (eq-eqb n n refl))

pub decimal_field_of : (n : ℕ) → n < 2 ^ 64 → IsField (decimal n)
decimal_field_of n small = plain_field (decimal n) (plain_decimal n small)

-- ---- the first two lines

station_row : (n : ℕ) (station device : Text) (revision : ℕ) → IsText station → IsText device →
    (revision ≡ 1999) ⊎ (revision ≡ 2013)
    → station_fields n station device (decimal revision)
    ≡ Ok (record { station = station; device = device; revision = revision })
unfolding station_fields
station_row n station device revision p q known =
    then_ok (text_field n 1 station) _ station _ (text_back n 1 station p)
    (then_ok (text_field n 2 device) _ device _ (text_back n 2 device q)
    (then_ok (number_field n 3 (decimal revision)) _ revision _
    (number_field_back n 3 revision (small revision known))
    (passes ((revision == 1999) || (revision == 2013)) (fault.Unsupported unsupported.Revision n)
    (record { station = station; device = device; revision = revision }) (test revision known))))
  where
    small : (revision : ℕ) → (revision ≡ 1999) ⊎ (revision ≡ 2013) → revision < 10 ^ 10
    small revision (inl e) = omega (arith, e)
    small revision (inr e) = omega (arith, e)

    test : (revision : ℕ) → (revision ≡ 1999) ⊎ (revision ≡ 2013) → ((revision == 1999) || (revision == 2013))
        ≡ true
    test revision (inl e) = ap (λ n. (n == 1999) || (n == 2013)) e
    test revision (inr e) = ap (λ n. (n == 1999) || (n == 2013)) e

pub small_revision : (revision : ℕ) → (revision ≡ 1999) ⊎ (revision ≡ 2013) → revision < 2 ^ 64
small_revision revision (inl e) = omega (arith, e)
small_revision revision (inr e) = omega (arith, e)

pub station_is_fields : (station device : Text) (revision : ℕ) → IsText station → IsText device →
    (revision ≡ 1999) ⊎ (revision ≡ 2013) → AllByRecursion IsField (station ∷ device ∷ decimal revision ∷ [])
station_is_fields station device revision p q known =
    (p.field, (q.field, (decimal_field_of revision (small_revision revision known), tt)))

pub station_back : (n : ℕ) (station device : Text) (revision : ℕ) (rest : List Text) → IsText station →
    IsText device → (revision ≡ 1999) ⊎ (revision ≡ 2013)
    → on_line station_line (record {
      number = n;
      lines =
          row_of (station ∷ device ∷ decimal revision ∷ []) ∷ rest;
    })
    ≡ Ok (
      record { station = station; device = device; revision = revision },
      record { number = n + 1; lines = rest },
    )
station_back n station device revision rest p q known =
    row_back station_line n station (device ∷ decimal revision ∷ []) rest _
    (station_is_fields station device revision p q known)
    (station_row n station device revision p q known)

count_back : (capital : ℕ) (what : Quantity) (line field n : ℕ) → n ≤ 999 →
    channel_count capital what line field (decimal n ++ capital ∷ []) ≡ Ok n
unfolding channel_count
count_back capital what line field n few =
    then_ok (field_or_fault line field (lettered capital (decimal n ++ capital ∷ []))) _ n _
    (ap (field_or_fault line field) (lettered_back capital n (omega (arith, few))))
    (passes (nat_le n 999) (fault.Limit what line) n (le-leb n 999 few))

pub counts_are_fields : (a d : ℕ) → a ≤ 999 → d ≤ 999 →
    AllByRecursion IsField (decimal (a + d) ∷ (decimal a ++ 65 ∷ []) ∷ (decimal d ++ 68 ∷ []) ∷ [])
counts_are_fields a d few others = (
  decimal_field_of (a + d) (omega (arith, few, others)),
  (
    plain_field (decimal a ++ 65 ∷ []) (plain_joined (decimal a) (65 ∷ [])
        (plain_decimal a (omega (arith, few))) refl),
    (
      plain_field (decimal d ++ 68 ∷ []) (plain_joined (decimal d) (68 ∷ [])
          (plain_decimal d (omega (arith, others))) refl),
      tt,
    ),
  ),
)

pub counts_back : (n a d : ℕ) (rest : List Text) → a ≤ 999 → d ≤ 999
    → on_line counts_line (record {
      number = n;
      lines =
          row_of (decimal (a + d) ∷ (decimal a ++ 65 ∷ []) ∷ (decimal d ++ 68 ∷ []) ∷ []) ∷ rest;
    })
    ≡ Ok (record { analogue = a; status = d }, record { number = n + 1; lines = rest })
counts_back n a d rest few others =
    row_back counts_line n (decimal (a + d)) ((decimal a ++ 65 ∷ []) ∷ (decimal d ++ 68 ∷ []) ∷ []) rest _
    (counts_are_fields a d few others)
    (then_ok (channel_count 65 quantity.Analogue n 2 (decimal a ++ 65 ∷ [])) _ a _
    (count_back 65 quantity.Analogue n 2 a few)
    (then_ok (channel_count 68 quantity.Status n 3 (decimal d ++ 68 ∷ [])) _ d _
    (count_back 68 quantity.Status n 3 d others)
    (then_ok (position_field (a + d) n 1 (decimal (a + d))) _ (a + d) _
    (position_back n 1 (a + d) (omega (arith, few, others))) refl)))

-- ---- channels

analogue_row : (position n : ℕ) (ch : Analogue) → IsGoodAnalogue ch → position < 10 ^ 10
    → analogue_read position n (decimal position) ch.id ch.phase ch.component ch.unit ch.a ch.b ch.skew
    ch.least ch.greatest ch.primary ch.secondary ch.side ≡ Ok ch
unfolding analogue_read
analogue_row position n ch h small =
    then_ok (position_field position n 1 (decimal position)) _ position _ (position_back n 1 position small)
    (then_ok (text_field n 2 ch.id) _ ch.id _ (text_back n 2 ch.id h.id)
    (then_ok (text_field n 3 ch.phase) _ ch.phase _ (text_back n 3 ch.phase h.phase)
    (then_ok (text_field n 4 ch.component) _ ch.component _ (text_back n 4 ch.component h.component)
    (then_ok (text_field n 5 ch.unit) _ ch.unit _ (text_back n 5 ch.unit h.unit)
    (then_ok (decimal_text n 6 ch.a) _ ch.a _ (decimal_back n 6 ch.a h.a)
    (then_ok (decimal_text n 7 ch.b) _ ch.b _ (decimal_back n 7 ch.b h.b)
    (then_ok (text_field n 8 ch.skew) _ ch.skew _ (text_back n 8 ch.skew h.skew)
    (then_ok (text_field n 9 ch.least) _ ch.least _ (text_back n 9 ch.least h.least)
    (then_ok (text_field n 10 ch.greatest) _ ch.greatest _ (text_back n 10 ch.greatest h.greatest)
    (then_ok (text_field n 11 ch.primary) _ ch.primary _ (text_back n 11 ch.primary h.primary)
    (then_ok (text_field n 12 ch.secondary) _ ch.secondary _ (text_back n 12 ch.secondary h.secondary)
    (then_ok (text_field n 13 ch.side) _ ch.side _ (text_back n 13 ch.side h.side) refl))))))))))))

pub analogue_are_fields : (ch : Analogue) → IsGoodAnalogue ch → AllByRecursion IsField (analogue_fields ch)
analogue_are_fields ch h = (
  h.id.field,
  (
    h.phase.field,
    (
      h.component.field,
      (
        h.unit.field,
        (
          h.a.field,
          (
            h.b.field,
            (
              h.skew.field,
              (h.least.field, (h.greatest.field, (h.primary.field, (h.secondary.field, (h.side.field, tt))))),
            ),
          ),
        ),
      ),
    ),
  ),
)

status_row : (position n : ℕ) (ch : StatusLine) → IsGoodStatus ch → position < 10 ^ 10 →
    status_read position n (decimal position) ch.id ch.phase ch.component ch.normal ≡ Ok ch
unfolding status_read
status_row position n ch h small =
    then_ok (position_field position n 1 (decimal position)) _ position _ (position_back n 1 position small)
    (then_ok (text_field n 2 ch.id) _ ch.id _ (text_back n 2 ch.id h.id)
    (then_ok (text_field n 3 ch.phase) _ ch.phase _ (text_back n 3 ch.phase h.phase)
    (then_ok (text_field n 4 ch.component) _ ch.component _ (text_back n 4 ch.component h.component)
    (then_ok (text_field n 5 ch.normal) _ ch.normal _ (text_back n 5 ch.normal h.normal) refl))))

pub status_are_fields : (ch : StatusLine) → IsGoodStatus ch → AllByRecursion IsField (status_fields ch)
status_are_fields ch h = (h.id.field, (h.phase.field, (h.component.field, (h.normal.field, tt))))

-- the lines of a kind of channel, each read back by its rule
module _ {A : Type 0} (rule : ℕ → LineRule A) (shown : A → List Text) (P : A → Type 0)
    (fields : (x : A) → P x → AllByRecursion IsField (shown x))
    (value : (position n : ℕ) (x : A) → P x → position < 10 ^ 10 →
    rule position n (decimal position ∷ shown x) ≡ Ok x) where
  pub channels_back : (position n : ℕ) (xs : List A) (rest : List Text) → AllByRecursion P xs →
      position + length xs ≤ 10 ^ 9
      → (m : ℕ) × (channel_lines rule position (length xs)
      (record { number = n; lines = numbered_rows position (map shown xs) ++ rest })
      ≡ Ok (xs, record { number = m; lines = rest }))
  unfolding channel_lines
  channels_back position n [] rest h few = (n, refl)
  channels_back position n (x ∷ xs) rest h few =
      let more = channels_back (position + 1) (n + 1) xs rest h.1 (omega (arith, few)) in
      let all : AllByRecursion IsField (decimal position ∷ shown x) =
      (decimal_field_of position (omega (arith, few)), fields x h.0) in
      let first = row_back (rule position) n (decimal position) (shown x)
      (numbered_rows (position + 1) (map shown xs) ++ rest) x all
      (value position n x h.0 (omega (arith, few))) in (
        more.0,
        then_ok (on_line (rule position) (record {
          number = n;
          lines =
              row_of (decimal position ∷ shown x) ∷ (numbered_rows (position + 1) (map shown xs) ++ rest);
        })) _
            _ _ first
            (then_ok (channel_lines rule (position + 1) (length xs)
            (record { number = n + 1; lines = numbered_rows (position + 1) (map shown xs) ++ rest })) _ _
            _ more.1 refl),
      )

  -- no line feed stands in them
  pub channels_free : (position : ℕ) (xs : List A) (rest : List Text) → AllByRecursion P xs →
      position + length xs ≤ 10 ^ 9 → AllByRecursion (IsFree 10) rest →
      AllByRecursion (IsFree 10) (numbered_rows position (map shown xs) ++ rest)
  channels_free position [] rest h few free = free
  channels_free position (x ∷ xs) rest h few free = (
    row_free (decimal position) (shown x) (decimal_field_of position (omega (arith, few)), fields x h.0),
    channels_free (position + 1) xs rest h.1 (omega (arith, few)) free,
  )

pub analogue_value : (position n : ℕ) (ch : Analogue) → IsGoodAnalogue ch → position < 10 ^ 10 →
    analogue_line position n (decimal position ∷ analogue_fields ch) ≡ Ok ch
analogue_value position n ch h small = analogue_row position n ch h small

pub status_value : (position n : ℕ) (ch : StatusLine) → IsGoodStatus ch → position < 10 ^ 10 →
    status_line position n (decimal position ∷ status_fields ch) ≡ Ok ch
status_value position n ch h small = status_row position n ch h small

-- ---- how the samples were taken

frequency_value : (n lf : ℕ) → (lf ≡ 50) ⊎ (lf ≡ 60) → frequency_line n (decimal lf ∷ []) ≡ Ok lf
unfolding frequency_field decimal_field decimal_of digits
frequency_value n lf (inl e) = subst (λ lf. frequency_line n (decimal lf ∷ []) ≡ Ok lf) (sym e) refl
frequency_value n lf (inr e) = subst (λ lf. frequency_line n (decimal lf ∷ []) ≡ Ok lf) (sym e) refl

pub small_frequency : (lf : ℕ) → (lf ≡ 50) ⊎ (lf ≡ 60) → lf < 2 ^ 64
small_frequency lf (inl e) = omega (arith, e)
small_frequency lf (inr e) = omega (arith, e)

pub frequency_back : (n lf : ℕ) (rest : List Text) → (lf ≡ 50) ⊎ (lf ≡ 60)
    → on_line frequency_line (record { number = n; lines = decimal lf ∷ rest })
    ≡ Ok (lf, record { number = n + 1; lines = rest })
frequency_back n lf rest known = row_back frequency_line n (decimal lf) [] rest lf
    (decimal_field_of lf (small_frequency lf known), tt) (frequency_value n lf known)

rates_value : (n : ℕ) → rates_line n (decimal 1 ∷ []) ≡ Ok 1
unfolding number_field digits
rates_value n = refl

pub rates_back : (n : ℕ) (rest : List Text) → on_line rates_line
    (record { number = n; lines = decimal 1 ∷ rest }) ≡ Ok (1, record { number = n + 1; lines = rest })
rates_back n rest = row_back rates_line n (decimal 1) [] rest 1 (decimal_field_of 1 (omega arith), tt)
    (rates_value n)

rate_value : (lf n rate : ℕ) → 16 * lf * 10 ^ 6 ≤ rate → rate ≤ 200_000_000_000 →
    rate_field lf n 1 (rate_text rate) ≡ Ok rate
unfolding rate_field decimal_field
rate_value lf n rate slow fast =
    let r = rate_back rate fast in
    let within : is_rate lf rate ≡ true = and_from (nat_le (16 * lf * 10 ^ 6) rate) (nat_le rate 200000000000)
    (le-leb (16 * lf * 10 ^ 6) rate slow) (le-leb rate 200000000000 fast) in
    then_ok (field_or_fault n 1 (decimal_of (rate_text rate))) _ r.value _ (ap (field_or_fault n 1) r.is)
    (ap (λ z. ok_or (rate_of lf z) (fault.Limit quantity.Rate n)) r.rounded
    ∙ ap (λ b. ok_or (cond b (Some rate) None) (fault.Limit quantity.Rate n)) within)

samples_value : (n samples : ℕ) → samples ≤ 50_000_000 → samples_field n 2 (decimal samples) ≡ Ok samples
unfolding samples_field
samples_value n samples few =
    then_ok (number_field n 2 (decimal samples)) _ samples _
    (number_field_back n 2 samples (omega (arith, few)))
    (passes (nat_le samples 50000000) (fault.Limit quantity.Samples n) samples
    (le-leb samples 50000000 few))

pub sampling_are_fields : (rate samples : ℕ) → rate ≤ 200_000_000_000 → samples ≤ 50_000_000 →
    AllByRecursion IsField (rate_text rate ∷ decimal samples ∷ [])
sampling_are_fields rate samples fast few = (
  plain_field (rate_text rate) (plain_rate rate fast),
  (decimal_field_of samples (omega (arith, few)), tt),
)

pub sampling_back : (lf n rate samples : ℕ) (rest : List Text) → 16 * lf * 10 ^ 6 ≤ rate →
    rate ≤ 200_000_000_000 → samples ≤ 50_000_000
    → on_line (sampling_line lf) (record {
      number = n;
      lines =
          row_of (rate_text rate ∷ decimal samples ∷ []) ∷ rest;
    })
    ≡ Ok (record { rate = rate; endsamp = samples }, record { number = n + 1; lines = rest })
sampling_back lf n rate samples rest slow fast few =
    row_back (sampling_line lf) n (rate_text rate) (decimal samples ∷ []) rest _
    (sampling_are_fields rate samples fast few)
    (then_ok (rate_field lf n 1 (rate_text rate)) _ rate _ (rate_value lf n rate slow fast)
    (then_ok (samples_field n 2 (decimal samples)) _ samples _ (samples_value n samples few) refl))

-- ---- moments

stamp_value : (n : ℕ) (written : ℤ) → IsWritten written →
    stamp_line n (date_text (date_shown written) ∷ time_text (time_shown written) ∷ []) ≡ Ok written
stamp_value n written h = ap (moment_fields n) (subst
    (λ w. written_moment (date_text (date_shown w)) (time_text (time_shown w)) ≡ Ok w) h.is
    (moment_back h.day h.clock h.civil h.in_day))

pub stamp_are_fields : (written : ℤ) → AllByRecursion IsField
    (date_text (date_shown written) ∷ time_text (time_shown written) ∷ [])
stamp_are_fields written = (
  plain_field (date_text (date_shown written)) (plain_date (date_shown written)),
  (plain_field (time_text (time_shown written)) (plain_time (time_shown written)), tt),
)

pub stamp_back : (n : ℕ) (written : ℤ) (rest : List Text) → IsWritten written
    → on_line stamp_line (record { number = n; lines = stamp_text written ∷ rest })
    ≡ Ok (written, record { number = n + 1; lines = rest })
stamp_back n written rest h = row_back stamp_line n (date_text (date_shown written))
    (time_text (time_shown written) ∷ []) rest written (stamp_are_fields written) (stamp_value n written h)

-- ---- form

pub file_type_is_field : (t : FileType) → AllByRecursion IsField (file_type_text t ∷ [])
file_type_is_field Binary = (plain_field (file_type_text Binary) refl, tt)

pub file_type_back : (n : ℕ) (t : FileType) (rest : List Text) →
    on_line file_type_line (record { number = n; lines = file_type_text t ∷ rest })
    ≡ Ok (t, record { number = n + 1; lines = rest })
file_type_back n Binary rest = row_back file_type_line n (file_type_text Binary) [] rest Binary
    (file_type_is_field Binary) refl

pub timemult_back : (n : ℕ) (timemult : Text) (rest : List Text) → IsDecimal timemult →
    on_line timemult_line (record { number = n; lines = timemult ∷ rest })
    ≡ Ok (timemult, record { number = n + 1; lines = rest })
timemult_back n timemult rest h = row_back timemult_line n timemult [] rest timemult (h.field, tt)
    (decimal_back n 1 timemult h)

-- ---- zone

codes_are_fields : (z : Zone) → IsGoodZone z → AllByRecursion IsField
    (code_text z.time_code ∷ local_code_text z.local_code ∷ [])
codes_are_fields z h = (
  plain_field (code_text z.time_code) (plain_code z.time_code h.time_code),
  (plain_field (local_code_text z.local_code) (plain_local z.local_code h.local_code), tt),
)

codes_back : (n : ℕ) (z : Zone) (rest : List Text) → IsGoodZone z
    → on_line time_code_line (record {
      number = n;
      lines =
          row_of (code_text z.time_code ∷ local_code_text z.local_code ∷ []) ∷ rest;
    })
    ≡ Ok ((z.time_code, z.local_code), record { number = n + 1; lines = rest })
codes_back n z rest h =
    row_back time_code_line n (code_text z.time_code) (local_code_text z.local_code ∷ []) rest _
    (codes_are_fields z h)
    (then_ok (field_or_fault n 1 (code_of (code_text z.time_code))) _ z.time_code _
    (ap (field_or_fault n 1) (code_back z.time_code h.time_code))
    (then_ok (field_or_fault n 2 (local_code_of (local_code_text z.local_code))) _ z.local_code _
    (ap (field_or_fault n 2) (local_back z.local_code h.local_code)) refl))

small_leap : (n : ℕ) → (n ≡ 0) ⊎ (n ≡ 3) → n < 2 ^ 64
small_leap n (inl e) = omega (arith, e)
small_leap n (inr e) = omega (arith, e)

leap_test : (n : ℕ) → (n ≡ 0) ⊎ (n ≡ 3) → ((n == 0) || (n == 3)) ≡ true
leap_test n (inl e) = ap (λ n. (n == 0) || (n == 3)) e
leap_test n (inr e) = ap (λ n. (n == 0) || (n == 3)) e

leap_value : (n leap : ℕ) → (leap ≡ 0) ⊎ (leap ≡ 3) → leap_field n 2 (decimal leap) ≡ Ok leap
unfolding leap_field
leap_value n leap known =
    then_ok (field_or_fault n 2 (leap_digit (decimal leap))) _ leap _
    (ap (field_or_fault n 2) (leap_back leap known))
    (passes ((leap == 0) || (leap == 3)) (fault.Unsupported unsupported.LeapSecond n) leap
    (leap_test leap known))

quality_are_fields : (z : Zone) → IsGoodZone z → AllByRecursion IsField
    (hexadecimal_text z.quality ∷ decimal z.leap ∷ [])
quality_are_fields z h = (
  plain_field (hexadecimal_text z.quality) (plain_hexadecimal z.quality h.quality),
  (decimal_field_of z.leap (small_leap z.leap h.leap), tt),
)

quality_back : (n : ℕ) (z : Zone) (rest : List Text) → IsGoodZone z
    → on_line time_quality_line (record {
      number = n;
      lines =
          row_of (hexadecimal_text z.quality ∷ decimal z.leap ∷ []) ∷ rest;
    })
    ≡ Ok ((z.quality, z.leap), record { number = n + 1; lines = rest })
quality_back n z rest h =
    row_back time_quality_line n (hexadecimal_text z.quality) (decimal z.leap ∷ []) rest _
    (quality_are_fields z h)
    (then_ok (field_or_fault n 1 (hexadecimal (hexadecimal_text z.quality))) _ z.quality _
    (ap (field_or_fault n 1) (hexadecimal_back z.quality h.quality))
    (then_ok (leap_field n 2 (decimal z.leap)) _ z.leap _ (leap_value n z.leap h.leap) refl))

-- the two lines that revision 2013 has, or none
pub zone_back : (is_2013 : Bool) (n : ℕ) (zone : Option Zone) → HasZone is_2013 zone → (m : ℕ) ×
    (zone_lines is_2013 (record { number = n; lines = zone_rows zone })
    ≡ Ok (zone, record { number = m; lines = [] }))
zone_back is_2013 n None h = (n, ap (λ b. zone_lines b (record { number = n; lines = [] })) h)
zone_back is_2013 n (Some z) h =
    let rest = row_of (hexadecimal_text z.quality ∷ decimal z.leap ∷ []) ∷ [] in (
      n + 1 + 1,
      ap (λ b. zone_lines b (record { number = n; lines = zone_rows (Some z) })) h.0
          ∙ then_ok (on_line time_code_line (record { number = n; lines = zone_rows (Some z) })) _ _ _
          (codes_back n z rest h.1)
          (then_ok (on_line time_quality_line (record { number = n + 1; lines = rest })) _ _ _
          (quality_back (n + 1) z [] h.1) refl),
    )

pub zone_free : (is_2013 : Bool) (zone : Option Zone) → HasZone is_2013 zone →
    AllByRecursion (IsFree 10) (zone_rows zone)
zone_free is_2013 None h = tt
zone_free is_2013 (Some z) h =
    let c = codes_are_fields z h.1 in
    let q = quality_are_fields z h.1 in (
      row_free (code_text z.time_code) (local_code_text z.local_code ∷ []) c,
      (row_free (hexadecimal_text z.quality) (decimal z.leap ∷ []) q, tt),
    )
