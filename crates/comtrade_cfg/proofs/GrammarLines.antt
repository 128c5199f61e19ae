-- What each line holds: a line is read as a value exactly where the grammar says that it holds it.
use Rattle.std.proofs.Common.{◌≡◌, ℕ, ◌+◌, ◌≤◌, ◌⊎◌, Bool, true, false, cond, Option, Some, None, List, [], ◌∷◌, ℤ, Ok, Err, refl, sym, subst, ap, ◌∙◌, ◌==◌, ◌||◌}
use Rattle.std.specs.Prelude.{codes, is_some}
use Rattle.std.specs.Str.{str_eq_ignore_ascii_case}
use Rattle.std.proofs.lemmas.Bool.{eqb-true}
use Rattle.pq_words.specs.Text.{Text}
use Rattle.pq_words.specs.FirstFault.{provided}
use Rattle.pq_words.proofs.ReadingLemmas.{provided_ok}
use Rattle.pq_base.specs.Decimal.{decimal_of}
use Rattle.pq_time.specs.Written.{CivilDate, TimeOfDay, date_of, clock_time_of as time_of}
use Rattle.pq_time.specs.Moment.{moment_read, written_moment}
use Rattle.comtrade_cfg.specs.declared.cfg.Analogue.{Analogue}
use Rattle.comtrade_cfg.specs.declared.cfg.StatusLine.{StatusLine}
use Rattle.comtrade_cfg.specs.declared.cfg.FileType.{FileType}
use Rattle.comtrade_cfg.specs.declared.cfg.FileType.TheVariants.{Binary}
use Rattle.comtrade_cfg.specs.declared.head_lines.Station.{Station}
use Rattle.comtrade_cfg.specs.declared.head_lines.ChannelCounts.{ChannelCounts}
use Rattle.comtrade_cfg.specs.declared.sampling_lines.Sampling.{Sampling}
use Rattle.cfg_fields.specs.declared.fault.CfgFault.TheVariants as fault
use Rattle.cfg_fields.specs.declared.fault.Quantity.TheVariants as quantity
use Rattle.cfg_fields.specs.declared.fault.Unsupported.TheVariants as unsupported
use Rattle.comtrade_cfg.specs.Configuration.{Configuration}
use Rattle.cfg_fields.specs.Fields.{text_field, number_field, position_field, decimal_text, channel_count, rate_field, samples_field, moment_fields}
use Rattle.comtrade_cfg.specs.CfgText.{station_line, station_fields, counts_line, analogue_line, analogue_fields, status_line, status_fields, frequency_line, rates_line, sampling_line, stamp_line, file_type_line, is_other_file_type, timemult_line}
use Rattle.comtrade_cfg.specs.Grammar.{IsStationLine, IsCountsLine, IsAnalogueLine, IsStatusLine, IsFrequencyLine, IsRatesLine, IsSamplingLine, IsStampLine, IsFileTypeLine, IsTimemultLine}
use Rattle.cfg_fields.specs.FieldGrammar.{IsTextField}
use Rattle.cfg_fields.proofs.ReadingLaws.{from_bind, same_ok, goes}
use Rattle.cfg_fields.proofs.GrammarFields.{one_of, among, text_step, text_again, number_found, number_again, position_found, position_again, spelling_found, spelling_step, spelling_again, count_found, count_again, frequency_found, frequency_again, rate_found, rate_again, samples_found, samples_again}

-- ---- station and numbers of channels

-- what the station line says of a configuration
abbrev pub station_of : Configuration → Station
station_of c = record { station = c.station; device = c.device; revision = c.revision }

-- the fields of the station line that were read
station_fields_found : (c : Configuration) (line : ℕ) (station device revision : Text) →
    station_fields line station device revision ≡ Ok (station_of c) →
    IsStationLine (station ∷ device ∷ revision ∷ []) c
unfolding station_fields
station_fields_found c line station device revision e =
    text_step line 1 station _ (station_of c) e (λ s_text e. text_step line 2 device _ (station_of c) e
    (λ d_text e. from_bind (number_field line 3 revision) _ (station_of c) e (λ n n_is e.
    let p = provided_ok ((n == 1999) || (n == 2013)) (fault.Unsupported unsupported.Revision line)
    (record { station = station; device = device; revision = n }) (station_of c) e in
    let same_s : station ≡ c.station = ap (λ (s : Station). s.station) p.1 in
    let same_d : device ≡ c.device = ap (λ (s : Station). s.device) p.1 in
    let same_n : n ≡ c.revision = ap (λ (s : Station). s.revision) p.1 in
    record {
      revision = revision;
      fields_are = ap (λ s. s ∷ device ∷ revision ∷ []) same_s
          ∙ ap (λ d. c.station ∷ d ∷ revision ∷ []) same_d;
      texts = (subst IsTextField same_s s_text, (subst IsTextField same_d d_text, tt));
      revision_is = number_found line 3 revision n n_is ∙ ap Some same_n;
      known = subst (λ n. (n ≡ 1999) ⊎ (n ≡ 2013)) same_n (one_of n 1999 2013 p.0);
    })))

-- the station line that was read
pub station_found : (c : Configuration) (line : ℕ) (fields : List Text) → station_line line fields
    ≡ Ok (station_of c) → IsStationLine fields c
station_found c line [] e = absurd cc
station_found c line (x ∷ []) e = absurd cc
station_found c line (x ∷ y ∷ []) e = absurd cc
station_found c line (station ∷ device ∷ revision ∷ []) e =
    station_fields_found c line station device revision e
station_found c line (x ∷ y ∷ z ∷ w ∷ more) e = absurd cc

-- a station line is read
pub station_again : (c : Configuration) (line : ℕ) (fields : List Text) → IsStationLine fields c →
    station_line line fields ≡ Ok (station_of c)
unfolding station_fields
station_again c line fields h =
    ap (station_line line) h.fields_are
    ∙ goes (text_field line 1 c.station) _ c.station (text_again line 1 c.station h.texts.0)
    ∙ goes (text_field line 2 c.device) _ c.device (text_again line 2 c.device h.texts.1.0)
    ∙ goes (number_field line 3 h.revision) _ c.revision
    (number_again line 3 h.revision c.revision h.revision_is)
    ∙ ap (λ b. provided b (fault.Unsupported unsupported.Revision line) (station_of c))
    (among c.revision 1999 2013 h.known)

-- the numbers of channels that were read
pub counts_found : (line : ℕ) (fields : List Text) (analogue status : ℕ) → counts_line line fields
    ≡ Ok (record { analogue = analogue; status = status }) → IsCountsLine fields analogue status
counts_found line [] analogue status e = absurd cc
counts_found line (x ∷ []) analogue status e = absurd cc
counts_found line (x ∷ y ∷ []) analogue status e = absurd cc
counts_found line (total ∷ na ∷ nd ∷ []) analogue status e =
    let n : ChannelCounts = record { analogue = analogue; status = status } in
    from_bind (channel_count 65 quantity.Analogue line 2 na) _ n e
    (λ a a_is e. from_bind (channel_count 68 quantity.Status line 3 nd) _ n e (λ d d_is e.
    from_bind (position_field (a + d) line 1 total) _ n e (λ t t_is e.
    let same_a : a ≡ analogue = ap (λ (n : ChannelCounts). n.analogue) (same_ok e) in
    let same_d : d ≡ status = ap (λ (n : ChannelCounts). n.status) (same_ok e) in
    let fa = count_found 65 quantity.Analogue line 2 na a a_is in
    let fd = count_found 68 quantity.Status line 3 nd d d_is in
    record {
      total = total;
      na = na;
      nd = nd;
      fields_are = refl;
      na_is = fa.0 ∙ ap Some same_a;
      nd_is = fd.0 ∙ ap Some same_d;
      total_is = position_found (a + d) line 1 total t t_is ∙ ap (λ a. Some (a + d)) same_a
          ∙ ap (λ d. Some (analogue + d)) same_d;
      few = (subst (λ n. n ≤ 999) same_a fa.1, subst (λ n. n ≤ 999) same_d fd.1);
    })))
counts_found line (x ∷ y ∷ z ∷ w ∷ more) analogue status e = absurd cc

-- a numbers of channels line is read
pub counts_again : (line : ℕ) (fields : List Text) (analogue status : ℕ) → IsCountsLine fields analogue status
    → counts_line line fields ≡ Ok (record { analogue = analogue; status = status })
counts_again line fields analogue status h =
    ap (counts_line line) h.fields_are
    ∙ goes (channel_count 65 quantity.Analogue line 2 h.na) _ analogue
    (count_again 65 quantity.Analogue line 2 h.na analogue h.na_is h.few.0)
    ∙ goes (channel_count 68 quantity.Status line 3 h.nd) _ status
    (count_again 68 quantity.Status line 3 h.nd status h.nd_is h.few.1)
    ∙ goes (position_field (analogue + status) line 1 h.total) _ (analogue + status)
    (position_again (analogue + status) line 1 h.total h.total_is)

-- ---- channels

-- the fields of an analogue channel line that were read
analogue_fields_found : (position line : ℕ) (an id phase component unit a b skew min max primary secondary ps
    : Text) (ch : Analogue)
    → analogue_fields position line an id phase component unit a b skew min max primary secondary ps ≡ Ok ch
    → IsAnalogueLine position (an ∷ id ∷ phase ∷ component ∷ unit ∷ a ∷ b ∷ skew ∷ min ∷ max ∷ primary ∷
    secondary ∷ ps ∷ []) ch
unfolding analogue_fields
analogue_fields_found position line an id phase component unit a b skew min max primary secondary ps ch e =
    from_bind (position_field position line 1 an) _ ch e (λ n n_is e.
    text_step line 2 id _ ch e (λ h2 e.
    text_step line 3 phase _ ch e (λ h3 e.
    text_step line 4 component _ ch e (λ h4 e.
    text_step line 5 unit _ ch e (λ h5 e.
    spelling_step line 6 a _ ch e (λ h6 e.
    spelling_step line 7 b _ ch e (λ h7 e.
    text_step line 8 skew _ ch e (λ h8 e.
    text_step line 9 min _ ch e (λ h9 e.
    text_step line 10 max _ ch e (λ h10 e.
    text_step line 11 primary _ ch e (λ h11 e.
    text_step line 12 secondary _ ch e (λ h12 e.
    text_step line 13 ps _ ch e (λ h13 e.
    subst (IsAnalogueLine position (an ∷ id ∷ phase ∷ component ∷ unit ∷ a ∷ b ∷ skew ∷ min ∷ max ∷ primary ∷
    secondary ∷ ps ∷ [])) (same_ok e) (record {
      an = an;
      fields_are = refl;
      an_is = position_found position line 1 an n n_is;
      texts = (h2, (h3, (h4, (h5, (h8, (h9, (h10, (h11, (h12, (h13, tt))))))))));
      a_is = h6;
      b_is = h7;
    }))))))))))))))

-- an analogue channel line that was read
pub analogue_found : (position line : ℕ) (fields : List Text) (ch : Analogue) →
    analogue_line position line fields ≡ Ok ch → IsAnalogueLine position fields ch
analogue_found position line (an ∷ id ∷ phase ∷ component ∷ unit ∷ a ∷ b ∷ skew ∷ min ∷ max ∷ primary ∷
    secondary ∷ ps ∷ []) ch e =
    analogue_fields_found position line an id phase component unit a b skew min max primary secondary ps ch e
analogue_found position line _ ch e = absurd cc

-- an analogue channel line is read
pub analogue_again : (position line : ℕ) (fields : List Text) (ch : Analogue) →
    IsAnalogueLine position fields ch → analogue_line position line fields ≡ Ok ch
unfolding analogue_fields
analogue_again position line fields ch h =
    ap (analogue_line position line) h.fields_are
    ∙ goes (position_field position line 1 h.an) _ position (position_again position line 1 h.an h.an_is)
    ∙ goes (text_field line 2 ch.id) _ ch.id (text_again line 2 ch.id h.texts.0)
    ∙ goes (text_field line 3 ch.phase) _ ch.phase (text_again line 3 ch.phase h.texts.1.0)
    ∙ goes (text_field line 4 ch.component) _ ch.component (text_again line 4 ch.component h.texts.1.1.0)
    ∙ goes (text_field line 5 ch.unit) _ ch.unit (text_again line 5 ch.unit h.texts.1.1.1.0)
    ∙ goes (decimal_text line 6 ch.a) _ ch.a (spelling_again line 6 ch.a h.a_is)
    ∙ goes (decimal_text line 7 ch.b) _ ch.b (spelling_again line 7 ch.b h.b_is)
    ∙ goes (text_field line 8 ch.skew) _ ch.skew (text_again line 8 ch.skew h.texts.1.1.1.1.0)
    ∙ goes (text_field line 9 ch.least) _ ch.least (text_again line 9 ch.least h.texts.1.1.1.1.1.0)
    ∙ goes (text_field line 10 ch.greatest) _ ch.greatest
    (text_again line 10 ch.greatest h.texts.1.1.1.1.1.1.0)
    ∙ goes (text_field line 11 ch.primary) _ ch.primary
    (text_again line 11 ch.primary h.texts.1.1.1.1.1.1.1.0)
    ∙ goes (text_field line 12 ch.secondary) _ ch.secondary
    (text_again line 12 ch.secondary h.texts.1.1.1.1.1.1.1.1.0)
    ∙ goes (text_field line 13 ch.side) _ ch.side (text_again line 13 ch.side h.texts.1.1.1.1.1.1.1.1.1.0)

-- the fields of a status channel line that were read
status_fields_found : (position line : ℕ) (dn id phase component normal : Text) (ch : StatusLine) →
    status_fields position line dn id phase component normal ≡ Ok ch
    → IsStatusLine position (dn ∷ id ∷ phase ∷ component ∷ normal ∷ []) ch
unfolding status_fields
status_fields_found position line dn id phase component normal ch e =
    from_bind (position_field position line 1 dn) _ ch e (λ n n_is e.
    text_step line 2 id _ ch e (λ h2 e.
    text_step line 3 phase _ ch e (λ h3 e.
    text_step line 4 component _ ch e (λ h4 e.
    text_step line 5 normal _ ch e (λ h5 e.
    subst (IsStatusLine position (dn ∷ id ∷ phase ∷ component ∷ normal ∷ [])) (same_ok e)
    (record {
      dn = dn;
      fields_are = refl;
      dn_is = position_found position line 1 dn n n_is;
      texts =
          (h2, (h3, (h4, (h5, tt))));
    }))))))

-- a status channel line that was read
pub status_found : (position line : ℕ) (fields : List Text) (ch : StatusLine) →
    status_line position line fields ≡ Ok ch → IsStatusLine position fields ch
status_found position line (dn ∷ id ∷ phase ∷ component ∷ normal ∷ []) ch e =
    status_fields_found position line dn id phase component normal ch e
status_found position line _ ch e = absurd cc

-- a status channel line is read
pub status_again : (position line : ℕ) (fields : List Text) (ch : StatusLine) →
    IsStatusLine position fields ch → status_line position line fields ≡ Ok ch
unfolding status_fields
status_again position line fields ch h =
    ap (status_line position line) h.fields_are
    ∙ goes (position_field position line 1 h.dn) _ position (position_again position line 1 h.dn h.dn_is)
    ∙ goes (text_field line 2 ch.id) _ ch.id (text_again line 2 ch.id h.texts.0)
    ∙ goes (text_field line 3 ch.phase) _ ch.phase (text_again line 3 ch.phase h.texts.1.0)
    ∙ goes (text_field line 4 ch.component) _ ch.component (text_again line 4 ch.component h.texts.1.1.0)
    ∙ goes (text_field line 5 ch.normal) _ ch.normal (text_again line 5 ch.normal h.texts.1.1.1.0)

-- ---- frequency and rates

-- the line frequency that was read
pub frequency_line_found : (line : ℕ) (fields : List Text) (lf : ℕ) → frequency_line line fields ≡ Ok lf →
    IsFrequencyLine fields lf
frequency_line_found line [] lf e = absurd cc
frequency_line_found line (text ∷ []) lf e = let f = frequency_found line 1 text lf e in
    record { text = text; fields_are = refl; is = f.0; known = f.1 }
frequency_line_found line (x ∷ y ∷ more) lf e = absurd cc

-- a line frequency line is read
pub frequency_line_again : (line : ℕ) (fields : List Text) (lf : ℕ) → IsFrequencyLine fields lf →
    frequency_line line fields ≡ Ok lf
frequency_line_again line fields lf h = ap (frequency_line line) h.fields_are
    ∙ frequency_again line 1 h.text lf h.is h.known

-- the number of sampling rates that was read is 1
pub rates_found : (line : ℕ) (fields : List Text) (n : ℕ) → rates_line line fields ≡ Ok n → IsRatesLine fields
rates_found line [] n e = absurd cc
rates_found line (text ∷ []) n e =
    from_bind (number_field line 1 text) _ n e (λ k k_is e.
    let p = provided_ok (k == 1) (fault.Unsupported unsupported.Rates line) k n e in
    record {
      text = text;
      fields_are = refl;
      is = number_found line 1 text k k_is
          ∙ ap Some (eqb-true k 1 p.0);
    })
rates_found line (x ∷ y ∷ more) n e = absurd cc

-- a number of sampling rates line is read
pub rates_again : (line : ℕ) (fields : List Text) → IsRatesLine fields → rates_line line fields ≡ Ok 1
rates_again line fields h = ap (rates_line line) h.fields_are
    ∙ goes (number_field line 1 h.text) _ 1 (number_again line 1 h.text 1 h.is)

-- what the sampling rate line says of a configuration
abbrev pub sampling_of : Configuration → Sampling
sampling_of c = record { rate = c.rate; endsamp = c.endsamp }

-- the sampling rate that was read
pub sampling_found : (c : Configuration) (line : ℕ) (fields : List Text) → sampling_line c.lf line fields
    ≡ Ok (sampling_of c) → IsSamplingLine fields c
sampling_found c line [] e = absurd cc
sampling_found c line (x ∷ []) e = absurd cc
sampling_found c line (samp ∷ endsamp ∷ []) e =
    from_bind (rate_field c.lf line 1 samp) _ (sampling_of c) e
    (λ rate rate_is e. from_bind (samples_field line 2 endsamp) _ (sampling_of c) e (λ n n_is e.
    let same_rate : rate ≡ c.rate = ap (λ (s : Sampling). s.rate) (same_ok e) in
    let same_n : n ≡ c.endsamp = ap (λ (s : Sampling). s.endsamp) (same_ok e) in
    let r = rate_found c.lf line 1 samp c.rate (rate_is ∙ ap Ok same_rate) in
    let s = samples_found line 2 endsamp c.endsamp (n_is ∙ ap Ok same_n) in
    record {
      samp = samp;
      endsamp = endsamp;
      fields_are = refl;
      samp_is = r.0;
      within = r.1;
      endsamp_is = s.0;
      few = s.1;
    }))
sampling_found c line (x ∷ y ∷ z ∷ more) e = absurd cc

-- a sampling rate line is read
pub sampling_again : (c : Configuration) (line : ℕ) (fields : List Text) → IsSamplingLine fields c →
    sampling_line c.lf line fields ≡ Ok (sampling_of c)
sampling_again c line fields h =
    ap (sampling_line c.lf line) h.fields_are
    ∙ goes (rate_field c.lf line 1 h.samp) _ c.rate (rate_again c.lf line 1 h.samp c.rate h.samp_is h.within)
    ∙ goes (samples_field line 2 h.endsamp) _ c.endsamp
    (samples_again line 2 h.endsamp c.endsamp h.endsamp_is h.few)

-- ---- moments, file type and factor

-- the date and the time that were read
stamp_fields_found : (line : ℕ) (date time : Text) (written : ℤ) (d : Option CivilDate) (t : Option TimeOfDay)
    → date_of date ≡ d → time_of time ≡ t
    → moment_fields line (moment_read d t) ≡ Ok written → IsStampLine (date ∷ time ∷ []) written
stamp_fields_found line date time written None t d_is t_is e = absurd cc
stamp_fields_found line date time written (Some d) None d_is t_is e = absurd cc
stamp_fields_found line date time written (Some d) (Some t) d_is t_is e =
    record {
      date = date;
      time = time;
      fields_are = refl;
      day = d;
      clock = t;
      date_is = d_is;
      time_is = t_is;
      moment_is = sym (same_ok e);
    }

-- the moment that was read
pub stamp_found : (line : ℕ) (fields : List Text) (written : ℤ) → stamp_line line fields ≡ Ok written →
    IsStampLine fields written
unfolding written_moment
stamp_found line [] written e = absurd cc
stamp_found line (x ∷ []) written e = absurd cc
stamp_found line (date ∷ time ∷ []) written e = stamp_fields_found line date time written (date_of date)
    (time_of time) refl refl e
stamp_found line (x ∷ y ∷ z ∷ more) written e = absurd cc

-- a date/time stamp line is read
pub stamp_again : (line : ℕ) (fields : List Text) (written : ℤ) → IsStampLine fields written →
    stamp_line line fields ≡ Ok written
unfolding written_moment
stamp_again line fields written h =
    ap (stamp_line line) h.fields_are
    ∙ ap (λ d. moment_fields line (moment_read d (time_of h.time))) h.date_is
    ∙ ap (λ t. moment_fields line (moment_read (Some h.day) t)) h.time_is
    ∙ ap Ok (sym h.moment_is)

-- the file type that was read
pub file_type_found : (line : ℕ) (fields : List Text) (ft : FileType) → file_type_line line fields ≡ Ok ft →
    IsFileTypeLine fields
file_type_found line [] ft e = absurd cc
file_type_found line (text ∷ []) ft e = at (str_eq_ignore_ascii_case text (codes "BINARY"))
    (is_other_file_type text) refl e
  where
    at : (b o : Bool) → str_eq_ignore_ascii_case text (codes "BINARY") ≡ b →
        cond b (Ok Binary) (cond o (Err (fault.Unsupported unsupported.FileType line))
        (Err (fault.Field line 1))) ≡ Ok ft
        → IsFileTypeLine (text ∷ [])
    at true o is e = record { text = text; fields_are = refl; is = is }
    at false true is e = absurd cc
    at false false is e = absurd cc
file_type_found line (x ∷ y ∷ more) ft e = absurd cc

-- a data file type line is read
pub file_type_again : (line : ℕ) (fields : List Text) (ft : FileType) → IsFileTypeLine fields →
    file_type_line line fields ≡ Ok ft
file_type_again line fields Binary h =
    ap (file_type_line line) h.fields_are
    ∙ ap (λ b. cond b (Ok Binary) (cond (is_other_file_type h.text)
    (Err (fault.Unsupported unsupported.FileType line)) (Err (fault.Field line 1)))) h.is

-- the factor that was read
pub timemult_found : (line : ℕ) (fields : List Text) (timemult : Text) → timemult_line line fields
    ≡ Ok timemult → IsTimemultLine fields timemult
timemult_found line [] timemult e = absurd cc
timemult_found line (text ∷ []) timemult e =
    let s = spelling_found line 1 text timemult e in
    record { fields_are = ap (λ t. t ∷ []) s.1; is = ap (λ t. is_some (decimal_of t)) (sym s.1) ∙ s.0 }
timemult_found line (x ∷ y ∷ more) timemult e = absurd cc

-- a time stamp multiplication factor line is read
pub timemult_again : (line : ℕ) (fields : List Text) (timemult : Text) → IsTimemultLine fields timemult →
    timemult_line line fields ≡ Ok timemult
timemult_again line fields timemult h = ap (timemult_line line) h.fields_are
    ∙ spelling_again line 1 timemult h.is
