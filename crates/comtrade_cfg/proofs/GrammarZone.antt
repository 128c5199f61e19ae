-- The lines of the zone: revision 2013 has two of them, and 1999 has none.
use Rattle.std.proofs.Common.{◌≡◌, ℕ, ◌+◌, ◌⊎◌, inl, inr, true, false, Option, Some, None, List, [], ◌∷◌, ℤ, Ok, refl, sym, subst, ap, ◌∙◌, arith, ◌==◌}
use Rattle.std.specs.Option.{option_map_or}
use Rattle.std.proofs.lemmas.Bool.{eq-eqb, ne_eqb}
use Rattle.pq_words.specs.Text.{Text}
use Rattle.pq_words.proofs.ReadingLemmas.{some_ok}
use Rattle.pq_time.specs.Written.{code_of}
use Rattle.comtrade_cfg.specs.declared.cfg.Zone.{Zone}
use Rattle.cfg_fields.specs.declared.fault.CfgFault.TheVariants as fault
use Rattle.cfg_fields.specs.Fields.{Ahead, on_line, field_or_fault, hexadecimal, leap_digit, leap_field, local_code_of}
use Rattle.comtrade_cfg.specs.CfgText.{time_code_line, time_quality_line, zone_lines}
use Rattle.comtrade_cfg.specs.Grammar.{fields_at, AreZoneLines, HasZoneLines}
use Rattle.cfg_fields.proofs.ReadingLaws.{from_bind, same_ok, goes}
use Rattle.comtrade_cfg.proofs.GrammarPlaces.{place, line_found, line_again}
use Rattle.cfg_fields.proofs.GrammarFields.{leap_found, leap_again}

-- ---- the two lines

-- what the time code line holds
record HoldsCodes (fields : List Text) (x : ℤ × Option ℤ) : Type 0 where
  pub time_code : Text
  pub local_code : Text
  pub are : fields ≡ time_code ∷ local_code ∷ []
  pub time_code_is : code_of time_code ≡ Some x.0
  pub local_code_is : local_code_of local_code ≡ Some x.1

-- the time code line that was read
codes_found : (line : ℕ) (fields : List Text) (x : ℤ × Option ℤ) → time_code_line line fields ≡ Ok x →
    HoldsCodes fields x
codes_found line [] x e = absurd cc
codes_found line (a ∷ []) x e = absurd cc
codes_found line (time_code ∷ local_code ∷ []) x e =
    from_bind (field_or_fault line 1 (code_of time_code)) _ x e
    (λ t t_is e. from_bind (field_or_fault line 2 (local_code_of local_code)) _ x e (λ l l_is e.
    let same_t : t ≡ x.0 = ap (λ (x : ℤ × Option ℤ). x.0) (same_ok e) in
    let same_l : l ≡ x.1 = ap (λ (x : ℤ × Option ℤ). x.1) (same_ok e) in
    record {
      time_code = time_code;
      local_code = local_code;
      are = refl;
      time_code_is = some_ok (code_of time_code) (fault.Field line 1) t t_is ∙ ap Some same_t;
      local_code_is = some_ok (local_code_of local_code) (fault.Field line 2) l l_is ∙ ap Some same_l;
    }))
codes_found line (a ∷ b ∷ c ∷ more) x e = absurd cc

-- what the time quality line holds
record HoldsQuality (fields : List Text) (x : ℕ × ℕ) : Type 0 where
  pub tmq_code : Text
  pub leapsec : Text
  pub are : fields ≡ tmq_code ∷ leapsec ∷ []
  pub tmq_code_is : hexadecimal tmq_code ≡ Some x.0
  pub leapsec_is : leap_digit leapsec ≡ Some x.1
  pub known : (x.1 ≡ 0) ⊎ (x.1 ≡ 3)

-- the time quality line that was read
quality_found : (line : ℕ) (fields : List Text) (x : ℕ × ℕ) → time_quality_line line fields ≡ Ok x →
    HoldsQuality fields x
quality_found line [] x e = absurd cc
quality_found line (a ∷ []) x e = absurd cc
quality_found line (tmq_code ∷ leapsec ∷ []) x e =
    from_bind (field_or_fault line 1 (hexadecimal tmq_code)) _ x e
    (λ q q_is e. from_bind (leap_field line 2 leapsec) _ x e (λ l l_is e.
    let same_q : q ≡ x.0 = ap (λ (x : ℕ × ℕ). x.0) (same_ok e) in
    let same_l : l ≡ x.1 = ap (λ (x : ℕ × ℕ). x.1) (same_ok e) in
    let leap = leap_found line 2 leapsec x.1 (l_is ∙ ap Ok same_l) in
    record {
      tmq_code = tmq_code;
      leapsec = leapsec;
      are = refl;
      tmq_code_is = some_ok (hexadecimal tmq_code) (fault.Field line 1) q q_is ∙ ap Some same_q;
      leapsec_is = leap.0;
      known = leap.1;
    }))
quality_found line (a ∷ b ∷ c ∷ more) x e = absurd cc

-- a time code line is read
codes_again : (line : ℕ) (codes quality : List Text) (z : Zone) → AreZoneLines codes quality z →
    time_code_line line codes ≡ Ok (z.time_code, z.local_code)
codes_again line codes quality z h =
    ap (time_code_line line) h.codes_are
    ∙ goes (field_or_fault line 1 (code_of h.time_code)) _ z.time_code
    (ap (λ o. field_or_fault line 1 o) h.time_code_is)
    ∙ goes (field_or_fault line 2 (local_code_of h.local_code)) _ z.local_code
    (ap (λ o. field_or_fault line 2 o) h.local_code_is)

-- a time quality line is read
quality_again : (line : ℕ) (codes quality : List Text) (z : Zone) → AreZoneLines codes quality z →
    time_quality_line line quality ≡ Ok (z.quality, z.leap)
quality_again line codes quality z h =
    ap (time_quality_line line) h.quality_are
    ∙ goes (field_or_fault line 1 (hexadecimal h.tmq_code)) _ z.quality
    (ap (λ o. field_or_fault line 1 o) h.tmq_code_is)
    ∙ goes (leap_field line 2 h.leapsec) _ z.leap (leap_again line 2 h.leapsec z.leap h.leapsec_is h.known)

-- ---- both

-- how many lines the zone has
abbrev pub zone_size : Option Zone → ℕ
zone_size zone = option_map_or (λ z. 2) zone 0

-- what was read as a zone, and where the reading goes on
abbrev Found : List Text → (revision i : ℕ) → (k : ℕ) → Option Zone × Ahead → Type 0
Found text revision i k y = HasZoneLines revision (fields_at text k) (fields_at text (k + 1)) y.0 ×
    (y.1 ≡ place text (i + zone_size y.0))

-- the two lines that were read
both_found : (text : List Text) (revision i k : ℕ) (start : Ahead) (y : Option Zone × Ahead) → k ≡ i + 1 →
    revision ≡ 2013 → start ≡ place text i → zone_lines true start ≡ Ok y → Found text revision i k y
both_found text revision i k start y n is s e =
    from_bind (on_line time_code_line start) _ y e (λ codes codes_is e. from_bind
    (on_line time_quality_line codes.1) _ y e (λ quality quality_is e.
    let first = line_found time_code_line text i k start codes n s codes_is in
    let second = line_found time_quality_line text k (k + 1) codes.1 quality refl first.1 quality_is in
    let c = codes_found k (fields_at text k) codes.0 first.0 in
    let q = quality_found (k + 1) (fields_at text (k + 1)) quality.0 second.0 in
    let m : k + 1 ≡ i + 2 = omega (arith, n) in
    subst (Found text revision i k) (same_ok e) (
      (
        is,
        record {
          time_code = c.time_code;
          local_code = c.local_code;
          codes_are = c.are;
          time_code_is = c.time_code_is;
          local_code_is = c.local_code_is;
          tmq_code = q.tmq_code;
          leapsec = q.leapsec;
          quality_are = q.are;
          tmq_code_is = q.tmq_code_is;
          leapsec_is = q.leapsec_is;
          known = q.known;
        },
      ),
      second.1 ∙ ap (place text) m,
    )))

-- the zone that was read: line k is the first of it
pub zone_found : (text : List Text) (revision i k : ℕ) (start : Ahead) (y : Option Zone × Ahead) → k ≡ i + 1 →
    (revision ≡ 1999) ⊎ (revision ≡ 2013) → start ≡ place text i
    → zone_lines (revision == 2013) start ≡ Ok y → Found text revision i k y
zone_found text revision i k start y n (inr is) s e =
    both_found text revision i k start y n is s (ap (λ b. zone_lines b start) (sym (eq-eqb revision 2013 is))
    ∙ e)
zone_found text revision i k start y n (inl is) s e =
    let other : (revision == 2013) ≡ false = ne_eqb revision 2013 (λ h. omega (arith, is, h)) in
    let none : zone_lines false start ≡ Ok y = ap (λ b. zone_lines b start) (sym other) ∙ e in
    let m : i ≡ i + 0 = omega arith in
    subst (Found text revision i k) (same_ok none) (is, s ∙ ap (place text) m)

-- a zone is read
pub zone_again : (text : List Text) (revision i k : ℕ) (zone : Option Zone) → k ≡ i + 1 →
    HasZoneLines revision (fields_at text k) (fields_at text (k + 1)) zone
    → zone_lines (revision == 2013) (place text i) ≡ Ok (zone, place text (i + zone_size zone))
zone_again text revision i k None n is =
    let m : i ≡ i + 0 = omega arith in
    ap (λ b. zone_lines b (place text i)) (ne_eqb revision 2013 (λ h. omega (arith, is, h)))
    ∙ ap (λ (m : ℕ). Ok (None, place text m)) m
zone_again text revision i k (Some z) n (is, h) =
    let m : k + 1 ≡ i + 2 = omega (arith, n) in
    let first = line_again time_code_line text i k (z.time_code, z.local_code) n refl
    (codes_again k (fields_at text k) (fields_at text (k + 1)) z h) in
    let second = line_again time_quality_line text k (k + 1) (z.quality, z.leap) refl refl
    (quality_again (k + 1) (fields_at text k) (fields_at text (k + 1)) z h) in
    ap (λ b. zone_lines b (place text i)) (eq-eqb revision 2013 is)
    ∙ goes (on_line time_code_line (place text i)) _ ((z.time_code, z.local_code), place text k) first
    ∙ goes (on_line time_quality_line (place text k)) _ ((z.quality, z.leap), place text (k + 1)) second
    ∙ ap (λ (m : ℕ). Ok (Some z, place text m)) m
