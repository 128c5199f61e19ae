-- Nothing in the grammar is refused.
use Rattle.std.proofs.Common.{◌≡◌, ℕ, ◌+◌, cond, List, length, ℤ, Ok, Err, refl, sym, subst, ap, ◌∙◌, arith}
use Rattle.std.specs.Prelude.{◌==◌}
use Rattle.std.specs.Str.Lines.{lines}
use Rattle.std.proofs.lemmas.Bool.{le-leb}
use Rattle.jiff_core.proofs.SignedLemmas.{signed_arith}
use Rattle.pq_words.specs.Text.{Text}
use Rattle.pq_time.specs.Moment.{utc_of, written_of}
use Rattle.cfg_fields.specs.declared.fault.CfgFault.TheVariants as fault
use Rattle.cfg_fields.specs.declared.fault.Quantity.TheVariants as quantity
use Rattle.comtrade_cfg.specs.Configuration.{Configuration}
use Rattle.cfg_fields.specs.Fields.{ahead_of, on_line, only_blank_lines}
use Rattle.comtrade_cfg.specs.CfgText.{configuration_of, configuration_ahead, lines_behind, channel_lines, station_line, counts_line, analogue_line, status_line, frequency_line, rates_line, sampling_line, stamp_line, file_type_line, timemult_line, zone_lines, offset_of}
use Rattle.comtrade_cfg.specs.Grammar.{fields_at, after_channels, last_line, HasZoneLines, LinesSay, IsCfgText}
use Rattle.comtrade_cfg.proofs.GrammarPlaces.{place, line_again, Each, channels_again, blank_again}
use Rattle.cfg_fields.proofs.ReadingLaws.{goes}
use Rattle.comtrade_cfg.proofs.GrammarLines.{station_of, station_again, counts_again, analogue_again, status_again, frequency_line_again, rates_again, sampling_of, sampling_again, stamp_again, file_type_again, timemult_again}
use Rattle.comtrade_cfg.proofs.GrammarZone.{zone_again}

-- the offset is added and taken away again
utc_again : (utc minutes : ℤ) → utc_of (written_of utc minutes) minutes ≡ utc
utc_again utc minutes = omega (arith, signed_arith)

-- the analogue channel lines give the analogue channels
analogue_each : (text : List Text) (c : Configuration) → LinesSay text c →
    Each analogue_line text 1 2 c.analogue
analogue_each text c h k p l ch there at_p at_l =
    let same_p : k + 1 ≡ p = omega (arith, at_p) in
    let same_l : k + 3 ≡ l = omega (arith, at_l) in
    ap (λ p. analogue_line p l (fields_at text l)) (sym same_p)
    ∙ ap (λ l. analogue_line (k + 1) l (fields_at text l)) (sym same_l)
    ∙ analogue_again (k + 1) (k + 3) (fields_at text (k + 3)) ch (h.analogue k ch there)

-- the status channel lines give the status channels
status_each : (text : List Text) (c : Configuration) → LinesSay text c →
    Each status_line text 1 (2 + length c.analogue) c.status
status_each text c h k p l ch there at_p at_l =
    let same_p : k + 1 ≡ p = omega (arith, at_p) in
    let same_l : k + 3 + length c.analogue ≡ l = omega (arith, at_l) in
    ap (λ p. status_line p l (fields_at text l)) (sym same_p)
    ∙ ap (λ l. status_line (k + 1) l (fields_at text l)) (sym same_l)
    ∙ status_again (k + 1) (k + 3 + length c.analogue) (fields_at text (k + 3 + length c.analogue)) ch
    (h.status k ch there)

-- lines that say a configuration are read as it
lines_again : (text : List Text) (c : Configuration) → LinesSay text c → configuration_ahead (place text 0)
    ≡ Ok c
unfolding configuration_ahead lines_behind
lines_again text c h =
    let i : ℕ = 2 + length c.analogue in
    let j : ℕ = 2 + length c.analogue + length c.status in
    let k : ℕ = after_channels c in
    let offset : ℤ = offset_of c.zone in
    let first : ℤ = written_of c.first offset in
    let trigger : ℤ = written_of c.trigger offset in
    let eight : k + 8 ≡ k + 7 + 1 = omega arith in
    let zone : HasZoneLines c.revision (fields_at text (k + 7)) (fields_at text (k + 7 + 1)) c.zone =
    subst (λ (l : ℕ). HasZoneLines c.revision (fields_at text (k + 7)) (fields_at text l) c.zone) eight
    h.zone in
    goes (on_line station_line (place text 0)) _ (station_of c, place text 1)
    (line_again station_line text 0 1 (station_of c) refl refl
    (station_again c 1 (fields_at text 1) h.station))
    ∙ goes (on_line counts_line (place text 1)) _ (
      record
          { analogue = length c.analogue; status = length c.status },
      place text 2,
    )
    (line_again counts_line text 1 2 (record { analogue = length c.analogue; status = length c.status }) refl
    refl (counts_again 2 (fields_at text 2) (length c.analogue) (length c.status) h.counts))
    ∙ goes (channel_lines analogue_line 1 (length c.analogue) (place text 2)) _ (c.analogue, place text i)
    (channels_again analogue_line text 1 2 i c.analogue (λ p l. refl) refl (analogue_each text c h))
    ∙ goes (channel_lines status_line 1 (length c.status) (place text i)) _ (c.status, place text j)
    (channels_again status_line text 1 i j c.status (λ p l. refl) refl (status_each text c h))
    ∙ goes (on_line frequency_line (place text j)) _ (c.lf, place text k)
    (line_again frequency_line text j k c.lf (omega arith) refl
    (frequency_line_again k (fields_at text k) c.lf h.frequency))
    ∙ goes (on_line rates_line (place text k)) _ (1, place text (k + 1))
    (line_again rates_line text k (k + 1) 1 refl refl (rates_again (k + 1) (fields_at text (k + 1)) h.rates))
    ∙ goes (on_line (sampling_line c.lf) (place text (k + 1))) _ (sampling_of c, place text (k + 2))
    (line_again (sampling_line c.lf) text (k + 1) (k + 2) (sampling_of c) (omega arith) refl
    (sampling_again c (k + 2) (fields_at text (k + 2)) h.sampling))
    ∙ goes (on_line stamp_line (place text (k + 2))) _ (first, place text (k + 3))
    (line_again stamp_line text (k + 2) (k + 3) first (omega arith) refl
    (stamp_again (k + 3) (fields_at text (k + 3)) first h.first))
    ∙ goes (on_line stamp_line (place text (k + 3))) _ (trigger, place text (k + 4))
    (line_again stamp_line text (k + 3) (k + 4) trigger (omega arith) refl
    (stamp_again (k + 4) (fields_at text (k + 4)) trigger h.trigger))
    ∙ goes (on_line file_type_line (place text (k + 4))) _ (c.file_type, place text (k + 5))
    (line_again file_type_line text (k + 4) (k + 5) c.file_type (omega arith) refl
    (file_type_again (k + 5) (fields_at text (k + 5)) c.file_type h.file_type))
    ∙ goes (on_line timemult_line (place text (k + 5))) _ (c.timemult, place text (k + 6))
    (line_again timemult_line text (k + 5) (k + 6) c.timemult (omega arith) refl
    (timemult_again (k + 6) (fields_at text (k + 6)) c.timemult h.timemult))
    ∙ goes (zone_lines (c.revision == 2013) (place text (k + 6))) _ (c.zone, place text (last_line c))
    (zone_again text c.revision (k + 6) (k + 7) c.zone (omega arith) zone)
    ∙ goes (only_blank_lines (last_line c + 1) (place text (last_line c)).lines) _ tt
    (blank_again text (last_line c) h.blank)
    ∙ ap (λ (f : ℤ). Ok (record c { first = f; trigger = utc_of trigger offset })) (utc_again c.first offset)
    ∙ ap (λ (t : ℤ). Ok (record c { trigger = t })) (utc_again c.trigger offset)

-- a text that is in the grammar is read
pub only : (text : Text) (c : Configuration) → IsCfgText text c → configuration_of text ≡ Ok c
unfolding configuration_of
only text c h =
    ap (λ b. cond b (configuration_ahead (ahead_of text)) (Err (fault.Limit quantity.CfgBytes 0)))
    (le-leb (length text) 1048576 h.bytes) ∙ lines_again (lines text) c h.says
