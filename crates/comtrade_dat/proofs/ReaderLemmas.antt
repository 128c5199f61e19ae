-- A reader that was opened, and was fed.
use Rattle.std.proofs.Common.{◌≡◌, ◌∙◌, ℕ, ◌+◌, ◌*◌, ◌^◌, ◌<◌, ◌≤◌, List, [], length, map, refl, ap, sym, subst, arith, ◌⊎◌, inl, inr, None, Result, Ok, Err}
use Rattle.std.proofs.Math.Seq.{drop-nil}
use Rattle.std.specs.List.{All}
use Rattle.std.specs.Prelude.{IsErrAnd}
use Rattle.comtrade_cfg.proofs.SelectionLaws.{selection_good}
use Rattle.comtrade_cfg.specs.Configuration.{Configuration}
use Rattle.comtrade_cfg.specs.Selecting.{IsSelected, Selected}
use Rattle.comtrade_dat.proofs.ChannelLemmas.{none_read}
use Rattle.comtrade_dat.proofs.RecordingLemmas.{fault_of_dat, positions_unread}
use Rattle.comtrade_dat.specs.Channel.{IsLayout, read_on, unread}
use Rattle.comtrade_dat.specs.DatReader.{DatReading, FeedsOn, HasRead}
use Rattle.comtrade_dat.specs.Progress.{Ends, EndsAll, IsCounted, IsFed, IsFedOn, IsFedWith, WasFed}
use Rattle.comtrade_dat.specs.Run.{start_at}
use Rattle.comtrade_dat.specs.Samples.{Gives, first_fault, judged_dat, judged_records, record_size, samples_of}
use Rattle.comtrade_dat.specs.declared.dat_fault.DatFault.{DatFault}
use Rattle.comtrade_dat.specs.declared.dat_fault.DatFault.TheVariants as fault
use Rattle.comtrade_dat.specs.declared.decoded.Decoded.{Decoded}
use Rattle.comtrade_dat.specs.declared.progress.Progress.{Progress}
use Rattle.comtrade_dat.specs.declared.run_start.RunStart.{RunStart}
use Rattle.pq_base.specs.Recorded.{Recorded}
use Rattle.pq_words.specs.Text.{Text}

-- the counts of the selected channels lie in a record
pub layout_of : (c : Configuration) (s : Selected) (size : ℕ) (positions : List ℕ) → IsSelected c s
    → positions ≡ s.positions → 8 + 2 * length c.analogue ≤ size → size < 2 ^ 16 → IsLayout size positions
layout_of c s size positions selected same least small =
    let good = selection_good c s selected in
    let there : All (λ p. p < length c.analogue) positions =
    subst (All (λ p. p < length c.analogue)) (sym same) good.there in
    let some : 0 < length positions = subst (λ ps. 0 < length ps) (sym same) good.some in
    let first = there 0 0 some in
    record {
      least = omega (arith, first, least);
      small = small;
      room = λ k d inside. omega (arith, there k d inside, least);
    }

-- a reader that has read nothing
pub opened : (c : Configuration) (s : Selected) (p : Progress) → p.decoded.channels.items
    ≡ map (unread c) s.positions
    → (let start : RunStart = record { index = 0; before = None } in p.decoded.next ≡ start)
    → p.cut.items ≡ [] → p.bytes ≡ 0 → p.fault ≡ None
    → (let r : DatReading = record { configuration = c; selected = s; progress = p } in HasRead c s [] r)
opened c s p channels next cut bytes fault =
    let size = record_size c in
    let positions = s.positions in
    let fresh = map (unread c) positions in
    let none = none_read size [] fresh in
    let counted : IsCounted size positions c.endsamp fresh p [] = record {
      good = record {
        decoded = record {
          paired = positions_unread c positions;
          whole = subst (λ (start : RunStart). size * start.index ≤ 0) (sym next) (omega arith);
          good = subst
              (λ (start : RunStart). first_fault (judged_records size positions [] start.index) ≡ Ok (tt {0}))
              (sym next) refl;
          read = subst
              (λ (start : RunStart). p.decoded.channels.items ≡ map (read_on size [] 0 start.index) fresh)
              (sym next) (channels ∙ sym none);
          next = subst (λ (start : RunStart). start ≡ start_at size [] start.index) (sym next) refl;
        };
        within = subst (λ (start : RunStart). start.index ≤ c.endsamp) (sym next) (omega arith);
        cut = λ to_come. cut ∙ sym (drop-nil (size * p.decoded.next.index));
        short = omega (arith, ap length cut);
        closed = λ full. cut;
      };
      bytes = bytes;
    } in
    record {
      configuration = refl;
      selected = refl;
      progress = subst (IsFedWith size positions c.endsamp fresh p []) (sym fault) counted;
    }

-- a reader by its parts
abbrev pub reading : Configuration → Selected → Progress → DatReading
reading c s p = record { configuration = c; selected = s; progress = p }

-- a reader whose progress was fed this piece
pub fed_on : (c : Configuration) (s : Selected) (size : ℕ) (positions : List ℕ) (old new : Progress)
    (piece : Text)
    → size ≡ record_size c → positions ≡ s.positions → IsFedOn size positions c.endsamp old piece new
    → FeedsOn (reading c s old) piece (reading c s new)
fed_on c s size positions old new piece of_size of_positions on =
    λ c2 s2 fed h.
    let sized : IsFedOn (record_size c) positions c.endsamp old piece new =
    subst (λ size. IsFedOn size positions c.endsamp old piece new) of_size on in
    let placed : IsFedOn (record_size c) s.positions c.endsamp old piece new =
    subst (λ positions. IsFedOn (record_size c) positions c.endsamp old piece new) of_positions sized in
    let said : IsFedOn (record_size c2) s.positions c2.endsamp old piece new =
    subst (λ (c : Configuration). IsFedOn (record_size c) s.positions c.endsamp old piece new) h.configuration
    placed in
    let chosen : IsFedOn (record_size c2) s2.positions c2.endsamp old piece new =
    subst (λ (s : Selected). IsFedOn (record_size c2) s.positions c2.endsamp old piece new) h.selected said in
    record {
      configuration = h.configuration;
      selected = h.selected;
      progress = chosen (map (unread c2) s2.positions) fed h.progress;
    }

-- some bytes were fed
pub was_fed : (c : Configuration) (s : Selected) (size : ℕ) (positions : List ℕ) (p : Progress) (fed : Text)
    → size ≡ record_size c → positions ≡ s.positions → HasRead c s fed (reading c s p)
    → WasFed size positions c.endsamp p
was_fed c s size positions p fed of_size of_positions h = (
  map (unread c) s.positions,
  fed,
  subst (λ size. IsFed size positions c.endsamp (map (unread c) s.positions) p fed) (sym of_size)
      (subst (λ positions. IsFed (record_size c) positions c.endsamp (map (unread c) s.positions) p fed)
      (sym of_positions) h.progress),
)

-- what its end gives
pub reader_ends : (c : Configuration) (s : Selected) (size : ℕ) (p : Progress)
    (result : Result Decoded DatFault)
    → size ≡ record_size c → EndsAll size c.endsamp p result → (c2 : Configuration) (s2 : Selected)
    (fed : Text)
    → HasRead c2 s2 fed (reading c s p)
    → Ends (record_size c2) s2.positions c2.endsamp (map (unread c2) s2.positions) fed result
reader_ends c s size p result of_size ends c2 s2 fed h =
    let sized : EndsAll (record_size c) c.endsamp p result =
    subst (λ size. EndsAll size c.endsamp p result) of_size ends in
    let said : EndsAll (record_size c2) c2.endsamp p result =
    subst (λ (c : Configuration). EndsAll (record_size c) c.endsamp p result) h.configuration sized in
    said s2.positions (map (unread c2) s2.positions) fed h.progress

-- a fault of the end is that of the dat
pub refused_dat : (c : Configuration) (s : Selected) (fed : Text) (result : Result Recorded DatFault)
    (e : DatFault)
    → IsErrAnd result (λ x. x ≡ e)
    → (e ≡ fault.OutOfMemory) ⊎ (judged_dat (record_size c) s.positions fed c.endsamp ≡ Err e)
    → Gives result (samples_of c s fed)
refused_dat c s fed (Ok recorded) e is at = absurd is
refused_dat c s fed (Err found) e is (inl free) = inl (is ∙ free)
refused_dat c s fed (Err found) e is (inr refused) =
    inr (fault_of_dat c s fed e refused ∙ ap (λ x. Err x) (sym is))
