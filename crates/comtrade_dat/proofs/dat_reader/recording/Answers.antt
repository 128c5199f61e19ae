use Rattle.std.proofs.Common.{◌≡◌, ◌∙◌, ◌+◌, ◌<◌, length, map, to_z, of_z, w64, refl, sym, ap, subst, arith, Ok}
use Rattle.std.proofs.lemmas.Int.{ints}
use Rattle.std.proofs.lemmas.List.{length-map}
use Rattle.std.proofs.lemmas.List.Elements.{All-map}
use Rattle.std.specs.List.{All}
use Rattle.comtrade_cfg.proofs.ConfigurationBounds.{configuration_bounded}
use Rattle.comtrade_cfg.proofs.SelectionLaws.{selection_good}
use Rattle.comtrade_cfg.specs.Configuration.{cfg_view}
use Rattle.comtrade_cfg.specs.Selecting.{selection_view}
use Rattle.comtrade_dat.proofs.RecordingLemmas.{as_many, is_recording, recording_of_good, samples_of_channels, with_samples}
use Rattle.comtrade_dat.specs.Samples.{record_size, recording_of}
use Rattle.pq_words.specs.declared.limits.TheConstants.{MOST_MICROVOLTS}
use Rattle.pq_words.specs.Magnitude.{IsWithin}
use Rattle.comtrade_dat.proofs.dat_reader.recording.Goals as goal

pub numbers-requires : goal.numbers-requires
numbers-requires c =
    let good = selection_good (cfg_view c.args.cfg.now) (selection_view c.args.selection.now)
    c.requires.selected in
    let bounds = configuration_bounded (cfg_view c.args.cfg.now) c.requires.said in
    let there : All (λ p. p < length c.args.cfg.now.analogue.items) c.as_slice.result.now =
    subst (All (λ p. p < length c.args.cfg.now.analogue.items)) (sym c.as_slice.ensures.value) good.there in
    λ k d inside. omega (arith, there k d inside, bounds.analogue)

-- what is handed over is a recording
pub new-requires : goal.new-requires
new-requires c =
    let cfg = cfg_view c.args.cfg.now in
    let selected = selection_view c.args.selection.now in
    let fed = c.requires.whole.0 in
    let whole = c.requires.whole.1 in
    let samples = map (λ s. s.items) c.in_ok-samples.samples.items in
    let read : samples ≡ (recording_of cfg selected fed).samples =
    samples_of_channels cfg selected fed c.args.decoded.next.index c.args.decoded.channels.items samples
    whole.all whole.decoded.read c.in_ok-samples.ensures.value in
    let bounds = configuration_bounded cfg c.requires.said in
    let first : to_z w64 (of_z w64 cfg.first) ≡ cfg.first = omega (arith, ints, bounds.first) in
    let numbers : c.in_ok-numbers.numbers.items ≡ map (λ p. p + 1) selected.positions =
    c.in_ok-numbers.ensures.value ∙ ap (map (λ p. p + 1)) c.as_slice.ensures.value in
    let paired = ap length read ∙ length-map selected.positions _ in
    let even = subst (All (λ xs. length xs ≡ cfg.endsamp)) (sym read)
    (as_many cfg (record_size cfg) fed cfg.endsamp selected.positions) in
    let quiet = All-map (All (IsWithin MOST_MICROVOLTS)) (λ s. s.items) c.in_ok-samples.samples.items
    c.in_ok-samples.ensures.quiet in
    rw (first, numbers) (is_recording cfg selected samples bounds
    (selection_good cfg selected c.requires.selected) paired even quiet)

-- and it is that of the dat
pub returns : goal.returns
returns c = λ fed whole.
    let cfg = cfg_view c.args.cfg.now in
    let selected = selection_view c.args.selection.now in
    let samples = map (λ s. s.items) c.in_ok-samples.samples.items in
    let read : samples ≡ (recording_of cfg selected fed).samples =
    samples_of_channels cfg selected fed c.args.decoded.next.index c.args.decoded.channels.items samples
    whole.all whole.decoded.read c.in_ok-samples.ensures.value in
    let bounds = configuration_bounded cfg c.requires.said in
    let first : to_z w64 (of_z w64 cfg.first) ≡ cfg.first = omega (arith, ints, bounds.first) in
    let numbers : c.in_ok-numbers.numbers.items ≡ map (λ p. p + 1) selected.positions =
    c.in_ok-numbers.ensures.value ∙ ap (map (λ p. p + 1)) c.as_slice.ensures.value in
    let made : c.new.result ≡ with_samples cfg selected samples = c.new.ensures ∙ rw (first, numbers) refl in
    recording_of_good cfg selected fed whole.judged
    ∙ ap Ok (ap (with_samples cfg selected) (sym read) ∙ sym made)
