use Rattle.std.proofs.Common.{◌≤◌, length, ◌∙◌, ap}
use Rattle.std.proofs.lemmas.List.{length-map}
use Rattle.std.proofs.lemmas.List.Elements.{All-take}
use Rattle.pq_sequence.specs.MeasuredRecording.{channel_count, positions}
use Rattle.pq_words.specs.declared.limits.TheConstants.{MOST_MICROVOLTS}
use Rattle.pq_words.proofs.StepLaws.{length_numbers}
use Rattle.pq_sequence.proofs.basics.basic.Goals as goal

-- it has samples, and a value for each channel
pub returns-clause-measured : goal.returns-clause-measured
returns-clause-measured c =
    let n = channel_count c.args.recording.now in
    record {
      some = c.requires.some;
      within = c.requires.inside;
      long = ap length c.roots_over.ensures.value ∙ length-map (positions c.args.recording.now) _
          ∙ length_numbers 0 n;
      quiet = All-take (λ value. value ≤ MOST_MICROVOLTS) n c.roots_over.result c.roots_over.ensures.quiet;
    }
