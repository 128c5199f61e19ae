use Rattle.std.proofs.Common.{◌≡◌, ◌<◌, ◌≤◌, ℕ, [], ◌∷◌, ◌++◌, map, refl, sym, ◌∙◌, ap, arith}
use Rattle.std.proofs.lemmas.List.{length-set, take_more_set}
use Rattle.std.proofs.lemmas.List.Elements.{All-replicate, All-set}
use Rattle.std.specs.List.{slice_range}
use Rattle.fixed_rms.specs.Root.{rms}
use Rattle.pq_base.specs.Recorded.{samples_at}
use Rattle.pq_words.specs.declared.limits.TheConstants.{MOST_MICROVOLTS}
use Rattle.pq_words.specs.Steps.{numbers_below, numbers_from}
use Rattle.pq_words.proofs.StepLaws.{map_below_push}
use Rattle.pq_sequence.proofs.basics.roots_over.Goals as goal

-- no channel yet
pub loop-position-init : goal.loop-position-init
unfolding numbers_from
loop-position-init c = record {
  roots = refl;
  quiet = All-replicate (λ value. value ≤ MOST_MICROVOLTS) 16 0 (omega arith);
  long = refl;
}

-- one channel more
pub loop-position-preserved : goal.loop-position-preserved
loop-position-preserved c =
    let r = c.args.recording.now in
    let span = c.args.span in
    let p = c.loop-position.position in
    let roots = c.loop-position.roots in
    let root_at : ℕ → ℕ = λ position. rms (slice_range (samples_at r position) span.start span.end) in
    let is : c.root.result ≡ root_at p = c.root.ensures.value
    ∙ ap (λ samples. rms (slice_range samples span.start span.end)) c.samples.ensures.value in
    let inside : p < 16 =
    omega (
      arith,
      c.loop-position-test.true,
      c.channels-position-end.ensures.value,
      c.channels-position-end.ensures.conditions.channels.1,
    ) in
    record {
      roots = take_more_set roots p c.root.result (omega (arith, inside, c.loop-position.invariant.long))
          ∙ ap (λ xs. xs ++ c.root.result ∷ []) c.loop-position.invariant.roots
          ∙ ap (λ v. map root_at (numbers_below p) ++ v ∷ []) is
          ∙ sym (map_below_push root_at p);
      quiet = All-set (λ value. value ≤ MOST_MICROVOLTS) roots p c.root.result c.root.ensures.quiet
          c.loop-position.invariant.quiet;
      long = length-set roots p c.root.result ∙ c.loop-position.invariant.long;
    }
