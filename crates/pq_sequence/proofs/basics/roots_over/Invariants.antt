use Rattle.std.proofs.Common.{◌≡◌, ◌≤◌, All, length, map, take, slice_range}
use Rattle.fixed_rms.specs.Root.{rms}
use Rattle.pq_base.specs.Recorded.{samples_at}
use Rattle.pq_words.specs.declared.limits.TheConstants.{MOST_MICROVOLTS}
use Rattle.pq_words.specs.Steps.{numbers_below}
use Rattle.pq_sequence.proofs.basics.roots_over.Given as goal

-- the channels so far
abbrev pub invariant-loop-position : goal.invariant-loop-position
invariant-loop-position l = record {
  roots : take l.position l.roots
      ≡ map (λ position. rms (slice_range (samples_at l.recording position) l.span.start l.span.end))
      (numbers_below l.position);
  quiet : All (λ value. value ≤ MOST_MICROVOLTS) l.roots;
  long : length l.roots ≡ 16;
}
