use Rattle.std.proofs.Common.{◌≡◌, length, All}
use Rattle.pq_words.specs.declared.limits.TheConstants.{MOST_MICROVOLTS}
use Rattle.pq_words.specs.Magnitude.{IsWithin}
use Rattle.worked_chain.proofs.recordings.samples.Given as goal

-- so many samples so far, none too large
abbrev pub invariant-loop-place : goal.invariant-loop-place
invariant-loop-place l = record {
  count : length l.samples.items ≡ l.place;
  quiet : All (IsWithin MOST_MICROVOLTS) l.samples.items;
}
