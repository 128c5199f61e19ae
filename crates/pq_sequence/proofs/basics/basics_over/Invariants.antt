use Rattle.std.proofs.Common.{ℕ, ◌<◌, ◌≤◌, All, length, slice_index, take}
use Rattle.pq_sequence.specs.Measured.{AreBasicsOver, AreBelow, IsMeasured, run_starts}
use Rattle.pq_sequence.proofs.basics.basics_over.Given as goal

-- the runs so far, and no front that was passed lies in a later one
abbrev pub invariant-loop-run : goal.invariant-loop-run
invariant-loop-run l = record {
  before : (j : ℕ) → l.run-index ≤ j → j < length l.runs →
      AreBelow (slice_index (run_starts l.runs) j) l.fronts l.next;
  value : AreBasicsOver l.recording l.boundaries l.fronts l.reaches (take l.run-index l.runs) l.found.items;
  each : All (IsMeasured l.recording) l.found.items;
}
