use Rattle.std.proofs.Common.{◌≡◌, ◌+◌, ◌≤◌, length}
use Rattle.std.specs.Str.Lines.{lines}
use Rattle.chain_core.specs.Phases.{start_phases}
use Rattle.pq_replay.specs.Schedule.{lines_from}
use Rattle.pq_replay.proofs.ReadingLaws.{after_lines}
use Rattle.pq_replay.proofs.reading.read_schedule.Given as goal

abbrev pub decreases-loop-text : goal.decreases-loop-text
decreases-loop-text l = length l.rest

-- the lines so far, and those of the text that is left
abbrev pub invariant-loop-text : goal.invariant-loop-text
invariant-loop-text l = record {
  read : lines_from l.lanes (start_phases l.lanes) 1 (lines l.fn.bytes)
      ≡ after_lines l.lines.items (lines_from l.lanes l.phases l.number (lines l.rest));
  number : l.number + length l.rest ≤ 1 + length l.fn.bytes;
}
