use Rattle.std.proofs.Common.{◌≡◌, ◌+◌, ◌<◌, ◌^◌, length}
use Rattle.std.specs.Str.Lines.{lines}
use Rattle.cfg_fields.specs.Fields.{only_blank_lines}
use Rattle.cfg_fields.proofs.cursor.only_blank_lines.Given as goal

abbrev pub invariant-loop-line : goal.invariant-loop-line
invariant-loop-line l = record {
  bound : l.number + length l.rest < 2 ^ 32;
  same : only_blank_lines l.number (lines l.rest) ≡ only_blank_lines l.fn.cursor.number
      (lines l.fn.cursor.rest.now);
}

abbrev pub decreases-loop-line : goal.decreases-loop-line
decreases-loop-line l = length l.rest
