use Rattle.std.proofs.Common.{false, length, ◌-◌, ◌≤◌, take}
use Rattle.std.specs.Io.KnownBytes.{Appends}
use Rattle.pq_base.specs.Causes.{CountsOnce}
use Rattle.pq_base.proofs.sink.write_all.Given as goal

abbrev pub invariant-loop-done : goal.invariant-loop-done
invariant-loop-done g l =
    let taken = g.O.Sink.taken in
    let faults = g.O.Sink.faults in
    record {
      within : l.done ≤ length l.bytes;
      bytes : Appends (taken l.fn.out) (taken l.out) (take l.done l.bytes);
      later : faults l.fn.out ≤ faults l.out;
      counted : CountsOnce g.O.Sink.counts_each (faults l.fn.out) (faults l.out) false;
    }

abbrev pub decreases-loop-done : goal.decreases-loop-done
decreases-loop-done g l = length l.bytes - l.done
