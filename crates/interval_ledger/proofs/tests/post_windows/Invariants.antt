use Rattle.std.proofs.Common.{◌≡◌, drop}
use Rattle.interval_ledger.specs.Ledger.{count_of, view_of}
use Rattle.lanes.specs.Lane.{windows_at}
use Rattle.interval_ledger.proofs.tests.post_windows.Given as goal

-- the windows that are left are those that are not posted
abbrev pub invariant-loop-window : goal.invariant-loop-window
invariant-loop-window l = record {
  about : (view_of l.ledger).recording ≡ l.recording;
  left : drop (count_of l.ledger 1) (windows_at l.recording 0) ≡ l.window-iterator;
}
