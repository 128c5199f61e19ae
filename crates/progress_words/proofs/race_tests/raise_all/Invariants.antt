use Rattle.std.proofs.Common.{◌≡◌, ◌≤◌, None}
use Rattle.progress_words.specs.Words.{lane_view, lane_of, IsLaneOf}
use Rattle.progress_words.proofs.race_tests.raise_all.Given as goal

abbrev pub invariant-loop-time : goal.invariant-loop-time
invariant-loop-time l = record {
  mine : IsLaneOf l.words l.pass;
  idle : (lane_view l.pass).held_value ≡ None;
  lane : (lane_of l.pass).lane ≡ 0;
  word : (lane_of l.pass).word ≤ l.reach;
  reach : (lane_of l.pass).reach_given ≡ l.reach;
  most : l.reach ≤ l.time;
}
