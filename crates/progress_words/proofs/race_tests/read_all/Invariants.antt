use Rattle.std.proofs.Common.{◌≡◌, None}
use Rattle.progress_words.specs.Words.{read_view, IsReaderOf}
use Rattle.progress_words.proofs.race_tests.read_all.Given as goal

abbrev pub invariant-loop : goal.invariant-loop
invariant-loop l = record {
  mine : IsReaderOf l.words l.pass;
  idle : (read_view l.pass).held_value ≡ None;
}
