use Rattle.std.proofs.Common.{◌≡◌}
use Rattle.progress_words.specs.Words.{IsReaderOf, read_view, reader_of}
use Rattle.query_session.specs.Least.{IsLeast}
use Rattle.query_session.specs.Session.{LoadedOnce, with_reads}
use Rattle.query_session.proofs.loading.load_all.Given as goal

abbrev pub invariant-loop-k : goal.invariant-loop-k
invariant-loop-k l = record {
  mine : IsReaderOf l.words l.pass;
  view : read_view l.pass ≡ with_reads (reader_of l.pass) (read_view l.fn.pass);
  loaded : LoadedOnce l.k (reader_of l.fn.pass) (reader_of l.pass);
  least : IsLeast l.k (reader_of l.pass).words_read l.lane l.word;
}
