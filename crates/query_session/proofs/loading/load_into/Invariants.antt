use Rattle.std.proofs.Common.{◌≡◌, ◌<◌, ℕ, length, slice_index}
use Rattle.progress_words.specs.Words.{IsReaderOf, read_view, reader_of}
use Rattle.query_session.specs.Session.{LoadedOnce, with_reads}
use Rattle.query_session.proofs.loading.load_into.Given as goal

abbrev pub invariant-loop-lane : goal.invariant-loop-lane
invariant-loop-lane l = record {
  mine : IsReaderOf l.words l.pass;
  view : read_view l.pass ≡ with_reads (reader_of l.pass) (read_view l.fn.pass);
  loaded : LoadedOnce l.lane (reader_of l.fn.pass) (reader_of l.pass);
  long : length l.into ≡ length (reader_of l.pass).words_read;
  same : (j : ℕ) → j < l.lane → slice_index l.into j ≡ slice_index (reader_of l.pass).words_read j;
}
