use Rattle.std.proofs.Common.{◌≡◌, length}
use Rattle.progress_words.specs.Words.{AreFreshLanes, IsFreshReader, IsOpenedOn}
use Rattle.progress_words.proofs.pass.Words.open.Given as goal

abbrev pub invariant-loop-lane : goal.invariant-loop-lane
invariant-loop-lane g l = record {
  words : IsOpenedOn l.count l.fn.value l.words;
  reader : IsFreshReader l.words l.fn.value l.lane l.reader;
  count : length l.passes.items ≡ l.lane;
  lanes : AreFreshLanes l.words l.fn.value 0 l.passes.items;
}
