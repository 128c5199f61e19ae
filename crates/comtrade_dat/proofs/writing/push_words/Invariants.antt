use Rattle.std.proofs.Common.{◌≡◌, ◌++◌, take}
use Rattle.std.specs.List.{flat_map}
use Rattle.comtrade_dat.specs.BinaryRecord.{word_bytes}
use Rattle.comtrade_dat.proofs.writing.push_words.Given as goal

-- the bytes of the words so far
abbrev pub invariant-loop-word : goal.invariant-loop-word
invariant-loop-word l = l.bytes.items ≡ l.fn.bytes.items ++ flat_map word_bytes (take l.word-index l.words)
