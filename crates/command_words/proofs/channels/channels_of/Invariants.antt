use Rattle.std.proofs.Common.{◌≡◌, length}
use Rattle.command_words.specs.Values.{channels_after, channels_of}
use Rattle.pq_words.specs.Text.{parted_at}
use Rattle.command_words.proofs.channels.channels_of.Given as goal

-- the numbers so far, and those that the rest writes
abbrev pub invariant-loop-first : goal.invariant-loop-first
invariant-loop-first l = channels_after l.numbers.items (parted_at 44 l.rest) ≡ channels_of l.text

abbrev pub decreases-loop-first : goal.decreases-loop-first
decreases-loop-first l = length l.rest
