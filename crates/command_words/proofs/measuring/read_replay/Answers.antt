use Rattle.std.proofs.Common.{ap, ◌∙◌}
use Rattle.clap.specs.Words.{is_simple_and_free}
use Rattle.command_words.proofs.SimpleLemmas.{replay_is_simple}
use Rattle.command_words.proofs.measuring.read_replay.Goals as goal

pub matches_of-requires : goal.matches_of-requires
matches_of-requires c = ap is_simple_and_free c.in-Ok.ensures ∙ replay_is_simple
