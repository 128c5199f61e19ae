use Rattle.std.proofs.Common.{rules}
use Rattle.progress_words.proofs.SplitSteps.{splits}
use Rattle.progress_words.proofs.pass.Words.split.Goals as goal

pub split_seat-seat-requires : goal.split_seat-seat-requires
split_seat-seat-requires g c =
    (c.requires.mine, search rules, splits _ g.V.Shared.reach g.V.Shared.name _ _ _ c.args.pass.now.reads)
