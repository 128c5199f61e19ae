use Rattle.std.proofs.Common.{rules, ◌<◌}
use Rattle.progress_words.proofs.LaneSteps.{loads}
use Rattle.progress_words.proofs.pass.Words.load.Goals as goal

pub load-requires : goal.load-requires
load-requires g c =
    let words = c.args.self.now in
    let l : c.args.lane < words.board.shared.key.lanes = rw (← words.lanes) c.requires.lane in (
      c.requires.mine,
      search rules,
      loads _ g.V.Shared.reach g.V.Shared.name _ _ _ _ _ c.args.pass.now.reads l,
    )
