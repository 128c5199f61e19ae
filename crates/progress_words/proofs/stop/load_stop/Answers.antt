use Rattle.std.proofs.Common.{rules, ◌+◌, ap}
use Rattle.progress_words.proofs.StopSteps.{loads_stop}
use Rattle.progress_words.proofs.stop.load_stop.Goals as goal

pub load-requires : goal.load-requires
load-requires g c =
    let words = c.args.words.now in (
      c.requires,
      search rules,
      loads_stop _ g.V.Shared.reach g.V.Shared.name _ _ _ _ _ (ap (λ k. k + 1) words.lanes),
    )
