use Rattle.std.proofs.Common.{rules, ◌+◌, ap}
use Rattle.progress_words.proofs.StopSteps.{writes_stop}
use Rattle.progress_words.proofs.pass.Words.stop.Goals as goal

pub store-requires : goal.store-requires
store-requires g c =
    let words = c.args.self.now in (
      c.requires,
      search rules,
      writes_stop _ g.V.Shared.reach g.V.Shared.name _ _ _ _ _ c.args.pass.now.reads
          (ap (λ k. k + 1) words.lanes),
    )
