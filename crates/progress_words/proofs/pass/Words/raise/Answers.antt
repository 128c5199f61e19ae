use Rattle.std.proofs.Common.{rules, ◌≡◌, ◌+◌, ◌<◌, ap, ◌∙◌, arith}
use Rattle.progress_words.proofs.LaneSteps.{raises}
use Rattle.progress_words.proofs.pass.Words.raise.Goals as goal

pub store-requires : goal.store-requires
store-requires g c =
    let words = c.args.self.now in let pass = c.args.pass.now in let below = pass.below in
    let wide : pass.seat.table_id.words ≡ words.count + 2 = ap (λ t. t.words) c.requires.mine ∙ words.words in
    let l : pass.lane < words.count = omega arith in
    let l' : pass.lane < words.board.shared.key.lanes = rw (← words.lanes) l in (
      c.requires.mine,
      search rules,
      raises _ g.V.Shared.reach g.V.Shared.name _ _ _ _ _ _ pass.raises pass.numbered l' c.requires.least
          c.requires.within,
    )
