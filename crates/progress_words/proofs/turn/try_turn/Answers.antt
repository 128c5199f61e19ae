use Rattle.std.proofs.Common.{rules, ◌≡◌, ◌∷◌, [], ap, sym, ◌∙◌, Some}
use Rattle.atomic_table.specs.Table.{rest}
use Rattle.progress_words.specs.PassView.{taken_slots}
use Rattle.progress_words.specs.Seat.{number_of}
use Rattle.progress_words.proofs.TurnSteps.{tries}
use Rattle.progress_words.proofs.turn.try_turn.Goals as goal

pub compare_exchange-found-requires : goal.compare_exchange-found-requires
compare_exchange-found-requires g c =
    let words = c.args.words.now in let seat = c.args.seat.now in (
      c.requires.mine,
      search rules,
      tries _ g.V.Shared.reach g.V.Shared.name _ _ _ _ _ _ words.lanes
          (c.requires.number ∙ ap (λ n. number_of n seat.me.0.role) words.lanes),
    )

pub exchange-requires : goal.exchange-requires
exchange-requires g c =
    let took = c.compare_exchange-found.ensures.2.0 (search rules) in
    let none = c.requires.slots ∙ ap taken_slots c.requires.idle in
    let slots : c.compare_exchange-found.new.seat.me.1 ≡ (0, Some took.0) ∷ [] =
    ap (λ m. m.1) took.1 ∙ ap (λ cs. (0, Some took.0) ∷ cs) none in (
      c.compare_exchange-found.ensures.0 ∙ c.requires.mine,
      (Some took.0, slots ∙ ap (λ cs. (0, Some took.0) ∷ rest cs) (sym slots)),
    )
