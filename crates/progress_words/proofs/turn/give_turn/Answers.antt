use Rattle.std.proofs.Common.{rules, ◌≡◌, ℕ, ◌∷◌, [], ap, sym, ◌∙◌, Some, subst}
use Rattle.atomic_table.specs.Table.{rest}
use Rattle.progress_words.specs.PassView.{taken_slots, after_give}
use Rattle.progress_words.specs.Step.{Pass, role_after_give}
use Rattle.progress_words.specs.Turn.{MayGive}
use Rattle.progress_words.proofs.TurnSteps.{gives_back}
use Rattle.progress_words.proofs.turn.give_turn.Goals as goal

pub store-requires : goal.store-requires
store-requires g c =
    let words = c.args.words.now in let seat = c.args.seat.now in let may = c.requires.may in
    let none = c.requires.slots ∙ ap taken_slots may.holds in
    let me : Pass g.row.V.Denot g.row.V-Name.Denot = (seat.me.0, (0, Some c.args.value) ∷ []) in
    let now : c.exchange.new.seat.me ≡ me = c.exchange.ensures.3 ∙ ap (λ cs.
    let x : Pass g.row.V.Denot g.row.V-Name.Denot = (seat.me.0, (0, Some c.args.value) ∷ rest cs) in
    x) none in
    let Of : ℕ → Type 0 = λ n. MayGive g.V.Shared.reach g.V.Shared.name n c.args.value seat.me.0 in
    let May : Pass g.row.V.Denot g.row.V-Name.Denot → Type 0 =
    λ m. MayGive g.V.Shared.reach g.V.Shared.name words.board.shared.key.lanes c.args.value m.0 in (
      c.exchange.ensures.0 ∙ c.requires.mine,
      search rules,
      gives_back _ g.V.Shared.reach g.V.Shared.name _ _ _ c.exchange.new.seat.me _ c.args.value words.lanes
          (ap (λ m. m.1) now) (subst May (sym now) (subst Of words.lanes may)),
    )

pub returns-clause-view : goal.returns-clause-view
returns-clause-view g c =
    let seat = c.args.seat.now in let none = c.requires.slots ∙ ap taken_slots c.requires.may.holds in
    let me : Pass g.row.V.Denot g.row.V-Name.Denot = (seat.me.0, (0, Some c.args.value) ∷ []) in
    let now : c.exchange.new.seat.me ≡ me = c.exchange.ensures.3 ∙ ap (λ cs.
    let x : Pass g.row.V.Denot g.row.V-Name.Denot = (seat.me.0, (0, Some c.args.value) ∷ rest cs) in
    x) none in
    ap (λ m. m.0) (c.store.ensures.2 c.args.value (ap (λ m. m.1) now))
    ∙ (λ i. record (after_give c.args.value (now i).0) {
      role = role_after_give g.V.Shared.reach c.args.value (now i).0.role;
    })

pub returns-clause-slots : goal.returns-clause-slots
returns-clause-slots g c =
    let seat = c.args.seat.now in let none = c.requires.slots ∙ ap taken_slots c.requires.may.holds in
    let me : Pass g.row.V.Denot g.row.V-Name.Denot = (seat.me.0, (0, Some c.args.value) ∷ []) in
    let now : c.exchange.new.seat.me ≡ me = c.exchange.ensures.3 ∙ ap (λ cs.
    let x : Pass g.row.V.Denot g.row.V-Name.Denot = (seat.me.0, (0, Some c.args.value) ∷ rest cs) in
    x) none in
    let gave = c.store.ensures.2 c.args.value (ap (λ m. m.1) now) in
    ap (λ m. m.1) gave ∙ ap (λ m. taken_slots m.0.held_value) (sym gave)
