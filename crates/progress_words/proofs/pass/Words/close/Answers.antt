use Rattle.std.proofs.Common.{rules, ℕ, ap, sym, ◌∙◌, subst, unwrap_or}
use mathlib.Core.Option.{some-injective}
use Rattle.std.specs.Option.{IsSome}
use Rattle.progress_words.specs.Words.{IsNumber}
use Rattle.progress_words.proofs.Ends.{closes, stays_held}
use Rattle.progress_words.proofs.pass.Words.close.Goals as goal

pub unwrap-requires : goal.unwrap-requires
unwrap-requires g c =
    let shared = c.args.self.board.shared in
    let home = closes _ g.V.Shared.reach g.V.Shared.name shared.key.value.value _ _
    c.close-closed.ensures.values.2 _ _
    c.args.self.lanes c.if-turn-ne0.false c.word-turn.ensures in
    let is = some-injective _ _ (sym home.1 ∙ c.take-slot.ensures.value) in subst IsSome is (search rules)

pub returns-clause-value : goal.returns-clause-value
returns-clause-value g c =
    let shared = c.args.self.board.shared in
    let home = closes _ g.V.Shared.reach g.V.Shared.name shared.key.value.value _ _
    c.close-closed.ensures.values.2 _ _
    c.args.self.lanes c.if-turn-ne0.false c.word-turn.ensures in
    let is = some-injective _ _ (sym home.1 ∙ c.take-slot.ensures.value) ∙ c.unwrap.ensures in
    ap g.V.Shared.name (ap (λ o. unwrap_or o c.unwrap.result) (sym is)) ∙ home.2

pub returns-then-turn-ne0-clause-held : goal.returns-then-turn-ne0-clause-held
returns-then-turn-ne0-clause-held g c =
    let shared = c.args.self.board.shared in
    let Number : ℕ → Type 0 = λ n. IsNumber n c.word-turn.result in
    subst Number (sym c.args.self.lanes)
    (stays_held _ g.V.Shared.reach g.V.Shared.name shared.key.value.value _ _
    c.close-closed.ensures.values.2 _ _ c.args.self.lanes c.if-turn-ne0.true c.word-turn.ensures)
