-- The answers of the steps of a line, one step after another.
use Rattle.std.proofs.Common.{◌≡◌, Bool, true, false, List, [], ◌∷◌, ◌++◌, Option, Some, None, option_and_then, refl, sym, ap, ◌∙◌, append_assoc, append-nil}
use Rattle.chain_core.specs.declared.answer.Answer.{Answer}
use Rattle.chain_core.specs.declared.step.Step.{Step}
use Rattle.chain_core.specs.Core.{Measured, Core}
use Rattle.chain_core.specs.Play.{Did, takes}
use Rattle.pq_replay.specs.AnswerLines.{answers_along, answers_before, is_refusal}

-- what follows a step that may end a line
abbrev pub after_refusal : Measured → List Step → Answer × Core → Bool → Option (List Answer × Core)
after_refusal m rest first refused = elim refused [
  | true ↦ Some (first.0 ∷ [], first.1)
  | false ↦ answers_before (first.0 ∷ []) (answers_along m first.1 rest)
]

-- what follows a step
abbrev pub after_step : Measured → List Step → Option (Answer × Core) → Option (List Answer × Core)
after_step m rest given = option_and_then (λ first. after_refusal m rest first (is_refusal first.0)) given

pub along_cons : (m : Measured) (c : Core) (s : Step) (rest : List Step) →
    answers_along m c (s ∷ rest) ≡ after_step m rest (takes m c s)
unfolding answers_along
along_cons m c s rest = refl

pub along_none : (m : Measured) (c : Core) → answers_along m c [] ≡ Some ([], c)
unfolding answers_along
along_none m c = refl

before_before : (front : List Answer) (a : Answer) (played : Option (List Answer × Core)) →
    answers_before front (answers_before (a ∷ []) played) ≡ answers_before (front ++ a ∷ []) played
before_before front a None = refl
before_before front a (Some p) =
    let e : front ++ (a ∷ p.0) ≡ (front ++ a ∷ []) ++ p.0 = sym (append_assoc front (a ∷ []) p.0) in
    ap (λ (xs : List Answer). Some (xs, p.1)) e

pub before_none : (played : Option (List Answer × Core)) → answers_before [] played ≡ played
before_none None = refl
before_none (Some p) = refl

split : (m : Measured) (c : Core) (s : Step) (left rest : List Step) (front : List Answer)
    (given : Option (Answer × Core)) (all : Option (List Answer × Core)) → left ≡ s ∷ rest →
    takes m c s ≡ given → answers_before front (answers_along m c left) ≡ all →
    answers_before front (after_step m rest given) ≡ all
split m c s left rest front given all splits is before =
    ap (λ g. answers_before front (after_step m rest g)) (sym is)
    ∙ ap (answers_before front) (sym (along_cons m c s rest))
    ∙ ap (λ xs. answers_before front (answers_along m c xs)) (sym splits) ∙ before

-- a step that goes on
pub step_more : (m : Measured) (c new : Core) (s : Step) (left rest : List Step) (front next : List Answer)
    (a : Answer) (all : Option (List Answer × Core)) → left ≡ s ∷ rest → takes m c s ≡ Some (a, new) →
    is_refusal a ≡ false → next ≡ front ++ a ∷ [] → answers_before front (answers_along m c left) ≡ all →
    answers_before next (answers_along m new rest) ≡ all
step_more m c new s left rest front next a all splits is goes grows before =
    ap (λ xs. answers_before xs (answers_along m new rest)) grows
    ∙ sym (before_before front a (answers_along m new rest))
    ∙ ap (λ b. answers_before front (after_refusal m rest (a, new) b)) (sym goes)
    ∙ split m c s left rest front (Some (a, new)) all splits is before

-- one that is answered Halted or Busy
pub step_refused : (m : Measured) (c new : Core) (s : Step) (left rest : List Step) (front next : List Answer)
    (a : Answer) (all : Option (List Answer × Core)) → left ≡ s ∷ rest → takes m c s ≡ Some (a, new) →
    is_refusal a ≡ true → next ≡ front ++ a ∷ [] → answers_before front (answers_along m c left) ≡ all →
    all ≡ Some (next, new)
step_refused m c new s left rest front next a all splits is ends grows before =
    sym (split m c s left rest front (Some (a, new)) all splits is before)
    ∙ ap (λ b. answers_before front (after_refusal m rest (a, new) b)) ends
    ∙ ap (λ (xs : List Answer). Some (xs, new)) (sym grows)

-- one that isn't allowed
pub step_not_allowed : (m : Measured) (c : Core) (s : Step) (left rest : List Step) (front : List Answer)
    (all : Option (List Answer × Core)) → left ≡ s ∷ rest → takes m c s ≡ None →
    answers_before front (answers_along m c left) ≡ all → all ≡ None
step_not_allowed m c s left rest front all splits is before =
    sym (split m c s left rest front None all splits is before)

-- no step is left
pub steps_end : (m : Measured) (c : Core) (left : List Step) (front : List Answer)
    (all : Option (List Answer × Core)) → left ≡ [] → answers_before front (answers_along m c left) ≡ all →
    all ≡ Some (front, c)
steps_end m c left front all none before =
    sym before ∙ ap (λ xs. answers_before front (answers_along m c xs)) none
    ∙ ap (answers_before front) (along_none m c) ∙ ap (λ (xs : List Answer). Some (xs, c)) (append-nil front)

-- what a call of a step told
pub did_some : (given : Option (Answer × Core)) (answer : Option Answer) (a : Answer) (new : Core) →
    Did given answer new → answer ≡ Some a → given ≡ Some (a, new)
did_some given None a new h is = absurd (let bad : ⊥ = cc in bad)
did_some given (Some x) a new h is = let e : x ≡ a = cc in h ∙ ap (λ y. Some (y, new)) e

pub did_none : (given : Option (Answer × Core)) (answer : Option Answer) (new : Core) →
    Did given answer new → answer ≡ None → given ≡ None
did_none given None new h is = h
did_none given (Some x) new h is = absurd (let bad : ⊥ = cc in bad)
