-- A list of steps, one step after another.
use Rattle.std.proofs.Common.{◌≡◌, ℕ, ◌+◌, List, [], ◌∷◌, ◌++◌, Option, Some, None, Result, Ok, Err, append_assoc, append-nil, refl, sym, ap, ◌∙◌}
use Rattle.std.specs.Option.{ok_or}
use Rattle.pq_words.specs.FirstFault.{◌>>=◌}
use Rattle.chain_core.specs.declared.answer.Answer.{Answer}
use Rattle.chain_core.specs.declared.answer.PlayFault.{PlayFault}
use Rattle.chain_core.specs.declared.answer.PlayFault.TheVariants as fault
use Rattle.chain_core.specs.declared.step.Step.{Step}
use Rattle.chain_core.specs.Core.{Measured, Core}
use Rattle.chain_core.specs.Play.{takes, answers_from}

abbrev pub answered : List Answer → Result (List Answer) PlayFault
answered xs = Ok xs

-- answers put before those of the steps that are left
abbrev pub before : List Answer → Result (List Answer) PlayFault → Result (List Answer) PlayFault
before answers (Ok others) = Ok (answers ++ others)
before answers (Err e) = Err e

abbrev pub one_step : Measured → ℕ → List Step → Result (Answer × Core) PlayFault →
    Result (List Answer) PlayFault
one_step m index steps (Ok first) = before (first.0 ∷ []) (answers_from m (index + 1) first.1 steps)
one_step m index steps (Err e) = Err e

joined : (m : Measured) (index : ℕ) (steps : List Step) (first : Result (Answer × Core) PlayFault) →
    (do
      x ← first
      others ← answers_from m (index + 1) x.1 steps
      Ok (x.0 ∷ others))
    ≡ one_step m index steps first
joined m index steps (Err e) = refl
joined m index steps (Ok x) = at (answers_from m (index + 1) x.1 steps)
  where
    at : (rest : Result (List Answer) PlayFault) → (do
      others ← rest
      Ok (x.0 ∷ others))
        ≡ before (x.0 ∷ []) rest
    at (Ok others) = refl
    at (Err e) = refl

-- the answers of a step and others
pub answers_step : (m : Measured) (index : ℕ) (c : Core) (s : Step) (steps : List Step) →
    answers_from m index c (s ∷ steps) ≡ one_step m index steps (ok_or (takes m c s) (fault.NotAllowed index))
unfolding answers_from
answers_step m index c s steps = joined m index steps (ok_or (takes m c s) (fault.NotAllowed index))

-- a step that is allowed
pub allowed_step : (m : Measured) (index : ℕ) (c new : Core) (s : Step) (steps : List Step) (a : Answer) →
    takes m c s ≡ Some (a, new) → answers_from m index c (s ∷ steps)
    ≡ before (a ∷ []) (answers_from m (index + 1) new steps)
allowed_step m index c new s steps a is =
    answers_step m index c s steps ∙ ap (λ t. one_step m index steps (ok_or t (fault.NotAllowed index))) is

-- a step that isn't
pub refused_step : (m : Measured) (index : ℕ) (c : Core) (s : Step) (steps : List Step) → takes m c s ≡ None →
    answers_from m index c (s ∷ steps) ≡ Err (fault.NotAllowed index)
refused_step m index c s steps is =
    answers_step m index c s steps ∙ ap (λ t. one_step m index steps (ok_or t (fault.NotAllowed index))) is

pub no_steps : (m : Measured) (index : ℕ) (c : Core) → answers_from m index c [] ≡ Ok []
unfolding answers_from
no_steps m index c = refl

-- answers put before answers
pub before_before : (xs ys : List Answer) (rest : Result (List Answer) PlayFault) → before xs (before ys rest)
    ≡ before (xs ++ ys) rest
before_before xs ys (Ok zs) =
    let e : xs ++ (ys ++ zs) ≡ (xs ++ ys) ++ zs = simp append_assoc in ap (λ
    (all : List Answer). answered all) e
before_before xs ys (Err e) = refl

pub before_none : (rest : Result (List Answer) PlayFault) → before [] rest ≡ rest
before_none (Ok zs) = refl
before_none (Err e) = refl

-- a step more that is allowed, of the steps that are left
pub one_more : (m : Measured) (index : ℕ) (c new : Core) (s : Step) (left rest : List Step) (a : Answer)
    (answers : List Answer) (all : Result (List Answer) PlayFault) → left ≡ s ∷ rest →
    takes m c s ≡ Some (a, new) →
    before answers (answers_from m index c left) ≡ all →
    before (answers ++ a ∷ []) (answers_from m (index + 1) new rest) ≡ all
one_more m index c new s left rest a answers all splits is so_far =
    sym (before_before answers (a ∷ []) (answers_from m (index + 1) new rest))
    ∙ ap (before answers) (sym (ap (answers_from m index c) splits ∙ allowed_step m index c new s rest a is))
    ∙ so_far

-- a step that isn't allowed
pub stops_here : (m : Measured) (index : ℕ) (c : Core) (s : Step) (left rest : List Step)
    (answers : List Answer)
    (all : Result (List Answer) PlayFault) → left ≡ s ∷ rest → takes m c s ≡ None →
    before answers (answers_from m index c left) ≡ all → all ≡ Err (fault.NotAllowed index)
stops_here m index c s left rest answers all splits is so_far =
    sym so_far ∙ ap (before answers) (ap (answers_from m index c) splits ∙ refused_step m index c s rest is)

-- no step is left
pub ends_here : (m : Measured) (index : ℕ) (c : Core) (left : List Step) (answers : List Answer)
    (all : Result (List Answer) PlayFault) → left ≡ [] → before answers (answers_from m index c left) ≡ all →
    all ≡ Ok answers
ends_here m index c left answers all none so_far =
    let e : answers ++ [] ≡ answers = append-nil answers in
    sym so_far ∙ ap (before answers) (ap (answers_from m index c) none ∙ no_steps m index c)
    ∙ ap (λ (xs : List Answer). answered xs) e
