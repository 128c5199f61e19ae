-- Steps of a line, passed one after another.
use Rattle.std.proofs.Common.{◌≡◌, ℕ, suc, ◌+◌, ◌<◌, ◌≤◌, Bool, true, false, List, [], ◌∷◌, ◌++◌, length, drop, get_or, Option, Some, None, option_and_then, refl, sym, ap, ◌∙◌, subst, arith, append_assoc, drop-cons}
use Rattle.std.proofs.lemmas.Grind.{common_steps}
use Rattle.std.proofs.lemmas.List.FromFn.{map-range_with_len_more}
use Rattle.chain_core.specs.declared.step.Step.{Step}
use Rattle.chain_core.specs.declared.step.Step.TheVariants as step
use Rattle.chain_core.specs.Phases.{Phases}
use Rattle.pq_replay.specs.Schedule.{HasPassed, Passed, loads, phases_after_steps, step_passed}

-- what follows a step
abbrev pub after_first : List Step → Option (Bool × Phases) → Option Phases
after_first rest given =
    option_and_then (λ first. elim first.0 [ true ↦ Some first.1 | false ↦ phases_after_steps first.1 rest ])
    given

pub steps_cons : (p : Phases) (s : Step) (rest : List Step) → phases_after_steps p (s ∷ rest)
    ≡ after_first rest (step_passed p s)
unfolding phases_after_steps
steps_cons p s rest = refl

split : (p : Phases) (s : Step) (all rest : List Step) (given : Option (Bool × Phases))
    (whole : Option Phases) →
    all ≡ s ∷ rest → step_passed p s ≡ given → phases_after_steps p all ≡ whole → after_first rest given
    ≡ whole
split p s all rest given whole splits is before =
    ap (after_first rest) (sym is) ∙ sym (steps_cons p s rest) ∙ ap (phases_after_steps p) (sym splits)
    ∙ before

-- a step that is allowed, and goes on
pub goes_on : (p next : Phases) (s : Step) (all rest : List Step) (whole : Option Phases) → all ≡ s ∷ rest →
    step_passed p s ≡ Some (false, next) → phases_after_steps p all ≡ whole → phases_after_steps next rest
    ≡ whole
goes_on p next s all rest whole splits is before =
    split p s all rest (Some (false, next)) whole splits is before

-- one that is answered Halted or Busy
pub stops : (p next : Phases) (s : Step) (all rest : List Step) (whole : Option Phases) → all ≡ s ∷ rest →
    step_passed p s ≡ Some (true, next) → phases_after_steps p all ≡ whole → whole ≡ Some next
stops p next s all rest whole splits is before =
    sym (split p s all rest (Some (true, next)) whole splits is before)

-- one that isn't allowed
pub refused : (p : Phases) (s : Step) (all rest : List Step) (whole : Option Phases) → all ≡ s ∷ rest →
    step_passed p s ≡ None → phases_after_steps p all ≡ whole → whole ≡ None
refused p s all rest whole splits is before = sym (split p s all rest None whole splits is before)

-- no step is left
pub ends : (p : Phases) (all : List Step) (whole : Option Phases) → all ≡ [] → phases_after_steps p all
    ≡ whole →
    whole ≡ Some p
unfolding phases_after_steps
ends p all whole none before = sym before ∙ ap (phases_after_steps p) none

-- what a call told of a step: it is allowed, or it isn't
pub told : (given : Option (Bool × Phases)) (answer : Option Bool) (b v : Bool) (new : Phases) →
    Passed given answer new → answer ≡ Some b → b ≡ v → given ≡ Some (v, new)
told given None b v new h is same = absurd (let bad : ⊥ = cc in bad)
told given (Some x) b v new h is same =
    let e : x ≡ v = cc in let P : Bool → Type 0 = λ w. given ≡ Some (w, new) in subst P e h

pub told_none : (given : Option (Bool × Phases)) (answer : Option Bool) (new : Phases) →
    Passed given answer new →
    answer ≡ None → given ≡ None
told_none given None new h is = h
told_none given (Some x) new h is = absurd (let bad : ⊥ = cc in bad)

-- what a call told of the steps of a line
pub line_allowed : (p new : Phases) (xs ys zs : List Step) (b : Bool) →
    HasPassed (phases_after_steps p xs) b new →
    xs ≡ ys → ys ≡ zs → b ≡ true → phases_after_steps p zs ≡ Some new
line_allowed p new xs ys zs true h first second is = ap (phases_after_steps p) (sym second)
    ∙ ap (phases_after_steps p) (sym first) ∙ h
line_allowed p new xs ys zs false h first second is = absurd (let bad : ⊥ = cc in bad)

pub line_refused : (p new : Phases) (xs ys zs : List Step) (b : Bool) →
    HasPassed (phases_after_steps p xs) b new →
    xs ≡ ys → ys ≡ zs → b ≡ false → phases_after_steps p zs ≡ None
line_refused p new xs ys zs true h first second is = absurd (let bad : ⊥ = cc in bad)
line_refused p new xs ys zs false h first second is = ap (phases_after_steps p) (sym second)
    ∙ ap (phases_after_steps p) (sym first) ∙ h

-- at an index there is an element, and then the others
pub splits_at : {X : Type 0} (xs : List X) (i : ℕ) (d : X) → i < length xs → drop i xs
    ≡ get_or xs i d ∷ drop (i + 1) xs
splits_at xs i d inside =
    let e : suc i ≡ i + 1 = omega arith in
    drop-cons xs i d inside ∙ ap (λ n. get_or xs i d ∷ drop n xs) e

-- and past the last there is none
pub none_at : {X : Type 0} (xs : List X) (i : ℕ) → length xs ≤ i → drop i xs ≡ []
none_at xs i past = grind (arith, common_steps)

-- one load more
pub loads_more : (session lane : ℕ) (front old new : List Step) → old ≡ front ++ loads lane session → new
    ≡ old ++ step.Load session lane ∷ [] → new ≡ front ++ loads (lane + 1) session
loads_more session lane front old new is next =
    let f : ℕ → Step = λ k. step.Load session k in
    let one : List Step = step.Load session lane ∷ [] in
    let more : loads (lane + 1) session ≡ loads lane session ++ one =
    map-range_with_len_more f 0 lane lane (omega arith) in
    next ∙ ap (λ (xs : List Step). xs ++ one) is ∙ append_assoc front (loads lane session) one
    ∙ ap (λ (xs : List Step). front ++ xs) (sym more)
