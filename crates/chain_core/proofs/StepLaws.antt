-- What one event and one step change.
use Rattle.std.proofs.Common.{◌≡◌, ℕ, Bool, true, false, cond, Option, Some, None, option_and_then, unwrap_or, refl, sym, ap, ◌∙◌}
use Rattle.std.specs.Bool.{then_some}
use Rattle.std.specs.Option.{option_map_or}
use Rattle.chain_core.specs.declared.answer.Answer.{Answer}
use Rattle.chain_core.specs.declared.core_event.CoreEvent.{CoreEvent}
use Rattle.chain_core.specs.declared.core_event.CoreEvent.TheVariants as event
use Rattle.chain_core.specs.declared.step.Step.{Step}
use Rattle.chain_core.specs.declared.step.Step.TheVariants as step
use Rattle.chain_core.specs.Core.{Measured, Core, happens, answer_of, core_after, numbers_after}
use Rattle.chain_core.specs.Phases.{has_room, is_allowed}
use Rattle.chain_core.specs.Play.{does, event_of, taken_lane, takes, takes_turn}

-- what an event that is allowed gives
pub record Happened (m : Measured) (c : Core) (e : CoreEvent) (a : Answer) (new : Core) : Type 0 where
  pub allowed : is_allowed c.phases e ≡ true
  pub answer : a ≡ answer_of m c e
  pub core : new ≡ core_after m c e

some_is : {X : Type 0} (x y : X) → Some x ≡ Some y → x ≡ y
some_is x y is = ap (λ o. unwrap_or o x) is

happened_at : (m : Measured) (c : Core) (e : CoreEvent) (a : Answer) (new : Core) (b : Bool) →
    is_allowed c.phases e ≡ b →
    then_some {T = Answer × Core} b (answer_of m c e, core_after m c e) ≡ Some (a, new) → Happened m c e a new
happened_at m c e a new true allowed is =
    let pair = some_is {X = Answer × Core} (answer_of m c e, core_after m c e) (a, new) is in
    record { allowed = allowed; answer = sym (ap (λ p. p.0) pair); core = sym (ap (λ p. p.1) pair) }
happened_at m c e a new false allowed is = absurd (let bad : ⊥ = cc in bad)

-- an event that happens is allowed, and gives its answer and its core
pub happened : (m : Measured) (c : Core) (e : CoreEvent) (a : Answer) (new : Core) →
    happens m c e ≡ Some (a, new) → Happened m c e a new
unfolding happens
happened m c e a new is = happened_at m c e a new (is_allowed c.phases e) refl is

-- a step that is taken does what it does
pub done : (m : Measured) (c : Core) (s : Step) (a : Answer) (new : Core) → takes m c s ≡ Some (a, new) →
    does m c s ≡ Some (a, new)
unfolding takes
done m c s a new is = at (has_room c.phases (event_of s)) is
  where
    at : (b : Bool) → cond b (does m c s) None ≡ Some (a, new) → does m c s ≡ Some (a, new)
    at true is = is
    at false is = absurd (let bad : ⊥ = cc in bad)

then_try : (m : Measured) (c : Core) (lane : ℕ) (a : Answer) (new : Core) (halted : Bool)
    (first : Answer × Core) →
    first.1.numbers ≡ c.numbers →
    cond halted (Some first) (happens m first.1 (event.LaneTry lane)) ≡ Some (a, new) →
    new.numbers ≡ c.numbers
then_try m c lane a new true first same is =
    sym (ap (λ p. p.1.numbers) (some_is {X = Answer × Core} first (a, new) is)) ∙ same
then_try m c lane a new false first same is =
    ap (λ n. n.numbers) (happened m first.1 (event.LaneTry lane) a new is).core ∙ same

-- a take changes no number
take_changes_none : (m : Measured) (c : Core) (lane : ℕ) (a : Answer) (new : Core) →
    takes_turn m c lane ≡ Some (a, new) →
    new.numbers ≡ c.numbers
take_changes_none m c lane a new is = at (happens m c (event.LaneStopLoad lane)) refl is
  where
    at : (first : Option (Answer × Core)) → happens m c (event.LaneStopLoad lane) ≡ first →
        option_and_then (λ f. cond c.phases.is_halted (Some f) (happens m f.1 (event.LaneTry lane))) first
        ≡ Some (a, new) → new.numbers ≡ c.numbers
    at None was is = absurd (let bad : ⊥ = cc in bad)
    at (Some f) was is = then_try m c lane a new c.phases.is_halted f
        (ap (λ n. n.numbers) (happened m c (event.LaneStopLoad lane) f.0 f.1 was).core) is

-- the numbers after a step are those after its event
pub numbers_of_step : (m : Measured) (c : Core) (s : Step) (a : Answer) (new : Core) →
    does m c s ≡ Some (a, new) →
    new.numbers ≡ numbers_after m c.numbers (event_of s)
numbers_of_step m c (step.Take lane) a new is = take_changes_none m c lane a new is
numbers_of_step m c (step.Post lane most) a new is =
    ap (λ n. n.numbers) (happened m c (event.Post lane most) a new is).core
numbers_of_step m c (step.Raise lane) a new is =
    ap (λ n. n.numbers) (happened m c (event.Raise lane) a new is).core
numbers_of_step m c (step.LoadStop session) a new is =
    ap (λ n. n.numbers) (happened m c (event.SessionStopLoad session) a new is).core
numbers_of_step m c (step.Load session lane) a new is =
    ap (λ n. n.numbers) (happened m c (event.Load session lane) a new is).core
numbers_of_step m c (step.Grab session) a new is =
    ap (λ n. n.numbers) (happened m c (event.SessionTry session) a new is).core
numbers_of_step m c (step.Read session) a new is =
    ap (λ n. n.numbers) (happened m c (event.Read session) a new is).core
numbers_of_step m c (step.Split session) a new is =
    ap (λ n. n.numbers) (happened m c (event.Split session) a new is).core
numbers_of_step m c (step.Halt session) a new is =
    ap (λ n. n.numbers) (happened m c (event.Halt session) a new is).core
