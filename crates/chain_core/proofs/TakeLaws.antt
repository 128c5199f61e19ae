-- A take, event by event.
use Rattle.std.proofs.Common.{◌≡◌, ℕ, Bool, true, false, cond, Option, Some, None, option_and_then, ap, ◌∙◌}
use Rattle.chain_core.specs.declared.answer.Answer.{Answer}
use Rattle.chain_core.specs.declared.core_event.CoreEvent.TheVariants as event
use Rattle.chain_core.specs.Core.{Measured, Core, happens}
use Rattle.chain_core.specs.Play.{takes_turn}

-- what follows the load of the stop word
abbrev pub then_tries : Measured → ℕ → Bool → Option (Answer × Core) → Option (Answer × Core)
then_tries m lane halted first =
    option_and_then (λ f. cond halted (Some f) (happens m f.1 (event.LaneTry lane))) first

-- the load isn't allowed
pub take_refused : (m : Measured) (c : Core) (lane : ℕ) → happens m c (event.LaneStopLoad lane) ≡ None →
    takes_turn m c lane ≡ None
take_refused m c lane is = ap (then_tries m lane c.phases.is_halted) is

-- it finds a halt
pub take_halted : (m : Measured) (c : Core) (lane : ℕ) (a : Answer) (new : Core) →
    happens m c (event.LaneStopLoad lane) ≡ Some (a, new) → c.phases.is_halted ≡ true →
    takes_turn m c lane ≡ Some (a, new)
take_halted m c lane a new is halted =
    ap (then_tries m lane c.phases.is_halted) is
    ∙ ap (λ b. then_tries m lane b (Some (a, new))) halted

-- it finds none, and the turn is tried
pub take_tries : (m : Measured) (c : Core) (lane : ℕ) (a : Answer) (new : Core) →
    happens m c (event.LaneStopLoad lane) ≡ Some (a, new) → c.phases.is_halted ≡ false →
    takes_turn m c lane ≡ happens m new (event.LaneTry lane)
take_tries m c lane a new is halted =
    ap (then_tries m lane c.phases.is_halted) is
    ∙ ap (λ b. then_tries m lane b (Some (a, new))) halted

-- all of them
pub ruleset take_laws = (take_refused, take_halted, take_tries)
