-- What was played, by hand, so that a wrong rule in the definitions does not check.
use Rattle.std.proofs.Common.{◌≡◌, false, [], ◌∷◌, Some, None, refl}
use Rattle.chain_core.specs.declared.answer.Answer.TheVariants as answer
use Rattle.chain_core.specs.declared.step.Step.TheVariants as step
use Rattle.core_laws.specs.OwnLoad.{Played, cursor_of, look_answer, since_look}
use Rattle.pq_items.specs.declared.item.Item.{Item}
use Rattle.pq_items.specs.declared.item.Item.TheVariants as item

abbrev first : Item
first = item.Basic 1 24 264 10 229805362 false

-- session 0 is given an item, session 1 is split off and given one, and both look again; the latest first
abbrev two_sessions : Played
two_sessions =
    (step.Load 1 2, answer.Loaded 264) ∷ (step.LoadStop 0, answer.Running)
    ∷ (step.Load 1 0, answer.Loaded 552) ∷ (step.LoadStop 1, answer.Running)
    ∷ (step.Load 1 0, answer.Loaded 504) ∷ (step.Read 1, answer.Item first)
    ∷ (step.Read 0, answer.Withheld 1 252) ∷ (step.Split 0, answer.Split 1)
    ∷ (step.Read 0, answer.Item first) ∷ []

-- a session's last load of the stop word, and what came after it: loads of others and of itself
pub last_look : look_answer 1 two_sessions ≡ Some answer.Running
last_look = refl

pub no_look : look_answer 2 two_sessions ≡ None
no_look = refl

pub since_its_look : since_look 1 two_sessions
    ≡ (step.Load 1 2, answer.Loaded 264) ∷ (step.LoadStop 0, answer.Running)
    ∷ (step.Load 1 0, answer.Loaded 552) ∷ []
since_its_look = refl

-- what was given before the split counts for both, what was given after it for one; no item, no count
pub cursor_of_parent : cursor_of two_sessions 0 ≡ 1
cursor_of_parent = refl

pub cursor_of_child : cursor_of two_sessions 1 ≡ 2
cursor_of_child = refl
