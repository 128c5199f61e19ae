-- The subject: the law that a session is given the items of the result from its cursor on. All of it is
-- profile.
use Rattle.std.specs.Prelude.{◌≡◌, ℕ, Bool, true, false, ◌==◌, if◌then◌else◌, List, [], ◌∷◌, ◌++◌, length, drop, slice_get, Some, Ok}
use Rattle.chain_core.specs.declared.answer.Answer.{Answer}
use Rattle.chain_core.specs.declared.answer.Answer.TheVariants as answer
use Rattle.chain_core.specs.declared.step.Step.{Step}
use Rattle.chain_core.specs.declared.step.Step.TheVariants as step
use Rattle.chain_core.specs.Core.{Measured, Core, View}
use Rattle.chain_core.specs.Measurement.{EndInOrder}
use Rattle.chain_core.specs.Play.{answers_from, takes}
use Rattle.pq_items.specs.declared.item.Item.{Item}

-- a step is a read of the session
abbrev pub is_read_of : ℕ → Step → Bool
is_read_of session (step.Read reader) = reader == session
is_read_of session _ = false

-- the item in an answer, if it is one
abbrev pub item_in : Answer → List Item
item_in (answer.Item x) = x ∷ []
item_in _ = []

-- the item that a session is given by a step with this answer
abbrev pub given_by : ℕ → Step → Answer → List Item
given_by session s a = if is_read_of session s then item_in a else []

-- the items that it is given by steps with these answers, in order
abbrev pub given : ℕ → List Step → List Answer → List Item
given session [] answers = []
given session (s ∷ steps) [] = []
given session (s ∷ steps) (a ∷ answers) = given_by session s a ++ given session steps answers

-- items are given so, from a view on: they are those of the result from its cursor on, up to the cursor of
-- some
-- later view
abbrev pub IsGivenFrom : Measured → View → List Item → Type 0
IsGivenFrom m v items = (later : View) × (items ++ drop later.cursor m.items ≡ drop v.cursor m.items)

-- by every list of steps, from every core on, each session that is there is given the items of the result
-- from
-- its cursor on, in order, none changed or repeated
abbrev pub SessionsAreGivenTheResult : Type 0
SessionsAreGivenTheResult = (m : Measured) (c : Core) (index session : ℕ) (v : View) (steps : List Step)
    (answers : List Answer) → EndInOrder m.items → slice_get c.numbers.views session ≡ Some v →
    answers_from m index c steps ≡ Ok answers → IsGivenFrom m v (given session steps answers)
