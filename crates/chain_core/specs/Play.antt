-- The subject: lists of steps and their answers, up to the first step that isn't allowed. All of it is
-- profile.
use Rattle.std.specs.Prelude.{◌≡◌, ℕ, ◌+◌, Bool, true, nat_lt, if◌then◌else◌, List, [], ◌∷◌, length, Option, Some, None, MatchOption, option_and_then, Result, Ok}
use Rattle.std.specs.Option.{ok_or, option_map_or}
use Rattle.std.specs.declared.alloc.Global.{Global}
use Rattle.std.specs.declared.vec.Vec.{Vec}
use Rattle.pq_words.specs.FirstFault.{◌>>=◌, GivesUnless}
use Rattle.chain_core.specs.declared.answer.Answer.{Answer}
use Rattle.chain_core.specs.declared.answer.PlayFault.{PlayFault}
use Rattle.chain_core.specs.declared.answer.PlayFault.TheVariants as fault
use Rattle.chain_core.specs.declared.core_event.CoreEvent.{CoreEvent}
use Rattle.chain_core.specs.declared.core_event.CoreEvent.TheVariants as event
use Rattle.chain_core.specs.declared.step.Step.{Step}
use Rattle.chain_core.specs.declared.step.Step.TheVariants as step
use Rattle.chain_core.specs.Core.{Measured, Core, start_core, happens}
use Rattle.chain_core.specs.Phases.{has_room}

-- the event with which a step begins
abbrev pub event_of : Step → CoreEvent
event_of (step.Take lane) = event.LaneStopLoad lane
event_of (step.Post lane most) = event.Post lane most
event_of (step.Raise lane) = event.Raise lane
event_of (step.LoadStop session) = event.SessionStopLoad session
event_of (step.Load session lane) = event.Load session lane
event_of (step.Grab session) = event.SessionTry session
event_of (step.Read session) = event.Read session
event_of (step.Split session) = event.Split session
event_of (step.Halt session) = event.Halt session

-- the lane that a step takes, if it is a take
abbrev pub taken_lane : Step → Option ℕ
taken_lane (step.Take lane) = Some lane
taken_lane _ = None

-- a take: a load of the stop word and, unless that is halted, a try directly after it
abbrev pub takes_turn : Measured → Core → ℕ → Option (Answer × Core)
takes_turn m c lane =
    option_and_then (λ first. if c.phases.is_halted then Some first else happens m first.1
    (event.LaneTry lane))
    (happens m c (event.LaneStopLoad lane))

-- one step: its answer and the core after it; None where it isn't allowed
abbrev pub does : Measured → Core → Step → Option (Answer × Core)
does m c s = option_map_or (takes_turn m c) (taken_lane s) (happens m c (event_of s))

-- the same in a list, where there has to be room for the sessions that it makes
unfoldable pub takes : Measured → Core → Step → Option (Answer × Core)
takes m c s = if has_room c.phases (event_of s) then does m c s else None

-- the answers of steps, the first of which has this index, or the first that isn't allowed
unfoldable pub answers_from : Measured → ℕ → Core → List Step → Result (List Answer) PlayFault
answers_from m index c [] = Ok []
answers_from m index c (s ∷ steps) = do
  first ← ok_or (takes m c s) (fault.NotAllowed index)
  others ← answers_from m (index + 1) first.1 steps
  Ok (first.0 ∷ others)

-- the answers of a list of steps from the start
abbrev pub answers_of : Measured → List Step → Result (List Answer) PlayFault
answers_of m steps = answers_from m 0 (start_core (length m.keys)) steps

-- a call that returned this answer, if any, and left this core, did what this gives
abbrev pub Did : Option (Answer × Core) → Option Answer → Core → Type 0
Did given answer new = MatchOption answer (given ≡ None) (λ a. given ≡ Some (a, new))

-- what a call gives is what a list of steps gives, memory apart
abbrev pub Gives : Result (Vec Answer Global) PlayFault → Result (List Answer) PlayFault → Type 0
Gives result answers = GivesUnless fault.OutOfMemory (λ v. v.items) result answers
