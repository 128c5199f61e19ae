-- The subject: schedules: the core steps of their lines, and which lines are allowed. All of it is profile.
use Rattle.std.specs.Prelude.{◌≡◌, ℕ, ◌+◌, Bool, true, false, not, ◌==◌, if◌then◌else◌, List, [], ◌∷◌, ◌++◌, map, Option, Some, None, MatchOption, option_and_then, Result, Ok}
use Rattle.std.specs.Bool.{MatchBool, then_some}
use Rattle.std.specs.Option.{ok_or, option_map_or}
use Rattle.std.specs.Str.Lines.{lines}
use Rattle.std.specs.List.{range_with_len}
use Rattle.std.specs.declared.alloc.Global.{Global}
use Rattle.std.specs.declared.vec.Vec.{Vec}
use Rattle.pq_words.specs.FirstFault.{◌>>=◌, GivesUnless}
use Rattle.pq_words.specs.Text.{Text}
use Rattle.chain_core.specs.declared.core_event.CoreEvent.{CoreEvent}
use Rattle.chain_core.specs.declared.core_event.CoreEvent.TheVariants as event
use Rattle.chain_core.specs.declared.step.Step.{Step}
use Rattle.chain_core.specs.declared.step.Step.TheVariants as step
use Rattle.chain_core.specs.Phases.{Phases, start_phases, has_room, is_allowed, phases_after}
use Rattle.chain_core.specs.Play.{event_of, taken_lane}
use Rattle.pq_replay.specs.LineGrammar.{line_of}
use Rattle.pq_replay.specs.declared.fault.ScheduleFault.{ScheduleFault}
use Rattle.pq_replay.specs.declared.fault.ScheduleFault.TheVariants as fault
use Rattle.pq_replay.specs.declared.line.Line.{Line}
use Rattle.pq_replay.specs.declared.line.Line.TheVariants as line

-- ---- the core steps of a line

-- one load of each lane, in order
abbrev pub loads : ℕ → ℕ → List Step
loads lanes session = map (λ lane. step.Load session lane) (range_with_len 0 lanes)

-- take, post, raise
abbrev pub step_steps : ℕ → ℕ → List Step
step_steps lane most = step.Take lane ∷ step.Post lane most ∷ step.Raise lane ∷ []

-- a look: a load of the stop word and, unless that is halted, of each lane's word
abbrev pub look_steps : ℕ → ℕ → List Step
look_steps lanes session = step.LoadStop session ∷ loads lanes session

-- look, grab, read
abbrev pub query_steps : ℕ → ℕ → List Step
query_steps lanes session = look_steps lanes session ++ step.Grab session ∷ step.Read session ∷ []

-- the core steps of a line, which are taken as far as they go: none after one that is answered Halted or Busy
abbrev pub steps_of : ℕ → Line → List Step
steps_of lanes (line.Take lane) = step.Take lane ∷ []
steps_of lanes (line.Post lane most) = step.Post lane most ∷ []
steps_of lanes (line.Raise lane) = step.Raise lane ∷ []
steps_of lanes (line.Step lane most) = step_steps lane most
steps_of lanes (line.Look session) = look_steps lanes session
steps_of lanes (line.Grab session) = step.Grab session ∷ []
steps_of lanes (line.Read session) = step.Read session ∷ []
steps_of lanes (line.Query session) = query_steps lanes session
steps_of lanes (line.Split session) = step.Split session ∷ []
steps_of lanes (line.Halt session) = step.Halt session ∷ []

-- ---- which lines are allowed, by the phases alone

-- an event is answered Halted, a load of the stop word after a halt, or Busy, a try while the turn is held
abbrev pub is_refused : Phases → CoreEvent → Bool
is_refused p (event.LaneStopLoad lane) = p.is_halted
is_refused p (event.SessionStopLoad session) = p.is_halted
is_refused p (event.LaneTry lane) = not (p.turn == 0)
is_refused p (event.SessionTry session) = not (p.turn == 0)
is_refused p _ = false

-- an event: whether it is so answered, and the phases after it; None where it isn't allowed
unfoldable pub event_passed : Phases → CoreEvent → Option (Bool × Phases)
event_passed p e = then_some (is_allowed p e) (is_refused p e, phases_after p e)

-- a take: a load of the stop word and, unless that is halted, a try
unfoldable pub take_passed : Phases → ℕ → Option (Bool × Phases)
take_passed p lane =
    option_and_then (λ first. if first.0 then Some first else event_passed first.1 (event.LaneTry lane))
    (event_passed p (event.LaneStopLoad lane))

-- a step, where there is room for the sessions that it makes
unfoldable pub step_passed : Phases → Step → Option (Bool × Phases)
step_passed p s =
    if has_room p (event_of s)
    then option_map_or (take_passed p) (taken_lane s) (event_passed p (event_of s)) else None

-- the phases after steps, as far as they go; None where one isn't allowed
unfoldable pub phases_after_steps : Phases → List Step → Option Phases
phases_after_steps p [] = Some p
phases_after_steps p (s ∷ steps) =
    option_and_then (λ first. elim first.0 [ true ↦ Some first.1 | false ↦ phases_after_steps first.1 steps ])
    (step_passed p s)

-- ---- a schedule

-- the line that was read, or the fault of its number
abbrev pub line_read : ℕ → Option Line → Result Line ScheduleFault
line_read number read = ok_or read (fault.Line number)

-- the phases after a line over so many lanes, or the fault of its number
abbrev pub line_passed : ℕ → ℕ → Phases → Line → Result Phases ScheduleFault
line_passed lanes number p l = ok_or (phases_after_steps p (steps_of lanes l)) (fault.Line number)

-- the lines of a schedule from the line of this number on; the first that is outside the grammar or isn't
-- allowed is its fault
unfoldable pub lines_from : ℕ → Phases → ℕ → List Text → Result (List Line) ScheduleFault
lines_from lanes p number [] = Ok []
lines_from lanes p number (text ∷ texts) = do
  l ← line_read number (line_of text)
  next ← line_passed lanes number p l
  others ← lines_from lanes next (number + 1) texts
  Ok (l ∷ others)

-- the schedule that a text says for this many lanes, or its first line at fault; lines end with LF or CR LF,
-- the last end optional
unfoldable pub schedule_of : ℕ → Text → Result (List Line) ScheduleFault
schedule_of lanes text = lines_from lanes (start_phases lanes) 1 (lines text)

-- ---- what calls give

-- a call that answered whether a step is refused, if it is allowed, and left these phases, did what this
-- gives
abbrev pub Passed : Option (Bool × Phases) → Option Bool → Phases → Type 0
Passed given answer new = MatchOption answer (given ≡ None) (λ refused. given ≡ Some (refused, new))

-- a call that answered whether steps are allowed, and left these phases, did what this gives
abbrev pub HasPassed : Option Phases → Bool → Phases → Type 0
HasPassed given allowed new = MatchBool allowed (given ≡ Some new) (given ≡ None)

-- a call gives the lines that are read or the first fault, memory apart
abbrev pub GivesLines : Result (Vec Line Global) ScheduleFault → Result (List Line) ScheduleFault → Type 0
GivesLines result read = GivesUnless fault.OutOfMemory (λ v. v.items) result read
