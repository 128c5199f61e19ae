-- The subject: what the reads of a list of steps answer, by the steps before them and their answers alone.
-- All of it is profile.
use Rattle.std.specs.Prelude.{◌≡◌, ℕ, ◌+◌, ◌<◌, ⊤, Bool, false, ◌==◌, if◌then◌else◌, List, [], ◌∷◌, length, Contains, slice_get, Option, Some, None, Ok}
use Rattle.chain_core.specs.declared.answer.Answer.{Answer}
use Rattle.chain_core.specs.declared.answer.Answer.TheVariants as answer
use Rattle.chain_core.specs.declared.step.Step.{Step}
use Rattle.chain_core.specs.declared.step.Step.TheVariants as step
use Rattle.chain_core.specs.Core.{Measured}
use Rattle.chain_core.specs.MeasuredOf.{measured_of}
use Rattle.chain_core.specs.Play.{answers_of}
use Rattle.chain_core.specs.SoundCore.{IsMeasured}
use Rattle.event_detect.specs.declared.limits.Limits.{Limits}
use Rattle.pq_base.specs.Recorded.{Recorded, IsRecording}
use Rattle.pq_sequence.specs.SequentialResult.{end_at}

-- what was played: steps with their answers, the latest first
abbrev pub Played : Type 0
Played = List (Step × Answer)

-- the step is a load of the stop word by the session
abbrev pub is_look_of : ℕ → Step → Bool
is_look_of session (step.LoadStop looker) = looker == session
is_look_of session _ = false

-- the answer of the session's last load of the stop word
abbrev pub look_answer : ℕ → Played → Option Answer
look_answer session [] = None
look_answer session (p ∷ earlier) =
    if is_look_of session p.0 then Some p.1 else look_answer session earlier

-- what was played after it
abbrev pub since_look : ℕ → Played → Played
since_look session [] = []
since_look session (p ∷ earlier) = if is_look_of session p.0 then [] else p ∷ since_look session earlier

-- the cursor of a session after a step with this answer, from the cursors before it: it goes on by an item
-- that the session is given, and a session that is split off begins at that of its parent
abbrev pub cursor_after : (ℕ → ℕ) → Step → Answer → ℕ → ℕ
cursor_after before (step.Read reader) (answer.Item x) session =
    if reader == session then before session + 1 else before session
cursor_after before (step.Split parent) (answer.Split child) session =
    if child == session then before parent else before session
cursor_after before _ _ session = before session

-- the cursor of a session after what was played
abbrev pub cursor_of : Played → ℕ → ℕ
cursor_of [] session = 0
cursor_of (p ∷ earlier) session = cursor_after (cursor_of earlier) p.0 p.1 session

-- a session may be told, after what was played, that its item is withheld by this word of this lane
pub record IsOwnWord (m : Measured) (played : Played) (session lane word : ℕ) : Type 0 where
  -- its last load of the stop word found the core running
  pub looked : look_answer session played ≡ Some answer.Running
  -- after that its own load of the lane gave the word
  pub loaded : Contains (since_look session played) (step.Load session lane, answer.Loaded word)
  -- the word lies before the end of the item at its cursor
  pub below : word < end_at m.items m.samples (cursor_of played session)

-- the answer of a session's read is right after what was played: an item is that at its cursor, a withheld
-- answer has a word of its own, and at the end it was given every item
abbrev pub IsRightRead : Measured → Played → ℕ → Answer → Type 0
IsRightRead m played session (answer.Item x) = slice_get m.items (cursor_of played session) ≡ Some x
IsRightRead m played session (answer.Withheld lane word) = IsOwnWord m played session lane word
IsRightRead m played session answer.End = cursor_of played session ≡ length m.items
IsRightRead m played session _ = ⊥

-- the answer of a step is right, where it is a read
abbrev pub IsRightStep : Measured → Played → Step → Answer → Type 0
IsRightStep m played (step.Read session) a = IsRightRead m played session a
IsRightStep m played _ a = ⊤

-- each read among steps with these answers is right after what was played before it
abbrev pub AreRightSteps : Measured → Played → List Step → List Answer → Type 0
AreRightSteps m played (s ∷ steps) (a ∷ answers) =
    IsRightStep m played s a × AreRightSteps m ((s, a) ∷ played) steps answers
AreRightSteps m played _ _ = ⊤

-- in every list of steps each read is right: a withheld answer has a word that the session's own load gave
-- after its last load of the stop word, and that lies before the end of the item at its cursor
abbrev pub WithheldByOwnLoads : Type 0
WithheldByOwnLoads = (m : Measured) (steps : List Step) (answers : List Answer) → IsMeasured m →
    answers_of m steps ≡ Ok answers → AreRightSteps m [] steps answers

-- and so it is of every recording
abbrev pub RecordedWithheldByOwnLoads : Type 0
RecordedWithheldByOwnLoads = (r : Recorded) (limits : Limits) (steps : List Step) (answers : List Answer) →
    IsRecording r → answers_of (measured_of r limits) steps ≡ Ok answers →
    AreRightSteps (measured_of r limits) [] steps answers
