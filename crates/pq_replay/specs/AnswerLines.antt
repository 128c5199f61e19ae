-- The subject: the answer lines of a schedule, as a replay writes them. All of it is profile.
use Rattle.std.specs.Prelude.{◌≡◌, ℕ, Bool, true, false, List, [], ◌∷◌, ◌++◌, length, Option, Some, None, option_and_then, option_map, Ok, codes, decimal}
use Rattle.std.specs.Bool.{MatchBool}
use Rattle.std.specs.List.{flat_map}
use Rattle.std.specs.Option.{option_map_or}
use Rattle.chain_core.specs.declared.answer.Answer.{Answer}
use Rattle.chain_core.specs.declared.answer.Answer.TheVariants as answer
use Rattle.chain_core.specs.declared.step.Step.{Step}
use Rattle.chain_core.specs.Core.{Measured, Core, start_core, least, least_lane}
use Rattle.chain_core.specs.MeasuredOf.{measured_of}
use Rattle.chain_core.specs.Play.{takes}
use Rattle.event_detect.specs.declared.limits.Limits.{Limits}
use Rattle.lanes.specs.Lane.{lane_count}
use Rattle.pq_base.specs.Recorded.{Recorded}
use Rattle.pq_items.specs.ItemRange.{IsItemInRange}
use Rattle.pq_items.specs.declared.item.Item.{Item}
use Rattle.pq_report.specs.ReportText.{row_fields}
use Rattle.pq_sequence.specs.MeasuredRecording.{clock_of}
use Rattle.pq_time.specs.declared.clock.Clock.{Clock}
use Rattle.pq_words.specs.Text.{Text, joined_by}
use Rattle.pq_replay.specs.LineGrammar.{command_word}
use Rattle.pq_replay.specs.Schedule.{phases_after_steps, schedule_of, steps_of}
use Rattle.pq_replay.specs.declared.command.Command.{Command}
use Rattle.pq_replay.specs.declared.command.Command.TheVariants as command
use Rattle.pq_replay.specs.declared.line.Line.{Line}
use Rattle.pq_replay.specs.declared.line.Line.TheVariants as line

-- ---- the answers of a line

-- an answer after which a line takes no step more: Halted or Busy
abbrev pub is_refusal : Answer → Bool
is_refusal answer.Halted = true
is_refusal (answer.Busy word) = true
is_refusal _ = false

-- answers, and those after them
abbrev pub answers_before : List Answer → Option (List Answer × Core) → Option (List Answer × Core)
answers_before front played = option_map (λ others. (front ++ others.0, others.1)) played

-- the answers of steps from a core on, as far as they go, and the core after them; None where one isn't
-- allowed
unfoldable pub answers_along : Measured → Core → List Step → Option (List Answer × Core)
answers_along m c [] = Some ([], c)
answers_along m c (s ∷ steps) =
    option_and_then (λ first. elim (is_refusal first.0) [
      | true ↦ Some (first.0 ∷ [], first.1)
      | false ↦ answers_before (first.0 ∷ []) (answers_along m first.1 steps)
    ]) (takes m c s)

-- ---- the text of a line

-- the command of a line, and its lane or session
abbrev pub command_of : Line → Command
command_of (line.Take lane) = command.Take
command_of (line.Post lane most) = command.Post
command_of (line.Raise lane) = command.Raise
command_of (line.Step lane most) = command.Step
command_of (line.Look session) = command.Look
command_of (line.Grab session) = command.Grab
command_of (line.Read session) = command.Read
command_of (line.Query session) = command.Query
command_of (line.Split session) = command.Split
command_of (line.Halt session) = command.Halt

abbrev pub number_of : Line → ℕ
number_of (line.Take lane) = lane
number_of (line.Post lane most) = lane
number_of (line.Raise lane) = lane
number_of (line.Step lane most) = lane
number_of (line.Look session) = session
number_of (line.Grab session) = session
number_of (line.Read session) = session
number_of (line.Query session) = session
number_of (line.Split session) = session
number_of (line.Halt session) = session

-- words before a number
abbrev pub numbered : Text → ℕ → Text
numbered words n = words ++ decimal n

-- a line that only takes the turn says that it is held; a step or a query goes on
abbrev pub held_words : Line → Text
held_words (line.Take lane) = codes " held"
held_words (line.Grab session) = codes " held"
held_words _ = []

-- a lane and a word
abbrev pub lane_words : Text → ℕ → ℕ → Text
lane_words words lane word = numbered words lane ++ numbered (codes " word=") word

-- the word that a raise wrote, and whether all items of its lane are posted
abbrev pub done_words : Bool → Text
done_words true = codes " done"
done_words false = codes " more"

abbrev pub raised_words : ℕ → Bool → Text
raised_words word done = numbered (codes " word=") word ++ done_words done

-- an item: its row in the report, without the line end
abbrev pub row_words : Clock → Item → Text
row_words clock i = joined_by 44 (row_fields clock i)

-- what a line says of an answer
abbrev pub answer_words : Clock → Line → Answer → Text
answer_words clock l answer.Held = held_words l
answer_words clock l (answer.Busy word) = numbered (codes " busy word=") word
answer_words clock l answer.Halted = codes " halted"
answer_words clock l (answer.Posted count) = numbered (codes " count=") count
answer_words clock l (answer.Raised word done) = raised_words word done
answer_words clock l answer.Running = []
answer_words clock l (answer.Loaded word) = []
answer_words clock l (answer.Item i) = codes " item " ++ row_words clock i
answer_words clock l (answer.Withheld lane word) = lane_words (codes " withheld lane=") lane word
answer_words clock l answer.End = codes " end"
answer_words clock l (answer.Split session) = numbered (codes " into ") session
answer_words clock l answer.Stopped = []

-- the word in an answer, if a load gave it
abbrev pub word_loaded : Answer → List ℕ
word_loaded (answer.Loaded word) = word ∷ []
word_loaded _ = []

-- what a look says of the words that it loaded, in the order of their lanes: the first lane that has the
-- least word, and this word; nothing where it was halted
abbrev pub least_words : List ℕ → Text
least_words [] = []
least_words (word ∷ words) =
    lane_words (codes " lane=") (least_lane (word ∷ words)) (least (word ∷ words))

abbrev pub look_words : Line → List Answer → Text
look_words (line.Look session) answers = least_words (flat_map word_loaded answers)
look_words _ answers = []

-- the command of a line, and its lane or session
abbrev pub line_start : Line → Text
line_start l = command_word (command_of l) ++ numbered (codes " ") (number_of l)

-- the answer line of a line with these answers
abbrev pub answer_line : Clock → Line → List Answer → Text
answer_line clock l answers =
    line_start l ++ flat_map (answer_words clock l) answers ++ look_words l answers ++ 10 ∷ []

-- ---- a schedule

-- the answer lines of lines from a core on, up to the first line that isn't allowed
unfoldable pub answer_lines : Clock → Measured → Core → List Line → List Text
answer_lines clock m c [] = []
answer_lines clock m c (l ∷ lines) =
    option_map_or (λ played. answer_line clock l played.0 ∷ answer_lines clock m played.1 lines)
    (answers_along m c (steps_of (length m.keys) l)) []

-- lines over a measurement, from the start
abbrev pub measured_lines : Clock → Measured → List Line → List Text
measured_lines clock m lines = answer_lines clock m (start_core (length m.keys)) lines

-- lines over a recording and limits
abbrev pub replayed_lines : Recorded → Limits → List Line → List Text
replayed_lines r limits lines = measured_lines (clock_of r) (measured_of r limits) lines

-- texts, one after another
abbrev pub joined : List Text → Text
joined texts = flat_map (λ text. text) texts

-- the text that a replay of lines writes
unfoldable pub replay_text : Recorded → Limits → List Line → Text
replay_text r limits lines = joined (replayed_lines r limits lines)

-- ---- laws

-- steps go as far by the core as by the phases alone, and lead to the same phases
abbrev pub CoresFollowPhases : Type 0
CoresFollowPhases = (m : Measured) (c : Core) (steps : List Step) →
    option_map (λ played. played.1.phases) (answers_along m c steps) ≡ phases_after_steps c.phases steps

-- a schedule that was read for the lanes of a recording is answered whole, a line for each of its lines
abbrev pub SchedulesAreAnswered : Type 0
SchedulesAreAnswered = (r : Recorded) (limits : Limits) (text : Text) (lines : List Line) →
    schedule_of (lane_count r) text ≡ Ok lines → length (replayed_lines r limits lines) ≡ length lines

-- ---- what calls give

-- a call that answered whether steps are allowed, and left these answers and this core, did what this gives
abbrev pub HasPlayed : Option (List Answer × Core) → Bool → List Answer → Core → Type 0
HasPlayed given allowed answers new = MatchBool allowed (given ≡ Some (answers, new)) (given ≡ None)

-- the same of steps that were played from a core on
abbrev pub Plays : Measured → List Step → Core → Bool → List Answer → Core → Type 0
Plays m steps old allowed answers new = HasPlayed (answers_along m old steps) allowed answers new

-- an item that is answered is in range
abbrev pub IsAnswerInRange : Answer → Type 0
IsAnswerInRange a = (i : Item) → a ≡ answer.Item i → IsItemInRange i
