-- A core goes as far along steps as its phases do.
use Rattle.std.proofs.Common.{◌≡◌, ℕ, suc, ◌+◌, ◌==◌, Bool, true, false, cond, not, List, [], ◌∷◌, length, Option, Some, None, option_and_then, option_map, Result, Ok, Err, refl, sym, ap, ◌∙◌, subst}
use Rattle.std.specs.Bool.{then_some}
use Rattle.std.specs.Option.{ok_or, option_map_or}
use Rattle.std.specs.Str.Lines.{lines}
use Rattle.std.proofs.lemmas.List.{length-map}
use Rattle.chain_core.specs.declared.answer.Answer.{Answer}
use Rattle.chain_core.specs.declared.answer.Answer.TheVariants as answer
use Rattle.chain_core.specs.declared.core_event.CoreEvent.{CoreEvent}
use Rattle.chain_core.specs.declared.core_event.CoreEvent.TheVariants as event
use Rattle.chain_core.specs.declared.step.Step.{Step}
use Rattle.chain_core.specs.declared.step.Step.TheVariants as step
use Rattle.chain_core.specs.Core.{Measured, Core, answer_of, core_after, happens, least, least_lane, mark_after, released, start_core, stop_answer, view_of}
use Rattle.chain_core.specs.MeasuredOf.{keys_at, measured_of}
use Rattle.chain_core.specs.Phases.{Phases, has_room, is_allowed, phases_after, start_phases}
use Rattle.chain_core.specs.Play.{does, event_of, taken_lane, takes, takes_turn}
use Rattle.chain_core.proofs.StepLaws.{happened}
use Rattle.lanes.specs.Lane.{lane_count}
use Rattle.pq_items.specs.declared.item.Item.{Item}
use Rattle.pq_sequence.specs.MeasuredRecording.{clock_of}
use Rattle.pq_time.specs.declared.clock.Clock.{Clock}
use Rattle.pq_words.specs.FirstFault.{◌>>=◌}
use Rattle.pq_words.specs.Steps.{numbers_below}
use Rattle.pq_words.specs.Text.{Text}
use Rattle.pq_words.proofs.StepLaws.{length_numbers}
use Rattle.pq_replay.specs.AnswerLines.{CoresFollowPhases, SchedulesAreAnswered, answer_lines, answers_along, answers_before, is_refusal}
use Rattle.pq_replay.specs.LineGrammar.{line_of}
use Rattle.pq_replay.specs.Schedule.{event_passed, is_refused, line_read, lines_from, phases_after_steps, schedule_of, step_passed, steps_of, take_passed}
use Rattle.pq_replay.specs.declared.fault.ScheduleFault.{ScheduleFault}
use Rattle.pq_replay.specs.declared.fault.ScheduleFault.TheVariants as fault
use Rattle.pq_replay.specs.declared.line.Line.{Line}
use Rattle.pq_replay.proofs.LineLaws.{after_line, lines_cons as answers_cons, lines_none}
use Rattle.pq_replay.proofs.PassingLaws.{after_first, steps_cons}
use Rattle.pq_replay.proofs.PlayingLaws.{after_refusal, after_step, along_cons, along_none}
use Rattle.pq_replay.proofs.ReadingLaws.{after_passed, after_read, lines_cons}

-- ---- one step

-- what the phases know of an event that happened
abbrev pub shown : Answer × Core → Bool × Phases
shown f = (is_refusal f.0, f.1.phases)

stop_refused : (halted : Bool) → is_refusal (stop_answer halted) ≡ halted
stop_refused true = refl
stop_refused false = refl

try_refused : (free : Bool) (turn : ℕ) →
    is_refusal (cond free answer.Held (answer.Busy turn)) ≡ not free
try_refused true turn = refl
try_refused false turn = refl

read_refused : (found : Option Item) (ended : Bool) (lane word : ℕ) →
    is_refusal (option_map_or answer.Item found (cond ended answer.End (answer.Withheld lane word))) ≡ false
read_refused (Some x) ended lane word = refl
read_refused None true lane word = refl
read_refused None false lane word = refl

-- the answer of an event is Halted or Busy where the phases say so
answer_refused : (m : Measured) (c : Core) (e : CoreEvent) → is_refusal (answer_of m c e)
    ≡ is_refused c.phases e
answer_refused m c (event.LaneStopLoad lane) = stop_refused c.phases.is_halted
answer_refused m c (event.LaneTry lane) = try_refused (c.phases.turn == 0) c.phases.turn
answer_refused m c (event.Post lane most) = refl
answer_refused m c (event.Raise lane) = refl
answer_refused m c (event.SessionStopLoad session) = stop_refused c.phases.is_halted
answer_refused m c (event.SessionTry session) = try_refused (c.phases.turn == 0) c.phases.turn
answer_refused m c (event.Load session lane) = refl
answer_refused m c (event.Read session) =
    let v = view_of c.numbers session in
    read_refused (released m (mark_after c.numbers.mark v.words) v.cursor) (least v.words == m.samples)
    (least_lane v.words) (least v.words)
answer_refused m c (event.Split session) = refl
answer_refused m c (event.Halt session) = refl

event_follows : (m : Measured) (c : Core) (e : CoreEvent) →
    option_map shown (happens m c e) ≡ event_passed c.phases e
unfolding happens event_passed
event_follows m c e = at (is_allowed c.phases e)
  where
    at : (allowed : Bool) →
        option_map shown (then_some {T = Answer × Core} allowed (answer_of m c e, core_after m c e))
        ≡ then_some {T = Bool × Phases} allowed (is_refused c.phases e, phases_after c.phases e)
    at true = ap (λ b. Some (b, phases_after c.phases e)) (answer_refused m c e)
    at false = refl

-- what the phases say of a take
abbrev pub then_passes : ℕ → Option (Bool × Phases) → Option (Bool × Phases)
then_passes lane given =
    option_and_then (λ first. cond first.0 (Some first) (event_passed first.1 (event.LaneTry lane))) given

take_follows : (m : Measured) (c : Core) (lane : ℕ) →
    option_map shown (takes_turn m c lane) ≡ take_passed c.phases lane
unfolding take_passed
take_follows m c lane =
    at (happens m c (event.LaneStopLoad lane)) refl
    ∙ ap (then_passes lane) (event_follows m c (event.LaneStopLoad lane))
  where
    tried : (f : Answer × Core) (halted : Bool) → is_refusal f.0 ≡ halted →
        option_map shown (cond halted (Some f) (happens m f.1 (event.LaneTry lane)))
        ≡ cond (is_refusal f.0) (Some (shown f)) (event_passed f.1.phases (event.LaneTry lane))
    tried f true is =
        ap (λ b. cond b (Some (shown f)) (event_passed f.1.phases (event.LaneTry lane))) (sym is)
    tried f false is =
        event_follows m f.1 (event.LaneTry lane)
        ∙ ap (λ b. cond b (Some (shown f)) (event_passed f.1.phases (event.LaneTry lane))) (sym is)

    at : (first : Option (Answer × Core)) → happens m c (event.LaneStopLoad lane) ≡ first →
        option_map shown (option_and_then (λ f. cond c.phases.is_halted (Some f)
        (happens m f.1 (event.LaneTry lane))) first) ≡ then_passes lane (option_map shown first)
    at None was = refl
    at (Some f) was =
        tried f c.phases.is_halted (ap is_refusal (happened m c (event.LaneStopLoad lane) f.0 f.1 was).answer
        ∙ stop_refused c.phases.is_halted)

-- what the phases say of a step that has room
abbrev pub passes : Phases → Step → Option (Bool × Phases)
passes p s = option_map_or (take_passed p) (taken_lane s) (event_passed p (event_of s))

does_follow : (m : Measured) (c : Core) (s : Step) → option_map shown (does m c s) ≡ passes c.phases s
does_follow m c (step.Take lane) = take_follows m c lane
does_follow m c (step.Post lane most) = event_follows m c (event.Post lane most)
does_follow m c (step.Raise lane) = event_follows m c (event.Raise lane)
does_follow m c (step.LoadStop session) = event_follows m c (event.SessionStopLoad session)
does_follow m c (step.Load session lane) = event_follows m c (event.Load session lane)
does_follow m c (step.Grab session) = event_follows m c (event.SessionTry session)
does_follow m c (step.Read session) = event_follows m c (event.Read session)
does_follow m c (step.Split session) = event_follows m c (event.Split session)
does_follow m c (step.Halt session) = event_follows m c (event.Halt session)

step_follows : (m : Measured) (c : Core) (s : Step) → option_map shown (takes m c s) ≡ step_passed c.phases s
unfolding takes step_passed
step_follows m c s = at (has_room c.phases (event_of s))
  where
    at : (room : Bool) → option_map shown (cond room (does m c s) None) ≡ cond room (passes c.phases s) None
    at true = does_follow m c s
    at false = refl

-- ---- the steps of a line

abbrev pub phases_left : Option (List Answer × Core) → Option Phases
phases_left played = option_map (λ p. p.1.phases) played

before_left : (front : List Answer) (played : Option (List Answer × Core)) →
    phases_left (answers_before front played) ≡ phases_left played
before_left front None = refl
before_left front (Some p) = refl

follow : (m : Measured) (steps : List Step) (c : Core) →
    phases_left (answers_along m c steps) ≡ phases_after_steps c.phases steps
unfolding phases_after_steps
follow m [] c = ap phases_left (along_none m c)
follow m (s ∷ rest) c =
    ap phases_left (along_cons m c s rest) ∙ at (λ d. follow m rest d) (takes m c s)
    ∙ ap (after_first rest) (step_follows m c s) ∙ sym (steps_cons c.phases s rest)
  where
    further : ((d : Core) → phases_left (answers_along m d rest) ≡ phases_after_steps d.phases rest) →
        (f : Answer × Core) (refused : Bool) → phases_left (after_refusal m rest f refused)
        ≡ after_first rest (Some (refused, f.1.phases))
    further ih f true = refl
    further ih f false = before_left (f.0 ∷ []) (answers_along m f.1 rest) ∙ ih f.1

    at : ((d : Core) → phases_left (answers_along m d rest) ≡ phases_after_steps d.phases rest) →
        (given : Option (Answer × Core)) → phases_left (after_step m rest given)
        ≡ after_first rest (option_map shown given)
    at ih None = refl
    at ih (Some f) = further ih f (is_refusal f.0)

pub cores_follow_phases : CoresFollowPhases
cores_follow_phases m c steps = follow m steps c

-- ---- a schedule

abbrev lines_ok : List Line → Result (List Line) ScheduleFault
lines_ok xs = Ok xs

ok_is : (xs ys : List Line) → lines_ok xs ≡ lines_ok ys → xs ≡ ys
ok_is xs ys is = cc

-- steps that the phases allow are answered
pub record IsAnswered (given : Option (List Answer × Core)) (next : Phases) : Type 0 where
  pub played : List Answer × Core
  pub is : given ≡ Some played
  pub phases : played.1.phases ≡ next

answered : (given : Option (List Answer × Core)) (next : Phases) → phases_left given ≡ Some next →
    IsAnswered given next
answered None next is = absurd (let bad : ⊥ = cc in bad)
answered (Some p) next is = record { played = p; is = refl; phases = (let e : p.1.phases ≡ next = cc in e) }

all_answered : (clock : Clock) (m : Measured) (texts : List Text) (n : ℕ) (c : Core) (ls : List Line) →
    lines_from (length m.keys) c.phases n texts ≡ Ok ls → length (answer_lines clock m c ls) ≡ length ls
unfolding lines_from
all_answered clock m [] n c ls is =
    let none : [] ≡ ls = ok_is [] ls is in
    subst (λ (xs : List Line). length (answer_lines clock m c xs) ≡ length xs) none
    (ap (λ (xs : List Text). length xs) (lines_none clock m c))
all_answered clock m (text ∷ texts) n c ls is =
    read (λ d os. all_answered clock m texts (n + 1) d os) (line_read n (line_of text))
    (sym (lines_cons (length m.keys) c.phases n text texts) ∙ is)
  where
    more : ((d : Core) (os : List Line) → lines_from (length m.keys) d.phases (n + 1) texts ≡ Ok os →
        length (answer_lines clock m d os) ≡ length os) → (l : Line) (next : Phases)
        (rest : Result (List Line) ScheduleFault) →
        phases_after_steps c.phases (steps_of (length m.keys) l) ≡ Some next →
        lines_from (length m.keys) next (n + 1) texts ≡ rest → (rest >>= λ others. Ok (l ∷ others)) ≡ Ok ls →
        length (answer_lines clock m c ls) ≡ length ls
    more ih l next (Err e) allowed was is = absurd (let bad : ⊥ = cc in bad)
    more ih l next (Ok others) allowed was is =
        let a = answered (answers_along m c (steps_of (length m.keys) l)) next
        (follow m (steps_of (length m.keys) l) c ∙ allowed) in
        let rest : lines_from (length m.keys) a.played.1.phases (n + 1) texts ≡ Ok others =
        ap (λ p. lines_from (length m.keys) p (n + 1) texts) a.phases ∙ was in
        subst (λ (xs : List Line). length (answer_lines clock m c xs) ≡ length xs) (ok_is (l ∷ others) ls is)
        (ap (λ (xs : List Text). length xs) (answers_cons clock m c l others
        ∙ ap (after_line clock m l others) a.is)
        ∙ ap suc (ih a.played.1 others rest))

    passed : ((d : Core) (os : List Line) → lines_from (length m.keys) d.phases (n + 1) texts ≡ Ok os →
        length (answer_lines clock m d os) ≡ length os) → (l : Line) (given : Option Phases) →
        phases_after_steps c.phases (steps_of (length m.keys) l) ≡ given →
        after_passed (length m.keys) n texts l (ok_or given (fault.Line n)) ≡ Ok ls →
        length (answer_lines clock m c ls) ≡ length ls
    passed ih l None was is = absurd (let bad : ⊥ = cc in bad)
    passed ih l (Some next) was is =
        more ih l next (lines_from (length m.keys) next (n + 1) texts) was refl is

    read : ((d : Core) (os : List Line) → lines_from (length m.keys) d.phases (n + 1) texts ≡ Ok os →
        length (answer_lines clock m d os) ≡ length os) → (given : Result Line ScheduleFault) →
        after_read (length m.keys) c.phases n texts given ≡ Ok ls →
        length (answer_lines clock m c ls) ≡ length ls
    read ih (Err e) is = absurd (let bad : ⊥ = cc in bad)
    read ih (Ok l) is = passed ih l (phases_after_steps c.phases (steps_of (length m.keys) l)) refl is

pub schedules_are_answered : SchedulesAreAnswered
unfolding schedule_of
schedules_are_answered r limits text ls is =
    let m = measured_of r limits in
    let count : lane_count r ≡ length m.keys =
    sym (length-map (numbers_below (lane_count r)) (keys_at r) ∙ length_numbers 0 (lane_count r)) in
    all_answered (clock_of r) m (lines text) 1 (start_core (length m.keys)) ls
    (ap (λ k. lines_from k (start_phases k) 1 (lines text)) (sym count) ∙ is)
