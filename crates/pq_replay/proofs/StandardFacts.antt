-- Schedules by hand: what is read of them, and their first lines at fault.
use Rattle.std.proofs.Common.{◌≡◌, List, [], ◌∷◌, ◌++◌, map, codes, refl, Some, None, Ok}
use Rattle.std.specs.List.{flat_map}
use Rattle.std.specs.Result.{result_err}
use Rattle.pq_words.specs.Text.{Text}
use Rattle.pq_replay.specs.LineGrammar.{command_read, line_of_parts}
use Rattle.pq_replay.specs.Schedule.{event_passed, lines_from, phases_after_steps, schedule_of, step_passed, take_passed}
use Rattle.pq_replay.specs.declared.fault.ScheduleFault.TheVariants as fault
use Rattle.pq_replay.specs.declared.line.Line.TheVariants as line

abbrev ended : List Text → Text
ended texts = flat_map (λ text. text ++ 10 ∷ []) texts

-- the schedule of withheld_then_given; numbers may have leading zeros
pub withheld_then_given : schedule_of 3 (ended (codes "step 0 64" ∷ codes "step 2 64" ∷ codes "step 1 19"
    ∷ codes "query 0" ∷ codes "step 0001 01" ∷ codes "query 0" ∷ codes "query 0000" ∷ codes "step 1 64"
    ∷ codes "query 0" ∷ codes "query 0" ∷ []))
    ≡ Ok (line.Step 0 64 ∷ line.Step 2 64 ∷ line.Step 1 19 ∷ line.Query 0 ∷ line.Step 1 1 ∷ line.Query 0
    ∷ line.Query 0 ∷ line.Step 1 64 ∷ line.Query 0 ∷ line.Query 0 ∷ [])
unfolding schedule_of lines_from line_of_parts command_read phases_after_steps step_passed take_passed
    event_passed
withheld_then_given = refl

-- the schedule of split_and_busy: a query may be answered Busy, and a session that was made may ask
pub split_and_busy : schedule_of 3 (ended (codes "query 0" ∷ codes "split 0" ∷ codes "take 1"
    ∷ codes "query 1"
    ∷ codes "post 1 1" ∷ codes "query 1" ∷ codes "raise 1" ∷ codes "query 1" ∷ []))
    ≡ Ok (line.Query 0 ∷ line.Split 0 ∷ line.Take 1 ∷ line.Query 1 ∷ line.Post 1 1 ∷ line.Query 1
    ∷ line.Raise 1
    ∷ line.Query 1 ∷ [])
unfolding schedule_of lines_from line_of_parts command_read phases_after_steps step_passed take_passed
    event_passed
split_and_busy = refl

-- the schedule of look_grab_halt, with CR LF and no last line end: a read goes on after a look and a grab
pub look_grab_halt : schedule_of 3
    (codes "look 0\r\ngrab 0\r\ntake 1\r\nread 0\r\nhalt 0\r\nstep 0 1\r\nquery 0")
    ≡ Ok (line.Look 0 ∷ line.Grab 0 ∷ line.Take 1 ∷ line.Read 0 ∷ line.Halt 0 ∷ line.Step 0 1 ∷ line.Query 0
    ∷ [])
unfolding schedule_of lines_from line_of_parts command_read phases_after_steps step_passed take_passed
    event_passed
look_grab_halt = refl

-- an empty text is a schedule; after a halt a step is answered Halted, and its lane may step again; a post
-- by an
-- idle lane, an empty line, two spaces, a lane and a session that aren't there, numbers of five digits and of
-- none, 0 and 65 items, a step by a holding lane, a grab without a look, a lone CR, another word
pub faults : map (λ text. result_err (schedule_of 3 text)) ([] ∷ codes "halt 0\nstep 0 1\nstep 0 64\n"
    ∷ codes "step 0 64\npost 0 1\n" ∷ codes "take 0\n\npost 0 1\n" ∷ codes "take  0" ∷ codes "take 3"
    ∷ codes "split 1" ∷ codes "take 00000" ∷ codes "take " ∷ codes "step 0 0" ∷ codes "step 0 65"
    ∷ codes "take 0\nstep 0 1" ∷ codes "grab 0" ∷ codes "take 0\rtake 1" ∷ codes "take 0\r" ∷ codes "Take 0"
    ∷ codes "take 0 1" ∷ codes "step 0" ∷ [])
    ≡ None ∷ None ∷ Some (fault.Line 2) ∷ Some (fault.Line 2) ∷ Some (fault.Line 1) ∷ Some (fault.Line 1)
    ∷ Some (fault.Line 1) ∷ Some (fault.Line 1) ∷ Some (fault.Line 1) ∷ Some (fault.Line 1)
    ∷ Some (fault.Line 1)
    ∷ Some (fault.Line 2) ∷ Some (fault.Line 1) ∷ Some (fault.Line 1) ∷ Some (fault.Line 1)
    ∷ Some (fault.Line 1)
    ∷ Some (fault.Line 1) ∷ Some (fault.Line 1) ∷ []
unfolding schedule_of lines_from line_of_parts command_read phases_after_steps step_passed take_passed
    event_passed
faults = refl
