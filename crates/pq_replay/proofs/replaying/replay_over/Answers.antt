use Rattle.std.proofs.Common.{◌∙◌, ◌+◌, All, drop, get_or, length, subst, sym}
use Rattle.pq_replay.specs.AnswerLines.{IsAnswerInRange, joined, measured_lines}
use Rattle.pq_replay.specs.Schedule.{steps_of}
use Rattle.pq_replay.specs.declared.line.Line.TheVariants as line
use Rattle.pq_replay.proofs.LineLaws.{line_more, line_stops, lines_end, played_none, played_some}
use Rattle.pq_replay.proofs.PassingLaws.{none_at, splits_at}
use Rattle.pq_replay.proofs.RangeLaws.{along_in_range}
use Rattle.pq_replay.proofs.replaying.replay_over.Goals as goal

-- items that are answered are in range
pub push_answer_line-requires-clause-within : goal.push_answer_line-requires-clause-within
push_answer_line-requires-clause-within c =
    let m = c.args.measurement.now in
    let old = c.loop-line.machine in
    let new = c.play_steps.new.machine in
    let l = get_or c.args.lines.now c.loop-line.line-index (line.Take 0) in
    let answers = c.play_steps.new.answers.items in
    subst (λ xs. All IsAnswerInRange xs) (sym c.deref-in-loop-line.ensures.value)
    (along_in_range m (steps_of (length m.keys) l) old c.requires.items answers new
    (played_some m old new c.deref.result.now c.fill_steps.new.steps.items c.lanes-lanes.result l
    c.in_ok-is_allowed.is_allowed answers c.in_ok-is_allowed.ensures c.deref.ensures.value
    c.in_ok-fill_steps.ensures c.lanes-lanes.ensures c.if-not-is_allowed.false))

-- the first line that isn't allowed
pub returns-then-not-is_allowed : goal.returns-then-not-is_allowed
returns-then-not-is_allowed c =
    let clock = c.args.clock.now in
    let m = c.args.measurement.now in
    let old = c.loop-line.machine in
    let i = c.loop-line.line-index in
    let lines = c.args.lines.now in
    let l = get_or lines i (line.Take 0) in
    c.new-then-not-is_allowed.ensures ∙ line_stops clock m old l (drop i lines) (drop (i + 1) lines)
    c.loop-line.text.items (joined (measured_lines clock m lines))
    (splits_at lines i (line.Take 0) c.loop-line-test.true)
    (played_none m old c.play_steps.new.machine c.deref.result.now c.fill_steps.new.steps.items
    c.lanes-lanes.result l c.in_ok-is_allowed.is_allowed c.play_steps.new.answers.items
    c.in_ok-is_allowed.ensures
    c.deref.ensures.value c.in_ok-fill_steps.ensures c.lanes-lanes.ensures c.if-not-is_allowed.true)
    c.loop-line.invariant

-- a line more
pub loop-line-preserved : goal.loop-line-preserved
loop-line-preserved c =
    let clock = c.args.clock.now in
    let m = c.args.measurement.now in
    let old = c.loop-line.machine in
    let new = c.play_steps.new.machine in
    let i = c.loop-line.line-index in
    let lines = c.args.lines.now in
    let l = get_or lines i (line.Take 0) in
    let answers = c.play_steps.new.answers.items in
    line_more clock m old new l (drop i lines) (drop (i + 1) lines) c.loop-line.text.items
    c.push_answer_line.new.text.items (joined (measured_lines clock m lines)) answers
    c.deref-in-loop-line.result.now
    (splits_at lines i (line.Take 0) c.loop-line-test.true)
    (played_some m old new c.deref.result.now c.fill_steps.new.steps.items c.lanes-lanes.result l
    c.in_ok-is_allowed.is_allowed answers c.in_ok-is_allowed.ensures c.deref.ensures.value
    c.in_ok-fill_steps.ensures c.lanes-lanes.ensures c.if-not-is_allowed.false)
    c.deref-in-loop-line.ensures.value
    c.in_ok-push_answer_line.ensures c.loop-line.invariant

-- no line is left
pub returns : goal.returns
returns c =
    let clock = c.args.clock.now in
    let m = c.args.measurement.now in
    let i = c.loop-line.line-index in
    let lines = c.args.lines.now in
    c.new-2.ensures ∙ lines_end clock m c.loop-line.machine (drop i lines) c.loop-line.text.items
    (joined (measured_lines clock m lines)) (none_at lines i c.loop-line-test.false) c.loop-line.invariant
