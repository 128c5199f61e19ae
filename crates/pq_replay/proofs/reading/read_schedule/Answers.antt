use Rattle.std.proofs.Common.{◌≡◌, ◌∙◌, sym, ap, inr, arith, Ok, Err}
use Rattle.pq_replay.specs.LineGrammar.{line_of}
use Rattle.pq_replay.specs.Schedule.{line_read, schedule_of, steps_of}
use Rattle.pq_replay.proofs.PassingLaws.{line_allowed, line_refused}
use Rattle.pq_replay.proofs.ReadingLaws.{fault_given, line_fault, no_line, not_allowed, one_line}
use Rattle.pq_replay.proofs.reading.read_schedule.Goals as goal

-- a line outside the grammar
pub returns-in_err-line : goal.returns-in_err-line
unfolding schedule_of
returns-in_err-line c =
    let n = c.loop-text.number in
    let is : line_read n (line_of c.in-Some.text.now) ≡ Err c.in_err-line.field-0.0 =
    ap (line_read n) (sym c.read_line.ensures) ∙ sym c.numbered.ensures ∙ c.in_err-line.was in
    fault_given c.from_residual-in_err-line.result c.in_err-line.field-0.0
    (schedule_of c.args.lanes c.args.bytes.now) c.from_residual-in_err-line.ensures.1
    (c.loop-text.invariant.read ∙ line_fault c.args.lanes c.loop-text.phases n c.loop-text.rest.now
    c.in-Some.text.now c.in-Some.after.now c.loop-text.lines.items c.in_err-line.field-0.0
    c.in-Some.ensures.value is)

-- a line that isn't allowed
pub returns-then-not-is_allowed : goal.returns-then-not-is_allowed
unfolding schedule_of
returns-then-not-is_allowed c =
    let n = c.loop-text.number in
    let p = c.loop-text.phases in
    let l = c.in_ok-line.line in
    let is : line_read n (line_of c.in-Some.text.now) ≡ Ok l =
    ap (line_read n) (sym c.read_line.ensures) ∙ sym c.numbered.ensures ∙ c.in_ok-line.was in
    inr (c.loop-text.invariant.read ∙ not_allowed c.args.lanes p n c.loop-text.rest.now c.in-Some.text.now
    c.in-Some.after.now c.loop-text.lines.items l c.in-Some.ensures.value is
    (line_refused p c.pass_steps.new.phases c.deref.result.now c.fill_steps.new.steps.items
    (steps_of c.args.lanes l) c.in_ok-is_allowed.is_allowed c.in_ok-is_allowed.ensures c.deref.ensures.value
    c.in_ok-fill_steps.ensures c.if-not-is_allowed.true))

-- a line more
pub loop-text-preserved : goal.loop-text-preserved
loop-text-preserved c =
    let n = c.loop-text.number in
    let p = c.loop-text.phases in
    let l = c.in_ok-line.line in
    let is : line_read n (line_of c.in-Some.text.now) ≡ Ok l =
    ap (line_read n) (sym c.read_line.ensures) ∙ sym c.numbered.ensures ∙ c.in_ok-line.was in
    record {
      read =
          rw c.in_ok-push.ensures.items (c.loop-text.invariant.read ∙ one_line c.args.lanes p
          c.pass_steps.new.phases n c.loop-text.rest.now c.in-Some.text.now c.in-Some.after.now
          c.loop-text.lines.items l c.in-Some.ensures.value is
          (line_allowed p c.pass_steps.new.phases c.deref.result.now c.fill_steps.new.steps.items
          (steps_of c.args.lanes l) c.in_ok-is_allowed.is_allowed c.in_ok-is_allowed.ensures
          c.deref.ensures.value c.in_ok-fill_steps.ensures c.if-not-is_allowed.false));
      number = omega (arith, c.loop-text.invariant.number, c.in-Some.ensures.shorter);
    }

-- no line is left
pub returns : goal.returns
unfolding schedule_of
returns c =
    c.loop-text.invariant.read ∙ no_line c.args.lanes c.loop-text.phases c.loop-text.number
    c.loop-text.rest.now c.loop-text.lines.items c.in_default.ensures.none
