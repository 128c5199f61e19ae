use Rattle.std.proofs.Common.{◌∙◌, Some, ap, subst}
use Rattle.interval_ledger.specs.Merging.{IsNext, NoneBefore}
use Rattle.interval_ledger.specs.Posted.{end_of_due}
use Rattle.interval_ledger.proofs.JoinLaws.{fewer_left, items_twice, marks_twice, marks_windows}
use Rattle.interval_ledger.proofs.StateLaws.{next_stays, posted_kept}
use Rattle.interval_ledger.proofs.merging.Merging.merge_due.Goals as goal

-- what is due ends there
pub merge_windows-requires-clause-until : goal.merge_windows-requires-clause-until
merge_windows-requires-clause-until g c =
    let next = c.requires.next in
    record { w = next.w; due = Some c.args.due; is_due = next.is_due; ends = c.end.ensures }

-- a basic interval
pub merge_basic-requires : goal.merge_basic-requires
merge_basic-requires g c =
    let old = c.args.self.now in
    let mid = c.merge_windows.new.self in
    let said = c.merge_windows.ensures in
    record {
      posted = posted_kept old mid said.same.posted c.requires.posted;
      at = said.at;
      next = subst (IsNext mid) c.in-Basic.is (next_stays old mid c.args.due said.same c.requires.next);
      none = subst (NoneBefore mid) (c.end.ensures ∙ ap end_of_due c.in-Basic.is)
          c.in_ok-merge_windows.ensures.none;
    }

pub returns-in-Basic-clause-same : goal.returns-in-Basic-clause-same
returns-in-Basic-clause-same g c =
    let mid = c.merge_windows.new.self in
    marks_twice c.args.self.now mid c.merge_basic.new.self
    (marks_windows c.args.self.now mid c.merge_windows.ensures.same) c.merge_basic.ensures.same

pub returns-in-Basic-clause-fewer : goal.returns-in-Basic-clause-fewer
returns-in-Basic-clause-fewer g c =
    fewer_left c.args.self.now c.merge_windows.new.self c.merge_basic.new.self c.merge_basic.result
    c.merge_windows.ensures.same c.merge_basic.ensures.fewer

pub returns-in-Basic-clause-ticks : goal.returns-in-Basic-clause-ticks
returns-in-Basic-clause-ticks g c =
    items_twice c.args.self.now c.merge_windows.new.self c.merge_basic.new.self c.args.steps.now
    c.merge_windows.new.steps c.merge_basic.new.steps c.merge_windows.ensures.ticks
    c.merge_basic.ensures.ticks

-- a reading
pub merge_reading-requires : goal.merge_reading-requires
merge_reading-requires g c =
    let old = c.args.self.now in
    let mid = c.merge_windows.new.self in
    let said = c.merge_windows.ensures in
    record {
      posted = posted_kept old mid said.same.posted c.requires.posted;
      at = said.at;
      next = subst (IsNext mid) c.in-Reading.is (next_stays old mid c.args.due said.same c.requires.next);
      none = subst (NoneBefore mid) (c.end.ensures ∙ ap end_of_due c.in-Reading.is)
          c.in_ok-merge_windows.ensures.none;
    }

pub returns-in-Reading-clause-same : goal.returns-in-Reading-clause-same
returns-in-Reading-clause-same g c =
    let mid = c.merge_windows.new.self in
    marks_twice c.args.self.now mid c.merge_reading.new.self
    (marks_windows c.args.self.now mid c.merge_windows.ensures.same) c.merge_reading.ensures.same

pub returns-in-Reading-clause-fewer : goal.returns-in-Reading-clause-fewer
returns-in-Reading-clause-fewer g c =
    fewer_left c.args.self.now c.merge_windows.new.self c.merge_reading.new.self c.merge_reading.result
    c.merge_windows.ensures.same c.merge_reading.ensures.fewer

pub returns-in-Reading-clause-ticks : goal.returns-in-Reading-clause-ticks
returns-in-Reading-clause-ticks g c =
    items_twice c.args.self.now c.merge_windows.new.self c.merge_reading.new.self c.args.steps.now
    c.merge_windows.new.steps c.merge_reading.new.steps c.merge_windows.ensures.ticks
    c.merge_reading.ensures.ticks

-- memory is short
pub returns-in_err-merge_windows-clause-same : goal.returns-in_err-merge_windows-clause-same
returns-in_err-merge_windows-clause-same g c =
    marks_windows c.args.self.now c.merge_windows.new.self c.merge_windows.ensures.same
