use Rattle.std.proofs.Common.{None, refl}
use Rattle.interval_ledger.proofs.JoinLaws.{items_none, items_twice, marks_none, marks_twice, marks_windows, merged_all}
use Rattle.interval_ledger.proofs.StateLaws.{posted_kept, reach_kept}
use Rattle.interval_ledger.proofs.merging.Merging.merge_until.Goals as goal

-- nothing yet
pub loop-due-init : goal.loop-due-init
loop-due-init g c = record {
  posted = c.requires.posted;
  at = c.requires.at;
  within = c.requires.within;
  same = marks_none c.args.self.now;
  ticks = items_none c.args.self.now c.args.steps.now;
}

-- it is due next
pub merge_due-requires-clause-next : goal.merge_due-requires-clause-next
merge_due-requires-clause-next g c = record { w = c.args.w; is_due = c.in-Some.ensures }

-- one more
pub loop-due-preserved : goal.loop-due-preserved
loop-due-preserved g c =
    let old = c.loop-due.self in
    let new = c.merge_due.new.self in
    let so_far = c.loop-due.invariant in
    let said = c.merge_due.ensures in
    record {
      posted = posted_kept old new said.same.posted so_far.posted;
      at = said.at;
      within = reach_kept old new said.same.posted c.args.w so_far.within;
      same = marks_twice c.args.self.now old new so_far.same said.same;
      ticks = items_twice c.args.self.now old new c.args.steps.now c.loop-due.steps c.merge_due.new.steps
          so_far.ticks said.ticks;
    }

-- nothing is due: the windows before the place are left
pub merge_windows-requires-clause-until : goal.merge_windows-requires-clause-until
merge_windows-requires-clause-until g c =
    record { w = c.args.w; due = None; is_due = c.in_default.ensures; ends = refl }

pub returns-clause-same : goal.returns-clause-same
returns-clause-same g c =
    marks_twice c.args.self.now c.loop-due.self c.merge_windows.new.self c.loop-due.invariant.same
    (marks_windows c.loop-due.self c.merge_windows.new.self c.merge_windows.ensures.same)

pub returns-clause-ticks : goal.returns-clause-ticks
returns-clause-ticks g c =
    items_twice c.args.self.now c.loop-due.self c.merge_windows.new.self c.args.steps.now c.loop-due.steps
    c.merge_windows.new.steps c.loop-due.invariant.ticks c.merge_windows.ensures.ticks

pub returns-clause-merged : goal.returns-clause-merged
returns-clause-merged g c =
    merged_all c.loop-due.self c.merge_windows.new.self c.args.w c.merge_windows.result c.in_default.ensures
    c.merge_windows.ensures.same c.merge_windows.ensures.none

-- memory is short
pub returns-in_err-merge_due-clause-same : goal.returns-in_err-merge_due-clause-same
returns-in_err-merge_due-clause-same g c =
    marks_twice c.args.self.now c.loop-due.self c.merge_due.new.self c.loop-due.invariant.same
    c.merge_due.ensures.same

pub returns-in_err-merge_due-clause-ticks : goal.returns-in_err-merge_due-clause-ticks
returns-in_err-merge_due-clause-ticks g c =
    items_twice c.args.self.now c.loop-due.self c.merge_due.new.self c.args.steps.now c.loop-due.steps
    c.merge_due.new.steps c.loop-due.invariant.ticks c.merge_due.ensures.ticks
