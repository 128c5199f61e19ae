use Rattle.std.proofs.Common.{inl}
use Rattle.interval_ledger.proofs.JoinLaws.{does_after, does_merged}
use Rattle.interval_ledger.proofs.StateLaws.{is_merging, posted_kept}
use Rattle.interval_ledger.proofs.merging.Merging.settle.Goals as goal

-- the mark is below the end
pub merge_until-requires-clause-at : goal.merge_until-requires-clause-at
merge_until-requires-clause-at g c =
    is_merging c.args.self.now c.args.w c.requires.holds c.requires.within c.requires.later

-- everything up to the place is merged
pub move_mark-requires-clause-posted : goal.move_mark-requires-clause-posted
move_mark-requires-clause-posted g c =
    posted_kept c.args.self.now c.merge_until.new.self c.merge_until.ensures.same.posted
    c.requires.holds.posted

-- a step at most for each item that is merged, and then for each that is released
pub returns-clause-ticks : goal.returns-clause-ticks
returns-clause-ticks g c =
    let said = c.merge_until.ensures in
    does_after c.args.self.now c.merge_until.new.self c.move_mark.new.self c.args.steps.now
    c.merge_until.new.steps c.move_mark.new.steps c.requires.holds said.at said.same said.ticks
    c.move_mark.ensures.ticks

-- memory is short
pub returns-in_err-merge_until-clause-cut : goal.returns-in_err-merge_until-clause-cut
returns-in_err-merge_until-clause-cut g c =
    let said = c.merge_until.ensures in
    record {
      posted = posted_kept c.args.self.now c.merge_until.new.self said.same.posted c.requires.holds.posted;
      at = inl said.at;
    }

pub returns-in_err-merge_until-clause-ticks : goal.returns-in_err-merge_until-clause-ticks
returns-in_err-merge_until-clause-ticks g c =
    let said = c.merge_until.ensures in
    does_merged c.args.self.now c.merge_until.new.self c.args.steps.now c.merge_until.new.steps
    c.requires.holds said.at said.same said.ticks
