use Rattle.std.proofs.Common.{◌∙◌, length, ap, refl, inl, arith}
use Rattle.interval_ledger.proofs.StateLaws.{kept_by, mark_ended, posted_kept, room_merging}
use Rattle.interval_ledger.proofs.merging.Merging.finish.Goals as goal

-- the place is the end
pub finish-requires : goal.finish-requires
finish-requires g c = c.requires.end ∙ c.requires.posted.samples_are

-- everything is released
pub returns-clause-cut : goal.returns-clause-cut
returns-clause-cut g c =
    mark_ended c.args.self.now c.requires.posted c.requires.at c.args.n c.requires.merged c.finish.new.self
    c.finish.ensures.name c.requires.end c.in_ok-finish.ensures.value

pub returns-clause-same : goal.returns-clause-same
returns-clause-same g c = kept_by c.args.self.now _ c.finish.ensures.name refl refl refl

-- a step for each
pub returns-clause-ticks : goal.returns-clause-ticks
returns-clause-ticks g c =
    let cost = c.in_ok-finish.ensures.cost in record { rises = omega arith; ticks = omega (arith, cost) }

-- memory is short
pub returns-in_err-finish-clause-cut : goal.returns-in_err-finish-clause-cut
returns-in_err-finish-clause-cut g c =
    let s = c.args.self.now in
    record {
      posted = posted_kept s _ (kept_by s _ c.finish.ensures.name refl refl refl) c.requires.posted;
      at = inl (room_merging s c.finish.new.self c.requires.at c.in_err-finish.ensures.err);
    }

pub returns-in_err-finish-clause-same : goal.returns-in_err-finish-clause-same
returns-in_err-finish-clause-same g c = kept_by c.args.self.now _ c.finish.ensures.name refl refl refl

pub returns-in_err-finish-clause-ticks : goal.returns-in_err-finish-clause-ticks
returns-in_err-finish-clause-ticks g c =
    let none = c.in_err-finish.ensures.unticked in
    let same = ap length c.in_err-finish.ensures.err.released_same in
    record { rises = omega arith; ticks = omega (arith, none, same) }
