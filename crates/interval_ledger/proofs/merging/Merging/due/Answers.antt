use Rattle.std.proofs.Common.{length, subst, ap, arith}
use Rattle.interval_ledger.specs.NextDue.{IsNextDue}
use Rattle.interval_ledger.proofs.merging.Merging.due.Goals as goal

-- there is a channel
pub next_due-requires : goal.next_due-requires
next_due-requires c =
    let some = c.requires.posted.given.channels.0 in
    let many = c.requires.posted.posted.many in
    let same = ap length c.deref.ensures.value in omega (arith, some, many, same)

pub returns : goal.returns
returns c =
    let s = c.args.self.now in
    record {
      within = c.requires.within;
      small = c.ranges.w.fits;
      next = subst
          (λ channels. IsNextDue channels s.basics_merged s.readings.items s.readings_merged c.args.w
          c.next_due.result)
          c.deref.ensures.value c.next_due.ensures;
    }
