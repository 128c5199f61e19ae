use Rattle.std.proofs.Common.{subst, sym}
use Rattle.aggregate.specs.Sum.{HasSummed, SumView}
use Rattle.aggregate.proofs.SumLaws.{group_is}
use Rattle.aggregate.proofs.sum.Sum.group.Goals as goal

-- the roots are those of the sums
pub returns-clause-value : goal.returns-clause-value
returns-clause-value c = λ parts h.
    let i = c.self.inside in
    group_is c.args.tick c.args.channels (record {
      start = i.start;
      end = i.end;
      count = i.count;
      flagged = i.flagged;
      squares = i.squares;
    }) c.roots.result parts (subst (λ (s : SumView). HasSummed s parts) (sym c.self.view_is) h)
    c.roots.ensures.value
