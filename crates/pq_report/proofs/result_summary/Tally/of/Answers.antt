use Rattle.std.proofs.Common.{◌≤◌, get_or, arith}
use Rattle.std.proofs.lemmas.List.Sums.{fold_more}
use Rattle.pq_report.proofs.TallyLemmas.{bit_small, marked_next, marked_small, number_small, numbers_next}
use Rattle.pq_report.proofs.result_summary.Tally.of.Goals as goal

-- no more than the items before
pub overflow_add-numbers : goal.overflow_add-numbers
overflow_add-numbers c =
    let few : get_or c.loop-item.numbers c.rank_of-rank.result 0 ≤ c.loop-item.item-index =
    number_small c.args.items.now c.loop-item.item-index c.loop-item.numbers c.rank_of-rank.result _
    c.loop-item-test.true c.loop-item.invariant.numbers c.rank_of-rank.ensures in
    omega (arith, few, c.loop-item-test.true, c.well_formed.0.1)

pub overflow_add-marked : goal.overflow_add-marked
overflow_add-marked c =
    let few : get_or c.loop-item.marked c.rank_of-rank.result 0 ≤ c.loop-item.item-index =
    marked_small c.args.items.now c.loop-item.item-index c.loop-item.marked c.rank_of-rank.result _
    c.loop-item-test.true c.loop-item.invariant.marked c.rank_of-rank.ensures in
    omega (
      arith,
      few,
      bit_small c.from.result c.has_mark.result c.from.ensures,
      c.loop-item-test.true,
      c.well_formed.0.1,
    )

-- each of the three with one more item
pub loop-item-preserved : goal.loop-item-preserved
loop-item-preserved c = record {
  numbers = numbers_next c.args.items.now c.loop-item.item-index c.loop-item.numbers c.rank_of-rank.result _
      c.loop-item-test.true c.loop-item.invariant.numbers c.rank_of-rank.ensures;
  marked = marked_next c.args.items.now c.loop-item.item-index c.loop-item.marked c.rank_of-rank.result _ _ _
      c.loop-item-test.true c.loop-item.invariant.marked c.rank_of-rank.ensures c.from.ensures
      c.has_mark.ensures;
  fold = grind (arith, fold_more, c.fold_with-fold.ensures, c.loop-item.invariant.fold);
}
