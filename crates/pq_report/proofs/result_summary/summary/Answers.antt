use Rattle.std.proofs.Common.{◌≡◌, ◌∙◌, arith}
use Rattle.pq_report.proofs.SummaryLemmas.{all_lines, front_of, lines_next}
use Rattle.pq_report.proofs.result_summary.summary.Goals as goal

-- a kind's line more
pub loop-rank-preserved : goal.loop-rank-preserved
loop-rank-preserved c = lines_next (front_of c.args.seed c.args.samples) c.loop-rank.text.items
    c.push_kind.new.text.items c.args.items.now c.of-tally.result c.loop-rank.rank c.loop-rank-test.true
    c.of-tally.ensures c.loop-rank.invariant c.in_ok-push_kind.ensures

-- all kinds' lines, and the last line
pub returns : goal.returns
returns c =
    let end : c.loop-rank.rank ≡ 8 = omega (arith, c.loop-rank-test.false, c.loop-rank.auto.rank-end) in
    record {
      value = c.new.ensures ∙ all_lines c.args.seed c.args.samples c.args.items.now c.of-tally.result
          c.loop-rank.rank c.loop-rank.text.items c.push_named-3.new.text.items end c.of-tally.ensures
          c.loop-rank.invariant c.in_ok-push_named-3.ensures;
    }
