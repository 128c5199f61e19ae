use Rattle.std.proofs.Common.{List, ℕ, ◌≤◌, arith, ap, replicate, false, ◌∙◌}
use Rattle.std.proofs.lemmas.List.{take-replicate}
use Rattle.std.proofs.lemmas.List.Elements.{All-replicate}
use Rattle.aggregate.specs.BasicOrder.{AreQuiet}
use Rattle.aggregate.specs.ShortSums.{RecentView}
use Rattle.aggregate.specs.declared.short.Recent.{Recent}
use Rattle.pq_words.specs.declared.limits.TheConstants.{MOST_MICROVOLTS}
use Rattle.aggregate.proofs.ShortLaws.{latest_none}
use Rattle.aggregate.proofs.short.ShortSums.new.Goals as goal

pub invariant_of-result : goal.invariant_of-result
invariant_of-result c = record {
  few = c.requires;
  quiet = All-replicate (λ (r : Recent). AreQuiet r.values) 14
      (record {
        begins = false;
        span = record { start = 0; end = 0 };
        values = replicate 16 0;
        flagged = false;
      })
      (All-replicate (λ value. value ≤ MOST_MICROVOLTS) 16 0 (omega arith));
}

-- nothing was fed
pub returns-clause-value : goal.returns-clause-value
returns-clause-value c =
    let kept : List ℕ → List RecentView = λ vs. replicate 14 (record {
      begins = false;
      part = record { start = 0; end = 0; values = vs; flagged = false };
    }) in
    ap kept (take-replicate c.args.channels 16 0 c.requires.1) ∙ latest_none c.args.channels
