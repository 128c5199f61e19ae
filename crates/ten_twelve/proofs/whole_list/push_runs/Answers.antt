use Rattle.std.proofs.Common.{◌∙◌, ◌+◌, ◌*◌, refl}
use Rattle.ten_twelve.proofs.StepLemmas.{no_runs, one_run}
use Rattle.ten_twelve.proofs.whole_list.push_runs.Goals as goal

-- no run was added
pub loop-k-init : goal.loop-k-init
loop-k-init c = no_runs c.args.spans.now.items c.args.length c.args.from

-- one run was added
pub loop-k-preserved : goal.loop-k-preserved
loop-k-preserved c =
    let start = c.args.from + c.loop-k.k * c.args.length in
    c.in_ok-push.ensures.items
    ∙ one_run c.args.spans.now.items c.loop-k.spans.items c.args.length c.args.from c.loop-k.k start
    (start + c.args.length) c.loop-k.invariant refl refl
