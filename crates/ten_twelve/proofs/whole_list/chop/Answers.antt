use Rattle.std.proofs.Common.{◌≡◌, ◌+◌, ◌-◌, ◌++◌, min, get_or, slice_index_or, ap, ◌∙◌, arith}
use Rattle.std.specs.Int.{div_ceil}
use Rattle.std.proofs.lemmas.List.{get_or_default}
use Rattle.ten_twelve.specs.Run.{runs_after}
use Rattle.ten_twelve.proofs.ChopLemmas.{none_below, chop_step, next_later, chop_end}
use Rattle.ten_twelve.proofs.whole_list.chop.Goals as goal

-- no start, no run
pub loop-index-init : goal.loop-index-init
loop-index-init c = c.new-spans.ensures.items ∙ none_below c.args.length _

-- one start more
pub loop-index-preserved : goal.loop-index-preserved
loop-index-preserved c =
    let starts = c.args.starts.now in
    let i = c.loop-index.index in
    let end = c.saturating_sub-end.result in
    let g = get_or starts i 0 in
    let next = slice_index_or starts (i + 1) end in
    let until : c.min-until.result ≡ min next end = c.min-until.ensures
    ∙ ap (λ n. min n end) c.next_start.ensures in
    let added = c.in_ok-push_runs.ensures ∙ ap (λ u. c.loop-index.spans.items
    ++ runs_after c.args.length g (div_ceil (u - g) c.args.length)) until in
    chop_step starts i g next c.args.length end c.loop-index.spans.items c.push_runs.new.spans.items
    (omega arith) (omega arith) (get_or_default starts i g 0 (omega arith))
    (next_later starts i end c.requires.starts.rising (omega arith)) c.loop-index.invariant added

-- after the last start
pub returns : goal.returns
returns c = c.loop-index.invariant ∙ chop_end c.args.starts.now c.loop-index.index c.args.length
    c.args.count c.saturating_sub-end.result (omega arith) (omega arith) c.saturating_sub-end.ensures
