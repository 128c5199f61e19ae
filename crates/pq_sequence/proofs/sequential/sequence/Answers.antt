use Rattle.std.proofs.Common.{◌≡◌, ◌∙◌, ◌++◌, length, All, ap, sym, subst, arith, take, drop}
use Rattle.std.proofs.lemmas.Grind.{common_steps}
use Rattle.pq_items.specs.ItemOrder.{item_cmp}
use Rattle.pq_items.specs.ItemRange.{IsItemInRange}
use Rattle.pq_sequence.specs.SequentialResult.{sequential}
use Rattle.pq_sequence.proofs.ResultLaws.{result_in_range}
use Rattle.pq_words.specs.Sorted.{in_order}
use Rattle.pq_sequence.proofs.sequential.sequence.Goals as goal

-- the items, in order
pub returns-clause-value : goal.returns-clause-value
unfolding sequential
returns-clause-value c =
    let whole : take c.in_ok-items.items.len (c.sort_items.new.items
    ++ drop (length c.sort_items.new.items) c.in_ok-items.items.items) ≡ c.sort_items.new.items =
    grind (arith, common_steps) in
    whole ∙ c.sort_items.ensures.value
    ∙ ap (in_order item_cmp) (c.deref_mut.ensures.value ∙ c.in_ok-items.ensures.value)

-- the same items, so all in range
pub returns-clause-within : goal.returns-clause-within
returns-clause-within c =
    subst (λ items. All IsItemInRange items) (sym (returns-clause-value c))
    (result_in_range c.args.recording.now c.args.limits.now
    (subst (λ items. All IsItemInRange items) c.in_ok-items.ensures.value c.in_ok-items.ensures.within))
