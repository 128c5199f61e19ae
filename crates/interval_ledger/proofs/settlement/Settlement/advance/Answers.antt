use Rattle.std.proofs.Common.{◌≡◌, ◌∙◌, ℕ, ap, subst, sym}
use Rattle.interval_ledger.specs.declared.merging.Merging.{Merging}
use Rattle.interval_ledger.specs.IsLedger.{IsLedger, settlement_of}
use Rattle.interval_ledger.specs.Merging.{merged_items}
use Rattle.interval_ledger.specs.Settlement.{Advances, SettlementView, advanced_to}
use Rattle.interval_ledger.proofs.LedgerLaws.{advances_seen, ledger_advances, reaches_back, seen_kept}
use Rattle.lanes.specs.Lane.{IsWithinReaches}
use Rattle.interval_ledger.proofs.settlement.Settlement.advance.Goals as goal

-- what the box holds is the ledger that the invariant speaks of
holds : {at s : Merging} → at ≡ s → IsLedger s → IsLedger at
holds here is = subst IsLedger (sym here) is

seen : {at s : Merging} {v : SettlementView} → at ≡ s → settlement_of s ≡ v → settlement_of at ≡ v
seen here is = ap settlement_of here ∙ is

-- the place is within the reach of each lane
within : {w : ℕ} {s v : SettlementView} → s ≡ v → IsWithinReaches v.recording v.counts w →
    IsWithinReaches s.recording s.counts w
within {w = w} same is = subst (λ (v : SettlementView). IsWithinReaches v.recording v.counts w) (sym same) is

pub advance-requires-clause-holds : goal.advance-requires-clause-holds
advance-requires-clause-holds g c = (holds c.deref_mut-merging.ensures.value c.self.invariant).merging

pub advance-requires-clause-within : goal.advance-requires-clause-within
advance-requires-clause-within g c =
    let s : Merging = c.deref_mut-merging.result.now in
    let here = c.deref_mut-merging.ensures.value in
    let ledger : IsLedger s = holds here c.self.invariant in
    reaches_back s.known.recording s.channels.items s.readings.items ledger.merging.posted.posted c.args.w
    (within (seen here c.self.view_is) c.requires)

-- it is a ledger at the new mark
pub invariant_of-self : goal.invariant_of-self
invariant_of-self g c =
    let here = c.deref_mut-merging.ensures.value in
    let said = c.advance.ensures in
    ledger_advances c.deref_mut-merging.result.now c.advance.new.self (holds here c.self.invariant) said.same
    c.args.w c.advance.result said.cut said.value said.err (within (seen here c.self.view_is) c.requires)

pub returns-clause-posted : goal.returns-clause-posted
returns-clause-posted g c = (invariant_of-self g c).posted

-- of what is seen only the mark and how much is merged are others
pub returns-clause-same : goal.returns-clause-same
returns-clause-same g c =
    let here = c.deref_mut-merging.ensures.value in
    seen_kept c.deref_mut-merging.result.now c.advance.new.self (holds here c.self.invariant)
    c.advance.ensures.same
    ∙ ap (λ v. advanced_to v c.advance.new.self.mark (merged_items c.advance.new.self))
    (seen here c.self.view_is)

-- a step at most for each item
pub returns-clause-ticks : goal.returns-clause-ticks
returns-clause-ticks g c =
    let here = c.deref_mut-merging.ensures.value in
    let said = c.advance.ensures in
    let new : SettlementView = settlement_of c.advance.new.self in
    subst (λ (v : SettlementView). Advances c.args.steps.now c.advance.new.steps v new)
    (seen here c.self.view_is)
    (advances_seen c.deref_mut-merging.result.now c.advance.new.self c.args.steps.now c.advance.new.steps
    (holds here c.self.invariant).merging said.cut said.ticks)
