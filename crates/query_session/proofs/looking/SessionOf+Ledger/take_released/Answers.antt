use Rattle.std.proofs.Common.{◌+◌, ◌≤◌, ap, length, refl, subst, sym}
use Rattle.interval_ledger.specs.declared.subject.Subject.{Subject}
use Rattle.pq_sequence.specs.SequentialResult.{sequential}
use Rattle.query_session.specs.Reading.{AreNext, result_in}
use Rattle.query_session.specs.Stage.{held_in}
use Rattle.query_session.proofs.ReadLaws.{next_in_result, next_within}
use Rattle.query_session.proofs.looking.SessionOf+Ledger.take_released.Goals as goal

-- the cursor stays within the result
pub invariant_of-self : goal.invariant_of-self
invariant_of-self c =
    let s = c.args.self.now in
    let u = c.in-Holding.ledger in
    let items = c.gather-self.new.items.items in
    let named = (s.may u (ap held_in c.in-Holding.is)).0 in
    let before = subst (λ (n : Subject). s.cursor ≤ length (sequential n.recording n.limits)) (sym named)
    s.within in
    let after = next_within (result_in u) items s.cursor before
    (next_in_result u s.cursor items c.gather-self.ensures.next) in record {
      holds = s.holds;
      looked = s.looked;
      may = s.may;
      lanes = s.lanes;
      bounds = s.bounds;
      end = s.end;
      within = subst (λ k. k ≤ length (sequential s.pass.seat.me.0.name.recording
          s.pass.seat.me.0.name.limits)) (sym c.gather-self.ensures.after)
          (subst (λ (n : Subject). s.cursor + length items ≤ length (sequential n.recording n.limits)) named
          after);
    }

pub returns : goal.returns
returns c =
    let s = c.args.self.now in
    let u = c.in-Holding.ledger in
    let items = c.gather-self.new.items.items in
    let named = (s.may u (ap held_in c.in-Holding.is)).0 in record {
      pass = refl;
      stage = refl;
      next = subst (λ (n : Subject). AreNext (sequential n.recording n.limits) s.cursor items) named
          (next_in_result u s.cursor items c.gather-self.ensures.next);
      cursor = c.gather-self.ensures.after;
    }
