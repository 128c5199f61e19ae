use Rattle.std.proofs.Common.{◌≡◌, ◌<◌, ◌≤◌, drop, take, length, sym, ap, ◌∙◌, subst, refl}
use Rattle.interval_ledger.specs.declared.subject.Subject.{Subject}
use Rattle.interval_ledger.specs.Ledger.{reach_of, subject_of}
use Rattle.lanes.specs.Lane.{lane_count, lane_items, reach}
use Rattle.pq_base.specs.Recorded.{sample_count}
use Rattle.progress_words.specs.declared.answer.Take.TheVariants.{Held}
use Rattle.progress_words.specs.declared.pass_view.Role.{Role}
use Rattle.progress_words.specs.PassView.{after_stop_load, after_try, bit_of, lane_part}
use Rattle.query_session.specs.Bounds.{HasBounds, next_items}
use Rattle.query_session.specs.SeatStage.{posted_in}
use Rattle.query_session.proofs.HoldLaws.{held_is}
use Rattle.query_session.proofs.SeatLaws.{held_count, not_posted}
use Rattle.query_session.proofs.posting.SeatOf+Ledger.take.Goals as goal

-- the seat keeps its facts after each answer
pub invariant_of-self : goal.invariant_of-self
invariant_of-self c =
    let s = c.args.self.now in let v = s.pass.seat.me.0 in let new = c.stopped_lane.new.pass in
    let first = c.stopped_lane.ensures.view.1 in
    let name : new.seat.me.0.name ≡ v.name = ap (λ w. w.name) first in
    let role : new.seat.me.0.role ≡ v.role = ap (λ w. w.role) first in
    let next = c.measure.ensures.measured ∙ (ap (take 65) s.left
    ∙ ap (λ (n : Subject). next_items n.recording s.lane s.count) (sym name)) in record {
      holds = ap (λ w. w.held_value) first ∙ s.holds;
      place = ap (λ (r : Role). (lane_part r).lane) role ∙ s.place;
      inside = subst (λ (n : Subject). s.lane < lane_count n.recording) (sym name) s.inside;
      bounds = subst (λ (n : Subject). HasBounds n.recording n.limits) (sym name) s.bounds;
      end = s.end ∙ ap (λ (n : Subject). sample_count n.recording) (sym name);
      given = ap (λ (r : Role). (lane_part r).reach_given) role
          ∙ (s.given ∙ ap (λ (n : Subject). reach n.recording s.lane s.count) (sym name));
      counted = subst (λ (n : Subject). s.count ≤ length (lane_items n.recording s.lane))
          (sym name) s.counted;
      low = subst (λ (r : Role). (lane_part r).word ≤ (lane_part r).reach_given) (sym role) s.low;
      left = c.measure.ensures.left
          ∙ (s.left ∙ ap (λ (n : Subject). drop s.count (lane_items n.recording s.lane)) (sym name));
      may = λ u e. let m = s.may u e in
          (m.0 ∙ sym name, m.1 ∙ ap (λ (r : Role). (lane_part r).reach_given) (sym role));
      measured = λ u e. next;
      ready = λ k e none. absurd (not_posted k (sym (ap posted_in c.requires.idle) ∙ e));
    }

pub invariant_of-self-in-Busy-1 : goal.invariant_of-self-in-Busy-1
invariant_of-self-in-Busy-1 c =
    let s = c.args.self.now in let v = s.pass.seat.me.0 in let new = c.take_lane.new.pass in
    let first = c.stopped_lane.ensures.view.1 in
    let name : new.seat.me.0.name ≡ v.name = ap (λ w. w.name) c.in-Busy.ensures.view.1
    ∙ ap (λ w. w.name) first in
    let role : new.seat.me.0.role ≡ v.role = ap (λ w. w.role) c.in-Busy.ensures.view.1
    ∙ ap (λ w. w.role) first in
    let next = c.measure.ensures.measured ∙ (ap (take 65) s.left
    ∙ ap (λ (n : Subject). next_items n.recording s.lane s.count) (sym name)) in record {
      holds = ap (λ w. w.held_value) c.in-Busy.ensures.view.1 ∙ (ap (λ w. w.held_value) first ∙ s.holds);
      place = ap (λ (r : Role). (lane_part r).lane) role ∙ s.place;
      inside = subst (λ (n : Subject). s.lane < lane_count n.recording) (sym name) s.inside;
      bounds = subst (λ (n : Subject). HasBounds n.recording n.limits) (sym name) s.bounds;
      end = s.end ∙ ap (λ (n : Subject). sample_count n.recording) (sym name);
      given = ap (λ (r : Role). (lane_part r).reach_given) role
          ∙ (s.given ∙ ap (λ (n : Subject). reach n.recording s.lane s.count) (sym name));
      counted = subst (λ (n : Subject). s.count ≤ length (lane_items n.recording s.lane))
          (sym name) s.counted;
      low = subst (λ (r : Role). (lane_part r).word ≤ (lane_part r).reach_given) (sym role) s.low;
      left = c.measure.ensures.left
          ∙ (s.left ∙ ap (λ (n : Subject). drop s.count (lane_items n.recording s.lane)) (sym name));
      may = λ u e. let m = s.may u e in
          (m.0 ∙ sym name, m.1 ∙ ap (λ (r : Role). (lane_part r).reach_given) (sym role));
      measured = λ u e. next;
      ready = λ k e none. absurd (not_posted k (sym (ap posted_in c.requires.idle) ∙ e));
    }

pub invariant_of-self-in-Held : goal.invariant_of-self-in-Held
invariant_of-self-in-Held c =
    let s = c.args.self.now in let v = s.pass.seat.me.0 in let new = c.take_lane.new.pass in
    let first = c.stopped_lane.ensures.view.1 in
    let name : new.seat.me.0.name ≡ v.name = ap (λ w. w.name) c.in-Held.ensures.view.1
    ∙ ap (λ w. w.name) first in
    let role : new.seat.me.0.role ≡ v.role = ap (λ w. w.role) c.in-Held.ensures.view.1
    ∙ ap (λ w. w.role) first in
    let next = c.measure.ensures.measured ∙ (ap (take 65) s.left
    ∙ ap (λ (n : Subject). next_items n.recording s.lane s.count) (sym name)) in
    let u = c.in-Held.ledger in
    let named : subject_of u ≡ new.seat.me.0.name = (c.in-Held.ensures.name ∙ ap (λ w. w.name) first)
    ∙ sym name in
    let place = ap (λ w. (lane_part w.role).lane) first ∙ s.place in
    let covers : reach_of u s.lane ≡ (lane_part new.seat.me.0.role).reach_given =
    (ap (reach_of u) (sym place) ∙ (c.in-Held.ensures.own
    ∙ ap (λ w. (lane_part w.role).reach_given) first)) ∙ ap (λ (r : Role). (lane_part r).reach_given)
    (sym role) in record {
      holds = ap (λ w. w.held_value) c.in-Held.ensures.view.1;
      place = ap (λ (r : Role). (lane_part r).lane) role ∙ s.place;
      inside = subst (λ (n : Subject). s.lane < lane_count n.recording) (sym name) s.inside;
      bounds = subst (λ (n : Subject). HasBounds n.recording n.limits) (sym name) s.bounds;
      end = s.end ∙ ap (λ (n : Subject). sample_count n.recording) (sym name);
      given = ap (λ (r : Role). (lane_part r).reach_given) role
          ∙ (s.given ∙ ap (λ (n : Subject). reach n.recording s.lane s.count) (sym name));
      counted = subst (λ (n : Subject). s.count ≤ length (lane_items n.recording s.lane))
          (sym name) s.counted;
      low = subst (λ (r : Role). (lane_part r).word ≤ (lane_part r).reach_given) (sym role) s.low;
      left = c.measure.ensures.left
          ∙ (s.left ∙ ap (λ (n : Subject). drop s.count (lane_items n.recording s.lane)) (sym name));
      may = held_is (λ z. (subject_of z ≡ new.seat.me.0.name)
          × (reach_of z s.lane ≡ (lane_part new.seat.me.0.role).reach_given)) u (named, covers);
      measured = λ u e. next;
      ready = λ k e none. absurd (not_posted k e);
    }

-- the ledger has as many items of the lane as the seat gave back
pub returns-in-Held-clause-takes : goal.returns-in-Held-clause-takes
returns-in-Held-clause-takes c =
    let s = c.args.self.now in let v = s.pass.seat.me.0 in let u = c.in-Held.ledger in
    let first = c.stopped_lane.ensures.view.1 in
    let calm = first ∙ ap (λ b. after_stop_load (bit_of b) v) c.if-stopped_lane.false in
    let named : subject_of u ≡ v.name = c.in-Held.ensures.name ∙ ap (λ w. w.name) first in
    let place = ap (λ w. (lane_part w.role).lane) first ∙ s.place in
    let covers : reach_of u s.lane ≡ (lane_part v.role).reach_given = ap (reach_of u) (sym place)
    ∙ (c.in-Held.ensures.own ∙ ap (λ w. (lane_part w.role).reach_given) first) in (
      u,
      refl,
      named,
      held_count v u s.lane s.count s.bounds named covers s.given s.inside s.counted,
      c.in-Held.ensures.view.1 ∙ ap (after_try (Held u)) calm,
    )
