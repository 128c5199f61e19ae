use Rattle.std.proofs.Common.{rules, ◌≡◌, ℕ, ◌+◌, ◌<◌, ◌≤◌, ◌^◌, ◌++◌, drop, length, sym, ap, ◌∙◌, subst, refl, arith}
use Rattle.interval_ledger.specs.declared.subject.Subject.{Subject}
use Rattle.interval_ledger.specs.Ledger.{reach_of}
use Rattle.lanes.specs.Lane.{lane_count, lane_items, reach}
use Rattle.pq_base.specs.Recorded.{Recorded, sample_count}
use Rattle.progress_words.specs.PassView.{lane_part}
use Rattle.query_session.specs.Bounds.{HasBounds}
use Rattle.query_session.specs.SeatStage.{ledger_in}
use Rattle.query_session.proofs.SeatLaws.{all_measured, are_next, gave_lane, held_count, left_after, many_measured, may_give_lane, no_ledger, posted_reach}
use Rattle.query_session.proofs.posting.SeatOf+Ledger.post.Goals as goal

pub post-requires-clause-next : goal.post-requires-clause-next
post-requires-clause-next c =
    let s = c.args.self.now in
    let v = s.pass.seat.me.0 in
    let t = c.in-Holding.ledger in
    let was = sym c.replace-stage.ensures.value ∙ c.in-Holding.is in
    let may = s.may t (ap ledger_in was) in
    let held = held_count v t s.lane s.count s.bounds may.0 may.1 s.given s.inside s.counted in
    are_next t v.name.recording s.lane s.count s.ahead.measured s.ahead.unmeasured
    (ap (λ (n : Subject). n.recording) may.0) held s.left

pub give_lane-requires-clause-may : goal.give_lane-requires-clause-may
give_lane-requires-clause-may c =
    let s = c.args.self.now in
    let v = s.pass.seat.me.0 in
    let t = c.in-Holding.ledger in
    let was = sym c.replace-stage.ensures.value ∙ c.in-Holding.is in
    let may = s.may t (ap ledger_in was) in
    let inside = s.inside in
    let sized = t.posted.sized in
    let named = ap (λ (n : Subject). lane_count n.recording) may.0 in
    may_give_lane _ t c.post.new.ledger v s.lane _ s.bounds may.0 s.place
    (s.holds ∙ ap ledger_in was) c.post.ensures.posts (omega arith)

pub invariant_of-self : goal.invariant_of-self
invariant_of-self c =
    let s = c.args.self.now in
    let v = s.pass.seat.me.0 in
    let t = c.in-Holding.ledger in
    let u = c.post.new.ledger in
    let was = sym c.replace-stage.ensures.value ∙ c.in-Holding.is in
    let new = c.give_lane.new.pass in
    let r : Recorded = v.name.recording in
    let may = s.may t (ap ledger_in was) in
    let held = held_count v t s.lane s.count s.bounds may.0 may.1 s.given s.inside s.counted in
    let inside = s.inside in
    let sized = t.posted.sized in
    let named = ap (λ (n : Subject). lane_count n.recording) may.0 in
    let here = c.give_lane.ensures.1 in let name : new.seat.me.0.name ≡ v.name = ap (λ w. w.name) here in
    let k : ℕ = c.lesser-count.result in
    let size = c.lesser-count.ensures in
    let len = c.len.ensures.value in
    let most = c.requires.most in
    let measured = s.measured t (ap ledger_in was) in
    let many = many_measured s.count s.ahead.measured (lane_items r s.lane) measured in
    let counted = s.counted in let low = s.low in let given = s.given in
    let few : k ≤ length s.ahead.measured = omega arith in
    let few_posted : k ≤ 64 = omega arith in
    let reached : reach_of u s.lane ≡ reach r s.lane (s.count + k) =
    posted_reach r t u s.lane s.count k c.post.ensures.posts (omega arith) held
    (ap (λ (n : Subject). n.recording) may.0) in
    let part = ap (λ w. lane_part w.role) here ∙ gave_lane u v s.lane s.place in
    let rises = s.bounds.rises s.lane s.count (s.count + k) (omega arith) in
    let given_now : (lane_part new.seat.me.0.role).reach_given ≡ reach r s.lane (s.count + k) =
    ap (λ p. p.reach_given) part ∙ reached in
    let word_now : (lane_part new.seat.me.0.role).word ≡ (lane_part v.role).word = ap (λ p. p.word) part in
    let after = c.post.ensures.measured in let rest = c.post.ensures.unmeasured in record {
      holds = ap (λ w. w.held_value) here;
      place = ap (λ p. p.lane) part ∙ s.place;
      inside = subst (λ (n : Subject). s.lane < lane_count n.recording) (sym name) inside;
      bounds = subst (λ (n : Subject). HasBounds n.recording n.limits) (sym name) s.bounds;
      end = s.end ∙ ap (λ (n : Subject). sample_count n.recording) (sym name);
      given = given_now ∙ ap (λ (n : Subject). reach n.recording s.lane (s.count + k)) (sym name);
      counted = subst (λ (n : Subject). s.count + k ≤ length (lane_items n.recording s.lane)) (sym name)
          (omega arith);
      low = omega arith;
      left = (λ i. after i ++ rest i)
          ∙ (left_after k s.count s.ahead.measured s.ahead.unmeasured (lane_items r s.lane) few s.left
          ∙ ap (λ (n : Subject). drop (s.count + k) (lane_items n.recording s.lane)) (sym name));
      may = λ z e. absurd (no_ledger z e);
      measured = λ z e. absurd (no_ledger z e);
      ready = λ j e none. rest ∙ all_measured k s.count s.ahead.measured s.ahead.unmeasured
          (lane_items r s.lane) s.left measured few_posted (sym after ∙ none);
    }

pub overflow_add-self : goal.overflow_add-self
overflow_add-self c =
    let s = c.args.self.now in
    let v = s.pass.seat.me.0 in
    let t = c.in-Holding.ledger in
    let was = sym c.replace-stage.ensures.value ∙ c.in-Holding.is in
    let r : Recorded = v.name.recording in
    let measured = s.measured t (ap ledger_in was) in
    let many = many_measured s.count s.ahead.measured (lane_items r s.lane) measured in
    let size = c.lesser-count.ensures in let len = c.len.ensures.value in let counted = s.counted in
    let few = s.bounds.few s.lane in let end = s.end in
    let within : s.count + c.lesser-count.result ≤ s.samples = omega arith in
    let small : s.count + c.lesser-count.result < 2 ^ 64 = search rules in search rules

pub returns-clause-posts : goal.returns-clause-posts
returns-clause-posts c =
    let s = c.args.self.now in
    let v = s.pass.seat.me.0 in
    let t = c.in-Holding.ledger in
    let was = sym c.replace-stage.ensures.value ∙ c.in-Holding.is in
    let measured = s.measured t (ap ledger_in was) in
    let many = many_measured s.count s.ahead.measured (lane_items v.name.recording s.lane) measured in
    let size = c.lesser-count.ensures in
    let len = c.len.ensures.value in
    let most = c.requires.most in record {
      held = t;
      left = c.post.new.ledger;
      was = was;
      many = omega arith;
      posts = c.post.ensures.posts;
      view = c.give_lane.ensures.1;
      lane = refl;
      count = refl;
      stage_is = refl;
    }
