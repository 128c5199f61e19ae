use Rattle.std.proofs.Common.{◌≤◌, ◌<◌, ℕ, ◌++◌, sym, ap, ◌∙◌, subst, arith}
use Rattle.lanes.specs.Lane.{lane_count, lane_items, reach}
use Rattle.pq_base.specs.Recorded.{IsRecording, Recorded, sample_count}
use Rattle.progress_words.specs.declared.pass_view.Role.{Role}
use Rattle.progress_words.specs.PassView.{lane_part}
use Rattle.query_session.specs.Bounds.{HasBounds}
use Rattle.query_session.proofs.BoundLaws.{has_bounds}
use Rattle.query_session.proofs.SeatLaws.{no_ledger, not_posted}
use Rattle.query_session.proofs.opening.make_seat.Goals as goal

pub invariant_of-result : goal.invariant_of-result
invariant_of-result c =
    let v = c.args.pass.seat.me.0 in
    let r : Recorded = c.args.sources.now in
    let lane : ℕ = c.args.lane in
    let fresh = c.requires.fresh in
    let ahead = c.in_ok-ahead.ensures in
    let is_recording : IsRecording r =
    subst (λ (x : Recorded). IsRecording x) c.recording.ensures c.len.ensures.conditions in
    let none : 0 ≤ reach r lane 0 = omega arith in record {
      holds = fresh.held;
      place = ap (λ (x : Role). (lane_part x).lane) fresh.role;
      inside = subst (λ (x : Recorded). lane < lane_count x) (sym fresh.recording) c.requires.inside;
      bounds = subst (λ (x : Recorded). HasBounds x v.name.limits) (sym fresh.recording)
          (has_bounds r v.name.limits is_recording);
      end = c.len.ensures.value
          ∙ ap (λ (x : Recorded). sample_count x) (c.recording.ensures ∙ sym fresh.recording);
      given = ap (λ (x : Role). (lane_part x).reach_given) fresh.role
          ∙ ap (λ (x : Recorded). reach x lane 0) (sym fresh.recording);
      counted = omega arith;
      low = subst (λ (x : Role). (lane_part x).word ≤ (lane_part x).reach_given) (sym fresh.role) none;
      left = (λ i. ahead.measured i ++ ahead.unmeasured i) ∙ ap (λ (x : Recorded). lane_items x lane)
          (sym fresh.recording);
      may = λ u e. absurd (no_ledger u e);
      measured = λ u e. absurd (no_ledger u e);
      ready = λ k e none_measured. absurd (not_posted k e);
    }
