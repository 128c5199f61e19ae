use Rattle.std.proofs.Common.{length, sym, ap, ◌∙◌, subst, arith}
use Rattle.lanes.specs.Lane.{lane_count}
use Rattle.pq_base.specs.Recorded.{Recorded, sample_count}
use Rattle.progress_words.specs.declared.pass_view.Role.{Role}
use Rattle.progress_words.specs.PassView.{reader_part}
use Rattle.query_session.specs.Bounds.{HasBounds}
use Rattle.query_session.proofs.BoundLaws.{has_bounds}
use Rattle.query_session.proofs.HoldLaws.{none_held, none_seen}
use Rattle.query_session.proofs.OpenLaws.{zeros_long}
use Rattle.query_session.proofs.opening.make_session.Goals as goal

pub invariant_of-result : goal.invariant_of-result
invariant_of-result c =
    let v = c.args.pass.seat.me.0 in
    let r : Recorded = c.args.recording.now in
    let fresh = c.requires.fresh in record {
      holds = fresh.held;
      looked = none_seen (reader_part v.role).words_read;
      may = none_held v.name (reader_part v.role).words_read;
      lanes = ap (λ (x : Role). length (reader_part x).words_read) fresh.role
          ∙ (zeros_long (lane_count r) ∙ ap (λ (x : Recorded). lane_count x) (sym fresh.recording));
      bounds = subst (λ (x : Recorded). HasBounds x v.name.limits) (sym fresh.recording)
          (has_bounds r v.name.limits c.len.ensures.conditions);
      end = c.len.ensures.value ∙ ap (λ (x : Recorded). sample_count x) (sym fresh.recording);
      within = omega arith;
    }
