use Rattle.std.proofs.Common.{ℕ, [], ◌∷◌, length, length-append, ap, ◌∙◌, subst, arith}
use Rattle.progress_words.specs.Words.{AreFreshLanes, opening_of}
use Rattle.query_session.specs.Chain.{IsFreshSeat, limits_at}
use Rattle.query_session.proofs.OpenLaws.{lane_first, seats_snoc}
use Rattle.query_session.proofs.opening.make_seats.Goals as goal

pub loop-pass-preserved : goal.loop-pass-preserved
loop-pass-preserved c =
    let h = c.loop-pass.invariant in
    let chain = c.args.chain.now in
    let r = c.args.sources.now in
    let seat = c.in_ok-seat.seat in
    let lane = c.loop-pass.lane in
    let value = opening_of chain.words in let limits = limits_at chain in
    let fresh = subst (AreFreshLanes chain.words value lane) c.in-Some.ensures.steps.0 h.passes in
    let made = c.in_ok-seat.ensures in
    let view = ap (λ s. s.me.0) made.pass_is
    ∙ (fresh.0.1 ∙ lane_first r limits value lane c.requires.opening) in
    let pushed = c.in_ok-push.ensures.items in let size = h.size in let left = h.left in
    let long = length-append c.loop-pass.seats.items (seat ∷ []) in
    let one = ap length c.in-Some.ensures.steps.0 in
    let is : IsFreshSeat chain r limits lane seat = record {
      mine = ap (λ s. s.table_id) made.pass_is ∙ fresh.0.0;
      view = view;
      lane_is = made.lane_is;
      count = made.count;
      idle = made.idle;
    } in record {
      can = tt;
      ends = tt;
      size = ap length pushed ∙ omega arith;
      left = omega arith;
      passes = fresh.1;
      seats = rw pushed (seats_snoc chain r limits 0 c.loop-pass.seats.items seat h.seats
          (subst (λ (j : ℕ). IsFreshSeat chain r limits j seat) (omega arith) is));
    }
