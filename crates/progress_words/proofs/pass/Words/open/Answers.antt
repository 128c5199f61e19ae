use Rattle.std.proofs.Common.{ℕ, ◌+◌, ap, ◌∙◌, subst, [], ◌∷◌, length, length-append, arith}
use Rattle.progress_words.specs.Words.{IsFreshLane, IsFreshReader}
use Rattle.progress_words.proofs.FreshLanes.{fresh_lanes-snoc}
use Rattle.progress_words.proofs.pass.Words.open.Goals as goal

pub loop-lane-preserved : goal.loop-lane-preserved
loop-lane-preserved g c =
    let h = c.loop-lane.invariant in let k = c.loop-lane.lane in let count = h.count in
    let words = c.in_ok-words.words in let pass = c.next_pass-pass.result in
    let old = c.loop-lane.passes.items in
    let pushed = c.in_ok-push.ensures.items in let long = length-append old (pass ∷ []) in
    let Lane : g.row.V.Denot → Type 0 = λ value. IsFreshLane words value k pass in
    let Reader : g.row.V.Denot → Type 0 =
    λ value. IsFreshReader words value (k + 1) c.next_pass-pass.new.reader in
    let Next : ℕ → Type 0 = λ j. IsFreshLane words c.args.value j pass in
    let lane = subst Lane h.words.1 c.next_pass-pass.ensures.lane in
    record {
      words = h.words;
      reader = subst Reader h.words.1 c.next_pass-pass.ensures.reader;
      count = ap length pushed ∙ omega arith;
      lanes = rw pushed (fresh_lanes-snoc words c.args.value 0 old pass h.lanes
          (subst Next (omega arith) lane));
    }
