use Rattle.std.proofs.Common.{◌≡◌, ◌∙◌, ◌+◌, ◌-◌, ◌*◌, ◌/◌, ◌<◌, ◌≤◌, [], ◌++◌, length, drop, take, ap, sym, subst, arith}
use Rattle.std.proofs.lemmas.List.{drop-drop, length-drop, take_all}
use Rattle.comtrade_dat.proofs.ProgressLemmas.{decoded_further, decoded_longer, faulty_run, left_longer, refused, whole_run}
use Rattle.comtrade_dat.proofs.RecordingLemmas.{past_whole}
use Rattle.comtrade_dat.specs.declared.run_start.RunStart.{RunStart}
use Rattle.comtrade_dat.proofs.progress.Progress.decode_run.Goals as goal

-- all records are there
pub returns-then-to_come-eq0-clause-good : goal.returns-then-to_come-eq0-clause-good
returns-then-to_come-eq0-clause-good g c = λ unread fed h.
    let all : c.args.n ≤ c.args.self.now.decoded.next.index = omega arith in
    record {
      decoded = decoded_longer c.args.size c.args.positions.now unread c.args.self.now.decoded fed
          c.args.run.now h.decoded;
      within = h.within;
      cut = λ to_come. absurd (omega (arith, all, to_come));
      short = h.short;
      closed = h.closed;
    }

-- a record is at fault, or there was no memory
pub returns-in_err-take_run-clause-good : goal.returns-in_err-take_run-clause-good
returns-in_err-take_run-clause-good g c = λ unread fed h.
    let size = c.args.size in
    let p = c.args.self.now in
    let run = c.args.run.now in
    let count = c.min-count.result in
    let few : count ≤ length run / size = omega arith in
    let to_come : p.decoded.next.index < c.args.n = omega arith in
    let is : run ≡ drop (size * p.decoded.next.index) (fed ++ run) =
    left_longer (size * p.decoded.next.index) fed run [] h.decoded.whole
    (sym c.requires.uncut ∙ h.cut to_come) in
    refused _ _ c.from_residual.result c.in_err-take_run.field-0.0 c.from_residual.ensures.1
    (faulty_run size c.args.positions.now c.args.n unread p fed run run count c.in_err-take_run.field-0.0 h is
    (whole_run size count (length run) few) (omega arith) c.in_err-take_run.ensures.value)

-- the bytes of a record that is cut off are kept
pub returns-in_ok-extend_from_slice-clause-good : goal.returns-in_ok-extend_from_slice-clause-good
returns-in_ok-extend_from_slice-clause-good g c = λ unread fed h.
    let size = c.args.size in
    let n = c.args.n in
    let p = c.args.self.now in
    let run = c.args.run.now in
    let count = c.min-count.result in
    let at = size * p.decoded.next.index in
    let all : count ≡ length run / size = omega arith in
    let few : count ≤ length run / size = omega (arith, all) in
    let to_come : p.decoded.next.index + count < n = omega arith in
    let is : run ≡ drop at (fed ++ run) =
    left_longer at fed run [] h.decoded.whole (sym c.requires.uncut ∙ h.cut (omega (arith, to_come))) in
    let whole = whole_run size count (length run) few in
    let kept : c.extend_from_slice.new.self.items ≡ drop (size * count) run =
    c.in_ok-extend_from_slice.ensures.items
    ∙ (ap (λ l. l ++ take (length run - size * count) (drop (size * count) run)) c.requires.uncut
    ∙ take_all (length run - size * count) (drop (size * count) run)
    (omega (arith, length-drop (size * count) run))) in
    let index : c.take_run.new.self.next.index ≡ p.decoded.next.index + count =
    ap (λ (start : RunStart). start.index) c.in_ok-take_run.ensures.next in
    let joined : at + size * count ≡ size * (p.decoded.next.index + count) = omega arith in
    let some : 0 < size = omega (arith, c.requires.layout.least) in
    let past : length run < size * (count + 1) =
    subst (λ k. length run < size * (k + 1)) (sym all) (past_whole size (length run) some) in
    let next : size * (count + 1) ≡ size * count + size = omega arith in
    record {
      decoded = decoded_further size c.args.positions.now unread p.decoded c.take_run.new.self (fed ++ run)
          run
          count (decoded_longer size c.args.positions.now unread p.decoded fed run h.decoded) is whole
          c.in_ok-take_run.ensures.value c.in_ok-take_run.ensures.read c.in_ok-take_run.ensures.next;
      within = omega (arith, index, to_come);
      cut = λ later. kept
          ∙ (ap (drop (size * count)) is
          ∙ (drop-drop (size * count) at (fed ++ run)
          ∙ (ap (λ k. drop k (fed ++ run)) joined
          ∙ ap (λ k. drop (size * k) (fed ++ run)) (sym index))));
      short = omega (arith, ap length kept, length-drop (size * count) run, past, next);
      closed = λ full. absurd (omega (arith, full, index, to_come));
    }

-- n records are there
pub returns-else-count-to_come-clause-good : goal.returns-else-count-to_come-clause-good
returns-else-count-to_come-clause-good g c = λ unread fed h.
    let size = c.args.size in
    let n = c.args.n in
    let p = c.args.self.now in
    let run = c.args.run.now in
    let count = c.min-count.result in
    let at = size * p.decoded.next.index in
    let few : count ≤ length run / size = omega arith in
    let to_come : p.decoded.next.index < n = omega arith in
    let all : p.decoded.next.index + count ≡ n = omega arith in
    let is : run ≡ drop at (fed ++ run) =
    left_longer at fed run [] h.decoded.whole (sym c.requires.uncut ∙ h.cut to_come) in
    let index : c.take_run.new.self.next.index ≡ p.decoded.next.index + count =
    ap (λ (start : RunStart). start.index) c.in_ok-take_run.ensures.next in
    record {
      decoded = decoded_further size c.args.positions.now unread p.decoded c.take_run.new.self (fed ++ run)
          run
          count (decoded_longer size c.args.positions.now unread p.decoded fed run h.decoded) is
          (whole_run size count (length run) few) c.in_ok-take_run.ensures.value
          c.in_ok-take_run.ensures.read c.in_ok-take_run.ensures.next;
      within = omega (arith, index, all);
      cut = λ later. absurd (omega (arith, later, index, all));
      short = h.short;
      closed = λ full. c.requires.uncut;
    }
