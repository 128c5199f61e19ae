use Rattle.std.proofs.Common.{◌≡◌, ◌∙◌, ◌+◌, ◌-◌, ◌*◌, ◌≤◌, ◌++◌, length, drop, ap, sym, arith}
use Rattle.std.proofs.lemmas.List.{drop_all, length-append, length-drop}
use Rattle.comtrade_dat.proofs.ProgressLemmas.{cut_longer, decoded_further, decoded_longer, faulty_run, refused, still_open}
use Rattle.comtrade_dat.specs.declared.run_start.RunStart.{RunStart}
use Rattle.comtrade_dat.proofs.progress.Progress.decode_cut.Goals as goal

-- the record that is whole now is at fault, or there was no memory
pub returns-in_err-take_run-clause-good : goal.returns-in_err-take_run-clause-good
returns-in_err-take_run-clause-good g c = λ unread fed h.
    let size = c.args.size in
    let positions = c.args.positions.now in
    let n = c.args.n in
    let p = c.args.self.now in
    let lacking = c.args.lacking.now in
    let to_come = still_open size positions n unread p fed h c.requires.some in
    let run : c.as_slice.result.now ≡ p.cut.items ++ lacking =
    c.as_slice.ensures.value ∙ c.in_ok-extend_from_slice.ensures.items in
    let whole : size * 1 ≤ length c.as_slice.result.now =
    omega (arith, ap length run, length-append p.cut.items lacking, c.requires.whole) in
    refused _ _ c.from_residual-in_err-take_run.result c.in_err-take_run.field-0.0
    c.from_residual-in_err-take_run.ensures.1
    (faulty_run size positions n unread p fed lacking c.as_slice.result.now 1 c.in_err-take_run.field-0.0 h
    (run ∙ cut_longer size positions n unread p fed lacking h to_come) whole (omega (arith, to_come))
    c.in_err-take_run.ensures.value)

-- it is good
pub returns-clause-good : goal.returns-clause-good
returns-clause-good g c = λ unread fed h.
    let size = c.args.size in
    let positions = c.args.positions.now in
    let n = c.args.n in
    let p = c.args.self.now in
    let lacking = c.args.lacking.now in
    let at = size * p.decoded.next.index in
    let to_come = still_open size positions n unread p fed h c.requires.some in
    let run : c.as_slice.result.now ≡ p.cut.items ++ lacking =
    c.as_slice.ensures.value ∙ c.in_ok-extend_from_slice.ensures.items in
    let whole : size * 1 ≤ length c.as_slice.result.now =
    omega (arith, ap length run, length-append p.cut.items lacking, c.requires.whole) in
    let index : c.take_run.new.self.next.index ≡ p.decoded.next.index + 1 =
    ap (λ (start : RunStart). start.index) c.in_ok-take_run.ensures.next in
    let left : length p.cut.items ≡ length fed - at =
    ap length (h.cut to_come) ∙ length-drop at fed in
    let more : size * (p.decoded.next.index + 1) ≡ at + size = omega arith in
    let all : length (fed ++ lacking) ≤ size * (p.decoded.next.index + 1) =
    omega (arith, length-append fed lacking, left, h.decoded.whole, c.requires.whole, more) in
    record {
      decoded = decoded_further size positions unread p.decoded c.take_run.new.self (fed ++ lacking)
          c.as_slice.result.now 1
          (decoded_longer size positions unread p.decoded fed lacking h.decoded)
          (run ∙ cut_longer size positions n unread p fed lacking h to_come) whole
          c.in_ok-take_run.ensures.value c.in_ok-take_run.ensures.read c.in_ok-take_run.ensures.next;
      within = omega (arith, index, to_come);
      cut = λ later. c.clear.ensures.items
          ∙ (sym (drop_all (size * (p.decoded.next.index + 1)) (fed ++ lacking) all)
          ∙ ap (λ k. drop (size * k) (fed ++ lacking)) (sym index));
      short = omega (arith, ap length c.clear.ensures.items, c.requires.layout.least);
      closed = λ full. c.clear.ensures.items;
    }
