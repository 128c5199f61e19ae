use Rattle.std.proofs.Common.{◌∙◌, ◌+◌, ◌++◌, length, ap, sym, subst}
use Rattle.std.proofs.lemmas.List.{length-append}
use Rattle.comtrade_dat.proofs.ProgressLemmas.{faulty_longer}
use Rattle.comtrade_dat.specs.Progress.{IsCounted, IsFedWith}
use Rattle.comtrade_dat.proofs.progress.Progress.feed.Goals as goal

-- a fault stays
pub returns-in-Some-clause-fed : goal.returns-in-Some-clause-fed
returns-in-Some-clause-fed g c = λ unread fed h.
    let size = c.args.size in
    let positions = c.args.positions.now in
    let n = c.args.n in
    let p = c.args.self.now in
    let piece = c.args.piece.now in
    subst (IsFedWith size positions n unread p (fed ++ piece)) (sym c.in-Some.is)
    (faulty_longer size positions n fed piece c.in-Some.fault
    (subst (IsFedWith size positions n unread p fed) c.in-Some.is h))

-- good bytes go on
pub returns-in-Ok-clause-fed : goal.returns-in-Ok-clause-fed
returns-in-Ok-clause-fed g c = λ unread fed h.
    let size = c.args.size in
    let positions = c.args.positions.now in
    let n = c.args.n in
    let p = c.args.self.now in
    let later = c.feed_good.new.self in
    let piece = c.args.piece.now in
    let counted : IsCounted size positions n unread p fed =
    subst (IsFedWith size positions n unread p fed) c.in_default.is h in
    let on : IsCounted size positions n unread later (fed ++ piece) = record {
      good = c.in-Ok.ensures.good unread fed counted.good;
      bytes = c.in-Ok.ensures.bytes
          ∙ (ap (λ k. k + length piece) counted.bytes ∙ sym (length-append fed piece));
    } in
    subst (IsFedWith size positions n unread later (fed ++ piece))
    (sym (c.in-Ok.ensures.fault ∙ c.in_default.is))
    on
