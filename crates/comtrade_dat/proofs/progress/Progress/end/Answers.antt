use Rattle.std.proofs.Common.{◌≡◌, ◌∙◌, inr, sym, subst, Ok}
use Rattle.comtrade_dat.proofs.ProgressLemmas.{count_decides, ended, fault_decides}
use Rattle.comtrade_dat.proofs.RecordingLemmas.{all_there}
use Rattle.comtrade_dat.specs.Channel.{judged_count}
use Rattle.comtrade_dat.specs.Progress.{IsCounted, IsFedWith}
use Rattle.comtrade_dat.proofs.progress.Progress.end.Goals as goal

-- a record was at fault, or there was no memory
pub returns-in-Some-clause-value : goal.returns-in-Some-clause-value
returns-in-Some-clause-value c = λ positions unread fed h.
    fault_decides c.args.size positions c.args.n fed c.in-Some.fault
    (subst (IsFedWith c.args.size positions c.args.n unread c.args.self fed) c.in-Some.is h)

-- not all records are there, or bytes are left
pub returns-in_err-judge_end-clause-value : goal.returns-in_err-judge_end-clause-value
returns-in_err-judge_end-clause-value c = λ positions unread fed h.
    let counted : IsCounted c.args.size positions c.args.n unread c.args.self fed =
    subst (IsFedWith c.args.size positions c.args.n unread c.args.self fed) c.in_default.is h in
    ended c.args.size positions c.args.n unread fed c.from_residual.result c.in_err-judge_end.field-0.0
    c.from_residual.ensures.1
    (inr (count_decides c.args.size positions c.args.n unread c.args.self fed counted
    ∙ (sym c.judge_end.ensures ∙ c.in_err-judge_end.was)))

-- all is good
pub returns-clause-value : goal.returns-clause-value
returns-clause-value c = λ positions unread fed h.
    let counted : IsCounted c.args.size positions c.args.n unread c.args.self fed =
    subst (IsFedWith c.args.size positions c.args.n unread c.args.self fed) c.in_default.is h in
    let good : judged_count c.args.size c.args.self.decoded.next.index c.args.self.bytes c.args.n
    ≡ Ok (tt {0}) =
    sym c.judge_end.ensures ∙ c.in_ok-judge_end.was in
    record {
      decoded = counted.good.decoded;
      all = all_there c.args.size c.args.self.decoded.next.index c.args.self.bytes c.args.n
          counted.good.within
          good;
      judged = count_decides c.args.size positions c.args.n unread c.args.self fed counted ∙ good;
    }
