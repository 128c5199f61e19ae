use Rattle.std.proofs.Common.{◌≡◌, ◌∙◌, ◌+◌, sym, arith, rules, Err}
use Rattle.comtrade_dat.proofs.JudgingLemmas.{fault_among, judged_next}
use Rattle.comtrade_dat.specs.Run.{judged_in, judged_run}
use Rattle.comtrade_dat.specs.Samples.{first_fault}
use Rattle.comtrade_dat.proofs.judging.judge_records.Goals as goal

-- the first record at fault
pub returns-in_err-judge_record : goal.returns-in_err-judge_record
returns-in_err-judge_record c =
    let size = c.args.size in
    let positions = c.args.positions.now in
    let run = c.args.run.now in
    let index = c.loop-index.index in
    let e = c.in_err-judge_record.field-0.0 in
    let judged = judged_in size positions c.args.start run in
    let found : first_fault (judged_run size positions c.args.start run (index + 1)) ≡ Err e =
    judged_next judged index c.loop-index.invariant
    ∙ (sym c.judge_record.ensures ∙ c.in_err-judge_record.was) in
    let all = fault_among judged e (index + 1) c.args.end (omega arith) found in
    rw all (search rules)

-- one more good record
pub loop-index-preserved : goal.loop-index-preserved
loop-index-preserved c =
    judged_next (judged_in c.args.size c.args.positions.now c.args.start c.args.run.now) c.loop-index.index
    c.loop-index.invariant
    ∙ (sym c.judge_record.ensures ∙ c.in_ok-judge_record.was)
