use Rattle.std.proofs.Common.{◌≡◌, ◌≤◌, max, sym, ◌∙◌, arith}
use Rattle.pq_base.specs.Recorded.{sample_count}
use Rattle.query_session.proofs.ReadLaws.{all_given, given_item, same_released, withheld_below}
use Rattle.query_session.proofs.reading.read_ledger.Goals as goal

-- the released list is a cut of the result
pub returns-in-Some-clause-answers : goal.returns-in-Some-clause-answers
returns-in-Some-clause-answers c =
    let old = c.args.ledger.now.settlement in let new = c.advance.new.ledger.settlement in
    let same = same_released c.args.ledger.now c.advance.new.ledger c.args.cursor c.advance.ensures.keeps in (
      c.in_default.ensures.ok,
      given_item old.recording old.limits new.mark c.args.cursor c.in-Some.item
          (sym same ∙ (sym c.item_at.ensures.value ∙ c.in-Some.is)),
    )

-- an item that it leaves out ends after the mark
pub returns-then-word-samples-clause-answers : goal.returns-then-word-samples-clause-answers
returns-then-word-samples-clause-answers c =
    let old = c.args.ledger.now.settlement in let new = c.advance.new.ledger.settlement in
    let same = same_released c.args.ledger.now c.advance.new.ledger c.args.cursor c.advance.ensures.keeps in
    let moved : new.mark ≡ max old.mark c.args.word = c.in_default.ensures.ok in
    let more = c.if-word-samples.true in let end = c.requires.end in (
      moved,
      (λ i. c.args.lane),
      (λ i. c.args.word),
      withheld_below old.recording old.limits new.mark
          c.args.word c.args.cursor (sym same ∙ (sym c.item_at.ensures.value ∙ c.in-None.is)) (omega arith)
          (omega arith),
    )

-- at the end it leaves out nothing
pub returns-else-word-samples-clause-answers : goal.returns-else-word-samples-clause-answers
returns-else-word-samples-clause-answers c =
    let old = c.args.ledger.now.settlement in let new = c.advance.new.ledger.settlement in
    let same = same_released c.args.ledger.now c.advance.new.ledger c.args.cursor c.advance.ensures.keeps in
    let moved : new.mark ≡ max old.mark c.args.word = c.in_default.ensures.ok in
    let done = c.if-word-samples.false in let end = c.requires.end in
    let all : sample_count old.recording ≤ c.args.word = omega arith in
    let all_marked : sample_count old.recording ≤ new.mark = omega arith in (
      moved,
      all,
      all_given old.recording old.limits new.mark c.args.cursor c.requires.bounds
          (sym same ∙ (sym c.item_at.ensures.value ∙ c.in-None.is)) all_marked c.requires.cursor,
    )
