use Rattle.std.proofs.Common.{sym, ◌∙◌, ap}
use Rattle.interval_ledger.specs.Segment.{is_first_of_segment}
use Rattle.interval_ledger.proofs.SegmentLaws.{told_by_first}
use Rattle.interval_ledger.proofs.segments.begins_at.Goals as goal

-- the first place that is not passed tells it
pub returns-in-Some-clause-value : goal.returns-in-Some-clause-value
returns-in-Some-clause-value c =
    let places = c.args.places.now in
    let said = c.passed_by.ensures in
    c.is_by.ensures
    ∙ sym (told_by_first c.in-Some.before c.args.start c.passed_by.result places c.requires.rising
    said.earlier said.later)
    ∙ ap (λ before. is_first_of_segment places before c.args.start) (sym c.in-Some.is)
