use Rattle.std.proofs.Common.{◌≡◌, ◌∙◌, FitsSigned, w64, sym, ap, arith, not, true, false, bytes_eq}
use Rattle.std.proofs.lemmas.Int.{ints, to_z-of_z}
use Rattle.std.proofs.lemmas.Slice.Eq.{bytes_eq-Decides}
use Rattle.pq_items.specs.ItemRange.{IsTickInRange}
use Rattle.pq_report.specs.ReportText.{second_text}
use Rattle.pq_report.proofs.NamesLemmas.{not_is}
use Rattle.pq_report.proofs.TickLemmas.{none_shown, other_shown, second_found}
use Rattle.pq_report.proofs.values.read_second.Goals as goal

-- no second is shown
pub returns-in_err-second : goal.returns-in_err-second
returns-in_err-second c = c.from_residual.ensures ∙ sym (none_shown c.args.field.now c.shown_second.result
    c.shown_second.ensures.value c.in_err-second.was)

-- one out of range
pub returns-then-unsigned_abs-gt-MOST_TICK : goal.returns-then-unsigned_abs-gt-MOST_TICK
returns-then-unsigned_abs-gt-MOST_TICK c = sym (other_shown c.args.field.now c.shown_second.result
    c.in_ok-second.second c.shown_second.ensures.value c.in_ok-second.was
    (λ range text. omega (
      arith,
      ints,
      range,
      c.unsigned_abs.ensures.value,
      c.if-unsigned_abs-gt-MOST_TICK.true,
    )))

-- one with another text
pub returns-then-ne : goal.returns-then-ne
returns-then-ne c = sym (other_shown c.args.field.now c.shown_second.result
    c.in_ok-second.second c.shown_second.ensures.value c.in_ok-second.was
    (λ range text.
    let fits : FitsSigned w64 c.in_ok-second.second = omega (arith, ints, range) in
    let moment : c.tick_moment.result ≡ second_text c.in_ok-second.second =
    simp to_z-of_z at c.tick_moment.ensures in
    let same : c.args.field.now ≡ c.as_slice.result.now = text ∙ sym moment ∙ sym c.as_slice.ensures in
    let yes : bytes_eq c.args.field.now c.as_slice.result.now ≡ true =
    (bytes_eq-Decides c.args.field.now c.as_slice.result.now).1 same in
    let bad : true ≡ false = sym c.if-ne.true ∙ c.ne.ensures ∙ ap not yes in
    absurd cc))

pub returns : goal.returns
returns c =
    let range : IsTickInRange c.in_ok-second.second = omega (
      arith,
      ints,
      c.unsigned_abs.ensures.value,
      c.if-unsigned_abs-gt-MOST_TICK.false,
      c.in_ok-second.ensures.within,
    ) in
    let fits : FitsSigned w64 c.in_ok-second.second = omega (arith, ints, range) in
    let moment : c.tick_moment.result ≡ second_text c.in_ok-second.second =
    simp to_z-of_z at c.tick_moment.ensures in
    let yes : bytes_eq c.args.field.now c.as_slice.result.now ≡ true =
    not_is (bytes_eq c.args.field.now c.as_slice.result.now) c.ne.result false c.if-ne.false c.ne.ensures in
    let text : c.args.field.now ≡ second_text c.in_ok-second.second =
    (bytes_eq-Decides c.args.field.now c.as_slice.result.now).0 yes ∙ c.as_slice.ensures ∙ moment in
    simp to_z-of_z (sym (second_found c.args.field.now c.in_ok-second.second range text))
