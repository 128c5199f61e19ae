use Rattle.std.proofs.Common.{◌≡◌, ◌<◌, ◌≤◌, List, [], ◌∷◌, ◌++◌, All, get_or, map, slice_index, take, take_all, sym, ◌∙◌, ap, subst, arith}
use Rattle.std.proofs.lemmas.List.{get_or-map, length-map, map-append, take_more}
use Rattle.std.proofs.lemmas.List.Elements.{All-append, All-cons, All-nil}
use Rattle.aggregate.specs.Aggregation.{Basic}
use Rattle.pq_base.specs.Recorded.{sample_count}
use Rattle.pq_sequence.specs.declared.basics.BasicInterval.{BasicInterval}
use Rattle.pq_sequence.specs.BasicInterval.{basic_span, begins_segment}
use Rattle.pq_sequence.specs.Measured.{AreBelow, IsMeasured, basic_seen, run_starts}
use Rattle.pq_sequence.specs.MeasuredRecording.{basic_over, basics_over, channel_count}
use Rattle.pq_sequence.proofs.BasicLemmas.{starts_before}
use Rattle.pq_sequence.proofs.WalkLemmas.{below_later}
use Rattle.ten_twelve.specs.declared.span.Span.{Span}
use Rattle.pq_sequence.proofs.basics.basics_over.Goals as goal

-- the fronts that were passed are before this run
pub front_from-next-requires : goal.front_from-next-requires
front_from-next-requires c =
    let runs = c.args.runs.now in
    let i = c.loop-run.run-index in
    let run : Span = get_or runs i (record { start = 0; end = 0 }) in
    let at : slice_index (run_starts runs) i ≡ run.start =
    get_or-map (λ (run : Span). run.start) runs i (record { start = 0; end = 0 }) 0 c.loop-run-test.true in
    record {
      before = subst (λ s. AreBelow s c.args.fronts.now c.loop-run.next) at
          (c.loop-run.invariant.before i (omega arith) c.loop-run-test.true);
    }

-- the interval ends after its start
pub basic-requires-clause-some : goal.basic-requires-clause-some
basic-requires-clause-some c =
    let boundaries = c.args.boundaries.now in
    let runs = c.args.runs.now in
    let i = c.loop-run.run-index in
    let none : Span = record { start = 0; end = 0 } in
    subst (λ (span : Span). span.start < span.end) (sym c.span_of.ensures)
    (starts_before boundaries (sample_count c.args.recording.now) (get_or runs i none)
    (c.requires.runs i none c.loop-run-test.true) c.requires.boundaries)

-- one run more
pub loop-run-preserved : goal.loop-run-preserved
loop-run-preserved c =
    let r = c.args.recording.now in
    let boundaries = c.args.boundaries.now in
    let fronts = c.args.fronts.now in
    let runs = c.args.runs.now in
    let found = c.loop-run.found.items in
    let i = c.loop-run.run-index in
    let inside = c.loop-run-test.true in
    let none : Span = record { start = 0; end = 0 } in
    let run : Span = get_or runs i none in
    let starts = run_starts runs in
    let at : get_or starts i 0 ≡ run.start = get_or-map (λ (run : Span). run.start) runs i none 0 inside in
    let seen : BasicInterval → Basic = basic_seen (channel_count r) in
    let b = c.basic.result in
    record {
      before = λ j from there.
          let later : get_or starts i 0 ≤ get_or starts j 0 = c.requires.rising i j 0 (omega (arith, from))
          (omega (arith, there, length-map runs (λ (run : Span). run.start))) in
          below_later run.start (slice_index starts j) fronts c.front_from-next.result
          (omega (arith, later, at)) c.front_from-next.ensures.before;
      value = λ events are.
          let over = λ (run : Span).
          basic_over r events (basic_span boundaries run) (begins_segment fronts run) in
          let here : seen b ≡ over run = c.basic.ensures.value events are
          ∙ ap (λ span. basic_over r events span c.is_at-front.result) c.span_of.ensures
          ∙ ap (basic_over r events (basic_span boundaries run)) c.is_at-front.ensures in
          ap (map seen) c.in_ok-push.ensures.items
          ∙ map-append seen found (b ∷ [])
          ∙ ap (λ bs. bs ++ seen b ∷ []) (c.loop-run.invariant.value events are)
          ∙ ap (λ x. map over (take i runs) ++ x ∷ []) here
          ∙ sym (ap (map over) (take_more runs i none inside) ∙ map-append over (take i runs) (run ∷ []));
      each = subst (λ (bs : List BasicInterval). All (IsMeasured r) bs) (sym c.in_ok-push.ensures.items)
          (All-append (IsMeasured r) found (b ∷ []) c.loop-run.invariant.each
          (All-cons (IsMeasured r) b [] c.basic.ensures.measured (All-nil (IsMeasured r))));
    }

-- all runs
pub returns-clause-value : goal.returns-clause-value
returns-clause-value c events are =
    c.loop-run.invariant.value events are
    ∙ ap (basics_over c.args.recording.now events c.args.boundaries.now c.args.fronts.now)
    (take_all c.loop-run.run-index c.args.runs.now (omega arith))
