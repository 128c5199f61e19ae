use Rattle.std.proofs.Common.{◌≡◌, ℕ, List, length, map, All, subst, sym, ◌∙◌, ap}
use Rattle.std.proofs.lemmas.Result.{IfOk-weaker}
use Rattle.lane_sources.specs.Sampler.{LiesIn}
use Rattle.lane_sources.proofs.SpanLaws.{spans_lie}
use Rattle.lanes.specs.Lane.{recorded_runs}
use Rattle.pq_base.specs.Recorded.{sample_count}
use Rattle.pq_sequence.specs.BasicInterval.{IsRun, basic_span}
use Rattle.pq_sequence.specs.Lists.{Gives}
use Rattle.pq_sequence.specs.MeasuredRecording.{reference_cycles, runs_of}
use Rattle.lane_sources.proofs.spans.basic_spans.Goals as goal

-- the spans of the runs between the boundaries
pub returns-clause-value : goal.returns-clause-value
returns-clause-value c =
    let r = c.args.recording.now in
    let runs : c.in-Ok.runs.items ≡ recorded_runs r = c.in-Ok.ensures.value
    ∙ ap (runs_of r) (c.deref.ensures.value ∙ c.in_ok-boundaries.ensures.value) in
    subst (Gives c.spans_of.result)
    (ap (λ boundaries. map (basic_span boundaries) c.deref-3.result.now)
    (c.deref-2.ensures.value ∙ c.in_ok-boundaries.ensures.value)
    ∙ ap (map (basic_span (reference_cycles r))) (c.deref-3.ensures.value ∙ runs))
    c.spans_of.ensures

-- which lie among the samples
pub returns-clause-within : goal.returns-clause-within
returns-clause-within c =
    let n = sample_count c.args.recording.now in
    let boundaries = c.in_ok-boundaries.boundaries.items in
    let runs = c.in-Ok.runs.items in
    let given = map (basic_span c.deref-2.result.now) c.deref-3.result.now in
    let each : All (IsRun (length boundaries)) runs =
    subst (λ (xs : List ℕ). All (IsRun (length xs)) runs) c.deref.ensures.value c.in-Ok.ensures.within in
    let spans : given ≡ map (basic_span boundaries) runs =
    ap (λ xs. map (basic_span xs) c.deref-3.result.now) c.deref-2.ensures.value
    ∙ ap (map (basic_span boundaries)) c.deref-3.ensures.value in
    IfOk-weaker c.spans_of.result (λ found. found.items ≡ given) (λ found. All (LiesIn n) found.items)
    (λ found is. subst (λ xs. All (LiesIn n) xs) (sym (is ∙ spans))
    (spans_lie boundaries n runs c.in_ok-boundaries.ensures.within each))
    c.spans_of.ensures
