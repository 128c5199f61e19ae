use Rattle.std.proofs.Common.{List, map, All, subst, sym, ◌∙◌, ap}
use Rattle.lane_sources.specs.Sampler.{LiesIn}
use Rattle.lane_sources.proofs.SpanLaws.{sampled}
use Rattle.lanes.specs.Lane.{value_over}
use Rattle.pq_base.specs.Recorded.{sample_count, samples_at}
use Rattle.ten_twelve.specs.declared.span.Span.{Span}
use Rattle.lane_sources.proofs.sampler.Sampler.open.Goals as goal

-- the spans lie in the samples, of which roots can be taken
pub invariant_of-result : goal.invariant_of-result
invariant_of-result c = record {
  samples = c.samples.ensures.within;
  spans = subst (λ n. All (LiesIn n) c.in_ok-from_slice.field-0.items) (sym c.samples.ensures.count)
      (subst (λ (spans : List Span). All (LiesIn (sample_count c.args.recording.now)) spans)
      (sym c.in_ok-from_slice.ensures.items) c.requires.spans.within);
}

-- the values over all spans
pub returns : goal.returns
returns c =
    let r = c.args.recording.now in
    ap (λ samples. map (value_over samples) c.in_ok-from_slice.field-0.items) c.samples.ensures.value
    ∙ ap (map (value_over (samples_at r c.args.position)))
    (c.in_ok-from_slice.ensures.items ∙ c.requires.spans.value)
    ∙ sampled r c.args.position
