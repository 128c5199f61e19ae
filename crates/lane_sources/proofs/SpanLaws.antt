-- The basic intervals of a recording, as spans of places.
use Rattle.std.proofs.Common.{◌≡◌, ℕ, List, length, map, All, arith}
use Rattle.std.proofs.lemmas.List.Elements.{All-map, All-weaker}
use Rattle.std.proofs.lemmas.Simd.{map-map}
use Rattle.lane_sources.specs.Sampler.{LiesIn, recorded_spans}
use Rattle.lanes.specs.Lane.{recorded_runs, sampler_items, value_over}
use Rattle.pq_base.specs.Recorded.{Recorded, samples_at}
use Rattle.pq_sequence.specs.BasicInterval.{IsRun, basic_span}
use Rattle.pq_sequence.specs.MeasuredRecording.{reference_cycles}
use Rattle.pq_sequence.proofs.BasicLemmas.{starts_before}
use Rattle.ten_twelve.specs.declared.span.Span.{Span}
use Rattle.zero_cross.specs.Boundary.{AreBoundaries}

-- runs of cycles between boundaries among n places span such places
pub spans_lie : (boundaries : List ℕ) (n : ℕ) (runs : List Span) → AreBoundaries boundaries n →
    All (IsRun (length boundaries)) runs → All (LiesIn n) (map (basic_span boundaries) runs)
spans_lie boundaries n runs are each =
    All-map (LiesIn n) (basic_span boundaries) runs
    (All-weaker (IsRun (length boundaries)) (λ run. LiesIn n (basic_span boundaries run))
    (λ run is. record {
      some = starts_before boundaries n run is are;
      inside = omega (arith, are.below run.end 0 is.there);
    }) runs each)

-- the values over the recording's spans are the items of the channel's sampler
pub sampled : (r : Recorded) (position : ℕ) →
    map (value_over (samples_at r position)) (recorded_spans r) ≡ sampler_items r position
sampled r position =
    map-map (value_over (samples_at r position)) (basic_span (reference_cycles r)) (recorded_runs r)
