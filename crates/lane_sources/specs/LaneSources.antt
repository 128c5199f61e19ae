-- What contracts see of `LaneSources`: the recording, whose basic intervals it keeps.
use Rattle.std.specs.Prelude.{◌≡◌, List, All}
use Rattle.lane_sources.specs.Sampler.{LiesIn, recorded_spans}
use Rattle.pq_base.specs.Recorded.{Recorded, sample_count}
use Rattle.ten_twelve.specs.declared.span.Span.{Span}

-- the basic intervals of a recording (4.5), which lie among its samples
pub record AreSpansOf (r : Recorded) (spans : List Span) : Type 0 where
  pub value : spans ≡ recorded_spans r
  pub within : All (LiesIn (sample_count r)) spans
