-- What contracts see of `Sampler`: the list of the basic values that are left.
use Rattle.std.specs.Prelude.{ℕ, ℤ, ◌<◌, ◌≤◌, List, length, map, drop, All}
use Rattle.lanes.specs.declared.lane_item.LaneItem.{LaneItem}
use Rattle.lanes.specs.Lane.{recorded_runs, value_over}
use Rattle.pq_base.specs.Recorded.{Recorded}
use Rattle.pq_sequence.specs.BasicInterval.{basic_span}
use Rattle.pq_sequence.specs.MeasuredRecording.{reference_cycles}
use Rattle.pq_words.specs.Samples.{AreSamples}
use Rattle.ten_twelve.specs.declared.span.Span.{Span}

-- the basic intervals of a recording, as spans of places (4.5)
abbrev pub recorded_spans : Recorded → List Span
recorded_spans r = map (basic_span (reference_cycles r)) (recorded_runs r)

-- a span has places, which lie among n
pub record LiesIn (n : ℕ) (span : Span) : Type 0 where
  pub some : span.start < span.end
  pub inside : span.end ≤ n

-- the basic values over the spans from an index on
abbrev pub values_left : List ℤ → List Span → ℕ → List LaneItem
values_left samples spans index = map (value_over samples) (drop index spans)

-- roots can be taken over the spans
pub record IsSound (s : List ℤ) (places : List Span) : Type 0 where
  pub samples : AreSamples s
  pub spans : All (LiesIn (length s)) places
