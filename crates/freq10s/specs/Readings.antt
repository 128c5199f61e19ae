-- What contracts see of `Readings`: the list of the readings that are left.
use Rattle.std.specs.Prelude.{ℕ, ◌-◌, ◌*◌, ◌/◌, ◌≤◌, ◌==◌, List, filter_map, Option, None, Some, if◌then◌else◌}
use Rattle.freq10s.specs.declared.cycles.Cycles.{Cycles}
use Rattle.freq10s.specs.declared.intervals.Interval.{Interval}
use Rattle.freq10s.specs.declared.reading.Reading.{Reading}
use Rattle.freq10s.specs.Frequency.{reading_of}
use Rattle.freq10s.specs.Intervals.{FollowFrom}
use Rattle.pq_words.specs.declared.limits.TheConstants.{MOST_RATE, MOST_SAMPLES}
use Rattle.zero_cross.specs.Boundary.{AreBoundaries}

-- the reading over an interval
abbrev pub reading_over : ℕ → List ℕ → Interval → Option Reading
reading_over rate boundaries i = reading_of rate boundaries i.tick i.start i.end

-- the readings over some intervals
abbrev pub readings_over : ℕ → List ℕ → List Interval → List Reading
readings_over rate boundaries intervals = filter_map (reading_over rate boundaries) intervals

-- the rate is in its limits, and boundaries and intervals are in order
pub record IsSound (rate : ℕ) (boundaries : List ℕ) (intervals : List Interval) : Type 0 where
  pub most : rate ≤ MOST_RATE
  pub rising : AreBoundaries boundaries MOST_SAMPLES
  pub follow : FollowFrom 0 intervals

-- the reading that some cycles give: none where there is no cycle
abbrev pub reading_by : ℕ → Interval → Cycles → Option Reading
reading_by rate i c =
    let samples = c.last - c.first in
    if c.count == 0
    then None
    else Some (record {
      tick = i.tick;
      start = i.start;
      end = i.end;
      cycles = c.count;
      samples = samples;
      microhertz = c.count * rate / samples;
    })
