-- The subject: power frequency, the whole cycles in a 10-second interval of the clock by their duration
-- (5.1). Which boundaries cycles have, and the rounding, is profile.
-- Sections are those of IEC 61000-4-30:2015; "profile" marks a choice of this project.
use Rattle.std.specs.Prelude.{ℕ, ◌-◌, ◌*◌, ◌/◌, ◌&&◌, nat_le, List, length, filter, filter_map, zip, drop, ℤ, Option, None, Some, slice_index, if◌then◌else◌}
use Rattle.freq10s.specs.declared.reading.Reading.{Reading}
use Rattle.pq_time.specs.declared.clock.Clock.{Clock}
use Rattle.pq_time.specs.Tick.{tick_place, ticks}

-- the cycle boundaries from a place to another, both included
abbrev pub boundaries_within : List ℕ → ℕ → ℕ → List ℕ
boundaries_within cycle_boundaries p q = filter (λ b. nat_le p b && nat_le b q) cycle_boundaries

-- the reading of a tick, whose interval is from place p up to place q: the cycles between the first and the
-- last boundary in it, times the rate, by their samples, in microhertz (5.1); none with fewer than two
-- boundaries (profile)
unfoldable pub reading_of : ℕ → List ℕ → ℤ → ℕ → ℕ → Option Reading
reading_of rate cycle_boundaries tick p q =
    let within = boundaries_within cycle_boundaries p q in
    let cycles = length within - 1 in
    let samples = slice_index within cycles - slice_index within 0 in
    if nat_le 2 (length within)
    then Some (record {
      tick = tick;
      start = p;
      end = q;
      cycles = cycles;
      samples = samples;
      microhertz = cycles * rate / samples;
    })
    else None

-- the readings of the 10-second ticks that another follows (5.1)
unfoldable pub readings : Clock → ℕ → List ℕ → List Reading
readings clock n cycle_boundaries =
    let all = ticks clock n 10 in
    filter_map
    (λ pair.
    reading_of clock.rate cycle_boundaries pair.0 (tick_place clock n pair.0) (tick_place clock n pair.1))
    (zip all (drop 1 all))
