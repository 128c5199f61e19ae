-- The subject: aggregation of basic intervals to 150/180 cycles, 10 minutes and 2 hours (4.5), with flags
-- (4.7). Which intervals they contain at a tick, and which are there, is profile.
-- Sections are those of IEC 61000-4-30:2015; "profile" marks a choice of this project.
use Rattle.std.specs.Prelude.{ℕ, ◌+◌, ◌-◌, Bool, ◌&&◌, ◌==◌, false, nat_lt, nat_le, List, length, map, find, zip, drop, filter_map, ℤ, Option, None, Some, option_map, option_and_then, unwrap_or, slice_get, slice_index, slice_range, if◌then◌else◌}
use Rattle.std.specs.Option.{option_map_or}
use Rattle.std.specs.List.{list_any}
use Rattle.std.specs.Ordering.{int_eq}
use Rattle.aggregate.specs.declared.group.Group.{Group}
use Rattle.fixed_rms.specs.Root.{root_mean}
use Rattle.pq_time.specs.declared.clock.Clock.{Clock}
use Rattle.pq_time.specs.Tick.{tick_place, ticks}
use Rattle.pq_words.specs.First.{first_between}
use Rattle.pq_words.specs.Steps.{numbers_below, steps_from}
use Rattle.ten_twelve.specs.Run.{runs, marked}

-- an interval of all channels: its span, a value in microvolts for each channel, and its flag
pub record Part : Type 0 where
  pub start : ℕ
  pub end : ℕ
  pub values : List ℕ
  pub flagged : Bool

-- a basic interval, and whether it is the first of a segment: of those that follow one tick (4.5)
pub record Basic : Type 0 where
  pub front : Bool
  pub part : Part

-- the parts of basic intervals
abbrev pub parts_of : List Basic → List Part
parts_of basics = map (λ b. b.part) basics

-- the start of the first of some parts, and the end of the last
abbrev pub first_start : List Part → ℕ
first_start parts = option_map_or (λ p. p.start) (slice_get parts 0) 0

abbrev pub last_end : List Part → ℕ
last_end parts = option_map_or (λ p. p.end) (slice_get parts (length parts - 1)) 0

-- the root of a channel's values (4.5), and 0 past the channels
abbrev pub channel_root : ℕ → List Part → ℕ → ℕ
channel_root channels parts channel =
    if nat_lt channel channels then root_mean (map (λ p. slice_index p.values channel) parts) else 0

-- the interval that contains the parts: their span, the root of their values (4.5), flagged where one of them
-- is (4.7)
unfoldable pub group_of : Option ℤ → ℕ → List Part → Group
group_of tick channels parts = record {
  tick = tick;
  start = first_start parts;
  end = last_end parts;
  count = length parts;
  flagged = list_any (λ p. p.flagged) parts;
  values = map (channel_root channels parts) (numbers_below 16);
}

-- a group as a part of a greater one
abbrev pub as_part : Group → Part
as_part g = record { start = g.start; end = g.end; values = g.values; flagged = g.flagged }

-- the indices of the basic intervals that begin a segment
abbrev pub segment_starts : List Basic → List ℕ
segment_starts basics = marked (map (λ b. b.front) basics)

-- the 150/180-cycle intervals: runs of fifteen basic intervals, begun anew at each segment (4.5); one that a
-- segment's end interrupts is completed with the basic intervals that follow (profile)
unfoldable pub short_groups : ℕ → List Basic → List Group
short_groups channels basics =
    map (λ run. group_of None channels (parts_of (slice_range basics run.start run.end)))
    (runs (segment_starts basics) 15 (length basics))

-- the basic interval at index i begins a segment, at the place or after it
abbrev pub is_front_from : List Basic → ℕ → ℕ → Bool
is_front_from basics place i =
    option_map_or (λ b. b.front && nat_le place b.part.start) (slice_get basics i) false

-- where the segment that begins at index k ends: at the next one that begins, or at the end
abbrev pub segment_end : List Basic → ℕ → ℕ
segment_end basics k =
    unwrap_or (first_between (is_front_from basics 0) (k + 1) (length basics)) (length basics)

-- the basic intervals of the segment that begins at index k
abbrev pub segment_at : List Basic → ℕ → List Basic
segment_at basics k = slice_range basics k (segment_end basics k)

-- a tick's segment: the first that begins at the tick's place or after it, if there is one (4.5)
unfoldable pub segment_of : List Basic → ℕ → Option (List Basic)
segment_of basics place =
    option_map (segment_at basics) (first_between (is_front_from basics place) 0 (length basics))

-- some part begins before the place and ends at it or after it
abbrev pub reaches : List Part → ℕ → Bool
reaches parts place = list_any (λ p. nat_lt p.start place && nat_le place p.end) parts

-- the 10-minute interval of a tick: all of its segment (4.5), where that reaches the next tick (profile)
unfoldable pub ten_group : Clock → ℕ → ℕ → List Basic → ℤ → ℤ → Option Group
ten_group clock n channels basics tick next =
    option_and_then
    (λ segment.
    if reaches (parts_of segment) (tick_place clock n next)
    then Some (group_of (Some tick) channels (parts_of segment)) else None)
    (segment_of basics (tick_place clock n tick))

-- each tick with the next, as the ticks of a period follow one another
abbrev pub tick_pairs : Clock → ℕ → ℕ → List (ℤ × ℤ)
tick_pairs clock n period = let all = ticks clock n period in zip all (drop 1 all)

-- the 10-minute intervals, by tick (4.5)
unfoldable pub ten_groups : Clock → ℕ → ℕ → List Basic → List Group
ten_groups clock n channels basics =
    filter_map (λ p. ten_group clock n channels basics p.0 p.1) (tick_pairs clock n 600)

-- the group is that of the tick
abbrev pub has_tick : ℤ → Group → Bool
has_tick tick g = option_map_or (int_eq tick) g.tick false

-- the 2-hour interval of a tick: the twelve 10-minute intervals from it on (4.5), where all are there
-- (profile)
unfoldable pub two_hour_group : ℕ → List Group → ℤ → Option Group
two_hour_group channels tens tick =
    let twelve = filter_map (λ t. find (has_tick t) tens) (steps_from tick 600 12) in
    if length twelve == 12 then Some (group_of (Some tick) channels (map as_part twelve)) else None

-- the 2-hour intervals, by tick (4.5)
unfoldable pub two_hour_groups : Clock → ℕ → ℕ → List Group → List Group
two_hour_groups clock n channels tens = filter_map (two_hour_group channels tens) (ticks clock n 7200)
