-- Worked values, so that a wrong rule in the specs does not check.
use Rattle.std.proofs.Common.{◌≡◌, ◌+◌, ◌*◌, ◌%◌, ◌==◌, ◌||◌, ℕ, ℤ, Bool, List, [], ◌∷◌, map, replicate, nat_lt, slice_index, Option, Some, None, true, false, refl, pos}
use Rattle.aggregate.specs.declared.group.Group.{Group}
use Rattle.aggregate.specs.Aggregation.{Basic, group_of, short_groups, segment_of, ten_group, ten_groups, two_hour_group, two_hour_groups}
use Rattle.fixed_rms.specs.Root.{root_in, isqrt, mean_of_squares, root_mean}
use Rattle.pq_time.specs.declared.clock.Clock.{Clock}
use Rattle.pq_time.specs.Time.{time_of, place_of}
use Rattle.pq_time.specs.Tick.{ticks}
use Rattle.ten_twelve.specs.Run.{runs, marked}
use Rattle.pq_words.specs.First.{first_of, first_between}
use Rattle.pq_words.specs.Steps.{numbers_from, steps_from}

-- what is worked out of a group: tick, span, number, flag and values
abbrev outline : Group → Option ℤ × ℕ × ℕ × ℕ × Bool × List ℕ
outline g = (g.tick, g.start, g.end, g.count, g.flagged, g.values)

-- a basic interval of one channel
abbrev basic : Bool → ℕ → ℕ → ℕ → Bool → Basic
basic front start end value flagged = record {
  front = front;
  part = record { start = start; end = end; values = value ∷ []; flagged = flagged };
}

-- seventeen intervals, the first two flagged: one group of fifteen, flagged
abbrev seventeen : List Basic
seventeen = map
    (λ k. basic (k == 0) (24 + 240 * k) (264 + 240 * k)
    (slice_index (229_805_362 ∷ 211_869_380 ∷ replicate 15 229_805_362) k) (nat_lt k 2))
    (numbers_from 0 17)

pub fifteen_of_seventeen : map outline (short_groups 1 seventeen)
    ≡ (None, 24, 3624, 15, true, 228_653_405 ∷ replicate 15 0) ∷ []
unfolding short_groups group_of runs marked root_mean mean_of_squares isqrt root_in numbers_from
fifteen_of_seventeen = refl

-- one that a segment's end interrupts is completed over it, and a new one begins there
abbrev over_a_front : List Basic
over_a_front = map (λ k. basic (k == 0 || k == 10) (24 * k) (24 * k + 24) 100 false) (numbers_from 0 25)

pub completed_over_a_front : map outline (short_groups 1 over_a_front)
    ≡ (None, 0, 360, 15, false, 100 ∷ replicate 15 0) ∷ (None, 240, 600, 15, false, 100 ∷ replicate 15 0) ∷ []
unfolding short_groups group_of runs marked root_mean mean_of_squares isqrt root_in numbers_from
completed_over_a_front = refl

-- a clock of one sample in a hundred seconds, and basic intervals of two samples, three to a segment of ten
-- minutes
abbrev slow : Clock
slow = record { t0 = pos 0; rate = 10_000 }

abbrev thirds : ℕ → List Basic
thirds n = map (λ k. basic (k % 3 == 0) (2 * k) (2 * k + 2) 100 (k == 4)) (numbers_from 0 n)

-- a 10-minute interval is there where its segment reaches the next tick, also one at the recording's end; the
-- flag of one basic interval is that of its own alone
pub known_tens : (map outline (ten_groups slow 13 1 (thirds 6))
    ≡ (Some (pos 0), 0, 6, 3, false, 100 ∷ replicate 15 0)
    ∷ (Some (pos 600), 6, 12, 3, true, 100 ∷ replicate 15 0) ∷ []) ×
    (map outline (ten_groups slow 11 1 (thirds 5))
    ≡ (Some (pos 0), 0, 6, 3, false, 100 ∷ replicate 15 0) ∷ []) ×
    (map outline (ten_groups slow 6 1 (thirds 3))
    ≡ (Some (pos 0), 0, 6, 3, false, 100 ∷ replicate 15 0) ∷ []) ×
    (ten_groups slow 13 1 (thirds 2) ≡ [])
unfolding ten_groups ten_group segment_of group_of ticks time_of place_of first_between first_of steps_from
    root_mean mean_of_squares isqrt root_in numbers_from
known_tens = (refl, refl, refl, refl)

-- a 2-hour interval is there where all its twelve are, and is flagged by one of them
pub known_two_hours : (map outline (two_hour_groups slow 73 1 (ten_groups slow 73 1 (thirds 36)))
    ≡ (Some (pos 0), 0, 72, 12, true, 100 ∷ replicate 15 0) ∷ []) ×
    (two_hour_groups slow 71 1 (ten_groups slow 71 1 (thirds 35)) ≡ [])
unfolding two_hour_groups two_hour_group ten_groups ten_group segment_of group_of ticks time_of place_of
    first_between first_of steps_from root_mean mean_of_squares isqrt root_in numbers_from
known_two_hours = (refl, refl)
