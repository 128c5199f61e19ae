-- Worked values that pin the words of the laws of intervals.
use Rattle.std.proofs.Common.{◌≡◌, ℕ, ◌*◌, ◌/◌, ◌^◌, false, [], ◌∷◌, None, refl}
use Rattle.aggregate.specs.declared.group.Group.{Group}
use Rattle.aggregate.specs.Aggregation.{Basic}
use Rattle.settled_laws.specs.SettledIntervals.{basics_by, groups_by}
use Rattle.zero_cross.specs.Boundary.{rule_of}

abbrev basic : ℕ → ℕ → Basic
basic start end = record {
  front = false;
  part = record { start = start; end = end; values = []; flagged = false };
}

abbrev group : ℕ → ℕ → Group
group start end = record { tick = None; start = start; end = end; count = 15; flagged = false; values = [] }

-- what ends at the place ends by it
ends_at_the_place : (basics_by 20 (basic 0 10 ∷ basic 10 20 ∷ basic 20 30 ∷ [])
    ≡ basic 0 10 ∷ basic 10 20 ∷ [])
    × (groups_by 20 (group 0 20 ∷ group 10 21 ∷ []) ≡ group 0 20 ∷ [])
ends_at_the_place = (refl, refl)

-- at 12.8 kHz and 50 Hz boundaries lie 103 samples apart at least, so ten minutes of it have at most 3728
-- basic intervals and one for each tick, where 3000 of 2560 samples are met at the nominal frequency; and
-- 74,563 windows of a channel, where 60,000 are met
ten_minutes_at_most : ((rule_of (12_800 * 10 ^ 6) 50).lo ≡ 103)
    × (12_800 * 600 / (2 * 103 * 10) ≡ 3728) × (12_800 * 600 / 103 ≡ 74_563)
unfolding rule_of
ten_minutes_at_most = (refl, refl, refl)
