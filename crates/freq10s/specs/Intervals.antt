-- What contracts see of `Intervals`: the list of the 10-second intervals of the clock that are left (5.1).
use Rattle.std.specs.Prelude.{ℕ, ◌≤◌, List, [], ◌∷◌, map, zip, drop, All, ℤ, Option, None, Some, IfSome}
use Rattle.std.specs.Bool.{⊤}
use Rattle.freq10s.specs.declared.intervals.Interval.{Interval}
use Rattle.pq_time.specs.declared.clock.Clock.{Clock}
use Rattle.pq_time.specs.Tick.{IsTick, tick_place}
use Rattle.pq_time.specs.Time.{IsClock}
use Rattle.pq_words.specs.declared.limits.TheConstants.{MOST_SAMPLES}

-- the interval from a tick to another, among n samples
abbrev pub interval_between : Clock → ℕ → ℤ → ℤ → Interval
interval_between clock n tick following = record {
  tick = tick;
  start = tick_place clock n tick;
  end = tick_place clock n following;
}

-- the intervals from each of some ticks to the next
unfoldable pub intervals_between : Clock → ℕ → List ℤ → List Interval
intervals_between clock n seconds =
    map (λ pair. interval_between clock n pair.0 pair.1) (zip seconds (drop 1 seconds))

-- the intervals from a tick on and between those after it, or none
abbrev pub intervals_left : Clock → ℕ → Option ℤ → List ℤ → List Interval
intervals_left clock n None later = []
intervals_left clock n (Some tick) later = intervals_between clock n (tick ∷ later)

-- the tick and those after it are ticks of the clock
pub record AreSound (clock : Clock) (n : ℕ) (begun : Option ℤ) (later : List ℤ) : Type 0 where
  pub is_clock : IsClock clock
  pub places : n ≤ MOST_SAMPLES
  pub ticks : IfSome begun (λ tick. All (IsTick clock n 10) (tick ∷ later))

-- each interval begins where the one before it ends or after it, from place `low` on
abbrev pub FollowFrom : ℕ → List Interval → Type 0
FollowFrom low [] = ⊤
FollowFrom low (i ∷ later) = (low ≤ i.start) × (i.start ≤ i.end) × FollowFrom i.end later
