-- The intervals between ticks follow one another.
use Rattle.std.proofs.Common.{◌≡◌, ℕ, zero, suc, ◌≤◌, List, [], ◌∷◌, All, get_or, ℤ, pos, ◌+ℤ◌, ◌≤ℤ◌, Option, Some, None, IfSome, MatchOption, refl, sym, ap, subst, arith}
use Rattle.std.proofs.lemmas.Int.{ints}
use Rattle.std.proofs.lemmas.List.{get_or_default}
use Rattle.std.proofs.lemmas.List.Elements.{All-tail}
use Rattle.freq10s.specs.declared.intervals.Interval.{Interval}
use Rattle.freq10s.specs.Intervals.{FollowFrom, interval_between, intervals_between, intervals_left}
use Rattle.pq_time.specs.declared.clock.Clock.{Clock}
use Rattle.pq_time.specs.Tick.{HasTicks, IsTick, moment_of, tick_place, ticks}
use Rattle.pq_time.proofs.PlaceLaws.{place_rises}
use Rattle.pq_words.specs.Steps.{steps_from}

second_later : (second : ℤ) (step : ℕ) → moment_of second ≤ℤ moment_of (second +ℤ pos step)
second_later second step = omega (arith, ints)

steps_follow : (clock : Clock) (n count : ℕ) (low : ℤ) (place : ℕ) → place ≤ tick_place clock n low →
    FollowFrom place (intervals_between clock n (steps_from low 10 count))
unfolding intervals_between steps_from
steps_follow clock n zero low place h = tt
steps_follow clock n (suc zero) low place h = tt
steps_follow clock n (suc (suc m)) low place h =
    let next = low +ℤ pos 10 in (
      h,
      place_rises clock (moment_of low) (moment_of next) n (second_later low 10),
      steps_follow clock n (suc m) next (tick_place clock n next) (omega arith),
    )

-- the intervals between the clock's ticks
pub ticks_follow : (clock : Clock) (n : ℕ) → FollowFrom 0 (intervals_between clock n (ticks clock n 10))
unfolding ticks
ticks_follow clock n = steps_follow clock n _ _ 0 (omega arith)

-- those from the first tick on are all
pub left_of_all : (clock : Clock) (n : ℕ) (begun : Option ℤ) (later all : List ℤ) →
    MatchOption begun ((all ≡ []) × (later ≡ [])) (λ tick. all ≡ tick ∷ later) →
    intervals_left clock n begun later ≡ intervals_between clock n all
unfolding intervals_between
left_of_all clock n None later all is = sym (ap (intervals_between clock n) is.0)
left_of_all clock n (Some tick) later all is = sym (ap (intervals_between clock n) is)

-- one tick alone begins no interval
pub no_interval_at_one : (clock : Clock) (n : ℕ) (tick : ℤ) → intervals_between clock n (tick ∷ []) ≡ []
unfolding intervals_between
no_interval_at_one clock n tick = refl

-- a tick with another after it begins an interval up to that one
pub one_interval : (clock : Clock) (n : ℕ) (tick following : ℤ) (later : List ℤ) →
    intervals_between clock n (tick ∷ following ∷ later) ≡ interval_between clock n tick following
    ∷ intervals_between clock n (following ∷ later)
unfolding intervals_between
one_interval clock n tick following later = refl

-- intervals that follow from a place on do so from an earlier one
pub follow_earlier : (low place : ℕ) (intervals : List Interval) → low ≤ place → FollowFrom place intervals →
    FollowFrom low intervals
follow_earlier low place [] h follow = tt
follow_earlier low place (i ∷ later) h follow = (omega (arith, h, follow.0), follow.1, follow.2)

-- ---- ticks of the clock

-- where the list has ticks and nothing else, each of it is one
all_ticks : (clock : Clock) (n : ℕ) (seconds : List ℤ) → HasTicks clock n 10 seconds →
    All (IsTick clock n 10) seconds
all_ticks clock n seconds has k d inside = (has (get_or seconds k d)).0
    (k, inside, get_or_default seconds k (get_or seconds k d) d inside)

-- so the first and those after it
pub first_ticks : (clock : Clock) (n : ℕ) (begun : Option ℤ) (later all : List ℤ) →
    MatchOption begun ((all ≡ []) × (later ≡ [])) (λ tick. all ≡ tick ∷ later) → HasTicks clock n 10 all →
    IfSome begun (λ tick. All (IsTick clock n 10) (tick ∷ later))
first_ticks clock n None later all is has = tt
first_ticks clock n (Some tick) later all is has =
    subst (λ (seconds : List ℤ). All (IsTick clock n 10) seconds) is (all_ticks clock n all has)

-- and the one after it with those after that
pub next_ticks : (clock : Clock) (n : ℕ) (begun : Option ℤ) (tick following : ℤ) (later rest : List ℤ) →
    begun ≡ Some tick → later ≡ following ∷ rest →
    IfSome begun (λ tick. All (IsTick clock n 10) (tick ∷ later))
    → All (IsTick clock n 10) (following ∷ rest)
next_ticks clock n begun tick following later rest is splits sound =
    let here = subst (λ (o : Option ℤ). IfSome o (λ tick. All (IsTick clock n 10) (tick ∷ later))) is sound in
    subst (λ (seconds : List ℤ). All (IsTick clock n 10) seconds) splits
    (All-tail (IsTick clock n 10) tick later here)
