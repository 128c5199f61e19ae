-- What contracts see of the machine for 2-hour intervals, over the 10-minute intervals that it was fed.
use Rattle.std.specs.Prelude.{◌≡◌, ℕ, ◌+◌, ◌*◌, ◌^◌, ◌≤◌, Bool, if◌then◌else◌, List, [], ◌∷◌, ◌++◌, length, map, find, filter_map, ℤ, pos, ◌+ℤ◌, ◌<ℤ◌, Option, Some, None, IfSome, option_and_then, option_to_list, slice_get, All}
use Rattle.std.specs.Int.{int_rem_euclid}
use Rattle.std.specs.Option.{ForSome}
use Rattle.std.specs.Ordering.{int_eq}
use Rattle.aggregate.specs.declared.group.Group.{Group}
use Rattle.aggregate.specs.declared.two_hour.TwoHours.{TwoHours}
use Rattle.aggregate.specs.Aggregation.{as_part, has_tick, two_hour_groups}
use Rattle.aggregate.specs.BasicOrder.{AreQuiet, IsSetting}
use Rattle.aggregate.specs.Sum.{SumView, HasSummed}
use Rattle.pq_time.specs.declared.clock.Clock.{Clock}
use Rattle.pq_time.specs.Tick.{IsTick}
use Rattle.pq_words.specs.Magnitude.{IsWithin}
use Rattle.pq_words.specs.Steps.{steps_from}

-- a 10-minute interval of a tick, with a value for each of sixteen channels
pub record IsTen (clock : Clock) (n : ℕ) (g : Group) : Type 0 where
  pub ticked : (tick : ℤ) × (g.tick ≡ Some tick) × IsTick clock n 600 tick
  pub long : length g.values ≡ 16
  pub quiet : AreQuiet g.values

-- 10-minute intervals as they come: their ticks rise
pub record AreTens (clock : Clock) (n : ℕ) (tens : List Group) : Type 0 where
  pub each : All (IsTen clock n) tens
  pub rise : (i : ℕ) (a b : Group) (s t : ℤ) → slice_get tens i ≡ Some a → slice_get tens (i + 1) ≡ Some b
      → a.tick ≡ Some s → b.tick ≡ Some t → s <ℤ t

-- those there are of so many 10-minute intervals from a tick on, one after another
abbrev pub tens_from : List Group → ℤ → ℕ → List Group
tens_from tens tick count = filter_map (λ t. find (has_tick t) tens) (steps_from tick 600 count)

-- the second is divisible by two hours (4.5)
abbrev pub begins_two_hours : ℤ → Bool
begins_two_hours second = int_eq (int_rem_euclid second (pos 7200)) (pos 0)

-- the tick of the 10-minute interval that goes on with two hours
abbrev pub next_ten : TwoHours → ℤ
next_ten hours = hours.tick +ℤ pos (600 * hours.count)

-- the two hours that a 10-minute interval of a tick begins or goes on with: anew at each two hours, or those
-- that run, if it is their next
abbrev pub next_hours : Option TwoHours → ℤ → Option TwoHours
next_hours hours tick =
    if begins_two_hours tick then Some (record { tick = tick; count = 0 })
    else option_and_then (λ h. if int_eq (next_ten h) tick then Some h else None) hours

-- two hours within range: their tick lies near 1970, and they have at most twelve 10-minute intervals
pub record IsNear (tick : ℤ) (count : ℕ) : Type 0 where
  pub near : IsWithin (10 ^ 10) tick
  pub few : count ≤ 12

-- what the machine holds: a recording's setting, and two hours within range
pub record IsTwoHourSum (clock : Clock) (n channels : ℕ) (hours : Option TwoHours) : Type 0 where
  pub setting : IsSetting clock n channels
  pub range : ForSome hours (λ h. IsNear h.tick h.count)

-- two hours run from a tick on: so many 10-minute intervals from it, fewer than twelve, are all there, and no
-- later one
pub record AreRunning (tens : List Group) (tick : ℤ) (count : ℕ) : Type 0 where
  pub whole : int_rem_euclid tick (pos 7200) ≡ pos 0
  pub some : 1 ≤ count
  pub few : count ≤ 11
  pub all : length (tens_from tens tick count) ≡ count
  pub latest : All (λ g. IfSome g.tick (λ t. t <ℤ (tick +ℤ pos (600 * count)))) tens

-- none run
abbrev pub NoneRun : List Group → Type 0
NoneRun tens = (tick : ℤ) (count : ℕ) → AreRunning tens tick count → ⊥

-- the machine: the two hours that run, if any do, and the sum of their 10-minute intervals
pub record TwoHourView : Type 0 where
  pub clock : Clock
  pub samples : ℕ
  pub channels : ℕ
  pub sum : SumView
  pub hours : Option TwoHours

-- what runs after these 10-minute intervals, and its sum
abbrev pub RunsAfter : List Group → SumView → Option TwoHours → Type 0
RunsAfter tens sum None = NoneRun tens
RunsAfter tens sum (Some h) =
    AreRunning tens h.tick h.count × HasSummed sum (map as_part (tens_from tens h.tick h.count))

-- the machine has seen these 10-minute intervals
abbrev pub HasSeen : TwoHourView → List Group → Type 0
HasSeen t fed = RunsAfter fed t.sum t.hours

-- a list that the machine may be fed
abbrev pub IsFed : TwoHourView → List Group → Type 0
IsFed t fed = AreTens t.clock t.samples fed

-- the 10-minute interval may follow some list that the machine has seen
abbrev pub MayFollow : TwoHourView → Group → Type 0
MayFollow t g = (fed : List Group) × HasSeen t fed × IsFed t (fed ++ g ∷ [])

-- whatever list the machine has seen that the 10-minute interval may follow, it completes this 2-hour
-- interval, or none
abbrev pub Completes : TwoHourView → Group → Option Group → Type 0
Completes t g answer = (fed : List Group) → HasSeen t fed → IsFed t (fed ++ g ∷ [])
    → two_hour_groups t.clock t.samples t.channels (fed ++ g ∷ [])
    ≡ two_hour_groups t.clock t.samples t.channels fed ++ option_to_list answer

-- whatever list the machine had seen that the 10-minute interval may follow, it has now seen one more
abbrev pub SeesMore : TwoHourView → TwoHourView → Group → Type 0
SeesMore old new g = (fed : List Group) → HasSeen old fed → IsFed old (fed ++ g ∷ [])
    → HasSeen new (fed ++ g ∷ [])

-- the clock, the number of samples and that of channels stay
pub record KeepsSetting (old new : TwoHourView) : Type 0 where
  pub same_clock : new.clock ≡ old.clock
  pub same_samples : new.samples ≡ old.samples
  pub same_channels : new.channels ≡ old.channels
