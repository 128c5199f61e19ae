-- What contracts see of the machine for 10-minute intervals, over the basic intervals that it was fed.
use Rattle.std.specs.Prelude.{◌≡◌, ◌⊎◌, ℕ, Bool, false, true, ◌&&◌, nat_le, nat_lt, if◌then◌else◌, List, [], ◌∷◌, ◌++◌, find, ℤ, Option, Some, None, option_map, option_to_list, All}
use Rattle.aggregate.specs.declared.group.Group.{Group}
use Rattle.aggregate.specs.declared.ten.TenMinutes.{TenMinutes}
use Rattle.aggregate.specs.Aggregation.{Basic, group_of, parts_of, ten_groups, tick_pairs}
use Rattle.aggregate.specs.BasicOrder.{AreBasics}
use Rattle.aggregate.specs.Sum.{SumView, HasSummed}
use Rattle.pq_time.specs.declared.clock.Clock.{Clock}
use Rattle.pq_time.specs.Tick.{tick_place}

-- the place lies from that of the first tick on, and before that of the second
abbrev pub lies_between : (ℤ → ℕ) → ℕ → ℤ × ℤ → Bool
lies_between place_of_tick place p = nat_le (place_of_tick p.0) place && nat_lt place (place_of_tick p.1)

-- the ten minutes in which a place lies, if both their ticks are there
unfoldable pub minutes_at : Clock → ℕ → ℕ → Option TenMinutes
minutes_at clock n place =
    option_map (λ p. record { tick = p.0; next = tick_place clock n p.1 })
    (find (lies_between (tick_place clock n) place) (tick_pairs clock n 600))

-- what basic interval b, the last of a segment so far, completes of these ten minutes: all of the segment, if
-- b reaches the next tick (4.5)
abbrev pub completed : ℕ → Basic → List Basic → TenMinutes → Option Group
completed channels b segment minutes =
    if nat_lt b.part.start minutes.next && nat_le minutes.next b.part.end
    then Some (group_of (Some minutes.tick) channels (parts_of segment)) else None

-- the machine: the sum of the segment that runs, and the ten minutes in which it began
pub record TenView : Type 0 where
  pub clock : Clock
  pub samples : ℕ
  pub channels : ℕ
  pub sum : SumView
  pub minutes : Option TenMinutes

-- the machine has just begun a segment at a place: it has no sum yet, and the ten minutes of that place
pub record HasBegun (t : TenView) (place : ℕ) : Type 0 where
  pub summed : HasSummed t.sum []
  pub minutes : t.minutes ≡ minutes_at t.clock t.samples place

-- the list ends with a segment that the first begins and the rest go on with, and the machine has its sum and
-- its ten minutes
pub record IsInSegment (t : TenView) (fed before : List Basic) (first : Basic) (rest : List Basic) :
    Type 0 where
  pub parts : fed ≡ before ++ first ∷ rest
  pub begins : first.front ≡ true
  pub goes_on : All (λ b. b.front ≡ false) rest
  pub summed : HasSummed t.sum (parts_of (first ∷ rest))
  pub minutes : t.minutes ≡ minutes_at t.clock t.samples first.part.start

-- the machine has seen these basic intervals: none, or some whose last segment runs
abbrev pub HasSeen : TenView → List Basic → Type 0
HasSeen t fed =
    (fed ≡ []) ⊎ ((before : List Basic) × (first : Basic) × (rest : List Basic)
    × IsInSegment t fed before first rest)

-- a list that the machine may be fed
abbrev pub IsFed : TenView → List Basic → Type 0
IsFed t fed = AreBasics t.clock t.samples t.channels fed

-- the basic interval may follow some list that the machine has seen
abbrev pub MayFollow : TenView → Basic → Type 0
MayFollow t b = (fed : List Basic) × HasSeen t fed × IsFed t (fed ++ b ∷ [])

-- whatever list the machine has seen that the basic interval may follow, it completes this 10-minute
-- interval, or none
abbrev pub Completes : TenView → Basic → Option Group → Type 0
Completes t b answer = (fed : List Basic) → HasSeen t fed → IsFed t (fed ++ b ∷ [])
    → ten_groups t.clock t.samples t.channels (fed ++ b ∷ [])
    ≡ ten_groups t.clock t.samples t.channels fed ++ option_to_list answer

-- whatever list the machine had seen that the basic interval may follow, it has now seen one more
abbrev pub SeesMore : TenView → TenView → Basic → Type 0
SeesMore old new b = (fed : List Basic) → HasSeen old fed → IsFed old (fed ++ b ∷ [])
    → HasSeen new (fed ++ b ∷ [])

-- the clock, the number of samples and that of channels stay
pub record KeepsSetting (old new : TenView) : Type 0 where
  pub same_clock : new.clock ≡ old.clock
  pub same_samples : new.samples ≡ old.samples
  pub same_channels : new.channels ≡ old.channels
