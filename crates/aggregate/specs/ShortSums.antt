-- What contracts see of the machine for 150/180-cycle intervals, over the basic intervals that it was fed.
use Rattle.std.specs.Prelude.{◌≡◌, ℕ, ◌-◌, Bool, false, not, ◌||◌, if◌then◌else◌, List, [], ◌∷◌, ◌++◌, drop, length, map, replicate, take, Option, Some, None, option_to_list, slice_get, All}
use Rattle.std.specs.List.{list_any}
use Rattle.std.specs.Option.{option_map_or}
use Rattle.aggregate.specs.declared.group.Group.{Group}
use Rattle.aggregate.specs.declared.short.Recent.{Recent}
use Rattle.aggregate.specs.Aggregation.{Basic, Part, group_of, segment_starts, short_groups}
use Rattle.aggregate.specs.BasicOrder.{AreQuiet, BeginsAtFront, IsChannelCount}
use Rattle.aggregate.specs.Sum.{part_of}
use Rattle.pq_words.specs.Steps.{numbers_from}
use Rattle.ten_twelve.specs.Run.{begins_run}

-- a basic interval, and whether a run of fifteen begins at it
pub record RecentView : Type 0 where
  pub begins : Bool
  pub part : Part

-- the machine: how many channels there are, and the fourteen latest basic intervals, the earliest first
pub record ShortView : Type 0 where
  pub channels : ℕ
  pub recent : List RecentView

-- what contracts see of a basic interval that is kept, with room for the values of sixteen channels
abbrev pub recent_view : ℕ → Recent → RecentView
recent_view channels r =
    record { begins = r.begins; part = part_of r.span (take channels r.values) r.flagged }

-- no interval, with values of 0
abbrev pub no_part : ℕ → Part
no_part channels = record { start = 0; end = 0; values = replicate channels 0; flagged = false }

-- what is kept in place of a basic interval before the first
abbrev pub none_yet : ℕ → RecentView
none_yet channels = record { begins = false; part = no_part channels }

-- the part of the basic interval at an index
abbrev pub part_at : ℕ → List Basic → ℕ → Part
part_at channels basics i = option_map_or (λ b. b.part) (slice_get basics i) (no_part channels)

-- what is kept of the basic interval at an index
abbrev pub recent_at : ℕ → List Basic → ℕ → RecentView
recent_at channels basics i =
    record { begins = begins_run (segment_starts basics) 15 i; part = part_at channels basics i }

-- the fourteen latest basic intervals, and before the first none
unfoldable pub latest : ℕ → List Basic → List RecentView
latest channels basics =
    let n = length basics in
    replicate (14 - n) (none_yet channels)
    ++ map (recent_at channels basics) (numbers_from (n - 14) (n - (n - 14)))

-- the machine has seen these basic intervals
abbrev pub HasSeen : ShortView → List Basic → Type 0
HasSeen s fed = s.recent ≡ latest s.channels fed

-- a run of fifteen begins with one more basic interval: at a front, or where none lacks basic intervals
abbrev pub begins_next : List RecentView → Bool → Bool
begins_next recent front = front || not (list_any (λ r. r.begins) recent)

-- the interval that one more completes: it contains this one and the fourteen before it, where a run begins
-- at the earliest of these
abbrev pub completed_by : ℕ → List RecentView → Part → Option Group
completed_by channels [] part = None
completed_by channels (first ∷ rest) part =
    if first.begins then Some (group_of None channels (map (λ r. r.part) (first ∷ rest) ++ part ∷ []))
    else None

-- the fourteen that are kept and one more complete this interval, or none
abbrev pub CompletesOver : ℕ → List Recent → Part → Option Group → Type 0
CompletesOver channels recent part answer =
    answer ≡ completed_by channels (map (recent_view channels) recent) part

-- the latest after one more
abbrev pub with_next : List RecentView → RecentView → List RecentView
with_next recent r = drop 1 recent ++ r ∷ []

-- whatever list the machine has seen that the basic interval may follow, it completes this 150/180-cycle
-- interval, or none
abbrev pub Completes : ShortView → Basic → Option Group → Type 0
Completes s b answer = (fed : List Basic) → HasSeen s fed → BeginsAtFront (fed ++ b ∷ [])
    → short_groups s.channels (fed ++ b ∷ []) ≡ short_groups s.channels fed ++ option_to_list answer

-- whatever list the machine had seen that the basic interval may follow, it has now seen one more
abbrev pub SeesMore : ShortView → ShortView → Basic → Type 0
SeesMore old new b = (fed : List Basic) → HasSeen old fed → BeginsAtFront (fed ++ b ∷ [])
    → HasSeen new (fed ++ b ∷ [])

-- what is kept has at most so many channels, and no value is greater than a sample may be
pub record AreRecent (channels : ℕ) (recent : List Recent) : Type 0 where
  pub few : IsChannelCount channels
  pub quiet : All (λ r. AreQuiet r.values) recent
