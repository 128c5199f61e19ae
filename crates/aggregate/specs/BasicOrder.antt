-- The subject: the order in which basic intervals come, on which their aggregation rests (4.5).
-- Sections are those of IEC 61000-4-30:2015; "profile" marks a choice of this project.
use Rattle.std.specs.Prelude.{◌≡◌, ◌↔◌, ℕ, ◌+◌, ◌<◌, ◌≤◌, Bool, true, false, IsTrue, List, [], ◌∷◌, length, ℤ, Some, slice_get, All, Contains}
use Rattle.aggregate.specs.Aggregation.{Basic}
use Rattle.aggregate.specs.Sum.{part_of}
use Rattle.pq_time.specs.declared.clock.Clock.{Clock}
use Rattle.pq_time.specs.Tick.{tick_place, ticks}
use Rattle.pq_time.specs.Time.{IsClock}
use Rattle.pq_words.specs.declared.limits.TheConstants.{MOST_MICROVOLTS, MOST_SAMPLES, MOST_SELECTED}
use Rattle.ten_twelve.specs.declared.span.Span.{Span}

-- how many channels there may be (profile)
abbrev pub IsChannelCount : ℕ → Type 0
IsChannelCount channels = (1 ≤ channels) × (channels ≤ MOST_SELECTED)

-- what aggregation takes: a clock, the number of samples and that of channels (profile)
pub record IsSetting (clock : Clock) (n channels : ℕ) : Type 0 where
  pub timed : IsClock clock
  pub short : n ≤ MOST_SAMPLES
  pub few : IsChannelCount channels

-- values in microvolts, none greater than the greatest magnitude of a sample (profile)
abbrev pub AreQuiet : List ℕ → Type 0
AreQuiet values = All (λ value. value ≤ MOST_MICROVOLTS) values

-- a basic interval, as it is handed in
abbrev pub basic_of : Bool → Span → List ℕ → Bool → Basic
basic_of front span values flagged = record { front = front; part = part_of span values flagged }

-- a basic interval of so many channels among n samples: it has samples, and a value for each channel (5.2)
pub record IsBasic (n channels : ℕ) (b : Basic) : Type 0 where
  pub some : b.part.start < b.part.end
  pub within : b.part.end ≤ n
  pub long : length b.part.values ≡ channels
  pub quiet : AreQuiet b.part.values

-- the place of some 10-minute tick lies after a place and not after another (4.5)
abbrev pub HasTickBetween : Clock → ℕ → ℕ → ℕ → Type 0
HasTickBetween clock n from to = (tick : ℤ) × Contains (ticks clock n 600) tick ×
    (from < tick_place clock n tick) × (tick_place clock n tick ≤ to)

-- basic interval b is the next after a: starts and ends rise; it begins a segment exactly where a tick's
-- place lies after the start of a and not after its own; where it begins none, it begins where a ends (4.5)
pub record Follows (clock : Clock) (n : ℕ) (a b : Basic) : Type 0 where
  pub starts : a.part.start < b.part.start
  pub ends : a.part.end < b.part.end
  pub joined : b.front ≡ false → b.part.start ≡ a.part.end
  pub front : IsTrue b.front ↔ HasTickBetween clock n a.part.start b.part.start

-- the first one begins a segment (profile)
abbrev pub BeginsAtFront : List Basic → Type 0
BeginsAtFront [] = Unit {0}
BeginsAtFront (b ∷ bs) = b.front ≡ true

-- basic intervals of so many channels among n samples, in order (4.5)
pub record AreBasics (clock : Clock) (n channels : ℕ) (basics : List Basic) : Type 0 where
  pub first : BeginsAtFront basics
  pub each : All (IsBasic n channels) basics
  pub follow : (i : ℕ) (a b : Basic) → slice_get basics i ≡ Some a → slice_get basics (i + 1) ≡ Some b
      → Follows clock n a b
