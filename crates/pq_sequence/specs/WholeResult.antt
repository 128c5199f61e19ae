-- The subject: laws of the sequential result and of fronts; each is the contract of a call of its own.
-- Sections are those of IEC 61000-4-30:2015; "profile" marks a choice of this project.
use Rattle.std.specs.Prelude.{◌≡◌, ℕ, ◌-◌, ◌<◌, ◌≤◌, ℤ, ◌≤ℤ◌, List, length, take, All, Some}
use Rattle.event_detect.specs.declared.event.Event.{Event}
use Rattle.event_detect.specs.declared.limits.Limits.{Limits}
use Rattle.pq_base.specs.Recorded.{Recorded, IsRecording, sample_count}
use Rattle.pq_sequence.specs.BasicInterval.{front_of, fronts}
use Rattle.pq_sequence.specs.MeasuredRecording.{recorded_events, tick_places}
use Rattle.pq_sequence.specs.SequentialResult.{cut, sequential}
use Rattle.pq_time.specs.declared.clock.Clock.{Clock}
use Rattle.pq_time.specs.Time.{place_of}
use Rattle.ten_twelve.specs.Run.{AreStarts}

-- the items that end by a place are the first ones of the result (profile)
abbrev pub CutIsPrefix : Type 0
CutIsPrefix = (r : Recorded) (limits : Limits) (w : ℕ) →
    cut w (sequential r limits) ≡ take (length (cut w (sequential r limits))) (sequential r limits)

-- an event of one of so many channels, in the first n places
pub record IsPlaced (channels n : ℕ) (e : Event) : Type 0 where
  pub start : e.start ≤ n
  pub end : e.end ≤ n
  pub channel : e.channel < channels

-- the events of a recording lie in it
abbrev pub EventsLieWithin : Type 0
EventsLieWithin = (r : Recorded) (limits : Limits) → IsRecording r →
    All (IsPlaced (length r.numbers) (sample_count r)) (recorded_events r limits)

-- places and fronts of later moments are no earlier, and the fronts of the ticks are starts of runs: each is
-- after the one before it, and a boundary (4.5)
pub record FrontsRise : Type 0 where
  pub places : (clock : Clock) (t u : ℤ) (n : ℕ) → t ≤ℤ u → place_of clock t n ≤ place_of clock u n
  pub later : (boundaries : List ℕ) (p q i j : ℕ) → p ≤ q → front_of boundaries p ≡ Some i →
      front_of boundaries q ≡ Some j → i ≤ j
  pub starts : (boundaries : List ℕ) (clock : Clock) (n : ℕ) →
      AreStarts (fronts boundaries (tick_places clock n)) (length boundaries - 1)
