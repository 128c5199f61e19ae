-- What contracts see of reaches: which spans events touch, told by where they begin and how far they last.
-- Sections are those of IEC 61000-4-30:2015; "profile" marks a choice of this project.
use Rattle.std.specs.Prelude.{◌≡◌, ℕ, Bool, ◌&&◌, nat_lt, List}
use Rattle.std.specs.List.{list_any}
use Rattle.std.specs.List.Sorted.{IsNonDecreasingBy}
use Rattle.event_detect.specs.declared.event.Event.{Event}
use Rattle.event_detect.specs.Flag.{is_touched}
use Rattle.pq_sequence.specs.declared.touches.Reach.{Reach}
use Rattle.ten_twelve.specs.declared.span.Span.{Span}

-- some reach begins before the end of the span and lasts past its start
abbrev pub is_reached : List Reach → ℕ → ℕ → Bool
is_reached reaches start end = list_any (λ reach. nat_lt reach.start end && nat_lt start reach.furthest)
    reaches

-- the reaches of these events: neither beginnings nor furthest ends fall, and they reach into the spans that
-- the events touch, and into no other (4.7; the form: profile)
pub record AreReaches (events : List Event) (reaches : List Reach) : Type 0 where
  pub beginnings : IsNonDecreasingBy (λ reach. reach.start) reaches
  pub ends : IsNonDecreasingBy (λ reach. reach.furthest) reaches
  pub tells : (start end : ℕ) → is_reached reaches start end ≡ is_touched events start end

-- the answer of a look at the reaches: whether some event of those that have them touches the span (4.7)
abbrev pub TellsTouch : List Reach → Span → Bool → Type 0
TellsTouch reaches span answer = (events : List Event) → AreReaches events reaches →
    answer ≡ is_touched events span.start span.end

-- what is said of events is true of whatever events have these reaches
abbrev pub ForEventsOf : List Reach → (List Event → Type 0) → Type 0
ForEventsOf reaches P = (events : List Event) → AreReaches events reaches → P events

-- some events have these reaches
abbrev pub AreReachesOfSome : List Reach → Type 0
AreReachesOfSome reaches = (events : List Event) × AreReaches events reaches
