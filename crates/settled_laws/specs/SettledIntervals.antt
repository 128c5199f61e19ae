-- The subject: the law that an interval of 150/180 cycles, 10 minutes or 2 hours that ends by a place is told
-- by the basic intervals that end by it (4.5): later ones change neither its span nor its values nor its
-- flag (4.7).
-- Sections are those of IEC 61000-4-30:2015; "profile" marks a choice of this project.
use Rattle.std.specs.Prelude.{◌≡◌, ℕ, nat_le, List, filter}
use Rattle.aggregate.specs.declared.group.Group.{Group}
use Rattle.aggregate.specs.Aggregation.{Basic}
use Rattle.event_detect.specs.declared.event.Event.{Event}
use Rattle.pq_base.specs.Recorded.{Recorded, IsRecording}
use Rattle.pq_sequence.specs.MeasuredRecording.{basics_of, reference_cycles, shorts_of, tens_of, two_hours_of}

-- the basic intervals that end by a place, and the intervals they make that do
abbrev pub basics_by : ℕ → List Basic → List Basic
basics_by w basics = filter (λ b. nat_le b.part.end w) basics

abbrev pub groups_by : ℕ → List Group → List Group
groups_by w groups = filter (λ g. nat_le g.end w) groups

-- some intervals made of basic ones are told so: those that end by a place are the same over all basic
-- intervals of a recording, under whatever events, and over those that end by the place alone
abbrev pub AreSettled : (Recorded → List Basic → List Group) → Type 0
AreSettled made = (r : Recorded) (events : List Event) (w : ℕ) → IsRecording r →
    groups_by w (made r (basics_of r events (reference_cycles r)))
    ≡ groups_by w (made r (basics_by w (basics_of r events (reference_cycles r))))

-- the intervals of all three lengths are told so (4.5)
pub record IntervalsAreSettled : Type 0 where
  pub shorts : AreSettled shorts_of
  pub tens : AreSettled tens_of
  pub two_hours : AreSettled (λ r basics. two_hours_of r (tens_of r basics))
