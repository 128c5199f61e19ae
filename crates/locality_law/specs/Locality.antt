-- The subject: the law that the items of the lanes up to a place tell the result up to it. Profile.
use Rattle.std.specs.Prelude.{◌≡◌, ℕ, ◌<◌, ◌≤◌}
use Rattle.event_detect.specs.declared.limits.Limits.{Limits}
use Rattle.lanes.specs.Lane.{lane_count, settled}
use Rattle.pq_base.specs.Recorded.{Recorded, IsRecording, sample_count}
use Rattle.pq_sequence.specs.SequentialResult.{cut, sequential}

-- two recordings have as many samples, of the same rate, first moment and line frequency, and of the same
-- channels
pub record IsSameFrame (a b : Recorded) : Type 0 where
  pub count : sample_count a ≡ sample_count b
  pub rate : a.rate ≡ b.rate
  pub t0 : a.t0 ≡ b.t0
  pub lf : a.lf ≡ b.lf
  pub numbers : a.numbers ≡ b.numbers
  pub reference : a.reference ≡ b.reference

-- each lane has the same items with a key of at most w
abbrev pub AgreeUpTo : ℕ → Recorded → Recorded → Type 0
AgreeUpTo w a b = (lane : ℕ) → lane < lane_count a → settled a lane w ≡ settled b lane w

-- the locality law: under whatever limits, recordings whose lanes agree up to a place have one cut there
abbrev pub Locality : Type 0
Locality = (a b : Recorded) (limits : Limits) (w : ℕ) → IsRecording a → IsRecording b → IsSameFrame a b →
    w ≤ sample_count a → AgreeUpTo w a b → cut w (sequential a limits) ≡ cut w (sequential b limits)
