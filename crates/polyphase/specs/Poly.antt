-- What contracts see of a Poly, over the windows that it was fed.
use Rattle.std.specs.Prelude.{◌≡◌, ℕ, Bool, false, IsTrue, List, [], ◌∷◌, ◌++◌, length, Option, None}
use Rattle.event_detect.specs.declared.event.Event.{Event}
use Rattle.event_detect.specs.declared.kind.Kind.{Kind}
use Rattle.event_detect.specs.declared.kind.Kind.TheVariants.{Dip, Swell, Interruption}
use Rattle.event_detect.specs.declared.limits.Limits.{Limits}
use Rattle.event_detect.specs.declared.window.Window.{Window}
use Rattle.event_detect.specs.Detector.{OpenEvent, Watch, HasSeen as HasSeenConditions}
use Rattle.event_detect.specs.Threshold.{IsInOrder}
use Rattle.event_detect.specs.VoltageEvent.{Condition, IsLeftOpen, open_start}
use Rattle.polyphase.specs.Latest.{LatestView}
use Rattle.polyphase.specs.PolyphaseEvent.{ChannelWindow, begins, condition_over, conditions, latest_values, EndsAtWindow}

-- a Poly: how many channels there are, the thresholds, the latest value of each channel, and the event of
-- each kind that runs, if one does
pub record PolyView : Type 0 where
  pub channels : ℕ
  pub limits : Limits
  pub latest : List (Option ℕ)
  pub dip : Option OpenEvent
  pub swell : Option OpenEvent
  pub interruption : Option OpenEvent

-- the same of its parts: the latest values, and the detectors of the kinds in order
abbrev pub poly_view : LatestView → Watch → Watch → Watch → PolyView
poly_view latest dips swells interruptions = record {
  channels = length latest.values;
  limits = latest.limits;
  latest = latest.values;
  dip = dips.running;
  swell = swells.running;
  interruption = interruptions.running;
}

-- no event of the detector's kind runs, and none would begin
pub record IsIdle (kind : Kind) (latest : LatestView) (watch : Watch) : Type 0 where
  pub stands : watch.running ≡ None
  pub stays : begins kind latest.limits latest.values ≡ false

-- so of each kind
pub record AreIdle (latest : LatestView) (dips swells interruptions : Watch) : Type 0 where
  pub dip : IsIdle Dip latest dips
  pub swell : IsIdle Swell latest swells
  pub interruption : IsIdle Interruption latest interruptions

-- the parts are those of a Poly: thresholds in order, and a detector of each kind; it is idle only where no
-- event runs and none would begin
pub record IsPoly (latest : LatestView) (dips swells interruptions : Watch) (is_idle : Bool) : Type 0 where
  pub limits : IsInOrder latest.limits
  pub idle : IsTrue is_idle → AreIdle latest dips swells interruptions
  pub dips_kind : dips.kind ≡ Dip
  pub swells_kind : swells.kind ≡ Swell
  pub interruptions_kind : interruptions.kind ≡ Interruption

-- the event of the kind that runs
abbrev pub running_of : PolyView → Kind → Option OpenEvent
running_of p Dip = p.dip
running_of p Swell = p.swell
running_of p Interruption = p.interruption

-- the detector of the kind
abbrev pub watch_of : PolyView → Kind → Watch
watch_of p kind = record { kind = kind; running = running_of p kind }

-- what a Poly is fed at once
abbrev pub channel_window : ℕ → Window → ChannelWindow
channel_window position window = record { channel = position; window = window }

-- what the latest values tell of a kind, where a window is the last that was fed
abbrev pub condition_of : LatestView → ℕ → Window → Kind → Condition
condition_of latest position window kind =
    condition_over kind latest.limits latest.values (channel_window position window)

-- a Poly has seen these windows: it has their latest values, and the detector of each kind has seen what they
-- tell of it
pub record HasSeen (p : PolyView) (fed : List ChannelWindow) : Type 0 where
  pub values : p.latest ≡ latest_values p.channels fed (length fed)
  pub of_kind : (kind : Kind) → HasSeenConditions (watch_of p kind) (conditions kind p.limits p.channels fed)

-- the answer for a kind, where there is one for each kind in order
abbrev pub answer_of : Kind → List (Option Event) → Option Event
answer_of Dip (dip ∷ swell ∷ interruption ∷ []) = dip
answer_of Swell (dip ∷ swell ∷ interruption ∷ []) = swell
answer_of Interruption (dip ∷ swell ∷ interruption ∷ []) = interruption
answer_of kind _ = None

-- whatever a Poly has seen, one more window ends these events of the kinds in order, or none
abbrev pub Ends : PolyView → ChannelWindow → List (Option Event) → Type 0
Ends p m answers = (fed : List ChannelWindow) (kind : Kind) → HasSeen p fed
    → EndsAtWindow kind p.limits p.channels fed m (answer_of kind answers)

-- whatever a Poly had seen, it has now seen one more window
abbrev pub SeesMore : PolyView → PolyView → ChannelWindow → Type 0
SeesMore old new m = (fed : List ChannelWindow) → HasSeen old fed → HasSeen new (fed ++ m ∷ [])

-- one more window ends no event, and has been seen
pub record Passes (old new : PolyView) (m : ChannelWindow) : Type 0 where
  pub ends : Ends old m (None ∷ None ∷ None ∷ [])
  pub sees : SeesMore old new m

-- whatever a Poly has seen, these events of the kinds in order are left open at n, or none
abbrev pub LeavesOpen : PolyView → ℕ → List (Option Event) → Type 0
LeavesOpen p n answers = (fed : List ChannelWindow) (kind : Kind) → HasSeen p fed
    → IsLeftOpen kind n (conditions kind p.limits p.channels fed) (answer_of kind answers)

-- whatever a Poly has seen, this is where the event of the kind begins that is left open, or none is
abbrev pub StartsOpen : PolyView → Kind → Option ℕ → Type 0
StartsOpen p kind answer = (fed : List ChannelWindow) → HasSeen p fed
    → answer ≡ open_start kind (conditions kind p.limits p.channels fed)
