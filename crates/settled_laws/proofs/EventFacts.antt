-- Worked values that pin the words of the law of events.
use Rattle.std.proofs.Common.{◌≡◌, ◌+◌, ℕ, List, [], ◌∷◌, take, true, false, refl}
use Rattle.event_detect.specs.declared.event.Event.{Event}
use Rattle.event_detect.specs.declared.kind.Kind.TheVariants.{Dip, Swell}
use Rattle.event_detect.specs.declared.limits.Limits.{Limits}
use Rattle.event_detect.specs.Threshold.{class_of}
use Rattle.event_detect.specs.VoltageEvent.{event_from, extents, event_over, events, ended_events, open_start}
use Rattle.polyphase.specs.PolyphaseEvent.{ChannelWindow, latest, begins, ends, conditions}
use Rattle.pq_words.specs.First.{first_of, first_between}
use Rattle.pq_words.specs.Successors.{successors}
use Rattle.pq_words.specs.Steps.{numbers_from}
use Rattle.settled_laws.specs.Greatest.{greatest_end}
use Rattle.settled_laws.specs.SettledEvents.{is_early, events_by}
use Rattle.settled_laws.specs.Touch.{latest_end, runs_on, touches_now}

-- limits of 230 V in whole volts
abbrev volts : Limits
volts = record {
  dip = 207;
  dip_end = 212;
  swell = 253;
  swell_end = 248;
  interruption = 12;
  interruption_end = 16;
}

-- a window of a cycle at 1200 Hz, of the only channel
abbrev window : ℕ → ℕ → ChannelWindow
window start value = record {
  channel = 0;
  window = record { start = start; end = start + 24; value = value };
}

-- a dip from place 12 to place 60, and a second one that begins at place 60
abbrev two_dips : List ChannelWindow
two_dips = window 0 230 ∷ window 12 200 ∷ window 24 190 ∷ window 36 230 ∷ window 48 230 ∷ window 60 200 ∷ []

-- a window that begins at the place is no early one
begins_at_the_place : (is_early 12 (window 11 230) ≡ true) × (is_early 12 (window 12 230) ≡ false)
begins_at_the_place = (refl, refl)

abbrev dip : ℕ → ℕ → Event
dip start end = record { kind = Dip; start = start; end = end; channel = 0; value = 190; is_open = false }

-- what ends at the place ends by it; the greatest end need not be the last one's
ends_at_the_place : (events_by 60 (dip 12 60 ∷ dip 24 61 ∷ []) ≡ dip 12 60 ∷ [])
    × (greatest_end (dip 12 60 ∷ dip 24 48 ∷ []) ≡ 60) × (greatest_end [] ≡ 0)
unfolding greatest_end
ends_at_the_place = (refl, refl, refl)

-- while the first dip runs, spans are touched whatever their start
while_it_runs : (latest_end Dip volts 1 (take 3 two_dips) ≡ 0) × (runs_on Dip volts 1 (take 3 two_dips)
    ≡ true)
    × (touches_now Dip volts 1 40 (take 3 two_dips) ≡ true)
    × (touches_now Swell volts 1 40 (take 3 two_dips) ≡ false)
unfolding greatest_end conditions begins ends class_of latest events ended_events open_start extents
    event_from
    event_over successors first_between first_of numbers_from
while_it_runs = (refl, refl, refl, refl)

-- once it has ended at place 60, those that start before place 60 are; one that starts there is not
once_it_ended : (latest_end Dip volts 1 (take 4 two_dips) ≡ 60) × (runs_on Dip volts 1 (take 4 two_dips)
    ≡ false)
    × (touches_now Dip volts 1 59 (take 4 two_dips) ≡ true)
    × (touches_now Dip volts 1 60 (take 4 two_dips) ≡ false)
    × (touches_now Dip volts 1 60 two_dips ≡ true)
unfolding greatest_end conditions begins ends class_of latest events ended_events open_start extents
    event_from
    event_over successors first_between first_of numbers_from
once_it_ended = (refl, refl, refl, refl, refl)
