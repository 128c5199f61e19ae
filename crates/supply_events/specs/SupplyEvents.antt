-- The subject: the events of a supply, of all kinds, over the windows of its channels (5.4, 5.5).
-- Sections are those of IEC 61000-4-30:2015; "profile" marks a choice of this project.
use Rattle.std.specs.Prelude.{ℕ, List, length}
use Rattle.event_detect.specs.declared.event.Event.{Event}
use Rattle.event_detect.specs.declared.limits.Limits.{Limits}
use Rattle.event_detect.specs.declared.window.Window.{Window}
use Rattle.polyphase.specs.PolyphaseEvent.{all_polyphase_events, merged_windows}

-- the dips, swells and interruptions over the merged windows of these channels; one that does not end is open
-- at place n (5.4, 5.5)
abbrev pub events_over : Limits → ℕ → List (List Window) → List Event
events_over limits n channels = all_polyphase_events limits (length channels) n (merged_windows channels)
