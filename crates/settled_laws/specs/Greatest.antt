-- The subject: the greatest end of some events, by which a span is told to be touched where all of them begin
-- before its end. Profile.
use Rattle.std.specs.Prelude.{ℕ, max, List, [], ◌∷◌}
use Rattle.event_detect.specs.declared.event.Event.{Event}

-- the greatest end, and 0 of none
unfoldable pub greatest_end : List Event → ℕ
greatest_end [] = 0
greatest_end (e ∷ es) = max e.end (greatest_end es)
