-- What contracts see of a queue: the windows of a channel that are left.
use Rattle.std.specs.Prelude.{◌≡◌, List, [], ◌∷◌, Option, None, Some, MatchOption}
use Rattle.event_detect.specs.declared.window.Window.{Window}

-- the window at hand and those after it; where none is at hand, none is left
abbrev pub windows_left : Option Window → List Window → List Window
windows_left None later = []
windows_left (Some w) later = w ∷ later

-- the first window was taken off, or there was none
abbrev pub TakesFirst : List Window → List Window → Option Window → Type 0
TakesFirst old new taken = MatchOption taken ((old ≡ []) × (new ≡ [])) (λ w. old ≡ w ∷ new)
