-- What contracts see of `Windows`: the list of the windows that are left.
use Rattle.std.specs.Prelude.{◌≡◌, ℕ, ◌≤◌, List, [], ◌∷◌, length, ℤ, Option, None, Some, IfSome, MatchOption, slice_range}
use Rattle.half_cycle.specs.HalfCycleWindow.{windows_over}
use Rattle.event_detect.specs.declared.window.Window.{Window}
use Rattle.zero_cross.specs.declared.boundary.Boundary.{Boundary}
use Rattle.zero_cross.specs.Boundary.{AreBoundaries, places_of}
use Rattle.fixed_rms.specs.Root.{sum_of_squares}
use Rattle.pq_words.specs.Samples.{AreSamples}

-- the windows over the places of two boundaries and of those after them, or none
abbrev pub windows_left : List ℤ → Option (ℕ × ℕ) → List Boundary → List Window
windows_left s None later = []
windows_left s (Some two) later = windows_over s (two.0 ∷ two.1 ∷ places_of later)

-- the sum of the squares of the samples from place a up to place b
abbrev pub squares_between : List ℤ → ℕ → ℕ → ℕ
squares_between s a b = sum_of_squares (slice_range s a b)

-- the samples are such that roots can be taken, the boundaries rise within them, and the kept sum is that of
-- the half-cycle between the next two boundaries
pub record IsSound (s : List ℤ) (next_two : Option (ℕ × ℕ)) (kept : ℕ) (later : List Boundary) : Type 0 where
  pub samples : AreSamples s
  pub boundaries : IfSome next_two (λ two. AreBoundaries (two.0 ∷ two.1 ∷ places_of later) (length s))
  pub sum : IfSome next_two (λ two. kept ≡ squares_between s two.0 two.1)

-- the places of the first two of some boundaries, and the boundaries after them; None where there are fewer
abbrev pub AreFirstTwo : List Boundary → List Boundary → Option (ℕ × ℕ) → Type 0
AreFirstTwo all later next_two =
    MatchOption next_two (length all ≤ 1) (λ two. places_of all ≡ two.0 ∷ two.1 ∷ places_of later)
