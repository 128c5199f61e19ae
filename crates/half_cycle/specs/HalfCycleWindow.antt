-- The subject: half-cycle windows, Urms(1/2): the root over one cycle, begun anew at each half-cycle (IEC
-- 61000-4-30:2015, 5.4).
use Rattle.std.specs.Prelude.{ℕ, List, map, drop, ℤ, slice_range}
use Rattle.std.specs.List.{zip}
use Rattle.event_detect.specs.declared.window.Window.{Window}
use Rattle.zero_cross.specs.declared.rule.Rule.{Rule}
use Rattle.zero_cross.specs.Boundary.{boundary_places}
use Rattle.fixed_rms.specs.Root.{rms}

-- the window from place a up to place b, with the root of the samples between (5.4)
unfoldable pub window_between : List ℤ → ℕ → ℕ → Window
window_between s a b = record { start = a; end = b; value = rms (slice_range s a b) }

-- each of some places that has a second one after it begins a window, which ends there: one cycle, half a
-- cycle after the window before (5.4)
unfoldable pub windows_over : List ℤ → List ℕ → List Window
windows_over s places = map (λ p. window_between s p.0 p.1) (zip places (drop 2 places))

-- the windows of a channel, in order: those over its boundaries (5.4)
unfoldable pub windows : List ℤ → Rule → List Window
windows s rule = windows_over s (boundary_places s rule)
