-- Where windows lie: within the signal, none empty, each begun after the one before it.
use Rattle.std.proofs.Common.{◌≡◌, ℕ, zero, suc, ◌+◌, ◌<◌, ◌≤◌, List, [], ◌∷◌, length, map, All, ℤ, slice_index, subst, arith}
use Rattle.std.specs.Bool.{⊤}
use Rattle.std.specs.List.{AllByRecursion}
use Rattle.std.specs.List.Sorted.{IsStrictlyIncreasing}
use Rattle.std.proofs.lemmas.List.Elements.{All-from_recursion, All-head}
use Rattle.event_detect.specs.declared.window.Window.{Window}
use Rattle.half_cycle.specs.HalfCycleWindow.{window_between, windows_over, windows}
use Rattle.zero_cross.specs.declared.rule.Rule.{Rule}
use Rattle.zero_cross.specs.Boundary.{AreBoundaries, IsRule, boundary_places}
use Rattle.zero_cross.proofs.BoundaryLaws.{boundaries_lie}
use Rattle.half_cycle.proofs.WindowLaws.{fewer_boundaries}

-- places below n, each after the one before it, from low on
abbrev Climbs : ℕ → ℕ → List ℕ → Type 0
Climbs n low [] = ⊤
Climbs n low (p ∷ ps) = (low ≤ p) × (p < n) × Climbs n (p + 1) ps

-- windows below n that are not empty, each begun after the one before it, from low on
abbrev pub Follow : ℕ → ℕ → List Window → Type 0
Follow n low [] = ⊤
Follow n low (w ∷ ws) = (low ≤ w.start) × (w.start < w.end) × (w.end < n) × Follow n (w.start + 1) ws

boundaries_climb : (n low : ℕ) (ps : List ℕ) → All (λ p. low ≤ p) ps → AreBoundaries ps n → Climbs n low ps
boundaries_climb n low [] above are = tt
boundaries_climb n low (p ∷ ps) above are = (
  All-head (λ q. low ≤ q) p ps above,
  All-head (λ q. q < n) p ps are.below,
  boundaries_climb n (p + 1) ps
      (λ k d inside. let less = are.rising 0 (suc k) d (omega arith) (omega (arith, inside)) in
      omega (arith, less))
      (fewer_boundaries p ps n are),
)

-- the windows over places that climb follow one another
over_more : (s : List ℤ) (n low x y : ℕ) (ps : List ℕ) → Climbs n low (x ∷ y ∷ ps) →
    Follow n (x + 1) (windows_over s (y ∷ ps)) → Follow n low (windows_over s (x ∷ y ∷ ps))
unfolding windows_over window_between
over_more s n low x y [] climbs later = tt
over_more s n low x y (z ∷ ps) climbs later = (
  climbs.0,
  omega (arith, climbs.2.0, climbs.2.2.0),
  climbs.2.2.1,
  later,
)

over : (s : List ℤ) (n low x : ℕ) (ps : List ℕ) → Climbs n low (x ∷ ps) →
    Follow n low (windows_over s (x ∷ ps))
unfolding windows_over
over s n low x [] climbs = tt
over s n low x (y ∷ ps) climbs = over_more s n low x y ps climbs (over s n (x + 1) y ps climbs.2)

over_all : (s : List ℤ) (n low : ℕ) (ps : List ℕ) → Climbs n low ps → Follow n low (windows_over s ps)
unfolding windows_over
over_all s n low [] climbs = tt
over_all s n low (x ∷ ps) climbs = over s n low x ps climbs

-- the windows of a signal lie within it, and follow one another
pub windows_follow : (s : List ℤ) (rule : Rule) → IsRule rule → Follow (length s) 0 (windows s rule)
unfolding windows
windows_follow s rule given =
    let places = boundary_places s rule in
    over_all s (length s) 0 places
    (boundaries_climb (length s) 0 places (λ k d inside. omega arith) (boundaries_lie s rule given))

each_lies : (n low : ℕ) (ws : List Window) → Follow n low ws →
    AllByRecursion (λ w. (w.start < w.end) × (w.end < n)) ws
each_lies n low [] h = tt
each_lies n low (w ∷ ws) h = ((h.1, h.2), each_lies n (w.start + 1) ws h.3)

-- no window is empty, and each ends before the signal does
pub windows_lie : (s : List ℤ) (rule : Rule) → IsRule rule →
    All (λ w. (w.start < w.end) × (w.end < length s)) (windows s rule)
windows_lie s rule given =
    All-from_recursion (λ w. (w.start < w.end) × (w.end < length s)) (windows s rule)
    (each_lies (length s) 0 (windows s rule) (windows_follow s rule given))

starts_rise : (n low : ℕ) (ws : List Window) → Follow n low ws → IsStrictlyIncreasing (map (λ w. w.start) ws)
starts_rise n low [] h k inside = absurd (omega (arith, inside))
starts_rise n low (w ∷ []) h k inside = absurd (omega (arith, inside))
starts_rise n low (w ∷ v ∷ ws) h zero inside = omega (arith, h.3.0)
starts_rise n low (w ∷ v ∷ ws) h (suc k) inside =
    let starts = map (λ x. x.start) (v ∷ ws) in
    let step : suc (k + 1) ≡ suc k + 1 = omega arith in
    subst (λ j. slice_index starts k < slice_index (w.start ∷ starts) j) step
    (starts_rise n (w.start + 1) (v ∷ ws) h.3 k (omega (arith, inside)))

-- windows are in the order of their starts
pub windows_rise : (s : List ℤ) (rule : Rule) → IsRule rule →
    IsStrictlyIncreasing (map (λ w. w.start) (windows s rule))
windows_rise s rule given = starts_rise (length s) 0 (windows s rule) (windows_follow s rule given)
