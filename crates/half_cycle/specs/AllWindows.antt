-- The subject: laws of the list of all windows of a signal; each is the contract of a call of its own.
use Rattle.std.specs.Prelude.{◌<◌, List, length, map, All, ℤ}
use Rattle.std.specs.List.Sorted.{IsStrictlyIncreasing}
use Rattle.half_cycle.specs.HalfCycleWindow.{windows}
use Rattle.zero_cross.specs.declared.rule.Rule.{Rule}
use Rattle.zero_cross.specs.Boundary.{IsRule}

-- no window is empty, and each ends before the signal does
abbrev pub WindowsLieWithin : Type 0
WindowsLieWithin = (s : List ℤ) (rule : Rule) → IsRule rule →
    All (λ w. (w.start < w.end) × (w.end < length s)) (windows s rule)

-- windows are in the order of their starts
abbrev pub WindowsRise : Type 0
WindowsRise = (s : List ℤ) (rule : Rule) → IsRule rule →
    IsStrictlyIncreasing (map (λ w. w.start) (windows s rule))
