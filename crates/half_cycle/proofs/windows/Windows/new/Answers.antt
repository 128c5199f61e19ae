use Rattle.std.proofs.Common.{◌≡◌, ◌∙◌, ℕ, Option, IfSome, ap, subst, sym}
use Rattle.half_cycle.specs.HalfCycleWindow.{windows, windows_over}
use Rattle.half_cycle.specs.Windows.{squares_between}
use Rattle.half_cycle.proofs.WindowLaws.{two_within, left_over_all}
use Rattle.zero_cross.specs.Boundary.{places_of}
use Rattle.half_cycle.proofs.windows.Windows.new.Goals.{in-Some, in-None}
use Rattle.half_cycle.proofs.windows.Windows.new.Goals as goal

-- the windows over all boundaries
pub returns : goal.returns
unfolding windows
returns c =
    let s = c.args.samples.now in
    left_over_all s c.two_places-next_two.result c.new-boundaries.result c.two_places-next_two.new.boundaries
    c.two_places-next_two.ensures
    ∙ ap (λ found. windows_over s (places_of found)) c.new-boundaries.ensures.value

-- which lie in the signal, and the sum is that between the first two
pub invariant_of-result : goal.invariant_of-result
invariant_of-result c = record {
  samples = c.requires.samples;
  boundaries = two_within c.args.samples.now c.two_places-next_two.result c.new-boundaries.result
      c.two_places-next_two.new.boundaries c.two_places-next_two.ensures c.new-boundaries.ensures.within;
  sum =
      let s = c.args.samples.now in
      let IsKept : Option (ℕ × ℕ) → Type 0 =
      λ next_two. IfSome next_two (λ two. c.match-next_two.sum ≡ squares_between s two.0 two.1) in
      elim c.match-next_two.branch [
        | in-Some w ↦ subst IsKept (sym w.in-Some.is) (w.sum-is ∙ w.squares_between-sum.ensures)
        | in-None w ↦ subst IsKept (sym w.in-None.is) tt
      ];
}
