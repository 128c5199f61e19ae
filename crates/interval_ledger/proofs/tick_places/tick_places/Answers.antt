use Rattle.std.proofs.Common.{◌∙◌, ◌++◌, map, All, List, ℤ, FitsSigned, w64, rules, sym, ap, subst, append-nil}
use Rattle.std.proofs.lemmas.Int.{to_z-of_z}
use Rattle.std.proofs.lemmas.List.Elements.{All-tail}
use Rattle.std.specs.List.Sorted.{IsNonDecreasing}
use Rattle.pq_sequence.specs.MeasuredRecording.{tick_places}
use Rattle.pq_time.specs.Tick.{IsTick, tick_place}
use Rattle.interval_ledger.proofs.PlaceRises.{one_place, places_never_fall}
use Rattle.interval_ledger.proofs.tick_places.tick_places.Goals as goal

-- a tick more, with its place
pub loop-second-preserved : goal.loop-second-preserved
loop-second-preserved c =
    let clock = c.args.clock.now in
    let second = c.in-Some.second in
    let left = c.loop-second.second-iterator in
    let splits = c.in-Some.ensures.steps in
    let fits : FitsSigned w64 second = search rules in
    let place = simp to_z-of_z at c.tick_place.ensures in
    record {
      whole = one_place (tick_place clock c.args.n) second left c.next.new.self c.loop-second.found.items
          c.push.new.self.items _ c.tick_place.result splits place c.in_ok-push.ensures.items
          c.loop-second.invariant.whole;
      ticks = All-tail (IsTick clock c.args.n 600) second c.next.new.self
          (subst (λ (xs : List ℤ). All (IsTick clock c.args.n 600) xs) splits c.loop-second.invariant.ticks);
    }

-- the places of all ticks
pub returns-clause-value : goal.returns-clause-value
unfolding tick_places
returns-clause-value c =
    let places = λ (seconds : List ℤ). map (tick_place c.args.clock.now c.args.n) seconds in
    sym (append-nil c.loop-second.found.items)
    ∙ ap (λ seconds. c.loop-second.found.items ++ places seconds) (sym c.in-None.ensures.steps.0)
    ∙ c.loop-second.invariant.whole

pub returns-clause-rising : goal.returns-clause-rising
returns-clause-rising c =
    subst IsNonDecreasing (sym (returns-clause-value c)) (places_never_fall c.args.clock.now c.args.n)
