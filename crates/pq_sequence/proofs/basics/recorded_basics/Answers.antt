use Rattle.std.proofs.Common.{◌≡◌, ◌-◌, length, List, refl, sym, ◌∙◌, ap, subst}
use Rattle.std.proofs.lemmas.List.Elements.{All-map}
use Rattle.aggregate.specs.Aggregation.{Basic}
use Rattle.aggregate.specs.BasicOrder.{BeginsAtFront, Follows, IsBasic}
use Rattle.pq_base.specs.Recorded.{sample_count}
use Rattle.pq_sequence.specs.BasicInterval.{basic_runs, cycles_of, fronts}
use Rattle.pq_sequence.specs.Measured.{basic_seen, basics_seen}
use Rattle.pq_sequence.specs.MeasuredRecording.{basics_over, channel_count, clock_of, recorded_places, runs_of, tick_places}
use Rattle.pq_sequence.proofs.BasicLemmas.{some_cycles}
use Rattle.pq_sequence.proofs.BasicOrder.{basics_in_order}
use Rattle.pq_sequence.proofs.NeighbourLaws.{Linked, linked_at}
use Rattle.ten_twelve.specs.Run.{runs}
use Rattle.pq_sequence.proofs.basics.recorded_basics.Goals as goal

-- those over the runs from the fronts of the clock's ticks
pub returns-clause-value : goal.returns-clause-value
unfolding basic_runs
returns-clause-value c events are =
    let r = c.args.recording.now in
    let boundaries = c.args.boundaries.now in
    let count = length boundaries - 1 in
    let all = fronts boundaries (recorded_places r) in
    let found : c.in_ok-fronts.fronts.items ≡ all = c.in_ok-fronts.ensures.value
    ∙ ap (λ clock. fronts boundaries (tick_places clock c.len.result)) c.clock_of.ensures.value
    ∙ ap (λ n. fronts boundaries (tick_places (clock_of r) n)) c.len.ensures.value in
    let spans : c.deref-3.result.now ≡ runs_of r boundaries =
    c.deref-3.ensures.value ∙ c.in_ok-runs.ensures.value
    ∙ ap (λ starts. runs starts (cycles_of c.lf.result) count) (c.deref.ensures.value ∙ found)
    ∙ ap (λ lf. runs all (cycles_of lf) count) c.lf.ensures.value in
    c.in_ok-basics.ensures.value events are
    ∙ ap (λ starts. basics_over r events boundaries starts c.deref-3.result.now)
    (c.deref-2.ensures.value ∙ found)
    ∙ ap (basics_over r events boundaries all) spans

-- which come in order
pub returns-clause-order : goal.returns-clause-order
returns-clause-order c =
    let r = c.args.recording.now in
    let boundaries = c.args.boundaries.now in
    let events = c.requires.reaches.0 in
    let follows = Follows (clock_of r) (sample_count r) in
    let is = returns-clause-value c events c.requires.reaches.1 in
    let order = basics_in_order r events boundaries c.requires.boundaries
    (some_cycles r.lf (cycles_of r.lf) refl) in
    let linked = subst (λ (bs : List Basic). Linked follows bs) (sym is) order.1 in
    record {
      first = subst (λ (bs : List Basic). BeginsAtFront bs) (sym is) order.0;
      each = All-map (IsBasic (sample_count r) (channel_count r)) (basic_seen (channel_count r))
          c.in_ok-basics.basics.items c.in_ok-basics.ensures.each;
      follow = λ i a b. linked_at follows (basics_seen (channel_count r) c.in_ok-basics.basics.items) i a b
          linked;
    }
