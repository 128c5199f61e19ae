use Rattle.std.proofs.Common.{◌≡◌, ◌-◌, length, sym, ◌∙◌, ap}
use Rattle.pq_sequence.specs.BasicInterval.{basic_runs, cycles_of, fronts}
use Rattle.pq_sequence.specs.MeasuredRecording.{clock_of, recorded_places, runs_of, tick_places}
use Rattle.ten_twelve.specs.Run.{runs}
use Rattle.pq_sequence.proofs.runs.recorded_runs.Goals as goal

-- those from the fronts of the clock's ticks
pub returns-clause-value : goal.returns-clause-value
unfolding basic_runs
returns-clause-value c =
    let r = c.args.recording.now in
    let boundaries = c.args.boundaries.now in
    let count = length boundaries - 1 in
    let all = fronts boundaries (recorded_places r) in
    let found : c.in_ok-fronts.fronts.items ≡ all = c.in_ok-fronts.ensures.value
    ∙ ap (λ clock. fronts boundaries (tick_places clock c.len.result)) c.clock_of.ensures.value
    ∙ ap (λ n. fronts boundaries (tick_places (clock_of r) n)) c.len.ensures.value in
    c.in_ok-runs.ensures.value
    ∙ ap (λ starts. runs starts (cycles_of c.lf.result) count) (c.deref.ensures.value ∙ found)
    ∙ ap (λ lf. runs all (cycles_of lf) count) c.lf.ensures.value
