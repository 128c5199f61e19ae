use Rattle.std.proofs.Common.{◌≡◌, ◌-◌, length, All, refl, subst, sym, arith}
use Rattle.std.specs.List.Sorted.{IsNonDecreasing}
use Rattle.std.proofs.lemmas.Grind.{common_steps}
use Rattle.std.proofs.lemmas.Result.{IfOk-weaker}
use Rattle.pq_sequence.specs.BasicInterval.{IsRun, cycles_of}
use Rattle.pq_sequence.specs.Measured.{run_starts}
use Rattle.pq_sequence.proofs.BasicLemmas.{runs_lie, some_cycles}
use Rattle.pq_sequence.proofs.WalkLemmas.{runs_rise}
use Rattle.ten_twelve.specs.Run.{runs}
use Rattle.pq_sequence.proofs.runs.basic_runs.Goals as goal

-- the runs are those of `chop`
pub returns-clause-value : goal.returns-clause-value
returns-clause-value c = grind (arith, common_steps)

-- whose cycles lie between boundaries
pub returns-clause-within : goal.returns-clause-within
returns-clause-within c =
    let n = length c.args.boundaries.now in
    let cycles = cycles_of c.args.lf in
    let all = runs c.args.fronts.now cycles (n - 1) in
    IfOk-weaker c.map_err.result (λ found. found.items ≡ all) (λ found. All (IsRun n) found.items)
    (λ found is. subst (λ xs. All (IsRun n) xs) (sym is)
    (runs_lie c.args.fronts.now cycles n (some_cycles c.args.lf cycles refl)))
    (returns-clause-value c)

-- and begin one after another
pub returns-clause-rising : goal.returns-clause-rising
returns-clause-rising c =
    let n = length c.args.boundaries.now in
    let cycles = cycles_of c.args.lf in
    let all = runs c.args.fronts.now cycles (n - 1) in
    IfOk-weaker c.map_err.result (λ found. found.items ≡ all)
    (λ found. IsNonDecreasing (run_starts found.items))
    (λ found is. subst (λ xs. IsNonDecreasing (run_starts xs)) (sym is)
    (runs_rise c.args.fronts.now cycles (n - 1)))
    (returns-clause-value c)
