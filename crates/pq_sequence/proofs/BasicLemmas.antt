-- Basic intervals as runs of cycles.
use Rattle.std.proofs.Common.{◌≡◌, ℕ, zero, suc, ◌+◌, ◌-◌, ◌<◌, ◌==◌, Bool, true, false, if◌then◌else◌, List, length, All, arith}
use Rattle.std.proofs.lemmas.List.Elements.{All-cons, All-filter, All-map, All-nil, All-weaker}
use Rattle.pq_sequence.specs.BasicInterval.{IsRun, basic_span, cycles_of}
use Rattle.pq_words.specs.Steps.{numbers_below, numbers_from}
use Rattle.ten_twelve.specs.Run.{begins_run, run_from, runs}
use Rattle.ten_twelve.specs.declared.span.Span.{Span}
use Rattle.zero_cross.specs.Boundary.{AreBoundaries}

-- an interval has cycles
pub some_cycles : (lf cycles : ℕ) → cycles ≡ cycles_of lf → 0 < cycles
some_cycles lf cycles is = at (lf == 50) is
  where
    at : (b : Bool) → cycles ≡ (if b then 10 else 12) → 0 < cycles
    at true is = omega (arith, is)
    at false is = omega (arith, is)

-- numbers from low on
pub numbers_lie : (low n : ℕ) → All (λ x. x < low + n) (numbers_from low n)
unfolding numbers_from
numbers_lie low zero = All-nil (λ x. x < low + 0)
numbers_lie low (suc n) =
    All-cons (λ x. x < low + suc n) low (numbers_from (low + 1) n) (omega arith)
    (All-weaker (λ x. x < low + 1 + n) (λ x. x < low + suc n) (λ x h. omega (arith, h))
    (numbers_from (low + 1) n) (numbers_lie (low + 1) n))

-- the cycles of a run lie between boundaries
pub runs_lie : (starts : List ℕ) (cycles boundaries : ℕ) → 0 < cycles →
    All (IsRun boundaries) (runs starts cycles (boundaries - 1))
unfolding runs
runs_lie starts cycles boundaries some =
    let n = boundaries - 1 + 1 - cycles in
    All-map (IsRun boundaries) (run_from cycles) _
    (All-filter (begins_run starts cycles) (λ x. IsRun boundaries (run_from cycles x)) (numbers_below n)
    (All-weaker (λ x. x < 0 + n) (λ x. IsRun boundaries (run_from cycles x))
    (λ x h. record { some = omega (arith, some); there = omega (arith, some, h) }) (numbers_below n)
    (numbers_lie 0 n)))

-- an interval ends after its start
pub starts_before : (boundaries : List ℕ) (count : ℕ) (run : Span) → IsRun (length boundaries) run →
    AreBoundaries boundaries count → (basic_span boundaries run).start < (basic_span boundaries run).end
starts_before boundaries count run is are = are.rising run.start run.end 0 is.some is.there
