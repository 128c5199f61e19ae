-- Worked values, so that a wrong rule in the specs does not check.
use Rattle.std.proofs.Common.{◌≡◌, ℕ, Bool, List, [], ◌∷◌, map, true, false, Some, None, refl}
use Rattle.ten_twelve.specs.declared.span.Span.{Span}
use Rattle.ten_twelve.specs.Run.{Element, latest_start, runs, marked, chopped, pending_runs}
use Rattle.pq_words.specs.Steps.{numbers_from}

-- the indices at which runs begin
abbrev begun : List Span → List ℕ
begun spans = map (λ s. s.start) spans

-- fronts 0 and 24 over 49 cycles, ten each: the run [20,30) over the front is completed, and overlaps the
-- first one after it
pub run_over_front : (begun (runs (0 ∷ 24 ∷ []) 10 49) ≡ 0 ∷ 10 ∷ 20 ∷ 24 ∷ 34 ∷ []) ×
    (map (λ s. s.end) (runs (0 ∷ 24 ∷ []) 10 49) ≡ 10 ∷ 20 ∷ 30 ∷ 34 ∷ 44 ∷ [])
unfolding runs numbers_from
run_over_front = (refl, refl)

-- a start at the very end begins nothing, and before the first start there is no run
pub runs_at_edges : (begun (runs (0 ∷ 20 ∷ []) 10 20) ≡ 0 ∷ 10 ∷ []) × (runs (0 ∷ []) 10 9 ≡ []) ×
    (begun (runs (3 ∷ []) 2 8) ≡ 3 ∷ 5 ∷ []) × (runs [] 2 8 ≡ [])
unfolding runs numbers_from
runs_at_edges = (refl, refl, refl, refl)

-- the latest start is one at the index itself, else the one before it; before the first start there is none
pub latest_starts : map (latest_start (3 ∷ 24 ∷ [])) (2 ∷ 3 ∷ 23 ∷ 24 ∷ 30 ∷ [])
    ≡ None ∷ Some 3 ∷ Some 3 ∷ Some 24 ∷ Some 24 ∷ []
latest_starts = refl

-- twelve cycles a run
pub runs_of_twelve : runs (0 ∷ []) 12 24 ≡ record { start = 0; end = 12 } ∷ record { start = 12; end = 24 } ∷
    []
unfolding runs numbers_from
runs_of_twelve = refl

-- the indices of the marks that are set
pub marked_indices : marked (true ∷ false ∷ false ∷ true ∷ []) ≡ 0 ∷ 3 ∷ []
unfolding marked
marked_indices = refl

-- an element of ten places
abbrev at : Bool → ℕ → ℕ → Element
at front start end = record { front = front; span = record { start = start; end = end } }

-- elements of ten places each, the fourth of which begins anew at place 25: runs of two
pub chopped_elements : chopped 2 (at true 0 10 ∷ at false 10 20 ∷ at false 20 30 ∷ at true 25 35 ∷ at false 35
    45 ∷ [])
    ≡ record { start = 0; end = 20 } ∷ record { start = 20; end = 35 } ∷ record { start = 25; end = 45 } ∷ []
unfolding chopped runs marked numbers_from
chopped_elements = refl

-- at the front the run of two elements lacks one, and behind it, of runs of three, two lack elements
pub pending_at_front : (pending_runs 2 (at true 0 10 ∷ at false 10 20 ∷ at false 20 30 ∷ [])
    ≡ record { start = 20; count = 1 } ∷ [])
    × (pending_runs 3 (at true 0 10 ∷ at true 5 15 ∷ [])
    ≡ record { start = 0; count = 2 } ∷ record { start = 5; count = 1 } ∷ [])
    × (pending_runs 3 (at true 0 10 ∷ at false 10 20 ∷ at false 20 30 ∷ []) ≡ [])
unfolding pending_runs marked numbers_from
pending_at_front = (refl, refl, refl)
