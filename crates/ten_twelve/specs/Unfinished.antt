-- What contracts see of the two runs that may lack elements.
use Rattle.std.specs.Prelude.{◌≡◌, ℕ, ◌+◌, ◌<◌, ◌≤◌, Bool, true, false, ◌||◌, map, ◌==◌, if◌then◌else◌, List, [], ◌∷◌, ◌++◌, Option, Some, None, option_map, option_to_list}
use Rattle.std.specs.Option.{ForSome}
use Rattle.ten_twelve.specs.declared.unfinished.UnfinishedRun.{UnfinishedRun}
use Rattle.ten_twelve.specs.declared.unfinished.Unfinished.{Unfinished}
use Rattle.ten_twelve.specs.Run.{PendingRun}

abbrev pub pending_view : UnfinishedRun → PendingRun
pending_view run = record { start = run.start; count = run.count }

-- both runs, the oldest first
abbrev pub pending_of : Unfinished → List PendingRun
pending_of runs = option_to_list (option_map pending_view runs.older)
    ++ option_to_list (option_map pending_view runs.latest)

-- a run with one element more
abbrev pub grown : PendingRun → PendingRun
grown run = record { start = run.start; count = run.count + 1 }

-- a run of one element
abbrev pub new_run : ℕ → PendingRun
new_run start = record { start = start; count = 1 }

-- the oldest run, if it has so many elements
abbrev pub oldest_whole : ℕ → List PendingRun → Option PendingRun
oldest_whole length [] = None
oldest_whole length (run ∷ runs) = if run.count == length then Some run else None

-- the runs without that one
abbrev pub others : ℕ → List PendingRun → List PendingRun
others length [] = []
others length (run ∷ runs) = if run.count == length then runs else run ∷ runs

-- the run that one more element completes, and those that it does not
abbrev pub completed_run : ℕ → List PendingRun → Option PendingRun
completed_run length runs = oldest_whole length (map grown runs)

abbrev pub unfinished_runs : ℕ → List PendingRun → List PendingRun
unfinished_runs length runs = others length (map grown runs)

-- whether there are no runs
abbrev pub is_nil : List PendingRun → Bool
is_nil [] = true
is_nil (run ∷ runs) = false

-- the runs that lack elements after one more element, with its start: a new one at a front, or where there
-- was none
abbrev pub next_pending : ℕ → List PendingRun → Bool → ℕ → List PendingRun
next_pending length runs front start = unfinished_runs length runs
    ++ (if front || is_nil runs then new_run start ∷ [] else [])

-- each run lacks elements, the older one has more than the latest, and there is no older one without a latest
pub record AreUnfinished (length : ℕ) (runs : Unfinished) : Type 0 where
  pub older : ForSome runs.older (λ run. run.count < length)
  pub latest : ForSome runs.latest (λ run. (1 ≤ run.count) × (run.count < length))
  pub apart : ForSome runs.older (λ o. ForSome runs.latest (λ l. l.count < o.count))
  pub order : runs.latest ≡ None → runs.older ≡ None
