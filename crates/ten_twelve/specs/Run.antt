-- The subject: runs of consecutive elements, as 10 or 12 cycles and 15 basic intervals are (4.5). Where they
-- begin anew is profile.
-- Sections are those of IEC 61000-4-30:2015; "profile" marks a choice of this project.
use Rattle.std.specs.Prelude.{◌≡◌, ℕ, ◌+◌, ◌-◌, ◌*◌, ◌%◌, ◌≤◌, Bool, ◌==◌, ◌&&◌, false, nat_le, nat_lt, List, [], ◌∷◌, ◌++◌, length, map, filter, Option, None, option_to_list, slice_get, All}
use Rattle.std.specs.Int.{div_ceil}
use Rattle.std.specs.Option.{option_map_or}
use Rattle.std.specs.List.{enumerate_from, last_or}
use Rattle.std.specs.List.Sorted.{IsStrictlyIncreasing}
use Rattle.ten_twelve.specs.declared.span.Span.{Span}
use Rattle.pq_words.specs.Steps.{numbers_below}

-- how many elements a run may have: 10 or 12 cycles, and 15 basic intervals, are among them (4.5; others are
-- profile)
abbrev pub IsRunLength : ℕ → Type 0
IsRunLength length = (1 ≤ length) × (length ≤ 15)

-- what a list of starts has to be: rising, and no start past the last element's end
pub record AreStarts (starts : List ℕ) (count : ℕ) : Type 0 where
  pub rising : IsStrictlyIncreasing starts
  pub within : All (λ g. g ≤ count) starts

-- the latest start at index x or before it: the last of those that are not past it, since starts rise
abbrev pub latest_start : List ℕ → ℕ → Option ℕ
latest_start starts x = last_or None (filter (λ g. nat_le g x) starts)

-- a run begins at index x: a whole number of lengths after the latest start
abbrev pub begins_run : List ℕ → ℕ → ℕ → Bool
begins_run starts length x = option_map_or (λ g. (x - g) % length == 0) (latest_start starts x) false

-- the run of so many elements from index x on
abbrev pub run_from : ℕ → ℕ → Span
run_from length x = record { start = x; end = x + length }

-- so many runs, one after another from an index on
unfoldable pub runs_after : ℕ → ℕ → ℕ → List Span
runs_after length from n = map (λ k. run_from length (from + k * length)) (numbers_below n)

-- those that begin from an index on and below another
abbrev pub runs_between : ℕ → ℕ → ℕ → List Span
runs_between length from until = runs_after length from (div_ceil (until - from) length)

-- the runs over `count` elements, as spans of indices: one from each index where one begins, if all its
-- elements are there
unfoldable pub runs : List ℕ → ℕ → ℕ → List Span
runs starts length count =
    map (run_from length) (filter (begins_run starts length) (numbers_below (count + 1 - length)))

-- an element, and whether it is a start
pub record Element : Type 0 where
  pub front : Bool
  pub span : Span

-- the indices at which the mark is set
unfoldable pub marked : List Bool → List ℕ
marked marks = map (λ p. p.0) (filter (λ p. p.1) (enumerate_from 0 marks))

-- the starts among elements
abbrev pub fronts : List Element → List ℕ
fronts elements = marked (map (λ e. e.front) elements)

-- the start of the element at an index, and its end
abbrev pub start_at : List Element → ℕ → ℕ
start_at elements i = option_map_or (λ e. e.span.start) (slice_get elements i) 0

abbrev pub end_at : List Element → ℕ → ℕ
end_at elements i = option_map_or (λ e. e.span.end) (slice_get elements i) 0

-- what a run of elements spans: from the first one's start to the last one's end
abbrev pub spanned : List Element → Span → Span
spanned elements run = record { start = start_at elements run.start; end = end_at elements (run.end - 1) }

-- the runs over marked elements, each as what it spans
unfoldable pub chopped : ℕ → List Element → List Span
chopped length_of_run elements =
    map (spanned elements) (runs (fronts elements) length_of_run (length elements))

-- one more element completes a run, or none
abbrev pub CompletesAtLast : ℕ → List Element → Element → Option Span → Type 0
CompletesAtLast length_of_run fed e answer =
    chopped length_of_run (fed ++ e ∷ []) ≡ chopped length_of_run fed ++ option_to_list answer

-- a run that lacks elements: where its first element starts, and how many elements it has
pub record PendingRun : Type 0 where
  pub start : ℕ
  pub count : ℕ

abbrev pub pending_from : List Element → ℕ → PendingRun
pending_from elements x = record { start = start_at elements x; count = length elements - x }

-- a run begins at index x, and its end lies past the last element
abbrev pub lacks_elements : ℕ → List Element → ℕ → Bool
lacks_elements length_of_run elements x =
    begins_run (fronts elements) length_of_run x && nat_lt (length elements) (x + length_of_run)

-- the runs that have begun and lack elements, the oldest first
unfoldable pub pending_runs : ℕ → List Element → List PendingRun
pending_runs length_of_run elements =
    map (pending_from elements)
    (filter (lacks_elements length_of_run elements) (numbers_below (length elements)))
