-- The subject: basic intervals, 10 cycles at 50 Hz and 12 at 60 Hz, one after another, that begin anew at
-- each 10-minute tick (4.5, 5.2). That they begin at the first cycle boundary, what becomes of the interval
-- over a tick, and that only whole intervals count, is profile.
-- Sections are those of IEC 61000-4-30:2015; "profile" marks a choice of this project.
use Rattle.std.specs.Prelude.{ℕ, Bool, ◌-◌, ◌<◌, ◌==◌, nat_le, if◌then◌else◌, List, ◌∷◌, length, filter_map, Option, slice_index}
use Rattle.std.specs.List.{dedup, list_any}
use Rattle.pq_words.specs.First.{first_between}
use Rattle.ten_twelve.specs.Run.{runs}
use Rattle.ten_twelve.specs.declared.span.Span.{Span}

-- a run of cycles between so many boundaries: some cycles, whose boundaries are there
pub record IsRun (boundaries : ℕ) (run : Span) : Type 0 where
  pub some : run.start < run.end
  pub there : run.end < boundaries

-- how many cycles a basic interval has (4.5)
abbrev pub cycles_of : ℕ → ℕ
cycles_of lf = if lf == 50 then 10 else 12

-- the front of a place: the first cycle boundary at the place or after it, by index, where there is one
-- (profile)
unfoldable pub front_of : List ℕ → ℕ → Option ℕ
front_of boundaries place = first_between (λ j. nat_le place (slice_index boundaries j)) 0 (length boundaries)

-- the cycles at which basic intervals begin anew: the first one, and the front of each tick's place, equal
-- ones once (4.5; which cycles: profile)
unfoldable pub fronts : List ℕ → List ℕ → List ℕ
fronts boundaries places = dedup (λ a b. a == b) (0 ∷ filter_map (front_of boundaries) places)

-- the basic intervals as runs of so many cycles from each front on; one that a front interrupts is completed,
-- and overlaps the first one after the front (4.5)
unfoldable pub basic_runs : ℕ → List ℕ → List ℕ → List Span
basic_runs cycles boundaries places = runs (fronts boundaries places) cycles (length boundaries - 1)

-- a run of cycles as a span of places: cycle j lies from boundary j up to boundary j + 1 (4.5)
abbrev pub basic_span : List ℕ → Span → Span
basic_span boundaries run = record {
  start = slice_index boundaries run.start;
  end =
      slice_index boundaries run.end;
}

-- a run of cycles is the first of a segment: it begins at one of the fronts (4.5)
abbrev pub begins_segment : List ℕ → Span → Bool
begins_segment fronts run = list_any (λ g. g == run.start) fronts
