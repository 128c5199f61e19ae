-- What contracts see of cycle boundaries one after another, and of the whole cycles between them.
use Rattle.std.specs.Prelude.{◌≡◌, ℕ, ◌+◌, ◌<◌, ◌≤◌, nat_le, ◌==◌, Bool, false, List, [], ◌∷◌, filter, fold, slice_get, Option, None, Some, MatchOption}
use Rattle.std.specs.Bool.{⊤}
use Rattle.std.specs.Option.{option_map_or}
use Rattle.freq10s.specs.declared.cycles.Cycles.{Cycles}
use Rattle.zero_cross.specs.declared.boundary.Boundary.{Boundary}
use Rattle.zero_cross.specs.Boundary.{rising_places}

-- the boundary that comes next and the rising ones after it, or none
abbrev pub cycles_left : Option ℕ → List Boundary → List ℕ
cycles_left None later = []
cycles_left (Some place) later = place ∷ rising_places later

-- the first of some places is taken, if there is one
abbrev pub StepsTo : List ℕ → Option ℕ → List ℕ → Type 0
StepsTo old taken new = MatchOption taken (old ≡ []) (λ place. old ≡ place ∷ new)

-- the first of some places is not below a place, if there is one
abbrev pub AreFrom : ℕ → List ℕ → Type 0
AreFrom place [] = ⊤
AreFrom place (k ∷ later) = place ≤ k

-- the first of some places is below a place, and is taken; else they stay
abbrev pub TakesBelow : ℕ → List ℕ → Option ℕ → List ℕ → Type 0
TakesBelow place old taken new =
    MatchOption taken ((new ≡ old) × AreFrom place old) (λ k. (old ≡ k ∷ new) × (k < place))

-- whether the first of some boundaries lies at a place
abbrev pub is_next : ℕ → List ℕ → Bool
is_next place boundaries = option_map_or (λ k. k == place) (slice_get boundaries 0) false

-- the boundaries from a place on
abbrev pub boundaries_from : ℕ → List ℕ → List ℕ
boundaries_from place boundaries = filter (λ k. nat_le place k) boundaries

-- some cycles and one boundary more; the first boundary alone makes none
abbrev pub with_boundary : Option Cycles → ℕ → Cycles
with_boundary None boundary = record { first = boundary; last = boundary; count = 0 }
with_boundary (Some c) boundary = record { first = c.first; last = boundary; count = c.count + 1 }

-- some cycles and the boundaries after them
unfoldable pub cycles_more : Option Cycles → List ℕ → Option Cycles
cycles_more cycles boundaries = fold (λ so_far k. Some (with_boundary so_far k)) cycles boundaries

-- the cycles between some boundaries, if there are any
abbrev pub cycles_between : List ℕ → Option Cycles
cycles_between boundaries = cycles_more None boundaries
