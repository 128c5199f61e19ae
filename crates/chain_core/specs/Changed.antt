-- The subject: a list with one element changed.
use Rattle.std.specs.Prelude.{ℕ, List, slice_get, slice_set}
use Rattle.std.specs.Option.{option_map_or}

-- the list with the element at an index changed by f; the same list where there is none
abbrev pub changed_at : {X : Type 0} → List X → ℕ → (X → X) → List X
changed_at xs index f = option_map_or (λ x. slice_set xs index (f x)) (slice_get xs index) xs
