-- What contracts see of a queue: the items that were posted, and how many there is room for.
use Rattle.std.specs.Prelude.{ℕ, List, [], ◌∷◌, ◌++◌}

pub record Queued (X : Type 0) : Type 0 where
  pub items : List X
  pub room : ℕ

-- nothing, with room for so many
abbrev pub empty_queue : {X : Type 0} → ℕ → Queued X
empty_queue room = record { items = []; room = room }

-- one item more
abbrev pub with_item : {X : Type 0} → Queued X → X → Queued X
with_item q item = record { items = q.items ++ item ∷ []; room = q.room }
