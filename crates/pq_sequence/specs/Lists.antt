-- What contracts say of lists in memory: what a call gave, or added to one, where memory was there.
use Rattle.std.specs.Prelude.{◌≡◌, List, ◌++◌, All, Result, IfOk}
use Rattle.std.specs.declared.alloc.Global.{Global}
use Rattle.std.specs.declared.vec.Vec.{Vec}

-- a call that succeeds gives these elements
abbrev pub Gives : {X E : Type 0} → Result (Vec X Global) E → List X → Type 0
Gives result elements = IfOk result (λ found. found.items ≡ elements)

-- a call that succeeds gives elements of which each is so
abbrev pub GivesAll : {X E : Type 0} → (X → Type 0) → Result (Vec X Global) E → Type 0
GivesAll P result = IfOk result (λ found. All P found.items)

-- a list grew by these elements
abbrev pub Adds : {X : Type 0} → Vec X Global → Vec X Global → List X → Type 0
Adds old new elements = new.items ≡ old.items ++ elements
