-- The subject: reading from left to right, with the first fault that is met, and what a function that reads
-- so may answer (profile).
use Rattle.std.specs.Prelude.{◌≡◌, Bool, ◌⊎◌, if◌then◌else◌, Result, Ok, Err}

-- the step after a step that found no fault; a fault ends the reading
infixl 10 ◌>>=◌
abbrev pub ◌>>=◌ : {A B E : Type 0} → Result A E → (A → Result B E) → Result B E
(Ok x) >>= f = f x
(Err e) >>= f = Err e

-- x where the test holds, else the fault
abbrev pub provided : {A E : Type 0} → Bool → E → A → Result A E
provided test fault x = if test then Ok x else Err fault

-- what a function returned, seen by view, is what reading gives, unless it is the one free answer
abbrev pub GivesUnless : {X Y E : Type 0} → E → (X → Y) → Result X E → Result Y E → Type 0
GivesUnless free view (Ok x) read = read ≡ Ok (view x)
GivesUnless free view (Err e) read = (e ≡ free) ⊎ (read ≡ Err e)
