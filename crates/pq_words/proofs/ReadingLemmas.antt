-- What a reading that found no fault went through: the tools of the laws of reading.
use Rattle.std.proofs.Common.{◌≡◌, Bool, true, false, Option, Some, None, Result, Ok, Err, refl}
use Rattle.std.specs.Option.{ok_or}
use Rattle.pq_words.specs.FirstFault.{◌>>=◌, provided}

-- a step that found no fault, and what came after it
pub bind_ok : {A B E : Type 0} (r : Result A E) (f : A → Result B E) (y : B) → (r >>= f) ≡ Ok y → (x : A) ×
    (r ≡ Ok x) × (f x ≡ Ok y)
bind_ok (Ok x) f y e = (x, refl, e)
bind_ok (Err d) f y e = absurd cc

-- a test that held
pub provided_ok : {A E : Type 0} (test : Bool) (fault : E) (x y : A) → provided test fault x ≡ Ok y →
    (test ≡ true) × (x ≡ y)
provided_ok true fault x y e = (refl, cc)
provided_ok false fault x y e = absurd cc

-- a value that was there
pub some_ok : {A E : Type 0} (o : Option A) (fault : E) (y : A) → ok_or o fault ≡ Ok y → o ≡ Some y
some_ok (Some x) fault y e = cc
some_ok None fault y e = absurd cc
