-- What holds of all holds of the first and of the others.
use Rattle.std.proofs.Common.{◌≡◌, List, ◌∷◌, All, suc, subst, arith}

pub all_first : {X : Type 0} (P : X → Type 0) (xs ys : List X) (x : X) → xs ≡ x ∷ ys → All P xs →
    P x × All P ys
all_first P xs ys x is all =
    let of_all = subst (All P) is all in
    (of_all 0 x (omega arith), λ k d inside. of_all (suc k) d (omega (arith, inside)))
