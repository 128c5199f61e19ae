-- One more number in equal steps, for the step of a loop that makes a list.
use Rattle.std.proofs.Common.{◌≡◌, ℕ, zero, suc, ◌+◌, List, [], ◌∷◌, ◌++◌, length, map, refl, ◌∙◌, ap, arith, add-one}
use Rattle.std.proofs.lemmas.List.{map-append}
use Rattle.pq_words.specs.Steps.{numbers_from, numbers_below}

-- n numbers and the one after them
pub numbers_push : (low n : ℕ) → numbers_from low (suc n) ≡ numbers_from low n ++ (low + n) ∷ []
unfolding numbers_from
numbers_push low zero = let e : low ≡ low + 0 = omega arith in ap (λ x. x ∷ []) e
numbers_push low (suc n) =
    let e : low + 1 + n ≡ low + suc n = omega arith in
    ap (λ xs. low ∷ xs) (numbers_push (low + 1) n ∙ ap (λ x. numbers_from (low + 1) n ++ x ∷ []) e)

-- what a function gives of the numbers below n, and then of n
pub map_below_push : {X : Type 0} (f : ℕ → X) (n : ℕ) → map f (numbers_below (n + 1))
    ≡ map f (numbers_below n) ++ f n ∷ []
map_below_push f n =
    let e : 0 + n ≡ n = omega arith in
    ap (λ m. map f (numbers_below m)) (add-one n)
    ∙ ap (map f) (numbers_push 0 n ∙ ap (λ k. numbers_below n ++ k ∷ []) e)
    ∙ map-append f (numbers_below n) (n ∷ [])

-- there are n of them
pub length_numbers : (low n : ℕ) → length (numbers_from low n) ≡ n
unfolding numbers_from
length_numbers low zero = refl
length_numbers low (suc n) = ap suc (length_numbers (low + 1) n)
