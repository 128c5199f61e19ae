-- Fronts and rests of lists.
use Rattle.std.proofs.Common.{◌≡◌, ℕ, ◌+◌, ◌≤◌, min, List, [], ◌∷◌, ◌++◌, length, take, drop, zero, suc, slice_get, slice_set, slice_index, Some, None, refl, sym, ap, ◌∙◌, subst, arith}

-- a front of so many items, or of all
front : {A : Type 0} (n : ℕ) (xs ys : List A) → length xs ≡ min n (length (xs ++ ys)) → xs ≡ take n (xs ++ ys)
front zero [] ys s = refl
front zero (x ∷ xs) ys s = absurd (omega arith)
front (suc n) [] [] s = refl
front (suc n) [] (y ∷ ys) s = absurd (omega arith)
front (suc n) (x ∷ xs) ys s = ap (λ zs. x ∷ zs) (front n xs ys (omega arith))

pub is_front : {A : Type 0} (n : ℕ) (xs ys all : List A) → xs ++ ys ≡ all → length xs ≡ min n (length all) →
    xs ≡ take n all
is_front {A} n xs ys all e size =
    subst (λ (zs : List A). xs ≡ take n zs) e
    (front n xs ys (size ∙ ap (λ (zs : List A). min n (length zs)) (sym e)))

pub drop_part : {A : Type 0} (n : ℕ) (xs ys : List A) → n ≤ length xs → drop n (xs ++ ys) ≡ drop n xs ++ ys
drop_part zero xs ys l = refl
drop_part (suc n) [] ys l = absurd (omega arith)
drop_part (suc n) (x ∷ xs) ys l = drop_part n xs ys (omega arith)

drop_none : {A : Type 0} (n : ℕ) → drop {A = A} n [] ≡ []
drop_none zero = refl
drop_none (suc n) = refl

pub drop_again : {A : Type 0} (n k : ℕ) (xs : List A) → drop n (drop k xs) ≡ drop (k + n) xs
drop_again {A} n zero xs = ap (λ j. drop j xs) {x = n} {y = 0 + n} (omega arith)
drop_again {A} n (suc k) [] = drop_none {A = A} n ∙ sym (drop_none {A = A} (suc k + n))
drop_again {A} n (suc k) (x ∷ xs) =
    drop_again n k xs ∙ ap (λ j. drop j (x ∷ xs)) {x = suc (k + n)} {y = suc k + n} (omega arith)

-- what stands in a rest, and in a front, stands in the list
pub get_drop : {A : Type 0} (n k : ℕ) (xs : List A) → slice_get (drop n xs) k ≡ slice_get xs (n + k)
get_drop zero k xs = ap (λ j. slice_get xs j) {x = k} {y = 0 + k} (omega arith)
get_drop (suc n) k [] = refl
get_drop (suc n) k (x ∷ xs) =
    get_drop n k xs ∙ ap (λ j. slice_get (x ∷ xs) j) {x = suc (n + k)} {y = suc n + k} (omega arith)

pub get_take : {A : Type 0} (n k : ℕ) (xs : List A) (x : A) → slice_get (take n xs) k ≡ Some x →
    slice_get xs k ≡ Some x
get_take zero k xs x is = absurd (let bad : ⊥ = cc in bad)
get_take (suc n) k [] x is = is
get_take (suc n) zero (y ∷ xs) x is = is
get_take (suc n) (suc k) (y ∷ xs) x is = get_take n k xs x is

-- the first of a list that is not empty is the first of any longer one
pub first_of_both : {A : Type 0} (x : A) (xs ys : List A) → slice_get ((x ∷ xs) ++ ys) 0 ≡ Some x
first_of_both x xs ys = refl

-- a list of which nothing is left past a place is no longer
pub none_left : {A : Type 0} (n : ℕ) (xs : List A) → drop n xs ≡ [] → length xs ≤ n
none_left zero [] e = omega arith
none_left zero (x ∷ xs) e = absurd (let bad : ⊥ = cc in bad)
none_left (suc n) [] e = omega arith
none_left (suc n) (x ∷ xs) e = let t = none_left n xs e in omega (arith, t)

pub none_at : {A : Type 0} (xs : List A) (k : ℕ) → slice_get xs k ≡ None → length xs ≤ k
none_at [] k e = omega arith
none_at (x ∷ xs) zero e = absurd (let bad : ⊥ = cc in bad)
none_at (x ∷ xs) (suc k) e = let t = none_at xs k e in omega (arith, t)

-- ---- one element changed

pub set_as_was : (xs : List ℕ) (k : ℕ) → slice_set xs k (slice_index xs k) ≡ xs
set_as_was [] k = refl
set_as_was (x ∷ xs) zero = refl
set_as_was (x ∷ xs) (suc k) = ap (λ ys. x ∷ ys) (set_as_was xs k)

pub set_again : (xs : List ℕ) (k a b : ℕ) → slice_set (slice_set xs k a) k b ≡ slice_set xs k b
set_again [] k a b = refl
set_again (x ∷ xs) zero a b = refl
set_again (x ∷ xs) (suc k) a b = ap (λ ys. x ∷ ys) (set_again xs k a b)
