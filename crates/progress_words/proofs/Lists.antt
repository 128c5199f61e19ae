-- Lists read by index, and a function that is changed at one number.
use Rattle.std.proofs.Common.{◌≡◌, ◌≢◌, ℕ, ◌<◌, ◌⊎◌, zero, suc, List, [], ◌∷◌, ◌++◌, length, get_or, sym, refl, ap, ⊎_elim, inl, inr, arith, replicate, eqb, eq-eqb, ne_eqb, Option, Some, None}
use mathlib.Core.Option.{some, some-injective, some-ne-none}
use lib.ListN.{get_elem?}
use prog.Atomic.{either}

module _ {A : Type 0} where
  pub inside : (l : List A) (i : ℕ) (a : A) → get_elem? l i ≡ some a → i < length l
  inside [] i a e = absurd (some-ne-none a (sym e))
  inside (x ∷ xs) zero a e = omega arith
  inside (x ∷ xs) (suc i) a e = let t = inside xs i a e in omega arith

  pub at_end : (l : List A) (a b : A) (j : ℕ) → get_elem? (l ++ a ∷ []) j ≡ some b
      → (get_elem? l j ≡ some b) ⊎ ((j ≡ length l) × (a ≡ b))
  at_end [] a b zero e = inr (refl, some-injective a b e)
  at_end [] a b (suc j) e = absurd (some-ne-none b (sym e))
  at_end (x ∷ xs) a b zero e = inl e
  at_end (x ∷ xs) a b (suc j) e =
      ⊎_elim (λ h. inl h) (λ h. inr ((let t = h.0 in omega arith), h.1)) (at_end xs a b j e)

  pub only_at : (a b : A) (j : ℕ) → get_elem? (a ∷ []) j ≡ some b → (j ≡ 0) × (a ≡ b)
  only_at a b zero e = (refl, some-injective a b e)
  only_at a b (suc j) e = absurd (some-ne-none b (sym e))

pub none_some : {A : Type 0} (a : A) → None ≡ Some a → ⊥
none_some {A} a e = let e' : ◌≡◌ {A = Option A} None (Some a) = e in cc

pub some_some : {A : Type 0} (a b : A) → Some a ≡ Some b → b ≡ a
some_some a b e = cc

pub get_or-at : (l : List ℕ) (i a d : ℕ) → get_elem? l i ≡ some a → get_or l i d ≡ a
get_or-at [] i a d e = absurd (some-ne-none a (sym e))
get_or-at (x ∷ xs) zero a d e = some-injective x a e
get_or-at (x ∷ xs) (suc i) a d e = get_or-at xs i a d e

pub get_or-zeros : (m k : ℕ) → let x : ℕ = get_or {A = ℕ} (replicate {A = ℕ} m 0) k 0 in x ≡ 0
get_or-zeros zero k = refl
get_or-zeros (suc m) zero = refl
get_or-zeros (suc m) (suc k) = get_or-zeros m k

-- the function f, but t at q
pub put : (ℕ → ℕ) → ℕ → ℕ → ℕ → ℕ
put f q t k = either (eqb k q) t (f k)

pub put_here : (f : ℕ → ℕ) (q t : ℕ) → put f q t q ≡ t
unfolding put
put_here f q t = ap (λ b. either b t (f q)) (eq-eqb q q refl)

pub put_else : (f : ℕ → ℕ) (q t k : ℕ) → k ≢ q → put f q t k ≡ f k
unfolding put
put_else f q t k other = ap (λ b. either b t (f k)) (ne_eqb k q other)
