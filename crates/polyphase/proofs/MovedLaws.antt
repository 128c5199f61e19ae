-- Lists with the same elements: their lists in order are one.
use Rattle.std.proofs.Common.{◌≡◌, ℕ, ◌+◌, Bool, true, false, cond, List, [], ◌∷◌, ◌++◌, Less, Equal, Greater, refl, sym, ◌∙◌, ap, arith}
use Rattle.std.specs.List.{AllByRecursion, sum_by}
use Rattle.std.specs.declared.cmp.Ordering.{Ordering}
use Rattle.std.specs.Ordering.{is_lt, ordering_reverse}
use Rattle.std.specs.FinMap.{IsAntisymmetric}
use Rattle.std.specs.Cmp.{IsTotalOrder, IsStrictWeakOrder}
use Rattle.std.specs.List.Sorted.{ties}
use Rattle.std.proofs.lemmas.List.Sums.{sum_by-append}
use Rattle.std.proofs.lemmas.List.Sorted.{ranks_by, sum_by-IsPermutation}
use Rattle.pq_words.specs.Sorted.{put_in_order, in_order}
use Rattle.pq_words.proofs.SortedLaws.{in_order_permutes, in_order_rises, one_rising}

-- what is not below in either direction ties
tied : (r s : Ordering) → r ≡ ordering_reverse s → is_lt r ≡ false → is_lt s ≡ false → r ≡ Equal
tied r Less e left right = let none : true ≡ false = right in cc
tied r Equal e left right = e
tied r Greater e left right = let less : is_lt r ≡ true = ap is_lt e in
    let none : true ≡ false = sym less ∙ left in cc

all_choose : {X : Type 0} (P : X → Type 0) (b : Bool) (us vs : List X) → AllByRecursion P us
    → AllByRecursion P vs → AllByRecursion P (cond b us vs)
all_choose P true us vs h g = h
all_choose P false us vs h g = g

-- what the elements and one more have, each of them with that one put in has
put_all : {X : Type 0} (cmp : X → X → Ordering) (P : X → Type 0) (x : X) (ys : List X) → P x
    → AllByRecursion P ys → AllByRecursion P (put_in_order cmp x ys)
unfolding put_in_order
put_all cmp P x [] px h = (px, tt)
put_all cmp P x (y ∷ ys) px h = all_choose P (is_lt (cmp y x)) (y ∷ put_in_order cmp x ys) (x ∷ y ∷ ys)
    (h.0, put_all cmp P x ys px h.1) (px, h)

-- the same elements, each as often: whatever the elements weigh, the lists weigh the same
abbrev pub IsMoved : {X : Type 0} → List X → List X → Type 0
IsMoved {X} xs ys = (f : X → ℕ) → sum_by f xs ≡ sum_by f ys

pub moved_same : {X : Type 0} (xs ys : List X) → xs ≡ ys → IsMoved xs ys
moved_same xs ys e f = ap (sum_by f) e

pub moved_trans : {X : Type 0} (xs ys zs : List X) → IsMoved xs ys → IsMoved ys zs → IsMoved xs zs
moved_trans xs ys zs h g f = h f ∙ g f

pub moved_back : {X : Type 0} (xs ys : List X) → IsMoved xs ys → IsMoved ys xs
moved_back xs ys h f = sym (h f)

pub moved_append : {X : Type 0} (xs ys us vs : List X) → IsMoved xs ys → IsMoved us vs
    → IsMoved (xs ++ us) (ys ++ vs)
moved_append xs ys us vs h g f =
    sum_by-append f xs us
    ∙ ap (λ n. n + sum_by f us) (h f)
    ∙ ap (λ n. sum_by f ys + n) (g f)
    ∙ sym (sum_by-append f ys vs)

module _ {X : Type 0} (cmp : X → X → Ordering) where
  pub moved_ordered : (xs : List X) → IsMoved xs (in_order cmp xs)
  moved_ordered xs f = sym (sum_by-IsPermutation f xs (in_order cmp xs) (in_order_permutes cmp xs))

  -- lists with the same elements are one in order, where only equal elements tie
  pub moved_order : IsTotalOrder cmp → IsAntisymmetric cmp → (xs ys : List X) → IsMoved xs ys
      → in_order cmp xs ≡ in_order cmp ys
  moved_order total same xs ys moved =
      let lt : X → X → Bool = λ x y. is_lt (cmp x y) in
      let weak : IsStrictWeakOrder lt = ranks_by total (λ x. x) in
      let one : (x y : X) → lt x y ≡ false → lt y x ≡ false → x ≡ y =
      λ x y left right. same x y (tied (cmp x y) (cmp y x) (total.antisymm x y) left right) in
      one_rising lt weak one (in_order cmp xs) (in_order cmp ys) (in_order_rises cmp weak xs)
      (in_order_rises cmp weak ys)
      (λ a.
      let weight : X → ℕ = λ z. cond (ties lt a z) 1 0 in
      sym (moved_ordered xs weight) ∙ moved weight ∙ moved_ordered ys weight)

  -- what each element has, each of the list in order has
  pub all_ordered : (P : X → Type 0) (xs : List X) → AllByRecursion P xs → AllByRecursion P (in_order cmp xs)
  unfolding in_order
  all_ordered P [] h = tt
  all_ordered P (x ∷ xs) h = put_all cmp P x (in_order cmp xs) h.0 (all_ordered P xs h.1)

  -- an element that none is below is put first
  pub put_first : (x : X) (ys : List X) → AllByRecursion (λ y. is_lt (cmp y x) ≡ false) ys
      → put_in_order cmp x ys ≡ x ∷ ys
  unfolding put_in_order
  put_first x [] h = refl
  put_first x (y ∷ ys) h = ap (λ b. cond b (y ∷ put_in_order cmp x ys) (x ∷ y ∷ ys)) h.0
