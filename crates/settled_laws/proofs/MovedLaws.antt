-- Lists with the same elements: filters of them have the same elements again.
use Rattle.std.proofs.Common.{◌≡◌, ℕ, ◌+◌, Bool, true, false, cond, List, [], ◌∷◌, filter, refl, sym, ◌∙◌, ap, arith}
use Rattle.std.specs.List.{sum_by}
use Rattle.std.specs.declared.cmp.Ordering.{Ordering}
use Rattle.std.specs.FinMap.{IsAntisymmetric}
use Rattle.std.specs.Cmp.{IsTotalOrder}
use Rattle.std.proofs.lemmas.List.Sums.{sum_by-cons}
use Rattle.pq_words.specs.Sorted.{in_order}
use Rattle.polyphase.proofs.MovedLaws.{IsMoved, moved_ordered, moved_order}

weight_kept : {X : Type 0} (p : X → Bool) (f : X → ℕ) (xs : List X) → sum_by f (filter p xs)
    ≡ sum_by (λ x. cond (p x) (f x) 0) xs
weight_kept p f [] = refl
weight_kept {X} p f (x ∷ xs) = at (p x) (weight_kept p f xs)
    ∙ sym (sum_by-cons (λ x. cond (p x) (f x) 0) x xs)
  where
    at : (b : Bool) → sum_by f (filter p xs) ≡ sum_by (λ x. cond (p x) (f x) 0) xs
        → sum_by f (cond b (x ∷ filter p xs) (filter p xs))
        ≡ cond b (f x) 0 + sum_by (λ x. cond (p x) (f x) 0) xs
    at true h = sum_by-cons f x (filter p xs) ∙ ap (λ n. f x + n) h
    at false h = let e : 0 + sum_by (λ x. cond (p x) (f x) 0) xs ≡ sum_by (λ x. cond (p x) (f x) 0) xs =
        omega arith in h ∙ sym e

pub moved_filter : {X : Type 0} (p : X → Bool) (xs ys : List X) → IsMoved xs ys →
    IsMoved (filter p xs) (filter p ys)
moved_filter p xs ys h f = weight_kept p f xs ∙ h (λ x. cond (p x) (f x) 0) ∙ sym (weight_kept p f ys)

module _ {X : Type 0} (cmp : X → X → Ordering) where
  -- lists whose lists in order are one have the same elements
  pub order_moved : (xs ys : List X) → in_order cmp xs ≡ in_order cmp ys → IsMoved xs ys
  order_moved xs ys e f = moved_ordered cmp xs f ∙ ap (sum_by f) e ∙ sym (moved_ordered cmp ys f)

  module _ (total : IsTotalOrder cmp) (same : IsAntisymmetric cmp) where
    -- the list in order is in order
    pub in_order_twice : (xs : List X) → in_order cmp (in_order cmp xs) ≡ in_order cmp xs
    in_order_twice xs = moved_order cmp total same (in_order cmp xs) xs (λ f. sym (moved_ordered cmp xs f))
