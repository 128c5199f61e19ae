-- A text cut at the first byte that passes a test.
use Rattle.std.proofs.Common.{◌≡◌, ℕ, ◌+◌, ◌<◌, Bool, true, false, cond, ◌||◌, ltb, List, [], ◌∷◌, length, take, drop, Some, None, refl, sym, ap, ◌∙◌, subst, inl, inr, ◌⊎◌, arith}
use Rattle.std.proofs.lemmas.Bool.Decides.{nat_tests}
use Rattle.std.proofs.lemmas.Iterator.Adapters.{position_from-zero}
use Rattle.std.proofs.lemmas.List.Splits.{slice_split_first}
use Rattle.std.specs.List.{list_any, onto_first, position, position_from, position_or_len, slice_split}
use Rattle.pq_words.specs.Text.{Text}

-- two parts or more, of a text in which some byte passes
pub record More (parts : List Text) (passes : Bool) : Type 0 where
  pub first : Text
  pub second : Text
  pub rest : List Text
  pub is : parts ≡ first ∷ second ∷ rest
  pub some : passes ≡ true

module _ (p : ℕ → Bool) where
  none_step : (i x : ℕ) (xs : Text) (b : Bool) → cond b (Some i) (position_from p (i + 1) xs) ≡ None →
      (position_from p (i + 1) xs ≡ None → slice_split p xs ≡ xs ∷ [])
      → cond b ([] ∷ slice_split p xs) (onto_first x (slice_split p xs)) ≡ (x ∷ xs) ∷ []
  none_step i x xs true is rest = let no : ⊥ = cc in absurd no
  none_step i x xs false is rest = ap (onto_first x) (rest is)

  none_from : (xs : Text) (i : ℕ) → position_from p i xs ≡ None → slice_split p xs ≡ xs ∷ []
  none_from [] i is = refl
  none_from (x ∷ xs) i is = none_step i x xs (p x) is (none_from xs (i + 1))

  -- where no byte passes, the text is the one part
  pub whole_part : (xs : Text) → position p xs ≡ None → slice_split p xs ≡ xs ∷ []
  whole_part xs is = none_from xs 0 (sym (position_from-zero p xs) ∙ is)

  first_step : (xs : Text) (i : ℕ) (b : Bool) → ltb (position_or_len p xs) (length xs) ≡ b →
      cond b (Some (position_or_len p xs)) None ≡ Some i
      → slice_split p xs ≡ take i xs ∷ slice_split p (drop (i + 1) xs)
  first_step xs i true inside is =
      let at : position_or_len p xs ≡ i = cc in
      let below : position_or_len p xs < length xs = grind (arith, nat_tests) in
      subst (λ n. slice_split p xs ≡ take n xs ∷ slice_split p (drop (n + 1) xs)) at
      (slice_split_first p xs 0 below)
  first_step xs i false inside is = let no : ⊥ = cc in absurd no

  -- the first part ends at the first byte that passes
  pub first_part : (xs : Text) (i : ℕ) → position p xs ≡ Some i → slice_split p xs
      ≡ take i xs ∷ slice_split p (drop (i + 1) xs)
  first_part xs i is = first_step xs i (ltb (position_or_len p xs) (length xs)) refl is

  parts_step : (x : ℕ) (xs : Text) (b : Bool) → (slice_split p xs ≡ xs ∷ []) ⊎ More (slice_split p xs)
      (list_any p xs)
      → (cond b ([] ∷ slice_split p xs) (onto_first x (slice_split p xs)) ≡ (x ∷ xs) ∷ []) ⊎ More
      (cond b ([] ∷ slice_split p xs) (onto_first x (slice_split p xs))) (b || list_any p xs)
  parts_step x xs true (inl one) = inr (record {
    first = [];
    second = xs;
    rest = [];
    is =
        ap (λ parts. [] ∷ parts) one;
    some = refl;
  })
  parts_step x xs true (inr more) = inr (record {
    first = [];
    second = more.first;
    rest =
        more.second ∷ more.rest;
    is = ap (λ parts. [] ∷ parts) more.is;
    some = refl;
  })
  parts_step x xs false (inl one) = inl (ap (onto_first x) one)
  parts_step x xs false (inr more) = inr (record {
    first = x ∷ more.first;
    second = more.second;
    rest =
        more.rest;
    is = ap (onto_first x) more.is;
    some = more.some;
  })

  -- a text is one part, or has more and a byte that passes
  pub parts_of : (xs : Text) → (slice_split p xs ≡ xs ∷ []) ⊎ More (slice_split p xs) (list_any p xs)
  parts_of [] = inl refl
  parts_of (x ∷ xs) = parts_step x xs (p x) (parts_of xs)
