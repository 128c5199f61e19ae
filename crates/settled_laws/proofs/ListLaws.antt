-- Lists in which a test picks a part: filters over maps, sorts and joined lists, and what holds of each
-- element.
use Rattle.std.proofs.Common.{◌≡◌, Bool, true, false, cond, not, List, [], ◌∷◌, ◌++◌, map, filter, flat_map, refl, sym, ◌∙◌, ap}
use Rattle.std.specs.List.{AllByRecursion}
use Rattle.std.specs.declared.cmp.Ordering.{Ordering}
use Rattle.std.specs.Ordering.{is_lt}
use Rattle.std.specs.Cmp.{IsStrictWeakOrder}
use Rattle.std.proofs.lemmas.List.Elements.{filter-append}
use Rattle.pq_words.specs.Sorted.{put_in_order, in_order}
use Rattle.pq_words.proofs.SortedLaws.{Rising, in_order_rises}
use Rattle.pq_words.proofs.PrefixLaws.{FailsOn}
use Rattle.polyphase.proofs.MovedLaws.{put_first}

-- ---- what a test of a Bool tells

pub clash : {A : Type 0} (b : Bool) → b ≡ true → b ≡ false → A
clash b is is_not = absurd (let e : true ≡ false = sym is ∙ is_not in let none : ⊥ = cc in none)

-- ---- what holds of each element

pub all_from : {X : Type 0} (P Q : X → Type 0) → ((y : X) → P y → Q y) → (ys : List X) → AllByRecursion P ys →
    AllByRecursion Q ys
all_from P Q f [] h = tt
all_from P Q f (y ∷ ys) h = (f y h.0, all_from P Q f ys h.1)

pub all_append : {X : Type 0} (P : X → Type 0) (xs ys : List X) → AllByRecursion P xs → AllByRecursion P ys →
    AllByRecursion P (xs ++ ys)
all_append P [] ys h g = g
all_append P (x ∷ xs) ys h g = (h.0, all_append P xs ys h.1 g)

pub all_mapped : {X Y : Type 0} (P : Y → Type 0) (f : X → Y) (xs : List X) →
    AllByRecursion (λ x. P (f x)) xs → AllByRecursion P (map f xs)
all_mapped P f [] h = tt
all_mapped P f (x ∷ xs) h = (h.0, all_mapped P f xs h.1)

pub all_unmapped : {X Y : Type 0} (P : Y → Type 0) (f : X → Y) (xs : List X) → AllByRecursion P (map f xs) →
    AllByRecursion (λ x. P (f x)) xs
all_unmapped P f [] h = tt
all_unmapped P f (x ∷ xs) h = (h.0, all_unmapped P f xs h.1)

pub all_each : {X : Type 0} (P : X → Type 0) → ((x : X) → P x) → (xs : List X) → AllByRecursion P xs
all_each P f [] = tt
all_each P f (x ∷ xs) = (f x, all_each P f xs)

pub all_both : {X : Type 0} (P Q R : X → Type 0) → ((x : X) → P x → Q x → R x) → (xs : List X) →
    AllByRecursion P xs → AllByRecursion Q xs → AllByRecursion R xs
all_both P Q R f [] h g = tt
all_both P Q R f (x ∷ xs) h g = (f x h.0 g.0, all_both P Q R f xs h.1 g.1)

pub all_kept : {X : Type 0} (P : X → Type 0) (p : X → Bool) (xs : List X) → AllByRecursion P xs →
    AllByRecursion P (filter p xs)
all_kept P p [] h = tt
all_kept P p (x ∷ xs) h = at (p x) (all_kept P p xs h.1)
  where
    at : (b : Bool) → AllByRecursion P (filter p xs) →
        AllByRecursion P (cond b (x ∷ filter p xs) (filter p xs))
    at true rest = (h.0, rest)
    at false rest = rest

pub all_pass : {X : Type 0} (p : X → Bool) (xs : List X) → AllByRecursion (λ x. p x ≡ true) (filter p xs)
all_pass p [] = tt
all_pass p (x ∷ xs) = at (p x) refl (all_pass p xs)
  where
    at : (b : Bool) → p x ≡ b → AllByRecursion (λ x. p x ≡ true) (filter p xs) →
        AllByRecursion (λ x. p x ≡ true) (cond b (x ∷ filter p xs) (filter p xs))
    at true is rest = (is, rest)
    at false is rest = rest

-- ---- filters

pub filter_none : {X : Type 0} (p : X → Bool) (xs : List X) → AllByRecursion (λ y. p y ≡ false) xs →
    filter p xs ≡ []
filter_none p [] h = refl
filter_none p (x ∷ xs) h = ap (λ b. cond b (x ∷ filter p xs) (filter p xs)) h.0 ∙ filter_none p xs h.1

pub filter_whole : {X : Type 0} (p : X → Bool) (xs : List X) → AllByRecursion (λ x. p x ≡ true) xs →
    filter p xs ≡ xs
filter_whole p [] h = refl
filter_whole p (x ∷ xs) h = ap (λ b. cond b (x ∷ filter p xs) (filter p xs)) h.0
    ∙ ap (λ ys. x ∷ ys) (filter_whole p xs h.1)

pub filter_mapped : {X Y : Type 0} (p : Y → Bool) (f : X → Y) (xs : List X) →
    filter p (map f xs) ≡ map f (filter (λ x. p (f x)) xs)
filter_mapped p f [] = refl
filter_mapped p f (x ∷ xs) = at (p (f x)) (filter_mapped p f xs)
  where
    at : (b : Bool) → filter p (map f xs) ≡ map f (filter (λ x. p (f x)) xs)
        → cond b (f x ∷ filter p (map f xs)) (filter p (map f xs))
        ≡ map f (cond b (x ∷ filter (λ x. p (f x)) xs) (filter (λ x. p (f x)) xs))
    at true h = ap (λ ys. f x ∷ ys) h
    at false h = h

pub filter_joined : {X Y : Type 0} (p : Y → Bool) (f : X → List Y) (xs : List X) → filter p (flat_map f xs)
    ≡ flat_map (λ x. filter p (f x)) xs
filter_joined p f [] = refl
filter_joined p f (x ∷ xs) = filter-append p (f x) (flat_map f xs)
    ∙ ap (λ ys. filter p (f x) ++ ys) (filter_joined p f xs)

-- where what fails is followed by what fails, a list is what passes and then what fails
pub filter_splits : {X : Type 0} (p : X → Bool) (xs : List X) → FailsOn p xs →
    xs ≡ filter p xs ++ filter (λ x. not (p x)) xs
filter_splits p [] h = refl
filter_splits {X} p (x ∷ xs) h = at (p x) h.0 (filter_splits p xs h.1)
  where
    at : (b : Bool) → (b ≡ false → AllByRecursion (λ y. p y ≡ false) xs) →
        xs ≡ filter p xs ++ filter (λ x. not (p x)) xs
        → x ∷ xs ≡ cond b (x ∷ filter p xs) (filter p xs) ++ cond (not b) (x ∷ filter (λ x. not (p x)) xs)
        (filter (λ x. not (p x)) xs)
    at true later rest = ap (λ ys. x ∷ ys) rest
    at false later rest =
        let none : filter p xs ≡ [] = filter_none p xs (later refl) in
        let whole : xs ≡ filter (λ x. not (p x)) xs = rest
        ∙ ap (λ ys. ys ++ filter (λ x. not (p x)) xs) none in
        ap (λ ys. x ∷ ys) whole ∙ sym (ap (λ ys. ys ++ x ∷ filter (λ x. not (p x)) xs) none)

pub all_fail : {X : Type 0} (p : X → Bool) (xs : List X) →
    AllByRecursion (λ x. p x ≡ false) (filter (λ x. not (p x)) xs)
all_fail p [] = tt
all_fail {X} p (x ∷ xs) = at (p x) refl (all_fail p xs)
  where
    at : (b : Bool) → p x ≡ b → AllByRecursion (λ x. p x ≡ false) (filter (λ x. not (p x)) xs)
        → AllByRecursion (λ x. p x ≡ false) (cond (not b) (x ∷ filter (λ x. not (p x)) xs)
        (filter (λ x. not (p x)) xs))
    at true is rest = rest
    at false is rest = (is, rest)

-- ---- a filter of the list in order is the filter's list in order

module _ {X : Type 0} (cmp : X → X → Ordering) (p : X → Bool) where
  put_dropped : (x : X) (ys : List X) → p x ≡ false → filter p (put_in_order cmp x ys) ≡ filter p ys
  unfolding put_in_order
  put_dropped x [] fails = ap (λ b. cond b (x ∷ []) []) fails
  put_dropped x (y ∷ ys) fails = at (is_lt (cmp y x)) (put_dropped x ys fails)
    where
      at : (b : Bool) → filter p (put_in_order cmp x ys) ≡ filter p ys
          → filter p (cond b (y ∷ put_in_order cmp x ys) (x ∷ y ∷ ys))
          ≡ cond (p y) (y ∷ filter p ys) (filter p ys)
      at true rest = ap (λ zs. cond (p y) (y ∷ zs) zs) rest
      at false rest = ap (λ b. cond b (x ∷ filter p (y ∷ ys)) (filter p (y ∷ ys))) fails

  put_kept : IsStrictWeakOrder (λ x y. is_lt (cmp x y)) → (x : X) (ys : List X) →
      Rising (λ x y. is_lt (cmp x y)) ys → p x ≡ true → filter p (put_in_order cmp x ys)
      ≡ put_in_order cmp x (filter p ys)
  unfolding put_in_order
  put_kept o x [] rises is = ap (λ b. cond b (x ∷ []) []) is
  put_kept o x (y ∷ ys) rises is = at (is_lt (cmp y x)) refl (p y) refl (put_kept o x ys rises.1 is)
    where
      at : (b : Bool) → is_lt (cmp y x) ≡ b → (c : Bool) → p y ≡ c → filter p (put_in_order cmp x ys)
          ≡ put_in_order cmp x (filter p ys)
          → filter p (cond b (y ∷ put_in_order cmp x ys) (x ∷ y ∷ ys))
          ≡ put_in_order cmp x (cond c (y ∷ filter p ys) (filter p ys))
      at true below true kept rest =
          ap (λ c. cond c (y ∷ filter p (put_in_order cmp x ys)) (filter p (put_in_order cmp x ys))) kept
          ∙ ap (λ zs. y ∷ zs) rest
          ∙ sym (ap (λ b. cond b (y ∷ put_in_order cmp x (filter p ys)) (x ∷ y ∷ filter p ys)) below)
      at true below false kept rest =
          ap (λ c. cond c (y ∷ filter p (put_in_order cmp x ys)) (filter p (put_in_order cmp x ys))) kept
          ∙ rest
      at false above c kept rest =
          let here : AllByRecursion (λ z. is_lt (cmp z x) ≡ false) (y ∷ ys) =
          (above, all_above x y ys above rises.0) in
          let later : AllByRecursion (λ z. is_lt (cmp z x) ≡ false) (filter p (y ∷ ys)) =
          all_kept (λ z. is_lt (cmp z x) ≡ false) p (y ∷ ys) here in
          let same : filter p (y ∷ ys) ≡ cond c (y ∷ filter p ys) (filter p ys) =
          ap (λ c. cond c (y ∷ filter p ys) (filter p ys)) kept in
          ap (λ c. cond c (x ∷ filter p (y ∷ ys)) (filter p (y ∷ ys))) is
          ∙ sym (put_first cmp x (filter p (y ∷ ys)) later)
          ∙ ap (put_in_order cmp x) same
        where
          all_above : (x y : X) (zs : List X) → is_lt (cmp y x) ≡ false →
              AllByRecursion (λ z. is_lt (cmp z y) ≡ false) zs →
              AllByRecursion (λ z. is_lt (cmp z x) ≡ false) zs
          all_above x y [] above h = tt
          all_above x y (z ∷ zs) above h = (o.chain z y x h.0 above, all_above x y zs above h.1)

  pub filter_ordered : IsStrictWeakOrder (λ x y. is_lt (cmp x y)) → (xs : List X) → filter p (in_order cmp xs)
      ≡ in_order cmp (filter p xs)
  unfolding in_order
  filter_ordered o [] = refl
  filter_ordered o (x ∷ xs) = at (p x) refl (filter_ordered o xs)
    where
      at : (b : Bool) → p x ≡ b → filter p (in_order cmp xs) ≡ in_order cmp (filter p xs)
          → filter p (put_in_order cmp x (in_order cmp xs))
          ≡ in_order cmp (cond b (x ∷ filter p xs) (filter p xs))
      at true is rest = put_kept o x (in_order cmp xs) (in_order_rises cmp o xs) is
          ∙ ap (put_in_order cmp x) rest
      at false fails rest = put_dropped x (in_order cmp xs) fails ∙ rest
