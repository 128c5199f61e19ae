-- Lists in which each element stands to every later one in some way, and members of lists.
use Rattle.std.proofs.Common.{◌≡◌, ◌⊎◌, ℕ, zero, suc, ◌<◌, Bool, true, false, cond, List, [], ◌∷◌, ◌++◌, length, get_or, map, filter, filter_map, flat_map, find, Option, Some, None, slice_get, AllPairs, Contains, refl, sym, ◌∙◌, ap, subst, inl, inr, arith}
use Rattle.std.specs.Bool.{⊤}
use Rattle.std.specs.List.{AllByRecursion, cons_option}
use Rattle.std.specs.Ordering.{is_lt}
use Rattle.std.specs.declared.cmp.Ordering.{Ordering}
use Rattle.std.proofs.lemmas.List.Elements.{All-from_recursion, recursion_from_All}
use Rattle.std.proofs.lemmas.List.Kept.{AllPairs-cons}
use Rattle.std.proofs.lemmas.Option.{same_Some}
use Rattle.pq_words.specs.Sorted.{put_in_order, in_order}

-- ---- what is true of each element

pub all_weaker : {X : Type 0} (P Q : X → Type 0) → ((x : X) → P x → Q x) → (xs : List X) →
    AllByRecursion P xs → AllByRecursion Q xs
all_weaker P Q f [] h = tt
all_weaker P Q f (x ∷ xs) h = (f x h.0, all_weaker P Q f xs h.1)

pub all_both : {X : Type 0} (P Q R : X → Type 0) → ((x : X) → P x → Q x → R x) → (xs : List X) →
    AllByRecursion P xs → AllByRecursion Q xs → AllByRecursion R xs
all_both P Q R f [] h g = tt
all_both P Q R f (x ∷ xs) h g = (f x h.0 g.0, all_both P Q R f xs h.1 g.1)

pub all_each : {X : Type 0} (P : X → Type 0) → ((x : X) → P x) → (xs : List X) → AllByRecursion P xs
all_each P f [] = tt
all_each P f (x ∷ xs) = (f x, all_each P f xs)

pub all_append : {X : Type 0} (P : X → Type 0) (xs ys : List X) → AllByRecursion P xs →
    AllByRecursion P ys → AllByRecursion P (xs ++ ys)
all_append P [] ys h g = g
all_append P (x ∷ xs) ys h g = (h.0, all_append P xs ys h.1 g)

pub all_map : {X Y : Type 0} (P : Y → Type 0) (f : X → Y) (xs : List X) →
    AllByRecursion (λ x. P (f x)) xs → AllByRecursion P (map f xs)
all_map P f [] h = tt
all_map P f (x ∷ xs) h = (h.0, all_map P f xs h.1)

pub all_unmap : {X Y : Type 0} (P : Y → Type 0) (f : X → Y) (xs : List X) →
    AllByRecursion P (map f xs) → AllByRecursion (λ x. P (f x)) xs
all_unmap P f [] h = tt
all_unmap P f (x ∷ xs) h = (h.0, all_unmap P f xs h.1)

pub all_filter : {X : Type 0} (P : X → Type 0) (p : X → Bool) (xs : List X) → AllByRecursion P xs →
    AllByRecursion P (filter p xs)
all_filter P p [] h = tt
all_filter P p (x ∷ xs) h = at (p x) (all_filter P p xs h.1)
  where
    at : (b : Bool) → AllByRecursion P (filter p xs) →
        AllByRecursion P (cond b (x ∷ filter p xs) (filter p xs))
    at true rest = (h.0, rest)
    at false rest = rest

pub all_filter_map : {X Y : Type 0} (P : Y → Type 0) (f : X → Option Y) (xs : List X) →
    AllByRecursion (λ x. (y : Y) → f x ≡ Some y → P y) xs → AllByRecursion P (filter_map f xs)
all_filter_map P f [] h = tt
all_filter_map {X} {Y} P f (x ∷ xs) h = at (f x) refl (all_filter_map P f xs h.1)
  where
    at : (o : Option Y) → f x ≡ o → AllByRecursion P (filter_map f xs) →
        AllByRecursion P (cons_option o (filter_map f xs))
    at None is rest = rest
    at (Some y) is rest = (h.0 y is, rest)

pub all_flat_map : {X Y : Type 0} (P : Y → Type 0) (f : X → List Y) (xs : List X) →
    AllByRecursion (λ x. AllByRecursion P (f x)) xs → AllByRecursion P (flat_map f xs)
all_flat_map P f [] h = tt
all_flat_map P f (x ∷ xs) h = all_append P (f x) (flat_map f xs) h.0 (all_flat_map P f xs h.1)

-- ---- what is true of each two

-- each element stands to every later one as R says
abbrev pub Pairwise : {X : Type 0} → (X → X → Type 0) → List X → Type 0
Pairwise R [] = ⊤
Pairwise R (x ∷ xs) = AllByRecursion (R x) xs × Pairwise R xs

pub pairwise_weaker : {X : Type 0} (R S : X → X → Type 0) → ((x y : X) → R x y → S x y) → (xs : List X) →
    Pairwise R xs → Pairwise S xs
pairwise_weaker R S f [] h = tt
pairwise_weaker R S f (x ∷ xs) h = (all_weaker (R x) (S x) (f x) xs h.0, pairwise_weaker R S f xs h.1)

pub pairwise_both : {X : Type 0} (R S T : X → X → Type 0) → ((x y : X) → R x y → S x y → T x y) →
    (xs : List X) → Pairwise R xs → Pairwise S xs → Pairwise T xs
pairwise_both R S T f [] h g = tt
pairwise_both R S T f (x ∷ xs) h g =
    (all_both (R x) (S x) (T x) (f x) xs h.0 g.0, pairwise_both R S T f xs h.1 g.1)

-- what is true of each is true of each two
pub pairwise_all : {X : Type 0} (P : X → Type 0) (R S : X → X → Type 0) →
    ((x y : X) → P x → P y → R x y → S x y) → (xs : List X) → AllByRecursion P xs → Pairwise R xs →
    Pairwise S xs
pairwise_all P R S f [] all h = tt
pairwise_all P R S f (x ∷ xs) all h = (
  all_both P (R x) (S x) (λ y py. f x y all.0 py) xs all.1 h.0,
  pairwise_all P R S f xs all.1 h.1,
)

pub pairwise_append : {X : Type 0} (R : X → X → Type 0) (xs ys : List X) → Pairwise R xs → Pairwise R ys →
    AllByRecursion (λ x. AllByRecursion (R x) ys) xs → Pairwise R (xs ++ ys)
pairwise_append R [] ys h g across = g
pairwise_append R (x ∷ xs) ys h g across =
    (all_append (R x) xs ys h.0 across.0, pairwise_append R xs ys h.1 g across.1)

pub pairwise_map : {X Y : Type 0} (R : Y → Y → Type 0) (f : X → Y) (xs : List X) →
    Pairwise (λ a b. R (f a) (f b)) xs → Pairwise R (map f xs)
pairwise_map R f [] h = tt
pairwise_map R f (x ∷ xs) h = (all_map (R (f x)) f xs h.0, pairwise_map R f xs h.1)

pub pairwise_unmap : {X Y : Type 0} (R : Y → Y → Type 0) (f : X → Y) (xs : List X) →
    Pairwise R (map f xs) → Pairwise (λ a b. R (f a) (f b)) xs
pairwise_unmap R f [] h = tt
pairwise_unmap R f (x ∷ xs) h = (all_unmap (R (f x)) f xs h.0, pairwise_unmap R f xs h.1)

pub pairwise_filter : {X : Type 0} (R : X → X → Type 0) (p : X → Bool) (xs : List X) → Pairwise R xs →
    Pairwise R (filter p xs)
pairwise_filter R p [] h = tt
pairwise_filter R p (x ∷ xs) h = at (p x) (pairwise_filter R p xs h.1)
  where
    at : (b : Bool) → Pairwise R (filter p xs) → Pairwise R (cond b (x ∷ filter p xs) (filter p xs))
    at true rest = (all_filter (R x) p xs h.0, rest)
    at false rest = rest

pub pairwise_filter_map : {X Y : Type 0} (R : Y → Y → Type 0) (f : X → Option Y) (xs : List X) →
    Pairwise (λ a b. (x y : Y) → f a ≡ Some x → f b ≡ Some y → R x y) xs → Pairwise R (filter_map f xs)
pairwise_filter_map R f [] h = tt
pairwise_filter_map {X} {Y} R f (a ∷ rest) h = at (f a) refl (pairwise_filter_map R f rest h.1)
  where
    at : (o : Option Y) → f a ≡ o → Pairwise R (filter_map f rest) →
        Pairwise R (cons_option o (filter_map f rest))
    at None is later = later
    at (Some x) is later = (
      all_filter_map (R x) f rest
          (all_weaker (λ b. (z y : Y) → f a ≡ Some z → f b ≡ Some y → R z y)
          (λ b. (y : Y) → f b ≡ Some y → R x y) (λ b g y there. g x y is there) rest h.0),
      later,
    )

-- lists one after another: each apart by itself, and each two apart
pub pairwise_flat_map : {X Y : Type 0} (R : Y → Y → Type 0) (f : X → List Y) (xs : List X) →
    AllByRecursion (λ x. Pairwise R (f x)) xs →
    Pairwise (λ a b. AllByRecursion (λ y. AllByRecursion (R y) (f b)) (f a)) xs → Pairwise R (flat_map f xs)
pairwise_flat_map R f [] each across = tt
pairwise_flat_map {X} {Y} R f (x ∷ xs) each across =
    pairwise_append R (f x) (flat_map f xs) each.0 (pairwise_flat_map R f xs each.1 across.1)
    (turned (f x) xs across.0)
  where
    turned : (ys : List Y) (zs : List X) →
        AllByRecursion (λ b. AllByRecursion (λ y. AllByRecursion (R y) (f b)) ys) zs →
        AllByRecursion (λ y. AllByRecursion (R y) (flat_map f zs)) ys
    turned [] zs h = tt
    turned (y ∷ ys) zs h = (
      all_flat_map (R y) f zs
          (all_weaker (λ b. AllByRecursion (λ u. AllByRecursion (R u) (f b)) (y ∷ ys))
          (λ b. AllByRecursion (R y) (f b)) (λ b both. both.0) zs h),
      turned ys zs
          (all_weaker (λ b. AllByRecursion (λ u. AllByRecursion (R u) (f b)) (y ∷ ys))
          (λ b. AllByRecursion (λ u. AllByRecursion (R u) (f b)) ys) (λ b both. both.1) zs h),
    )

-- what orders no two, a list in order keeps
all_put : {X : Type 0} (cmp : X → X → Ordering) (P : X → Type 0) (x : X) (ys : List X) → P x →
    AllByRecursion P ys → AllByRecursion P (put_in_order cmp x ys)
unfolding put_in_order
all_put cmp P x [] here h = (here, tt)
all_put cmp P x (y ∷ ys) here h = at (is_lt (cmp y x)) (all_put cmp P x ys here h.1)
  where
    at : (b : Bool) → AllByRecursion P (put_in_order cmp x ys) →
        AllByRecursion P (cond b (y ∷ put_in_order cmp x ys) (x ∷ y ∷ ys))
    at true rest = (h.0, rest)
    at false rest = (here, h)

pairwise_put : {X : Type 0} (cmp : X → X → Ordering) (R : X → X → Type 0) →
    ((x y : X) → R x y → R y x) → (x : X) (ys : List X) → AllByRecursion (R x) ys → Pairwise R ys →
    Pairwise R (put_in_order cmp x ys)
unfolding put_in_order
pairwise_put cmp R turn x [] h g = (tt, tt)
pairwise_put cmp R turn x (y ∷ ys) h g = at (is_lt (cmp y x)) (pairwise_put cmp R turn x ys h.1 g.1)
  where
    at : (b : Bool) → Pairwise R (put_in_order cmp x ys) →
        Pairwise R (cond b (y ∷ put_in_order cmp x ys) (x ∷ y ∷ ys))
    at true rest = (all_put cmp (R y) x ys (turn x y h.0) g.0, rest)
    at false rest = (h, g)

all_in_order : {X : Type 0} (cmp : X → X → Ordering) (P : X → Type 0) (xs : List X) →
    AllByRecursion P xs → AllByRecursion P (in_order cmp xs)
unfolding in_order
all_in_order cmp P [] h = tt
all_in_order cmp P (x ∷ xs) h = all_put cmp P x (in_order cmp xs) h.0 (all_in_order cmp P xs h.1)

pub pairwise_in_order : {X : Type 0} (cmp : X → X → Ordering) (R : X → X → Type 0) →
    ((x y : X) → R x y → R y x) → (xs : List X) → Pairwise R xs → Pairwise R (in_order cmp xs)
unfolding in_order
pairwise_in_order cmp R turn [] h = tt
pairwise_in_order cmp R turn (x ∷ xs) h =
    pairwise_put cmp R turn x (in_order cmp xs) (all_in_order cmp (R x) xs h.0)
    (pairwise_in_order cmp R turn xs h.1)

-- ---- by position

pub pairwise_pairs : {X : Type 0} (R : X → X → Type 0) (xs : List X) → Pairwise R xs → AllPairs R xs
pairwise_pairs R [] h = λ i j d less inside. absurd (omega (arith, inside))
pairwise_pairs R (x ∷ xs) h = AllPairs-cons R x xs (All-from_recursion (R x) xs h.0) (pairwise_pairs R xs h.1)

pub pairs_pairwise : {X : Type 0} (R : X → X → Type 0) (xs : List X) → AllPairs R xs → Pairwise R xs
pairs_pairwise R [] h = tt
pairs_pairwise R (x ∷ xs) h = (
  recursion_from_All (R x) xs (λ k d inside. h 0 (suc k) d (omega arith) (omega (arith, inside))),
  pairs_pairwise R xs
      (λ i j d less inside. h (suc i) (suc j) d (omega (arith, less)) (omega (arith, inside))),
)

pub all_at : {X : Type 0} (P : X → Type 0) (xs : List X) (i : ℕ) (x : X) → AllByRecursion P xs →
    slice_get xs i ≡ Some x → P x
all_at P [] i x h there = absurd (let bad : ⊥ = cc in bad)
all_at P (y ∷ ys) zero x h there = subst P (same_Some y x there) h.0
all_at P (y ∷ ys) (suc i) x h there = all_at P ys i x h.1 there

pub pairwise_at : {X : Type 0} (R : X → X → Type 0) (xs : List X) (i j : ℕ) (x y : X) → Pairwise R xs →
    i < j → slice_get xs i ≡ Some x → slice_get xs j ≡ Some y → R x y
pairwise_at R [] i j x y h less at there = absurd (let bad : ⊥ = cc in bad)
pairwise_at R (z ∷ zs) i zero x y h less at there = absurd (omega (arith, less))
pairwise_at R (z ∷ zs) zero (suc j) x y h less at there =
    subst (λ a. R a y) (same_Some z x at) (all_at (R z) zs j y h.0 there)
pairwise_at R (z ∷ zs) (suc i) (suc j) x y h less at there =
    pairwise_at R zs i j x y h.1 (omega (arith, less)) at there

-- ---- members

abbrev pub IsIn : {X : Type 0} → X → List X → Type 0
IsIn x [] = ⊥
IsIn x (y ∷ ys) = (x ≡ y) ⊎ IsIn x ys

pub in_append_left : {X : Type 0} (x : X) (xs ys : List X) → IsIn x xs → IsIn x (xs ++ ys)
in_append_left x [] ys is = absurd is
in_append_left x (z ∷ zs) ys (inl same) = inl same
in_append_left x (z ∷ zs) ys (inr later) = inr (in_append_left x zs ys later)

pub in_append_right : {X : Type 0} (x : X) (xs ys : List X) → IsIn x ys → IsIn x (xs ++ ys)
in_append_right x [] ys is = is
in_append_right x (z ∷ zs) ys is = inr (in_append_right x zs ys is)

pub in_append : {X : Type 0} (x : X) (xs ys : List X) → IsIn x (xs ++ ys) → IsIn x xs ⊎ IsIn x ys
in_append x [] ys is = inr is
in_append x (z ∷ zs) ys (inl same) = inl (inl same)
in_append x (z ∷ zs) ys (inr later) =
    elim (in_append x zs ys later) [ inl left ↦ inl (inr left) | inr right ↦ inr right ]

pub in_map : {X Y : Type 0} (f : X → Y) (x : X) (xs : List X) → IsIn x xs → IsIn (f x) (map f xs)
in_map f x [] is = absurd is
in_map f x (z ∷ zs) (inl same) = inl (ap f same)
in_map f x (z ∷ zs) (inr later) = inr (in_map f x zs later)

pub of_map : {X Y : Type 0} (f : X → Y) (y : Y) (xs : List X) → IsIn y (map f xs) →
    (x : X) × IsIn x xs × (y ≡ f x)
of_map f y [] is = absurd is
of_map f y (z ∷ zs) (inl same) = (z, inl refl, same)
of_map f y (z ∷ zs) (inr later) = let r = of_map f y zs later in (r.0, inr r.1, r.2)

pub in_flat_map : {X Y : Type 0} (f : X → List Y) (x : X) (y : Y) (xs : List X) → IsIn x xs →
    IsIn y (f x) → IsIn y (flat_map f xs)
in_flat_map f x y [] is there = absurd is
in_flat_map f x y (z ∷ zs) (inl same) there =
    in_append_left y (f z) (flat_map f zs) (subst (λ k. IsIn y (f k)) same there)
in_flat_map f x y (z ∷ zs) (inr later) there =
    in_append_right y (f z) (flat_map f zs) (in_flat_map f x y zs later there)

pub of_flat_map : {X Y : Type 0} (f : X → List Y) (y : Y) (xs : List X) → IsIn y (flat_map f xs) →
    (x : X) × IsIn x xs × IsIn y (f x)
of_flat_map f y [] is = absurd is
of_flat_map f y (z ∷ zs) is = elim (in_append y (f z) (flat_map f zs) is) [
  | inl here ↦ (z, inl refl, here)
  | inr later ↦ let r = of_flat_map f y zs later in (r.0, inr r.1, r.2)
]

pub in_filter_map : {X Y : Type 0} (f : X → Option Y) (x : X) (y : Y) (xs : List X) → IsIn x xs →
    f x ≡ Some y → IsIn y (filter_map f xs)
in_filter_map f x y [] is there = absurd is
in_filter_map f x y (z ∷ zs) (inl same) there =
    let here : f z ≡ Some y = ap f (sym same) ∙ there in
    subst (λ o. IsIn y (cons_option o (filter_map f zs))) (sym here) (inl refl)
in_filter_map {X} {Y} f x y (z ∷ zs) (inr later) there = at (f z) (in_filter_map f x y zs later there)
  where
    at : (o : Option Y) → IsIn y (filter_map f zs) → IsIn y (cons_option o (filter_map f zs))
    at None is = is
    at (Some u) is = inr is

pub of_filter_map : {X Y : Type 0} (f : X → Option Y) (y : Y) (xs : List X) → IsIn y (filter_map f xs) →
    (x : X) × IsIn x xs × (f x ≡ Some y)
of_filter_map f y [] is = absurd is
of_filter_map {X} {Y} f y (z ∷ zs) is = at (f z) refl is (λ later. of_filter_map f y zs later)
  where
    at : (o : Option Y) → f z ≡ o → IsIn y (cons_option o (filter_map f zs)) →
        (IsIn y (filter_map f zs) → (x : X) × IsIn x zs × (f x ≡ Some y)) →
        (x : X) × IsIn x (z ∷ zs) × (f x ≡ Some y)
    at None e is rest = let r = rest is in (r.0, inr r.1, r.2)
    at (Some u) e (inl same) rest = (z, inl refl, e ∙ ap Some (sym same))
    at (Some u) e (inr is) rest = let r = rest is in (r.0, inr r.1, r.2)

pub of_find : {X : Type 0} (p : X → Bool) (x : X) (xs : List X) → find p xs ≡ Some x →
    IsIn x xs × (p x ≡ true)
of_find p x [] e = absurd (let bad : ⊥ = cc in bad)
of_find {X} p x (z ∷ zs) e = at (p z) refl e (λ later. of_find p x zs later)
  where
    at : (b : Bool) → p z ≡ b → cond b (Some z) (find p zs) ≡ Some x →
        (find p zs ≡ Some x → IsIn x zs × (p x ≡ true)) → IsIn x (z ∷ zs) × (p x ≡ true)
    at true is found rest =
        let same : z ≡ x = same_Some z x found in (inl (sym same), ap p (sym same) ∙ is)
    at false is found rest = let r = rest found in (inr r.0, r.1)

pub all_in : {X : Type 0} (P : X → Type 0) (x : X) (xs : List X) → AllByRecursion P xs → IsIn x xs → P x
all_in P x [] h is = absurd is
all_in P x (z ∷ zs) h (inl same) = subst P (sym same) h.0
all_in P x (z ∷ zs) h (inr later) = all_in P x zs h.1 later

pub in_at : {X : Type 0} (x : X) (xs : List X) (i : ℕ) → slice_get xs i ≡ Some x → IsIn x xs
in_at x [] i there = absurd (let bad : ⊥ = cc in bad)
in_at x (z ∷ zs) zero there = inl (sym (same_Some z x there))
in_at x (z ∷ zs) (suc i) there = inr (in_at x zs i there)

pub at_in : {X : Type 0} (x : X) (xs : List X) → IsIn x xs →
    (i : ℕ) × (i < length xs) × (slice_get xs i ≡ Some x)
at_in x [] is = absurd is
at_in x (z ∷ zs) (inl same) = (0, omega arith, ap Some (sym same))
at_in x (z ∷ zs) (inr later) =
    let r = at_in x zs later in
    let inside = r.1 in
    (suc r.0, omega (arith, inside), r.2)

pub in_contains : {X : Type 0} (x : X) (xs : List X) → IsIn x xs → Contains xs x
in_contains x [] is = absurd is
in_contains x (z ∷ zs) (inl same) = (0, omega arith, sym same)
in_contains x (z ∷ zs) (inr later) =
    let r = in_contains x zs later in let inside = r.1 in (suc r.0, omega (arith, inside), r.2)

pub contains_in : {X : Type 0} (x : X) (xs : List X) → Contains xs x → IsIn x xs
contains_in {X} x xs h = at xs h.0 h.1 h.2
  where
    at : (ys : List X) (k : ℕ) → k < length ys → get_or ys k x ≡ x → IsIn x ys
    at [] k inside is = absurd (omega (arith, inside))
    at (y ∷ ys) zero inside is = inl (sym is)
    at (y ∷ ys) (suc k) inside is = inr (at ys k (omega (arith, inside)) is)
