-- A merge of channels' windows takes the least first window, and merges the rest.
use Rattle.std.proofs.Common.{◌≡◌, ℕ, zero, suc, ◌+◌, ◌<◌, ◌⊎◌, true, false, List, [], ◌∷◌, ◌++◌, slice_get, Some, refl, sym, ◌∙◌, ap, subst, inl, inr, arith, Equal, Greater}
use Rattle.std.specs.List.{AllByRecursion, sum_by}
use Rattle.std.specs.Ordering.{is_lt, nat_cmp, ordering_then}
use Rattle.std.specs.Cmp.{nat_cmp_is}
use Rattle.std.proofs.lemmas.List.Sums.{sum_by-append, sum_by-cons}
use Rattle.event_detect.specs.declared.window.Window.{Window}
use Rattle.polyphase.specs.PolyphaseEvent.{ChannelWindow, merged_cmp, of_channel, joined_from, merged_windows}
use Rattle.polyphase.proofs.MergedLaws.{merged_cmp_total, merged_cmp_same}
use Rattle.pq_words.specs.Sorted.{in_order}
use Rattle.polyphase.proofs.MovedLaws.{IsMoved, all_ordered, moved_order, put_first}

-- window y of the channel at position k is not before window x of position c
abbrev pub IsNotBefore : ℕ → Window → ℕ → Window → Type 0
IsNotBefore c x k y = (x.start < y.start) ⊎ ((x.start ≡ y.start) × (c < k))

-- so of the windows of all channels, from a position on
abbrev pub AreNotBefore : ℕ → Window → ℕ → List (List Window) → Type 0
AreNotBefore c x k [] = Unit {0}
AreNotBefore c x k (xs ∷ xss) = AllByRecursion (IsNotBefore c x k) xs × AreNotBefore c x (k + 1) xss

-- the channels, with other windows at a position
abbrev pub without_first : List (List Window) → ℕ → List Window → List (List Window)
without_first [] i xs = []
without_first (ys ∷ xss) zero xs = xs ∷ xss
without_first (ys ∷ xss) (suc i) xs = ys ∷ without_first xss i xs

-- ---- a channel's windows, of which each starts after those before it

abbrev pub Rises : List Window → Type 0
Rises [] = Unit {0}
Rises (x ∷ xs) = AllByRecursion (λ y. x.start < y.start) xs × Rises xs

-- the first window of the channel at position k, if it has one, is not before window x of position c
abbrev pub IsFirstNotBefore : ℕ → Window → ℕ → List Window → Type 0
IsFirstNotBefore c x k [] = Unit {0}
IsFirstNotBefore c x k (y ∷ ys) = IsNotBefore c x k y

all_later : (P Q : Window → Type 0) → ((y : Window) → P y → Q y) → (ys : List Window) → AllByRecursion P ys
    → AllByRecursion Q ys
all_later P Q f [] h = tt
all_later P Q f (y ∷ ys) h = (f y h.0, all_later P Q f ys h.1)

later : (c k : ℕ) (x y z : Window) → IsNotBefore c x k y → y.start < z.start → IsNotBefore c x k z
later c k x y z (inl less) after = inl (omega (arith, less, after))
later c k x y z (inr tie) after = inl (let e = tie.0 in omega (arith, e, after))

-- then none of its windows is
pub none_before : (c : ℕ) (x : Window) (k : ℕ) (ys : List Window) → Rises ys → IsFirstNotBefore c x k ys
    → AllByRecursion (IsNotBefore c x k) ys
none_before c x k [] rises first = tt
none_before c x k (y ∷ ys) rises first = (
  first,
  all_later (λ z. y.start < z.start) (IsNotBefore c x k)
      (λ z after. later c k x y z first after) ys rises.0,
)

-- nor those behind it in its own channel
pub none_behind : (c : ℕ) (x : Window) (xs : List Window) → Rises (x ∷ xs)
    → AllByRecursion (IsNotBefore c x c) xs
none_behind c x xs rises = all_later (λ z. x.start < z.start) (IsNotBefore c x c)
    (λ z after. inl after) xs rises.0

-- the first windows of the channels from position k on are not before window x of position c, that of c apart
abbrev pub FirstsAreNotBefore : ℕ → Window → ℕ → List (List Window) → Type 0
FirstsAreNotBefore c x k [] = Unit {0}
FirstsAreNotBefore c x k (ys ∷ xss) =
    ((k ≡ c) ⊎ IsFirstNotBefore c x k ys) × FirstsAreNotBefore c x (k + 1) xss

all_none_before : (xss : List (List Window)) (c : ℕ) (x : Window) (k : ℕ) → c < k → AllByRecursion Rises xss
    → FirstsAreNotBefore c x k xss → AreNotBefore c x k xss
all_none_before [] c x k past rises firsts = tt
all_none_before (ys ∷ xss) c x k past rises firsts = (
  none_before c x k ys rises.0 (other firsts.0),
  all_none_before xss c x (k + 1)
      (omega (arith, past)) rises.1 firsts.1,
)
  where
    other : (k ≡ c) ⊎ IsFirstNotBefore c x k ys → IsFirstNotBefore c x k ys
    other (inl same) = absurd (omega (arith, same, past))
    other (inr first) = first

least_from : (xss : List (List Window)) (k i c : ℕ) (x : Window) (xs : List Window) → c ≡ k + i
    → slice_get xss i ≡ Some (x ∷ xs) → AllByRecursion Rises xss → FirstsAreNotBefore c x k xss
    → AreNotBefore c x k (without_first xss i xs)
least_from [] k i c x xs at is rises firsts = absurd (let bad : ⊥ = cc in bad)
least_from (ys ∷ xss) k zero c x xs at is rises firsts =
    let here : c ≡ k = omega (arith, at) in (
      subst (λ n. AllByRecursion (IsNotBefore c x n) xs) here
          (none_behind c x xs (subst Rises (inside ys is) rises.0)),
      all_none_before xss c x (k + 1) (omega (arith, here)) rises.1 firsts.1,
    )
  where
    inside : (ys : List Window) → Some ys ≡ Some (x ∷ xs) → ys ≡ x ∷ xs
    inside ys e = cc
least_from (ys ∷ xss) k (suc i) c x xs at is rises firsts = (
  none_before c x k ys rises.0 (other firsts.0),
  least_from xss (k + 1) i c x xs
      (omega (arith, at)) is rises.1 firsts.1,
)
  where
    other : (k ≡ c) ⊎ IsFirstNotBefore c x k ys → IsFirstNotBefore c x k ys
    other (inl same) = absurd (omega (arith, same, at))
    other (inr first) = first

-- where each channel's windows rise, it is enough that no first window is before that of one channel
pub least_of_firsts : (xss : List (List Window)) (c : ℕ) (x : Window) (xs : List Window)
    → slice_get xss c ≡ Some (x ∷ xs) → AllByRecursion Rises xss → FirstsAreNotBefore c x 0 xss
    → AreNotBefore c x 0 (without_first xss c xs)
least_of_firsts xss c x xs is rises firsts = least_from xss 0 c c x xs (omega arith) is rises firsts

-- and the rest rise
pub rest_rises : (xss : List (List Window)) (i : ℕ) (x : Window) (xs : List Window)
    → slice_get xss i ≡ Some (x ∷ xs)
    → AllByRecursion Rises xss → AllByRecursion Rises (without_first xss i xs)
rest_rises [] i x xs is rises = tt
rest_rises (ys ∷ xss) zero x xs is rises = ((subst Rises (inside ys is) rises.0).1, rises.1)
  where
    inside : (ys : List Window) → Some ys ≡ Some (x ∷ xs) → ys ≡ x ∷ xs
    inside ys e = cc
rest_rises (ys ∷ xss) (suc i) x xs is rises = (rises.0, rest_rises xss i x xs is rises.1)

-- where no channel has a window, there are none
pub merged_none : (xss : List (List Window)) → AllByRecursion (λ xs. xs ≡ []) xss → merged_windows xss ≡ []
unfolding merged_windows in_order
merged_none xss none = ap (in_order merged_cmp) (joined_none 0 xss none)
  where
    joined_none : (k : ℕ) (xss : List (List Window)) → AllByRecursion (λ xs. xs ≡ []) xss
        → joined_from k xss ≡ []
    joined_none k [] none = refl
    joined_none k (xs ∷ xss) none =
        ap (λ ys. of_channel k ys ++ joined_from (k + 1) xss) none.0 ∙ joined_none (k + 1) xss none.1

-- ---- the step

first_out : (k : ℕ) (xss : List (List Window)) (i : ℕ) (x : Window) (xs : List Window)
    → slice_get xss i ≡ Some (x ∷ xs)
    → IsMoved (joined_from k xss)
    (record { channel = k + i; window = x } ∷ joined_from k (without_first xss i xs))
first_out k [] i x xs is f = absurd (let bad : ⊥ = cc in bad)
first_out k (ys ∷ xss) zero x xs is f =
    ap (λ zs. sum_by f (joined_from k (zs ∷ xss))) (inside ys is)
    ∙ ap (λ n. sum_by f (record { channel = n; window = x } ∷ joined_from k (xs ∷ xss))) at
  where
    inside : (ys : List Window) → Some ys ≡ Some (x ∷ xs) → ys ≡ x ∷ xs
    inside ys e = cc

    at : k ≡ k + 0
    at = omega arith
first_out k (ys ∷ xss) (suc i) x xs is f =
    let rest = first_out (k + 1) xss i x xs is f in
    let made : ℕ → ChannelWindow = λ n. record { channel = n; window = x } in
    let step : k + 1 + i ≡ k + suc i = omega arith in
    let a = sum_by-append f (of_channel k ys) (joined_from (k + 1) xss) in
    let b = sum_by-append f (of_channel k ys) (joined_from (k + 1) (without_first xss i xs)) in
    let c = sum_by-cons f (made (k + 1 + i)) (joined_from (k + 1) (without_first xss i xs)) in
    let d = sum_by-cons f (made (k + suc i)) (joined_from k (ys ∷ without_first xss i xs)) in
    let e = ap (λ n. f (made n)) step in
    omega (arith, rest, a, b, c, d, e)

not_below : (c : ℕ) (x : Window) (k : ℕ) (y : Window) → IsNotBefore c x k y
    → is_lt (merged_cmp (record { channel = k; window = y }) (record { channel = c; window = x })) ≡ false
not_below c x k y (inl less) =
    let rest = ordering_then (nat_cmp k c) (ordering_then (nat_cmp y.end x.end) (nat_cmp y.value x.value)) in
    ap (λ r. is_lt (ordering_then r rest)) (sym (nat_cmp_is y.start x.start Greater less))
not_below c x k y (inr tie) =
    let by_end = ordering_then (nat_cmp y.end x.end) (nat_cmp y.value x.value) in
    ap (λ r. is_lt (ordering_then r (ordering_then (nat_cmp k c) by_end)))
    (sym (nat_cmp_is y.start x.start Equal (sym tie.0)))
    ∙ ap (λ r. is_lt (ordering_then r by_end)) (sym (nat_cmp_is k c Greater tie.1))

-- the merged window x of position c is not after m
abbrev IsLeast : ℕ → Window → ChannelWindow → Type 0
IsLeast c x m = is_lt (merged_cmp m (record { channel = c; window = x })) ≡ false

all_append : (P : ChannelWindow → Type 0) (xs ys : List ChannelWindow) → AllByRecursion P xs
    → AllByRecursion P ys
    → AllByRecursion P (xs ++ ys)
all_append P [] ys h g = g
all_append P (x ∷ xs) ys h g = (h.0, all_append P xs ys h.1 g)

none_below : (c : ℕ) (x : Window) (k : ℕ) (xss : List (List Window)) → AreNotBefore c x k xss
    → AllByRecursion (IsLeast c x) (joined_from k xss)
none_below c x k [] h = tt
none_below c x k (xs ∷ xss) h =
    all_append (IsLeast c x) (of_channel k xs) (joined_from (k + 1) xss) (of_one xs h.0)
    (none_below c x (k + 1) xss h.1)
  where
    of_one : (xs : List Window) → AllByRecursion (IsNotBefore c x k) xs
        → AllByRecursion (IsLeast c x) (of_channel k xs)
    of_one [] h = tt
    of_one (y ∷ ys) h = (not_below c x k y h.0, of_one ys h.1)

-- the first window of a channel that no other is before is the first of the merged windows, and the others
-- are those of the rest
pub merge_step : (xss : List (List Window)) (c : ℕ) (x : Window) (xs : List Window)
    → slice_get xss c ≡ Some (x ∷ xs) → AreNotBefore c x 0 (without_first xss c xs)
    → merged_windows xss ≡ record { channel = c; window = x } ∷ merged_windows (without_first xss c xs)
unfolding merged_windows in_order
merge_step xss c x xs is least =
    let made : ℕ → ChannelWindow = λ n. record { channel = n; window = x } in
    let zero_is : 0 + c ≡ c = omega arith in
    let rest = without_first xss c xs in
    moved_order merged_cmp merged_cmp_total merged_cmp_same (joined_from 0 xss)
    (made (0 + c) ∷ joined_from 0 rest)
    (first_out 0 xss c x xs is)
    ∙ ap (λ n. in_order merged_cmp (made n ∷ joined_from 0 rest)) zero_is
    ∙ put_first merged_cmp (made c) (in_order merged_cmp (joined_from 0 rest))
    (all_ordered merged_cmp (IsLeast c x) (joined_from 0 rest) (none_below c x 0 rest least))
