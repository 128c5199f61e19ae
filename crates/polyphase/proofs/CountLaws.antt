-- What the counts tell of the latest values, and how they change with one of them.
use Rattle.std.proofs.Common.{◌≡◌, ℕ, suc, ◌+◌, ◌<◌, ◌≤◌, Bool, true, false, cond, ◌||◌, ◌&&◌, nat_lt, nat_eq, List, [], ◌∷◌, length, take, set, replicate, get_or, Option, None, Some, refl, sym, ◌∙◌, ap, subst, arith, length-set}
use Rattle.std.specs.List.{list_any, list_all, count_by}
use Rattle.std.proofs.lemmas.Bool.Decides.{nat_tests}
use Rattle.std.proofs.lemmas.List.Sums.{count_by-le-length, get_or-le-sum_by, sum_by-cons, sum_by-le-sum_by, sum_by-set}
use Rattle.event_detect.specs.declared.limits.Class.{Class}
use Rattle.event_detect.specs.declared.limits.Limits.{Limits}
use Rattle.event_detect.specs.Threshold.{class_of}
use Rattle.polyphase.specs.declared.counts.Counts.{Counts}
use Rattle.polyphase.specs.Latest.{IsAmong, count_of, counts_of, one_if, with_class}
use Rattle.polyphase.specs.PolyphaseEvent.{is_there_and, passes_if_there}

counted : {X : Type 0} (p : X → Bool) (x : X) (xs : List X)
    → count_by p (x ∷ xs) ≡ cond (p x) 1 0 + count_by p xs
counted p x xs = sum_by-cons (λ x. cond (p x) 1 0) x xs

-- some value passes where there is one in the count
pub any_counted : {X : Type 0} (p : X → Bool) (xs : List X) → nat_lt 0 (count_by p xs) ≡ list_any p xs
any_counted p [] = refl
any_counted p (x ∷ xs) =
    ap (nat_lt 0) (counted p x xs) ∙ at (p x) (count_by p xs) (list_any p xs) (any_counted p xs)
  where
    at : (b : Bool) (n : ℕ) (r : Bool) → nat_lt 0 n ≡ r → nat_lt 0 (cond b 1 0 + n) ≡ (b || r)
    at true n r h = grind (arith, nat_tests)
    at false n r h = let e : 0 + n ≡ n = omega arith in ap (nat_lt 0) e ∙ h

-- each does where all are in the count
pub all_counted : {X : Type 0} (p : X → Bool) (xs : List X)
    → nat_eq (count_by p xs) (length xs) ≡ list_all p xs
all_counted p [] = refl
all_counted p (x ∷ xs) =
    ap (λ n. nat_eq n (length (x ∷ xs))) (counted p x xs)
    ∙ at (p x) (count_by p xs) (length xs) (list_all p xs) (count_by-le-length p xs) (all_counted p xs)
  where
    at : (b : Bool) (n m : ℕ) (r : Bool) → n ≤ m → nat_eq n m ≡ r → nat_eq (cond b 1 0 + n) (suc m) ≡ (b && r)
    at true n m r less h = grind (arith, nat_tests, h)
    at false n m r less h = grind (arith, nat_tests, less)

bit_le : (b : Bool) → cond b 1 0 ≤ 1
bit_le true = omega arith
bit_le false = omega arith

there_more : (t : ℕ → Bool) (o : Option ℕ)
    → cond (is_there_and t o) 1 0 ≤ cond (is_there_and (λ v. true) o) 1 0
there_more t None = omega arith
there_more t (Some v) = bit_le (t v)

-- each that is there passes where as many pass as there are
pub there_counted : (t : ℕ → Bool) (xs : List (Option ℕ))
    → nat_eq (count_by (is_there_and t) xs) (count_by (is_there_and (λ v. true)) xs)
    ≡ list_all (passes_if_there t) xs
there_counted t [] = refl
there_counted t (x ∷ xs) =
    let n = count_by (is_there_and t) xs in
    let m = count_by (is_there_and (λ v. true)) xs in
    let less : n ≤ m = sum_by-le-sum_by (λ x. cond (is_there_and t x) 1 0)
    (λ x. cond (is_there_and (λ v. true) x) 1 0) xs (there_more t) in
    ap (λ k. nat_eq k (count_by (is_there_and (λ v. true)) (x ∷ xs))) (counted (is_there_and t) x xs)
    ∙ ap (nat_eq (cond (is_there_and t x) 1 0 + n)) (counted (is_there_and (λ v. true)) x xs)
    ∙ at x n m (list_all (passes_if_there t) xs) less (there_counted t xs)
  where
    passing : (b : Bool) (n m : ℕ) (r : Bool) → n ≤ m → nat_eq n m ≡ r
        → nat_eq (cond b 1 0 + n) (1 + m) ≡ (b && r)
    passing true n m r less h = grind (arith, nat_tests, h)
    passing false n m r less h = grind (arith, nat_tests, less)

    at : (x : Option ℕ) (n m : ℕ) (r : Bool) → n ≤ m → nat_eq n m ≡ r
        → nat_eq (cond (is_there_and t x) 1 0 + n) (cond (is_there_and (λ v. true) x) 1 0 + m)
        ≡ (passes_if_there t x && r)
    at None n m r less h = grind (arith, nat_tests, h)
    at (Some v) n m r less h = passing (t v) n m r less h

-- ---- one value in place of another

replaced : (t : Class → Bool) (limits : Limits) (xs : List (Option ℕ)) (i v : ℕ) (before : Option ℕ)
    → i < length xs → get_or xs i None ≡ before
    → count_of t limits (set xs i (Some v)) + one_if (is_there_and (λ v. t (class_of limits v)) before)
    ≡ count_of t limits xs + one_if (t (class_of limits v))
replaced t limits xs i v before inside is =
    let p : Option ℕ → Bool = is_there_and (λ v. t (class_of limits v)) in
    ap (λ o. count_of t limits (set xs i (Some v)) + one_if (p o)) (sym is)
    ∙ sum_by-set (λ x. cond (p x) 1 0) xs i (Some v) None inside

in_place : (t : Class → Bool) (limits : Limits) (xs : List (Option ℕ)) (i v b left : ℕ)
    → i < length xs → get_or xs i None ≡ Some b
    → left + one_if (t (class_of limits b)) ≡ count_of t limits xs
    → left + one_if (t (class_of limits v)) ≡ count_of t limits (set xs i (Some v))
in_place t limits xs i v b left inside is split =
    let e = replaced t limits xs i v (Some b) inside is in omega (arith, e, split)

at_first : (t : Class → Bool) (limits : Limits) (xs : List (Option ℕ)) (i v : ℕ)
    → i < length xs → get_or xs i None ≡ None
    → count_of t limits xs + one_if (t (class_of limits v)) ≡ count_of t limits (set xs i (Some v))
at_first t limits xs i v inside is =
    let e = replaced t limits xs i v None inside is in omega (arith, e)

is_among : (t : Class → Bool) (limits : Limits) (xs : List (Option ℕ)) (i b : ℕ)
    → i < length xs → get_or xs i None ≡ Some b
    → one_if (t (class_of limits b)) ≤ count_of t limits xs
is_among t limits xs i b inside is =
    let p : Option ℕ → Bool = is_there_and (λ v. t (class_of limits v)) in
    subst (λ o. one_if (p o) ≤ count_of t limits xs) is
    (get_or-le-sum_by (λ x. cond (p x) 1 0) xs i None inside)

-- a value that is there is among those that are counted
pub among_counts : (limits : Limits) (xs : List (Option ℕ)) (i b : ℕ) → i < length xs
    → get_or xs i None ≡ Some b
    → IsAmong (class_of limits b) (counts_of limits xs)
among_counts limits xs i b inside is = record {
  there = is_among (λ c. true) limits xs i b inside is;
  below_dip = is_among (λ c. c.below_dip) limits xs i b inside is;
  clear_dip = is_among (λ c. c.clear_dip) limits xs i b inside is;
  above_swell = is_among (λ c. c.above_swell) limits xs i b inside is;
  clear_swell = is_among (λ c. c.clear_swell) limits xs i b inside is;
  below_interruption = is_among (λ c. c.below_interruption) limits xs i b inside is;
  clear_interruption = is_among (λ c. c.clear_interruption) limits xs i b inside is;
}

-- the counts with a value in place of one that was there
pub counts_in_place : (limits : Limits) (xs : List (Option ℕ)) (i v b : ℕ) (left : Counts)
    → i < length xs → get_or xs i None ≡ Some b
    → with_class left (class_of limits b) ≡ counts_of limits xs
    → with_class left (class_of limits v) ≡ counts_of limits (set xs i (Some v))
counts_in_place limits xs i v b left inside is split =
    let there = in_place (λ c. true) limits xs i v b left.there inside is
    (ap (λ (c : Counts). c.there) split) in
    let below_dip = in_place (λ c. c.below_dip) limits xs i v b left.below_dip inside is
    (ap (λ (c : Counts). c.below_dip) split) in
    let clear_dip = in_place (λ c. c.clear_dip) limits xs i v b left.clear_dip inside is
    (ap (λ (c : Counts). c.clear_dip) split) in
    let above_swell = in_place (λ c. c.above_swell) limits xs i v b left.above_swell inside is
    (ap (λ (c : Counts). c.above_swell) split) in
    let clear_swell = in_place (λ c. c.clear_swell) limits xs i v b left.clear_swell inside is
    (ap (λ (c : Counts). c.clear_swell) split) in
    let below_interruption =
    in_place (λ c. c.below_interruption) limits xs i v b left.below_interruption inside is
    (ap (λ (c : Counts). c.below_interruption) split) in
    let clear_interruption =
    in_place (λ c. c.clear_interruption) limits xs i v b left.clear_interruption inside is
    (ap (λ (c : Counts). c.clear_interruption) split) in
    cc (there, below_dip, clear_dip, above_swell, clear_swell, below_interruption, clear_interruption)

-- the counts with the first value of a channel
pub counts_at_first : (limits : Limits) (xs : List (Option ℕ)) (i v : ℕ)
    → i < length xs → get_or xs i None ≡ None
    → with_class (counts_of limits xs) (class_of limits v) ≡ counts_of limits (set xs i (Some v))
counts_at_first limits xs i v inside is =
    let there = at_first (λ c. true) limits xs i v inside is in
    let below_dip = at_first (λ c. c.below_dip) limits xs i v inside is in
    let clear_dip = at_first (λ c. c.clear_dip) limits xs i v inside is in
    let above_swell = at_first (λ c. c.above_swell) limits xs i v inside is in
    let clear_swell = at_first (λ c. c.clear_swell) limits xs i v inside is in
    let below_interruption = at_first (λ c. c.below_interruption) limits xs i v inside is in
    let clear_interruption = at_first (λ c. c.clear_interruption) limits xs i v inside is in
    cc (there, below_dip, clear_dip, above_swell, clear_swell, below_interruption, clear_interruption)
