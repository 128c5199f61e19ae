-- The worst of some values and the first that has it, found one after another.
use Rattle.std.proofs.Common.{◌≡◌, ℕ, Bool, true, false, cond, ◌==◌, List, [], ◌∷◌, ◌++◌, map, fold, find, Option, Some, None, refl, sym, ◌∙◌, ap, subst, arith}
use Rattle.std.proofs.lemmas.Bool.{eqb-false, ne_eqb, eq-eqb}
use Rattle.std.proofs.lemmas.Bool.Decides.{nat_tests}
use Rattle.std.proofs.lemmas.List.Sums.{fold-append}
use Rattle.event_detect.specs.declared.kind.Kind.{Kind}
use Rattle.event_detect.specs.declared.kind.Kind.TheVariants.{Dip, Swell, Interruption}
use Rattle.event_detect.specs.VoltageEvent.{Condition, worse, worst, seen_value}
use Rattle.std.specs.Option.{option_map_or}
use Rattle.event_detect.specs.Detector.{OpenEvent, is_worse, with_window}

-- ---- the order of a kind

self_not_worse : (kind : Kind) (a : ℕ) → is_worse kind a a ≡ false
self_not_worse Dip a = grind (arith, nat_tests)
self_not_worse Swell a = grind (arith, nat_tests)
self_not_worse Interruption a = grind (arith, nat_tests)

not_worse_through : (kind : Kind) (a b c : ℕ) → is_worse kind a b ≡ false → is_worse kind b c ≡ false →
    is_worse kind a c ≡ false
not_worse_through Dip a b c h g = grind (arith, nat_tests)
not_worse_through Swell a b c h g = grind (arith, nat_tests)
not_worse_through Interruption a b c h g = grind (arith, nat_tests)

neither_worse : (kind : Kind) (a b : ℕ) → is_worse kind a b ≡ false → is_worse kind b a ≡ false → a ≡ b
neither_worse Dip a b h g = grind (arith, nat_tests)
neither_worse Swell a b h g = grind (arith, nat_tests)
neither_worse Interruption a b h g = grind (arith, nat_tests)

worse_then_not : (kind : Kind) (a b : ℕ) → is_worse kind a b ≡ true → is_worse kind b a ≡ false
worse_then_not Dip a b h = grind (arith, nat_tests)
worse_then_not Swell a b h = grind (arith, nat_tests)
worse_then_not Interruption a b h = grind (arith, nat_tests)

worse_is : (kind : Kind) (a b : ℕ) → worse kind a b ≡ cond (is_worse kind b a) b a
worse_is Dip a b = grind (arith, nat_tests)
worse_is Swell a b = grind (arith, nat_tests)
worse_is Interruption a b = grind (arith, nat_tests)

-- ---- the first of the worst

abbrev pub keep : Kind → Condition → Condition → Condition
keep kind a c = cond (is_worse kind (seen_value c) (seen_value a)) c a

-- the first worst of x and what follows it
abbrev pub first_worst : Kind → Condition → List Condition → Condition
first_worst kind x xs = fold (keep kind) x xs

value_of_either : (b : Bool) (c a : Condition) → cond b (seen_value c) (seen_value a)
    ≡ seen_value (cond b c a)
value_of_either true c a = refl
value_of_either false c a = refl

worst_value : (kind : Kind) (x : Condition) (xs : List Condition) → worst kind (map seen_value (x ∷ xs))
    ≡ seen_value (first_worst kind x xs)
worst_value kind x [] = refl
worst_value kind x (y ∷ ys) =
    ap (λ v. fold (worse kind) v (map seen_value ys))
    (worse_is kind (seen_value x) (seen_value y) ∙ value_of_either
    (is_worse kind (seen_value y) (seen_value x)) y x)
    ∙ worst_value kind (keep kind x y) ys

-- the worst is at least as bad as the first
at_least : (kind : Kind) (x : Condition) (xs : List Condition) →
    is_worse kind (seen_value x) (seen_value (first_worst kind x xs)) ≡ false
at_least kind x [] = self_not_worse kind (seen_value x)
at_least kind x (y ∷ ys) = at (is_worse kind (seen_value y) (seen_value x)) refl
    (at_least kind (keep kind x y) ys)
  where
    at : (b : Bool) → is_worse kind (seen_value y) (seen_value x) ≡ b
        → is_worse kind (seen_value (cond b y x)) (seen_value (first_worst kind (cond b y x) ys)) ≡ false
        → is_worse kind (seen_value x) (seen_value (first_worst kind (cond b y x) ys)) ≡ false
    at true is later = not_worse_through kind (seen_value x) (seen_value y)
        (seen_value (first_worst kind y ys)) (worse_then_not kind (seen_value y) (seen_value x) is) later
    at false is later = later

abbrev has_value : Condition → Condition → Bool
has_value w c = seen_value c == seen_value w

both_ways : (b : Bool) → b ≡ true → b ≡ false → ⊥
both_ways b holds fails = cc

-- one before the first worst is passed over
found_later : (kind : Kind) (x y : Condition) (ys : List Condition) (w : Condition) →
    is_worse kind (seen_value y) (seen_value x) ≡ true → is_worse kind (seen_value y) (seen_value w) ≡ false
    → find (has_value w) (y ∷ ys) ≡ Some w → find (has_value w) (x ∷ y ∷ ys) ≡ Some w
found_later kind x y ys w worse least later =
    let apart : seen_value x ≡ seen_value w → ⊥ = λ e. both_ways (is_worse kind (seen_value y) (seen_value w))
    (subst (λ v. is_worse kind (seen_value y) v ≡ true) e worse) least in
    ap (λ b. cond b (Some x) (find (has_value w) (y ∷ ys))) (ne_eqb (seen_value x) (seen_value w) apart)
    ∙ later

-- one that is not worse than the one before it is not found instead of it
found_before : (kind : Kind) (x y : Condition) (ys : List Condition) (w : Condition) (b : Bool) →
    has_value w x ≡ b
    → is_worse kind (seen_value y) (seen_value x) ≡ false → is_worse kind (seen_value x) (seen_value w)
    ≡ false
    → cond b (Some x) (find (has_value w) ys) ≡ Some w → cond b (Some x) (find (has_value w) (y ∷ ys))
    ≡ Some w
found_before kind x y ys w true has no_worse least found = found
found_before kind x y ys w false has no_worse least found =
    let apart : seen_value y ≡ seen_value w → ⊥ = λ e.
    eqb-false (seen_value x) (seen_value w) has (neither_worse kind (seen_value x) (seen_value y)
    (subst (λ v. is_worse kind (seen_value x) v ≡ false) (sym e) least) no_worse ∙ e) in
    ap (λ b. cond b (Some y) (find (has_value w) ys)) (ne_eqb (seen_value y) (seen_value w) apart) ∙ found

found : (kind : Kind) (x : Condition) (xs : List Condition) →
    find (has_value (first_worst kind x xs)) (x ∷ xs) ≡ Some (first_worst kind x xs)
found kind x [] = ap (λ b. cond b (Some x) None) (eq-eqb (seen_value x) (seen_value x) refl)
found kind x (y ∷ ys) = at (is_worse kind (seen_value y) (seen_value x)) refl
    (at_least kind (keep kind x y) ys) (found kind (keep kind x y) ys)
  where
    at : (b : Bool) → is_worse kind (seen_value y) (seen_value x) ≡ b
        → is_worse kind (seen_value (cond b y x)) (seen_value (first_worst kind (cond b y x) ys)) ≡ false
        → find (has_value (first_worst kind (cond b y x) ys)) (cond b y x ∷ ys)
        ≡ Some (first_worst kind (cond b y x) ys)
        → find (has_value (first_worst kind (cond b y x) ys)) (x ∷ y ∷ ys)
        ≡ Some (first_worst kind (cond b y x) ys)
    at true is least later = found_later kind x y ys (first_worst kind y ys) is least later
    at false is least later = found_before kind x y ys (first_worst kind x ys)
        (has_value (first_worst kind x ys) x) refl is least later

-- ---- what is known of the event over what was seen of it

abbrev pub value_of : Kind → List Condition → ℕ
value_of kind seen = worst kind (map seen_value seen)

abbrev pub channel_of : Kind → List Condition → ℕ
channel_of kind seen = option_map_or (λ c. c.channel) (find (λ c. seen_value c == value_of kind seen) seen) 0

abbrev pub known : Kind → ℕ → List Condition → OpenEvent
known kind start seen = record { start = start; channel = channel_of kind seen; value = value_of kind seen }

abbrev known_by : ℕ → Condition → OpenEvent
known_by start w = record { start = start; channel = w.channel; value = seen_value w }

known_is : (kind : Kind) (start : ℕ) (x : Condition) (xs : List Condition) → known kind start (x ∷ xs)
    ≡ known_by start (first_worst kind x xs)
known_is kind start x xs =
    let w = first_worst kind x xs in
    let of_value : ℕ → OpenEvent = λ v. record {
      start = start;
      channel =
          option_map_or (λ c. c.channel) (find (λ c. seen_value c == v) (x ∷ xs)) 0;
      value = v;
    } in
    let of_found : Option Condition → OpenEvent = λ o. record
    { start = start; channel = option_map_or (λ c. c.channel) o 0; value = seen_value w } in
    ap of_value (worst_value kind x xs) ∙ ap of_found (found kind x xs)

known_either : (b : Bool) (start : ℕ) (c w : Condition) → known_by start (cond b c w)
    ≡ cond b (record { start = start; channel = c.channel; value = seen_value c }) (known_by start w)
known_either true start c w = refl
known_either false start c w = refl

-- one more condition, seen after others
pub known_push : (kind : Kind) (start : ℕ) (x : Condition) (xs : List Condition) (c : Condition)
    → known kind start ((x ∷ xs) ++ c ∷ []) ≡ with_window kind (known kind start (x ∷ xs)) c.channel
    (seen_value c)
known_push kind start x xs c =
    let w = first_worst kind x xs in
    known_is kind start x (xs ++ c ∷ [])
    ∙ ap (known_by start) (fold-append (keep kind) x xs (c ∷ []))
    ∙ known_either (is_worse kind (seen_value c) (seen_value w)) start c w
    ∙ ap (λ r. with_window kind r c.channel (seen_value c)) (sym (known_is kind start x xs))

-- a first condition
pub known_first : (kind : Kind) (start : ℕ) (c : Condition) → known kind start (c ∷ [])
    ≡ record { start = start; channel = c.channel; value = seen_value c }
known_first kind start c = known_is kind start c []
