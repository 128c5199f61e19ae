-- A run begins at a front, and else where no run lacks elements.
use Rattle.std.proofs.Common.{◌≡◌, ◌≢◌, ℕ, zero, suc, ◌+◌, ◌-◌, ◌*◌, ◌/◌, ◌%◌, ◌<◌, ◌≤◌, Bool, true, false, cond, ◌==◌, ◌||◌, List, [], ◌∷◌, ◌++◌, length, map, filter, refl, sym, ◌∙◌, ap, subst, inl, inr, arith}
use Rattle.std.proofs.Math.Nat.{add-mul-mod_self_right, mul-mod_left, mod-eq_of_lt}
use Rattle.std.proofs.Math.Seq.{append_snoc}
use Rattle.std.proofs.lemmas.Bool.{cases_lt}
use Rattle.std.proofs.lemmas.Bool.Decides.{nat_tests}
use Rattle.std.proofs.lemmas.List.{append-nil, length_push}
use Rattle.ten_twelve.specs.Chopper.{BeginsAtFront}
use Rattle.ten_twelve.specs.Unfinished.{is_nil}
use Rattle.ten_twelve.specs.Run.{Element, PendingRun, begins_run, marked, fronts, pending_from, pending_runs}
use Rattle.ten_twelve.proofs.NumberLemmas.{filter_nothing}
use Rattle.ten_twelve.proofs.ChopLemmas.{begins_from}
use Rattle.ten_twelve.proofs.PendingLaws.{fronts_push, begins_at_front, begins_at_other, latest_runs, pending_runs_latest}
use Rattle.pq_words.specs.Steps.{numbers_from}

-- ---- the last front

-- the last front of some elements is one of them
pub record LastFront (fed : List Element) : Type 0 where
  pub earlier : List ℕ
  pub last : ℕ
  pub all : fronts fed ≡ earlier ++ last ∷ []
  pub inside : last < length fed

last_push : (fed : List Element) (e : Element) → LastFront fed → LastFront (fed ++ e ∷ [])
last_push fed e h = at e.front refl
  where
    at : (b : Bool) → e.front ≡ b → LastFront (fed ++ e ∷ [])
    at true is = record {
      earlier = fronts fed;
      last = length fed;
      all = fronts_push fed e ∙ ap (λ b. fronts fed ++ cond b (length fed ∷ []) []) is;
      inside = omega (arith, length_push fed e);
    }
    at false is = record {
      earlier = h.earlier;
      last = h.last;
      all = fronts_push fed e ∙ ap (λ b. fronts fed ++ cond b (length fed ∷ []) []) is
          ∙ append-nil (fronts fed) ∙ h.all;
      inside = omega (arith, length_push fed e, h.inside);
    }

last_on : (fed more : List Element) → LastFront fed → LastFront (fed ++ more)
last_on fed [] h = subst LastFront (sym (append-nil fed)) h
last_on fed (e ∷ es) h = subst LastFront (append_snoc fed e es)
    (last_on (fed ++ e ∷ []) es (last_push fed e h))

one_front : (e : Element) → e.front ≡ true → LastFront (e ∷ [])
unfolding marked
one_front e is = record {
  earlier = [];
  last = 0;
  all = ap (λ b. map (λ (p : ℕ × Bool). p.0) (cond b ((0, b) ∷ []) [])) is;
  inside = omega arith;
}

pub last_of : (e : Element) (es : List Element) → e.front ≡ true → LastFront (e ∷ es)
last_of e es is = last_on (e ∷ []) es (one_front e is)

-- ---- whole lengths

-- less than a length before a whole number of lengths
not_whole : (a d m : ℕ) → 0 < d → d < m → d ≤ a → a % m ≡ 0 → 0 < (a - d) % m
not_whole a d m some less inside whole = at (a / m) refl
  where
    at : (q : ℕ) → a / m ≡ q → 0 < (a - d) % m
    at zero e = let product : a / m * m ≡ 0 * m = ap (λ q. q * m) e in
        absurd (omega (arith, product, whole, some, less, inside))
    at (suc k) e =
        let product : a / m * m ≡ suc k * m = ap (λ q. q * m) e in
        let parts : a - d ≡ m - d + k * m = omega (arith, product, whole, less) in
        let rest : (a - d) % m ≡ m - d = ap (λ x. x % m) parts ∙ add-mul-mod_self_right (m - d) k m
        ∙ mod-eq_of_lt (omega (arith, some, less)) in
        omega (arith, rest, less)

at_least_one : (a m : ℕ) → 0 < a → a % m ≡ 0 → m ≤ a
at_least_one a m some whole =
    elim (cases_lt a m) [
      | inl less ↦ let rest : a % m ≡ a = mod-eq_of_lt less in absurd (omega (arith, rest, whole, some))
      | inr enough ↦ enough
    ]

-- the part of a length before a number begins a whole number of lengths
whole_before : (a m : ℕ) → 0 < m → (a - a % m) % m ≡ 0
whole_before a m positive =
    let parts : a - a % m ≡ a / m * m = omega (arith, positive) in
    ap (λ x. x % m) parts ∙ mul-mod_left (a / m) m

-- a number among some that passes
filter_some : (p : ℕ → Bool) (low n x : ℕ) → low ≤ x → x < low + n → p x ≡ true →
    filter p (numbers_from low n) ≢ []
unfolding numbers_from
filter_some p low zero x from below passes = λ none. absurd (omega (arith, from, below))
filter_some p low (suc n) x from below passes =
    at (p low) refl (λ later. filter_some p (low + 1) n x later (omega (arith, below)) passes)
  where
    at : (b : Bool) → p low ≡ b → (low + 1 ≤ x → filter p (numbers_from (low + 1) n) ≢ []) →
        cond b (low ∷ filter p (numbers_from (low + 1) n)) (filter p (numbers_from (low + 1) n)) ≢ []
    at true is later none = cc
    at false is later none =
        elim (cases_lt low x) [
          | inl less ↦ later (omega (arith, less)) none
          | inr rest ↦ let same : low ≡ x = omega (arith, rest, from) in let fails : p x ≡ false =
              ap p (sym same) ∙ is in cc
        ]

-- ---- where a run begins

none_mapped : (f : ℕ → PendingRun) (xs : List ℕ) → xs ≡ [] → is_nil (map f xs) ≡ true
none_mapped f xs e = ap (λ xs. is_nil (map f xs)) e

some_mapped : (f : ℕ → PendingRun) (xs : List ℕ) → xs ≢ [] → is_nil (map f xs) ≡ false
some_mapped f [] h = absurd (h refl)
some_mapped f (x ∷ xs) h = refl

begins_when_no_latest : (fed : List Element) (m : ℕ) → 1 ≤ m → LastFront fed →
    begins_run (fronts fed) m (length fed) ≡ is_nil (latest_runs m fed)
begins_when_no_latest fed m some h =
    let n = length fed in
    let g = h.last in
    let first = n + 1 - m in
    let test : ℕ → Bool = begins_run (fronts fed) m in
    let from : (x : ℕ) → g ≤ x → test x ≡ ((x - g) % m == 0) = λ x late. ap (λ s. begins_run s m x) h.all
    ∙ begins_from h.earlier g m x late in
    let here : test n ≡ ((n - g) % m == 0) = from n (omega (arith, h.inside)) in
    elim (cases_lt 0 ((n - g) % m)) [
      | inl part ↦
          let x : ℕ = n - (n - g) % m in
          let back : x - g ≡ (n - g) - (n - g) % m = omega (arith, h.inside, some) in
          let late : g ≤ x = omega (arith, h.inside, some) in
          let passes : test x ≡ true = from x late ∙ ap (λ k. k % m == 0) back
          ∙ ap (λ k. k == 0) (whole_before (n - g) m (omega (arith, some))) in
          let no : ((n - g) % m == 0) ≡ false = grind (arith, nat_tests, part) in
          here ∙ no
          ∙ sym (some_mapped (pending_from fed) (filter test (numbers_from first (n - first)))
          (filter_some test first (n - first) x (omega (arith, some, part))
          (omega (arith, some, part, h.inside)) passes))
      | inr whole ↦
          let zero_left : (n - g) % m ≡ 0 = omega (arith, whole) in
          let yes : ((n - g) % m == 0) ≡ true = ap (λ k. k == 0) zero_left in
          let far : m ≤ n - g = at_least_one (n - g) m (omega (arith, h.inside)) zero_left in
          here ∙ yes
          ∙ sym (none_mapped (pending_from fed) (filter test (numbers_from first (n - first)))
          (filter_nothing test first (n - first) (λ x low below.
          let lacking : 0 < ((n - g) - (n - x)) % m = not_whole (n - g) (n - x) m (omega (arith, below))
          (omega (arith, low, below, far)) (omega (arith, low, below, far)) zero_left in
          let back : x - g ≡ (n - g) - (n - x) = omega (arith, low, below, far, h.inside) in
          let no : (((n - g) - (n - x)) % m == 0) ≡ false = grind (arith, nat_tests, lacking) in
          from x (omega (arith, low, far)) ∙ ap (λ k. k % m == 0) back ∙ no)))
    ]

-- after some elements that begin at a front, a run begins exactly where none lacks elements
begins_when_none : (fed : List Element) (m : ℕ) → 1 ≤ m → LastFront fed →
    begins_run (fronts fed) m (length fed) ≡ is_nil (pending_runs m fed)
begins_when_none fed m some h = subst (λ rs. begins_run (fronts fed) m (length fed) ≡ is_nil rs)
    (sym (pending_runs_latest m fed some)) (begins_when_no_latest fed m some h)

-- so of one more element, a run begins with it at a front, or where none lacks elements
pub begins_with : (fed : List Element) (e : Element) (m : ℕ) → 1 ≤ m → BeginsAtFront (fed ++ e ∷ [])
    → begins_run (fronts (fed ++ e ∷ [])) m (length fed) ≡ (e.front || is_nil (pending_runs m fed))
begins_with [] e m some first = begins_at_front [] e m some first
    ∙ ap (λ b. b || is_nil (pending_runs m [])) (sym first)
begins_with (f ∷ fs) e m some first = at e.front refl
  where
    at : (b : Bool) → e.front ≡ b → begins_run (fronts (f ∷ fs ++ e ∷ [])) m (length (f ∷ fs))
        ≡ (b || is_nil (pending_runs m (f ∷ fs)))
    at true is = begins_at_front (f ∷ fs) e m some is
    at false is = begins_at_other (f ∷ fs) e m is ∙ begins_when_none (f ∷ fs) m some (last_of f fs first)
