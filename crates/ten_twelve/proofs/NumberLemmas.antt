-- Filters over numbers one after another.
use Rattle.std.proofs.Common.{◌≡◌, ℕ, zero, suc, ◌+◌, ◌-◌, ◌*◌, ◌/◌, ◌%◌, ◌<◌, ◌≤◌, Bool, true, false, cond, ◌==◌, List, [], ◌∷◌, ◌++◌, map, filter, refl, sym, ◌∙◌, ap, inl, inr, arith}
use Rattle.std.specs.Int.{div_ceil}
use Rattle.std.proofs.Math.Nat.{div-eq_of_lt, div-eq_of_lt-le}
use Rattle.std.proofs.lemmas.Bool.{cases_lt}
use Rattle.std.proofs.lemmas.Bool.Decides.{nat_tests}
use Rattle.std.proofs.lemmas.List.Elements.{filter-append}
use Rattle.std.proofs.lemmas.List.{append-nil}
use Rattle.pq_words.specs.Steps.{numbers_from, numbers_below}
use Rattle.pq_words.proofs.StepLaws.{numbers_push, map_below_push}

-- numbers in two parts
pub numbers_split : (low a b : ℕ) → numbers_from low (a + b) ≡ numbers_from low a ++ numbers_from (low + a) b
unfolding numbers_from
numbers_split low zero b =
    let none : 0 + b ≡ b = omega arith in
    let here : low ≡ low + 0 = omega arith in
    ap (numbers_from low) none ∙ ap (λ l. numbers_from l b) here
numbers_split low (suc a) b =
    let more : suc a + b ≡ suc (a + b) = omega arith in
    let on : low + 1 + a ≡ low + suc a = omega arith in
    ap (numbers_from low) more ∙ ap (λ xs. low ∷ xs)
    (numbers_split (low + 1) a b ∙ ap (λ l. numbers_from (low + 1) a ++ numbers_from l b) on)

-- one element more
pub filter_push : {X : Type 0} (p : X → Bool) (xs : List X) (x : X) → filter p (xs ++ x ∷ []) ≡ filter p xs
    ++ cond (p x) (x ∷ []) []
filter_push p xs x = filter-append p xs (x ∷ []) ∙ ap (λ ys. filter p xs ++ ys) (at (p x))
  where
    at : (b : Bool) → cond b (x ∷ []) [] ≡ cond b (x ∷ []) []
    at b = refl

-- one number more
pub numbers_filter_push : (p : ℕ → Bool) (low n : ℕ) → filter p (numbers_from low (suc n))
    ≡ filter p (numbers_from low n) ++ cond (p (low + n)) ((low + n) ∷ []) []
numbers_filter_push p low n = ap (filter p) (numbers_push low n)
    ∙ filter_push p (numbers_from low n) (low + n)

-- two tests that agree on some numbers
pub filter_agree : (p q : ℕ → Bool) (low n : ℕ) → ((x : ℕ) → low ≤ x → x < low + n → p x ≡ q x) →
    filter p (numbers_from low n) ≡ filter q (numbers_from low n)
unfolding numbers_from
filter_agree p q low zero same = refl
filter_agree p q low (suc n) same =
    let here : p low ≡ q low = same low (omega arith) (omega arith) in
    let rest : filter p (numbers_from (low + 1) n) ≡ filter q (numbers_from (low + 1) n) =
    filter_agree p q (low + 1) n (λ x from below. same x (omega (arith, from)) (omega (arith, below))) in
    ap (λ b. cond b (low ∷ filter p (numbers_from (low + 1) n)) (filter p (numbers_from (low + 1) n))) here
    ∙ ap (λ xs. cond (q low) (low ∷ xs) xs) rest

-- a test that none of some numbers passes
pub filter_nothing : (p : ℕ → Bool) (low n : ℕ) → ((x : ℕ) → low ≤ x → x < low + n → p x ≡ false) →
    filter p (numbers_from low n) ≡ []
unfolding numbers_from
filter_nothing p low zero fails = refl
filter_nothing p low (suc n) fails =
    ap (λ b. cond b (low ∷ filter p (numbers_from (low + 1) n)) (filter p (numbers_from (low + 1) n)))
    (fails low (omega arith) (omega arith))
    ∙ filter_nothing p (low + 1) n (λ x from below. fails x (omega (arith, from)) (omega (arith, below)))

-- ---- whole lengths after a number

-- one number more begins one length more, where a whole number of lengths stood before it
next_quotient : (n m : ℕ) → 1 ≤ m → div_ceil (n + 1) m ≡ n / m + 1
next_quotient n m some =
    elim (cases_lt (n % m + 1) m) [
      | inl less ↦
          let low : n / m * m ≤ n + 1 = omega (arith, some) in
          let high : n + 1 < (n / m + 1) * m = omega (arith, some, less) in
          let same : (n + 1) / m ≡ n / m = div-eq_of_lt-le m low high in
          let product : (n + 1) / m * m ≡ n / m * m = ap (λ q. q * m) same in
          omega (arith, some, same, product, less)
      | inr whole ↦
          let low : (n / m + 1) * m ≤ n + 1 = omega (arith, some, whole) in
          let high : n + 1 < (n / m + 1 + 1) * m = omega (arith, some, whole) in
          let same : (n + 1) / m ≡ n / m + 1 = div-eq_of_lt-le m low high in
          let product : (n + 1) / m * m ≡ (n / m + 1) * m = ap (λ q. q * m) same in
          omega (arith, some, same, product, whole)
    ]

rounded_up_whole : (n m : ℕ) → 1 ≤ m → n % m ≡ 0 → (div_ceil n m * m ≡ n) ×
    (div_ceil (n + 1) m ≡ div_ceil n m + 1)
rounded_up_whole n m some whole =
    let same : div_ceil n m ≡ n / m = omega (arith, whole) in
    let product : div_ceil n m * m ≡ n / m * m = ap (λ q. q * m) same in
    (omega (arith, product, whole, some), omega (arith, next_quotient n m some, same))

rounded_up_part : (n m : ℕ) → 1 ≤ m → 0 < n % m → div_ceil (n + 1) m ≡ div_ceil n m
rounded_up_part n m some part = omega (arith, next_quotient n m some, part)

multiple_step : (g m n : ℕ) (b : Bool) → 1 ≤ m → (n % m == 0) ≡ b
    → map (λ k. g + k * m) (numbers_below (div_ceil n m)) ++ cond b ((g + n) ∷ []) []
    ≡ map (λ k. g + k * m) (numbers_below (div_ceil (n + 1) m))
multiple_step g m n true some is =
    let r = rounded_up_whole n m some (grind (arith, nat_tests, is)) in
    let last : g + n ≡ g + div_ceil n m * m = omega (arith, r.0) in
    ap (λ x. map (λ k. g + k * m) (numbers_below (div_ceil n m)) ++ x ∷ []) last
    ∙ sym (map_below_push (λ k. g + k * m) (div_ceil n m))
    ∙ ap (λ c. map (λ k. g + k * m) (numbers_below c)) (sym r.1)
multiple_step g m n false some is =
    let r = rounded_up_part n m some (grind (arith, nat_tests, is)) in
    append-nil (map (λ k. g + k * m) (numbers_below (div_ceil n m)))
    ∙ ap (λ c. map (λ k. g + k * m) (numbers_below c)) (sym r)

-- no numbers have no length
pub nothing_up : (m : ℕ) → 1 ≤ m → div_ceil 0 m ≡ 0
nothing_up m some = let q : 0 / m ≡ 0 = div-eq_of_lt some in omega (arith, q, some)

-- of n numbers from g on, those a whole number of lengths after it
pub multiples : (g m n : ℕ) → 1 ≤ m → filter (λ x. (x - g) % m == 0) (numbers_from g n)
    ≡ map (λ k. g + k * m) (numbers_below (div_ceil n m))
unfolding numbers_from
multiples g m zero some =
    ap (λ c. map (λ k. g + k * m) (numbers_below c)) (sym (nothing_up m some))
multiples g m (suc n) some =
    let back : g + n - g ≡ n = omega arith in
    let next : suc n ≡ n + 1 = omega arith in
    numbers_filter_push (λ x. (x - g) % m == 0) g n
    ∙ ap (λ xs. xs ++ cond ((g + n - g) % m == 0) ((g + n) ∷ []) []) (multiples g m n some)
    ∙ ap (λ i. map (λ k. g + k * m) (numbers_below (div_ceil n m)) ++ cond (i % m == 0) ((g + n) ∷ []) [])
    back
    ∙ multiple_step g m n (n % m == 0) some refl
    ∙ ap (λ i. map (λ k. g + k * m) (numbers_below (div_ceil i m))) (sym next)
