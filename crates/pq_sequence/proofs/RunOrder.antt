-- Runs over starts that do not fall: one begins at each start, and one that begins at none follows the run
-- before it.
use Rattle.std.proofs.Common.{◌≡◌, ◌⊎◌, ℕ, zero, suc, ◌+◌, ◌-◌, ◌*◌, ◌/◌, ◌%◌, ◌<◌, ◌≤◌, ◌==◌, Bool, true, false, cond, nat_le, List, [], ◌∷◌, filter, Option, Some, None, refl, sym, ◌∙◌, ap, subst, inl, inr, arith}
use Rattle.std.specs.List.{last_or}
use Rattle.std.specs.Option.{option_map_or}
use Rattle.std.proofs.Math.Nat.{add-mul-mod_self_right, mod-eq_of_lt, mul-mod_left}
use Rattle.std.proofs.lemmas.Bool.{cases_lt}
use Rattle.std.proofs.lemmas.Bool.Decides.{nat_tests}
use Rattle.std.proofs.lemmas.Option.{same_Some}
use Rattle.pq_sequence.proofs.FrontLemmas.{RisesFrom}
use Rattle.pq_sequence.proofs.NeighbourLaws.{IsIn, IsNext}
use Rattle.ten_twelve.specs.Run.{latest_start, begins_run}

le_of : (a b : ℕ) → nat_le a b ≡ true → a ≤ b
le_of a b h = grind (arith, nat_tests, h)

of_le : (a b : ℕ) → a ≤ b → nat_le a b ≡ true
of_le a b h = grind (arith, nat_tests, h)

-- ---- the latest start

-- the latest start at an index or before it, after one that is known
abbrev latest_from : Option ℕ → List ℕ → ℕ → Option ℕ
latest_from o starts x = last_or o (filter (λ k. nat_le k x) starts)

from_in : (o : Option ℕ) (starts : List ℕ) (x g : ℕ) → latest_from o starts x ≡ Some g →
    (o ≡ Some g) ⊎ (IsIn g starts × (g ≤ x))
from_in o [] x g e = inl e
from_in o (z ∷ zs) x g e = at (nat_le z x) refl e (λ p f. from_in p zs x g f)
  where
    at : (b : Bool) → nat_le z x ≡ b
        → last_or o (cond b (z ∷ filter (λ k. nat_le k x) zs) (filter (λ k. nat_le k x) zs)) ≡ Some g →
        ((p : Option ℕ) → latest_from p zs x ≡ Some g → (p ≡ Some g) ⊎ (IsIn g zs × (g ≤ x)))
        → (o ≡ Some g) ⊎ (IsIn g (z ∷ zs) × (g ≤ x))
    at true is e rest = elim (rest (Some z) e) [
      | inl same ↦ let z_is : z ≡ g = same_Some z g same in
          inr (inl (sym z_is), subst (λ k. k ≤ x) z_is (le_of z x is))
      | inr later ↦ inr (inr later.0, later.1)
    ]
    at false is e rest = elim (rest o e) [
      | inl same ↦ inl same
      | inr later ↦ inr (inr later.0, later.1)
    ]

-- it is a start, and not after the index
latest_in : (starts : List ℕ) (x g : ℕ) → latest_start starts x ≡ Some g → IsIn g starts × (g ≤ x)
latest_in starts x g e = elim (from_in None starts x g e) [
  | inl none ↦ absurd (let bad : ⊥ = cc in bad)
  | inr is ↦ is
]

from_later : (s : ℕ) (starts : List ℕ) (x : ℕ) → RisesFrom s starts →
    (r : ℕ) × (latest_from (Some s) starts x ≡ Some r) × (s ≤ r)
from_later s [] x rises = (s, refl, omega arith)
from_later s (z ∷ zs) x rises =
    at (nat_le z x) (from_later z zs x rises.1) (from_later s zs x (lower z s zs rises.0 rises.1))
  where
    lower : (n m : ℕ) (ks : List ℕ) → m ≤ n → RisesFrom n ks → RisesFrom m ks
    lower n m [] h r = tt
    lower n m (k ∷ ks) h r = (omega (arith, h, r.0), r.1)

    at : (b : Bool) → ((r : ℕ) × (latest_from (Some z) zs x ≡ Some r) × (z ≤ r))
        → ((r : ℕ) × (latest_from (Some s) zs x ≡ Some r) × (s ≤ r))
        → (r : ℕ)
        × (last_or (Some s) (cond b (z ∷ filter (λ k. nat_le k x) zs) (filter (λ k. nat_le k x) zs)) ≡ Some r)
        × (s ≤ r)
    at true here before = (here.0, here.1, omega (arith, here.2, rises.0))
    at false here before = before

-- no start up to the index is later
from_there : (n : ℕ) (o : Option ℕ) (starts : List ℕ) (x g : ℕ) → RisesFrom n starts → IsIn g starts → g ≤ x →
    (r : ℕ) × (latest_from o starts x ≡ Some r) × (g ≤ r)
from_there n o [] x g rises is h = absurd is
from_there n o (z ∷ zs) x g rises (inl same) h =
    let passes : nat_le z x ≡ true = of_le z x (subst (λ k. k ≤ x) same h) in
    let r = from_later z zs x rises.1 in (
      r.0,
      ap (λ b. last_or o (cond b (z ∷ filter (λ k. nat_le k x) zs) (filter (λ k. nat_le k x) zs))) passes
          ∙ r.1,
      omega (arith, r.2, same),
    )
from_there n o (z ∷ zs) x g rises (inr later) h =
    at (nat_le z x) (λ p. from_there z p zs x g rises.1 later h)
  where
    at : (b : Bool) → ((p : Option ℕ) → (r : ℕ) × (latest_from p zs x ≡ Some r) × (g ≤ r))
        → (r : ℕ)
        × (last_or o (cond b (z ∷ filter (λ k. nat_le k x) zs) (filter (λ k. nat_le k x) zs)) ≡ Some r)
        × (g ≤ r)
    at true rest = rest (Some z)
    at false rest = rest o

latest_there : (starts : List ℕ) (x g : ℕ) → RisesFrom 0 starts → IsIn g starts → g ≤ x →
    (s : ℕ) × (latest_start starts x ≡ Some s) × (g ≤ s)
latest_there starts x g rises is h = from_there 0 None starts x g rises is h

-- ---- where runs begin

no_rest : (g m : ℕ) → 1 ≤ m → ((g - g) % m == 0) ≡ true
no_rest g m some =
    let none : g - g ≡ 0 = omega arith in
    let r : (g - g) % m ≡ 0 = ap (λ k. k % m) none ∙ mod-eq_of_lt some in
    grind (arith, nat_tests, r)

-- a run begins at each start
pub begins_at_start : (starts : List ℕ) (m g : ℕ) → 1 ≤ m → RisesFrom 0 starts → IsIn g starts →
    begins_run starts m g ≡ true
begins_at_start starts m g some rises is =
    let found = latest_there starts g g rises is (omega arith) in
    let at = latest_in starts g found.0 found.1 in
    let same : found.0 ≡ g = omega (arith, at.1, found.2) in
    ap (λ o. option_map_or (λ k. (g - k) % m == 0) o false) found.1
    ∙ ap (λ k. (g - k) % m == 0) same ∙ no_rest g m some

-- less than a length before a whole number of lengths
not_whole : (a d m : ℕ) → 0 < d → d < m → d ≤ a → a % m ≡ 0 → 0 < (a - d) % m
not_whole a d m some less inside whole = at (a / m) refl
  where
    at : (q : ℕ) → a / m ≡ q → 0 < (a - d) % m
    at zero e = let product : a / m * m ≡ 0 * m = ap (λ q. q * m) e in
        absurd (omega (arith, product, whole, some, less, inside))
    at (suc k) e =
        let product : a / m * m ≡ suc k * m = ap (λ q. q * m) e in
        let parts : a - d ≡ m - d + k * m = omega (arith, product, whole, less) in
        let rest : (a - d) % m ≡ m - d = ap (λ x. x % m) parts ∙ add-mul-mod_self_right (m - d) k m
        ∙ mod-eq_of_lt (omega (arith, some, less)) in
        omega (arith, rest, less)

-- one length before a whole number of them, where there is one
whole_before : (a m : ℕ) → 1 ≤ m → 0 < a → a % m ≡ 0 → (m ≤ a) × ((a - m) % m ≡ 0)
whole_before a m some positive whole = at (a / m) refl
  where
    at : (q : ℕ) → a / m ≡ q → (m ≤ a) × ((a - m) % m ≡ 0)
    at zero e = let product : a / m * m ≡ 0 * m = ap (λ q. q * m) e in
        absurd (omega (arith, product, whole, some, positive))
    at (suc k) e =
        let product : a / m * m ≡ suc k * m = ap (λ q. q * m) e in
        let parts : a - m ≡ k * m = omega (arith, product, whole, some) in
        (omega (arith, product, whole, some), ap (λ x. x % m) parts ∙ mul-mod_left k m)

eq_of : (a b : ℕ) → (a == b) ≡ true → a ≡ b
eq_of a b h = grind (arith, nat_tests, h)

of_eq : (a b : ℕ) → a ≡ b → (a == b) ≡ true
of_eq a b h = grind (arith, nat_tests, h)

-- where a run begins, it is a whole number of lengths after the latest start
whole_at : (starts : List ℕ) (m x : ℕ) → begins_run starts m x ≡ true →
    (s : ℕ) × (latest_start starts x ≡ Some s) × ((x - s) % m ≡ 0)
whole_at starts m x is = at (latest_start starts x) refl is
  where
    at : (o : Option ℕ) → latest_start starts x ≡ o → option_map_or (λ g. (x - g) % m == 0) o false ≡ true →
        (s : ℕ) × (latest_start starts x ≡ Some s) × ((x - s) % m ≡ 0)
    at None e h = absurd (let bad : ⊥ = cc in bad)
    at (Some s) e h = (s, e, eq_of ((x - s) % m) 0 h)

-- between two indices with no start after the first's latest there is one latest start
same_latest : (starts : List ℕ) (x y s : ℕ) → RisesFrom 0 starts → latest_start starts y ≡ Some s → s ≤ x →
    x ≤ y → latest_start starts x ≡ Some s
same_latest starts x y s rises at below order =
    let is = latest_in starts y s at in
    let found = latest_there starts x s rises is.0 below in
    let there = latest_in starts x found.0 found.1 in
    let up = latest_there starts y found.0 rises there.0 (omega (arith, there.1, order)) in
    let up_is : up.0 ≡ s = same_Some up.0 s (sym up.1 ∙ at) in
    let same : found.0 ≡ s = omega (arith, found.2, up.2, up_is) in
    found.1 ∙ ap Some same

-- two runs that begin less than a length apart, after one start
pub not_so_near : (starts : List ℕ) (m x y s : ℕ) → RisesFrom 0 starts → latest_start starts y ≡ Some s →
    (y - s) % m ≡ 0 → begins_run starts m x ≡ true → s ≤ x → x < y → y < x + m → ⊥
not_so_near starts m x y s rises at whole begins below order near =
    let from_x = whole_at starts m x begins in
    let same : from_x.0 ≡ s = same_Some from_x.0 s
    (sym from_x.1 ∙ same_latest starts x y s rises at below (omega (arith, order))) in
    let back : (y - s) - (y - x) ≡ x - s = omega (arith, below, order) in
    let part : 0 < ((y - s) - (y - x)) % m =
    not_whole (y - s) (y - x) m (omega (arith, order)) (omega (arith, near, order))
    (omega (arith, below, order))
    whole in
    let none : ((y - s) - (y - x)) % m ≡ 0 = ap (λ k. k % m) back ∙ ap (λ k. (x - k) % m) (sym same)
    ∙ from_x.2 in
    omega (arith, part, none)

-- a run that begins at no start follows the one before it
pub next_follows : (starts : List ℕ) (m n x y : ℕ) → 1 ≤ m → RisesFrom 0 starts →
    IsNext (begins_run starts m) n x y → (IsIn y starts → ⊥) → y ≡ x + m
next_follows starts m n x y some rises next no_start =
    let from_y = whole_at starts m y next.second in
    let s = from_y.0 in
    let is = latest_in starts y s from_y.1 in
    let later : s < y = elim (cases_lt s y) [
      | inl less ↦ less
      | inr rest ↦ let same : s ≡ y = omega (arith, is.1, rest) in
          absurd (no_start (subst (λ k. IsIn k starts) same is.0))
    ] in
    let before = whole_before (y - s) m some (omega (arith, later)) from_y.2 in
    let z : ℕ = y - m in
    let from_s : s ≤ z = omega (arith, before.0) in
    let latest = same_latest starts z y s rises from_y.1 from_s (omega arith) in
    let back : z - s ≡ (y - s) - m = omega (arith, before.0) in
    let begins : begins_run starts m z ≡ true =
    ap (λ o. option_map_or (λ g. (z - g) % m == 0) o false) latest
    ∙ of_eq ((z - s) % m) 0 (ap (λ k. k % m) back ∙ before.1) in
    let until : z ≤ x = elim (cases_lt x z) [
      | inl less ↦ absurd (let fails = next.between z less (omega (arith, some, before.0, later)) in
          let bad : ⊥ = cc in bad)
      | inr rest ↦ rest
    ] in
    elim (cases_lt z x) [
      | inl less ↦ absurd (not_so_near starts m x y s rises from_y.1 from_y.2 next.first
          (omega (arith, from_s, less)) next.after (omega (arith, less)))
      | inr rest ↦ omega (arith, until, rest, before.0)
    ]
