-- One more 10-minute interval: the 2-hour interval that it completes, if it does, and what runs after it.
use Rattle.std.proofs.Common.{◌≡◌, ◌⊎◌, ℕ, zero, suc, ◌+◌, ◌-◌, ◌*◌, ◌/◌, ◌%◌, ◌<◌, ◌≤◌, ◌==◌, Bool, true, false, cond, List, [], ◌∷◌, ◌++◌, length, map, find, filter_map, ℤ, pos, negsuc, ◌+ℤ◌, ◌-ℤ◌, ◌*ℤ◌, ◌≤ℤ◌, ◌<ℤ◌, Option, Some, None, IfSome, option_to_list, All, refl, sym, ◌∙◌, ap, subst, inl, inr, arith}
use Rattle.std.specs.Int.{int_rem_euclid}
use Rattle.std.specs.List.{AllByRecursion, cons_option}
use Rattle.std.specs.Option.{option_map_or, option_or}
use Rattle.std.specs.Ordering.{int_eq}
use Rattle.std.proofs.lemmas.Bool.Decides.{nat_tests, Decides-int_eq}
use Rattle.std.proofs.lemmas.Int.{by_lt_z, ints}
use Rattle.std.proofs.lemmas.List.{append-nil, length-append}
use Rattle.std.proofs.lemmas.List.Elements.{All-contains, All-from_recursion, All-push, Contains-push, filter_map-append}
use Rattle.std.proofs.lemmas.List.Folds.{find-append}
use Rattle.std.proofs.lemmas.Option.{same_Some}
use Rattle.aggregate.specs.declared.group.Group.{Group}
use Rattle.aggregate.specs.Aggregation.{group_of, as_part, has_tick, two_hour_group, two_hour_groups}
use Rattle.aggregate.specs.TwoHourSum.{AreRunning, NoneRun, tens_from}
use Rattle.aggregate.proofs.MinuteLaws.{multiple_of}
use Rattle.aggregate.proofs.PairLaws.{IsAmong}
use Rattle.pq_time.specs.declared.clock.Clock.{Clock}
use Rattle.pq_time.specs.Tick.{ticks}
use Rattle.pq_words.specs.Steps.{steps_from}

-- ---- steps of ten minutes

steps_more : (low : ℤ) (k : ℕ) → steps_from low 600 (suc k) ≡ steps_from low 600 k ++ (low +ℤ pos
    (600 * k)) ∷ []
unfolding steps_from
steps_more low zero = let e : low ≡ (low +ℤ pos (600 * 0)) = omega (arith, ints) in ap (λ t. t ∷ []) e
steps_more low (suc k) =
    let e : ((low +ℤ pos 600) +ℤ pos (600 * k)) ≡ (low +ℤ pos (600 * suc k)) = omega (arith, ints) in
    ap (λ ts. low ∷ ts) (steps_more (low +ℤ pos 600) k
    ∙ ap (λ t. steps_from (low +ℤ pos 600) 600 k ++ t ∷ []) e)

-- so many, and more
steps_split : (low : ℤ) (k j : ℕ) → steps_from low 600 (k + j)
    ≡ steps_from low 600 k ++ steps_from (low +ℤ pos (600 * k)) 600 j
unfolding steps_from
steps_split low zero j =
    let e : 0 + j ≡ j = omega arith in
    let d : low ≡ (low +ℤ pos (600 * 0)) = omega (arith, ints) in
    ap (steps_from low 600) e ∙ ap (λ t. steps_from t 600 j) d
steps_split low (suc k) j =
    let e : suc k + j ≡ suc (k + j) = omega arith in
    let d : ((low +ℤ pos 600) +ℤ pos (600 * k)) ≡ (low +ℤ pos (600 * suc k)) = omega (arith, ints) in
    ap (steps_from low 600) e
    ∙ ap (λ ts. low ∷ ts) (steps_split (low +ℤ pos 600) k j
    ∙ ap (λ t. steps_from (low +ℤ pos 600) 600 k ++ steps_from t 600 j) d)

-- ---- what is found

-- the ticks of the 10-minute intervals lie below a second
abbrev pub AreBelow : ℤ → List Group → Type 0
AreBelow v tens = AllByRecursion (λ g. (t : ℤ) × (g.tick ≡ Some t) × (t <ℤ v)) tens

not_tick : (u t : ℤ) → (u ≡ t → ⊥) → int_eq u t ≡ false
not_tick u t other = at (int_eq u t) refl
  where
    at : (b : Bool) → int_eq u t ≡ b → b ≡ false
    at true is = absurd (other ((Decides-int_eq u t).0 is))
    at false is = refl

has_other : (u t : ℤ) (g : Group) → g.tick ≡ Some t → (u ≡ t → ⊥) → has_tick u g ≡ false
has_other u t g is other = ap (λ o. option_map_or (int_eq u) o false) is ∙ not_tick u t other

has_same : (u : ℤ) (g : Group) → g.tick ≡ Some u → has_tick u g ≡ true
has_same u g is = ap (λ o. option_map_or (int_eq u) o false) is ∙ (Decides-int_eq u u).1 refl

-- from a second on, none is there
none_found : (v u : ℤ) (tens : List Group) → AreBelow v tens → v ≤ℤ u → find (has_tick u) tens ≡ None
none_found v u [] below h = refl
none_found v u (g ∷ gs) below h =
    let less = below.0.2 in
    ap (λ b. cond b (Some g) (find (has_tick u) gs)) (has_other u below.0.0 g below.0.1
    (λ same. absurd (omega (arith, ints, same, less, h))))
    ∙ none_found v u gs below.1 h

pub found_is : (P : Group → Type 0) (test : Group → Bool) (gs : List Group) (x : Group) → AllByRecursion P gs
    → find test gs ≡ Some x → P x × (test x ≡ true)
found_is P test [] x all e = absurd (let bad : ⊥ = cc in bad)
found_is P test (g ∷ gs) x all e = at (test g) refl e (λ h. found_is P test gs x all.1 h)
  where
    at : (b : Bool) → test g ≡ b → cond b (Some g) (find test gs) ≡ Some x
        → (find test gs ≡ Some x → P x × (test x ≡ true)) → P x × (test x ≡ true)
    at true is e rest = let same : g ≡ x = same_Some g x e in
        subst (λ y. P y × (test y ≡ true)) same (all.0, is)
    at false is e rest = rest e

pub tick_of_found : (u t : ℤ) (g : Group) → g.tick ≡ Some t → has_tick u g ≡ true → u ≡ t
tick_of_found u t g is has =
    (Decides-int_eq u t).0 (sym (ap (λ o. option_map_or (int_eq u) o false) is) ∙ has)

-- ---- one more

module _ (tens : List Group) (g : Group) (v : ℤ) (ticked : g.tick ≡ Some v) (below : AreBelow v tens) where
  found_before : (u : ℤ) → u <ℤ v → find (has_tick u) (tens ++ g ∷ []) ≡ find (has_tick u) tens
  found_before u less =
      find-append (has_tick u) tens (g ∷ [])
      ∙ ap (λ b. option_or (find (has_tick u) tens) (cond b (Some g) None))
      (has_other u v g ticked (λ same. absurd (omega (arith, ints, same, less))))
      ∙ or_none (find (has_tick u) tens)
    where
      or_none : (o : Option Group) → option_or o None ≡ o
      or_none None = refl
      or_none (Some x) = refl

  found_there : find (has_tick v) (tens ++ g ∷ []) ≡ Some g
  found_there =
      find-append (has_tick v) tens (g ∷ [])
      ∙ ap (λ o. option_or o (cond (has_tick v g) (Some g) None)) (none_found v v tens below (omega
      (arith, ints)))
      ∙ ap (λ b. cond b (Some g) None) (has_same v g ticked)

  found_after : (u : ℤ) → v <ℤ u → find (has_tick u) (tens ++ g ∷ []) ≡ None
  found_after u more =
      find-append (has_tick u) tens (g ∷ [])
      ∙ ap (λ o. option_or o (cond (has_tick u g) (Some g) None)) (none_found v u tens below (omega
      (arith, ints, more)))
      ∙ ap (λ b. cond b (Some g) None) (has_other u v g ticked (λ same. absurd (omega
      (arith, ints, same, more))))

  -- up to it, nothing changes
  pub from_before : (low : ℤ) (k : ℕ) → (low +ℤ pos (600 * k)) ≤ℤ v
      → tens_from (tens ++ g ∷ []) low k ≡ tens_from tens low k
  unfolding steps_from
  from_before low zero h = refl
  from_before low (suc k) h =
      let less : low <ℤ v = omega (arith, ints, h) in
      let rest : ((low +ℤ pos 600) +ℤ pos (600 * k)) ≤ℤ v = omega (arith, ints, h) in
      ap (λ o. cons_option o (tens_from (tens ++ g ∷ []) (low +ℤ pos 600) k)) (found_before low less)
      ∙ ap (cons_option (find (has_tick low) tens)) (from_before (low +ℤ pos 600) k rest)

  -- from it on there was none, and after it there is none
  pub from_none : (low : ℤ) (k : ℕ) → v ≤ℤ low → tens_from tens low k ≡ []
  unfolding steps_from
  from_none low zero h = refl
  from_none low (suc k) h =
      ap (λ o. cons_option o (tens_from tens (low +ℤ pos 600) k)) (none_found v low tens below h)
      ∙ from_none (low +ℤ pos 600) k (omega (arith, ints, h))

  pub from_after : (low : ℤ) (k : ℕ) → v <ℤ low → tens_from (tens ++ g ∷ []) low k ≡ []
  unfolding steps_from
  from_after low zero h = refl
  from_after low (suc k) h =
      ap (λ o. cons_option o (tens_from (tens ++ g ∷ []) (low +ℤ pos 600) k)) (found_after low h)
      ∙ from_after (low +ℤ pos 600) k (omega (arith, ints, h))

  -- those up to it, and it
  pub from_upto : (low : ℤ) (k : ℕ) → (low +ℤ pos (600 * k)) ≡ v
      → tens_from (tens ++ g ∷ []) low (suc k) ≡ tens_from tens low k ++ g ∷ []
  from_upto low k is =
      ap (filter_map (λ t. find (has_tick t) (tens ++ g ∷ []))) (steps_more low k)
      ∙ filter_map-append (λ t. find (has_tick t) (tens ++ g ∷ [])) (steps_from low 600 k) ((low +ℤ pos
      (600 * k)) ∷ [])
      ∙ ap (λ o. tens_from (tens ++ g ∷ []) low k ++ cons_option o [])
      (ap (λ t. find (has_tick t) (tens ++ g ∷ [])) is ∙ found_there)
      ∙ ap (λ gs. gs ++ g ∷ []) (from_before low k (omega (arith, ints, is)))

  -- of more than those up to it: what was there before it, and it
  pub from_over : (low : ℤ) (k j : ℕ) → (low +ℤ pos (600 * k)) ≡ v
      → (tens_from tens low (k + j) ≡ tens_from tens low k)
      × (tens_from (tens ++ g ∷ []) low (suc k + j) ≡ tens_from tens low k ++ g ∷ [])
  from_over low k j is = (
    ap (filter_map (λ t. find (has_tick t) tens)) (steps_split low k j)
        ∙ filter_map-append (λ t. find (has_tick t) tens) (steps_from low 600 k)
        (steps_from (low +ℤ pos (600 * k)) 600 j)
        ∙ ap (λ gs. tens_from tens low k ++ gs) (from_none (low +ℤ pos (600 * k)) j (omega (arith, ints, is)))
        ∙ append-nil (tens_from tens low k),
    ap (filter_map (λ t. find (has_tick t) (tens ++ g ∷ []))) (steps_split low (suc k) j)
        ∙ filter_map-append (λ t. find (has_tick t) (tens ++ g ∷ [])) (steps_from low 600 (suc k))
        (steps_from (low +ℤ pos (600 * suc k)) 600 j)
        ∙ ap (λ gs. tens_from (tens ++ g ∷ []) low (suc k) ++ gs)
        (from_after (low +ℤ pos (600 * suc k)) j (omega (arith, ints, is)))
        ∙ append-nil (tens_from (tens ++ g ∷ []) low (suc k))
        ∙ from_upto low k is,
  )

-- at most so many are found
pub from_most : (tens : List Group) (low : ℤ) (k : ℕ) → length (tens_from tens low k) ≤ k
unfolding steps_from
from_most tens low zero = omega arith
from_most tens low (suc k) = at (find (has_tick low) tens) (from_most tens (low +ℤ pos 600) k)
  where
    at : (o : Option Group) → length (tens_from tens (low +ℤ pos 600) k) ≤ k
        → length (cons_option o (tens_from tens (low +ℤ pos 600) k)) ≤ suc k
    at None h = omega (arith, h)
    at (Some g) h = omega (arith, h)

-- where all are there, so is the last, and all before it
pub last_found : (tens : List Group) (low : ℤ) (k : ℕ) → length (tens_from tens low (suc k)) ≡ suc k
    → ((x : Group) × (find (has_tick (low +ℤ pos (600 * k))) tens ≡ Some x))
    × (length (tens_from tens low k) ≡ k)
last_found tens low k e =
    let parts : tens_from tens low (suc k) ≡ tens_from tens low k
    ++ cons_option (find (has_tick (low +ℤ pos (600 * k))) tens) [] =
    ap (filter_map (λ t. find (has_tick t) tens)) (steps_more low k)
    ∙ filter_map-append (λ t. find (has_tick t) tens) (steps_from low 600 k) ((low +ℤ pos (600 * k)) ∷ []) in
    at (find (has_tick (low +ℤ pos (600 * k))) tens) refl
    (sym (ap length parts ∙ length-append (tens_from tens low k) (cons_option (find (has_tick (low +ℤ pos
    (600 * k))) tens) [])) ∙ e)
    (from_most tens low k)
  where
    at : (o : Option Group) → find (has_tick (low +ℤ pos (600 * k))) tens ≡ o
        → length (tens_from tens low k) + length (cons_option o []) ≡ suc k
        → length (tens_from tens low k) ≤ k
        → ((x : Group) × (find (has_tick (low +ℤ pos (600 * k))) tens ≡ Some x))
        × (length (tens_from tens low k) ≡ k)
    at None is many most = absurd (omega (arith, many, most))
    at (Some x) is many most = ((x, is), omega (arith, many))

-- ---- seconds divisible by two hours

pub two_hours_of : (z : ℤ) → int_rem_euclid z (pos 7200) ≡ pos 0 → (j : ℤ) × (z ≡ (j *ℤ pos 7200))
two_hours_of (pos a) e = let r : a % 7200 ≡ 0 = cc in (pos (a / 7200), omega (arith, ints, r))
two_hours_of (negsuc a) e = let r : 7200 - 1 - a % 7200 ≡ 0 = cc in (
  negsuc (a / 7200),
  omega
      (arith, ints, r),
)

-- two of them less than two hours apart are one
pub same_two_hours : (a b : ℤ) → int_rem_euclid a (pos 7200) ≡ pos 0 → int_rem_euclid b (pos 7200) ≡ pos 0
    → a <ℤ (b +ℤ pos 7200) → b <ℤ (a +ℤ pos 7200) → a ≡ b
same_two_hours a b whole_a whole_b h g =
    let j = two_hours_of a whole_a in
    let k = two_hours_of b whole_b in
    let is_a = j.1 in
    let is_b = k.1 in
    omega (arith, ints, is_a, is_b, h, g)

-- how many ten minutes lie from one to the other
pub tens_between : (t v : ℤ) → int_rem_euclid t (pos 7200) ≡ pos 0 → int_rem_euclid v (pos 600) ≡ pos 0
    → t ≤ℤ v → v <ℤ (t +ℤ pos 7200) → (k : ℕ) × (k ≤ 11) × ((t +ℤ pos (600 * k)) ≡ v)
tens_between t v whole divisible from until =
    let j = two_hours_of t whole in
    let m = multiple_of v divisible in
    at j.0 m.0 j.1 m.1 (m.0 -ℤ (j.0 *ℤ pos 12)) refl
  where
    at : (j m : ℤ) → t ≡ (j *ℤ pos 7200) → v ≡ (m *ℤ pos 600) → (d : ℤ) → (m -ℤ (j *ℤ pos 12)) ≡ d
        → (k : ℕ) × (k ≤ 11) × ((t +ℤ pos (600 * k)) ≡ v)
    at j m is_t is_v (pos k) e =
        (k, omega (arith, ints, is_t, is_v, e, until), omega (arith, ints, is_t, is_v, e))
    at j m is_t is_v (negsuc k) e = absurd (omega (arith, ints, is_t, is_v, e, from))

-- ---- the 2-hour interval of a tick

abbrev pub made : ℕ → ℤ → List Group → Option Group
made channels t gs = cond (length gs == 12) (Some (group_of (Some t) channels (map as_part gs))) None

two_is : (channels : ℕ) (tens : List Group) (t : ℤ) → two_hour_group channels tens t
    ≡ made channels t (tens_from tens t 12)
unfolding two_hour_group
two_is channels tens t = refl

made_few : (channels : ℕ) (t : ℤ) (gs : List Group) → length gs < 12 → made channels t gs ≡ None
made_few channels t gs few =
    ap (λ b. cond b (Some (group_of (Some t) channels (map as_part gs))) None) (not_twelve (length gs) few)
  where
    not_twelve : (n : ℕ) → n < 12 → (n == 12) ≡ false
    not_twelve n h = grind (arith, nat_tests, h)

module _ (channels : ℕ) (tens : List Group) (g : Group) (v : ℤ) (ticked : g.tick ≡ Some v)
    (below : AreBelow v tens) where
  two_past : (t : ℤ) → (t +ℤ pos 7200) ≤ℤ v → two_hour_group channels (tens ++ g ∷ []) t
      ≡ two_hour_group channels tens t
  two_past t h =
      two_is channels (tens ++ g ∷ []) t
      ∙ ap (made channels t) (from_before tens g v ticked below t 12 h)
      ∙ sym (two_is channels tens t)

  two_before : (t : ℤ) → v <ℤ t → two_hour_group channels tens t ≡ None
  two_before t h =
      two_is channels tens t ∙ ap (made channels t) (from_none tens g v ticked below t 12 (omega
      (arith, ints, h)))

  two_after : (t : ℤ) → v <ℤ t → two_hour_group channels (tens ++ g ∷ []) t ≡ None
  two_after t h =
      two_is channels (tens ++ g ∷ []) t ∙ ap (made channels t) (from_after tens g v ticked below t 12 h)

  pub two_here : (t : ℤ) (k : ℕ) → k ≤ 11 → (t +ℤ pos (600 * k)) ≡ v → (two_hour_group channels tens t ≡ None)
      × (two_hour_group channels (tens ++ g ∷ []) t ≡ made channels t (tens_from tens t k ++ g ∷ []))
  two_here t k few is =
      let most = from_most tens t k in
      let more : 12 ≡ k + (12 - k) = omega (arith, few) in
      let next : 12 ≡ suc k + (11 - k) = omega (arith, few) in (
        two_is channels tens t
            ∙ ap (λ n. made channels t (tens_from tens t n)) more
            ∙ ap (made channels t) (from_over tens g v ticked below t k (12 - k) is).0
            ∙ made_few channels t (tens_from tens t k) (omega (arith, most, few)),
        two_is channels (tens ++ g ∷ []) t
            ∙ ap (λ n. made channels t (tens_from (tens ++ g ∷ []) t n)) next
            ∙ ap (made channels t) (from_over tens g v ticked below t k (11 - k) is).1,
      )

-- ---- all of them

among_least : (low t : ℤ) (m : ℕ) → IsAmong t (steps_from low 7200 m) → low ≤ℤ t
unfolding steps_from
among_least low t zero is = absurd is
among_least low t (suc m) (inl same) = omega (arith, ints, same)
among_least low t (suc m) (inr later) =
    let rest = among_least (low +ℤ pos 7200) t m later in
    omega (arith, ints, rest)

same_found : (f h : ℤ → Option Group) (ts : List ℤ) → ((t : ℤ) → IsAmong t ts → h t ≡ f t)
    → filter_map h ts ≡ filter_map f ts
same_found f h [] same = refl
same_found f h (t ∷ ts) same =
    ap (λ o. cons_option o (filter_map h ts)) (same t (inl refl))
    ∙ ap (cons_option (f t)) (same_found f h ts (λ u is. same u (inr is)))

none_of : (f : ℤ → Option Group) (ts : List ℤ) → ((t : ℤ) → IsAmong t ts → f t ≡ None) → filter_map f ts ≡ []
none_of f [] none = refl
none_of f (t ∷ ts) none =
    ap (λ o. cons_option o (filter_map f ts)) (none t (inl refl)) ∙ none_of f ts (λ u is. none u (inr is))

cons_then : (o : Option Group) (rest xs ys : List Group) → rest ≡ xs ++ ys
    → cons_option o rest ≡ cons_option o xs ++ ys
cons_then None rest xs ys h = h
cons_then (Some g) rest xs ys h = ap (λ gs. g ∷ gs) h

just_one : (o : Option Group) → cons_option o [] ≡ option_to_list o
just_one None = refl
just_one (Some g) = refl

module _ (channels : ℕ) (tens : List Group) (g : Group) (v : ℤ) (ticked : g.tick ≡ Some v)
    (below : AreBelow v tens) (divisible : int_rem_euclid v (pos 600) ≡ pos 0) (answer : Option Group) where
  -- what the two hours in which it lies have to give
  abbrev pub IsAnswer : List ℤ → Type 0
  IsAnswer ts = (t : ℤ) → IsAmong t ts → t ≤ℤ v → v <ℤ (t +ℤ pos 7200)
      → (two_hour_group channels tens t ≡ None) × (two_hour_group channels (tens ++ g ∷ []) t ≡ answer)

  none_more : (ts : List ℤ) → IsAnswer ts → answer ≡ None
      → filter_map (two_hour_group channels (tens ++ g ∷ [])) ts
      ≡ filter_map (two_hour_group channels tens) ts
  none_more ts here none =
      same_found (two_hour_group channels tens) (two_hour_group channels (tens ++ g ∷ [])) ts (λ t is.
      by_lt_z v t (λ less. two_after channels tens g v ticked below t less
      ∙ sym (two_before channels tens g v ticked below t less))
      (λ from. by_lt_z v (t +ℤ pos 7200)
      (λ until. let h = here t is from until in h.1 ∙ none ∙ sym h.0)
      (λ past. two_past channels tens g v ticked below t past)))

  one_more : (t : ℤ) → t ≤ℤ v → v <ℤ (t +ℤ pos 7200) → (low : ℤ) (m : ℕ) → IsAnswer (steps_from low 7200 m)
      → IsAmong t (steps_from low 7200 m)
      → filter_map (two_hour_group channels (tens ++ g ∷ [])) (steps_from low 7200 m)
      ≡ filter_map (two_hour_group channels tens) (steps_from low 7200 m) ++ option_to_list answer
  unfolding steps_from
  one_more t from until low zero here is = absurd is
  one_more t from until low (suc m) here (inl same) =
      let rest = steps_from (low +ℤ pos 7200) 7200 m in
      let now = here low (inl refl) (omega (arith, ints, same, from)) (omega (arith, ints, same, until)) in
      ap (λ o. cons_option o (filter_map (two_hour_group channels (tens ++ g ∷ [])) rest)) now.1
      ∙ ap (cons_option answer) (none_of (two_hour_group channels (tens ++ g ∷ [])) rest (λ u is.
      let least = among_least (low +ℤ pos 7200) u m is in
      two_after channels tens g v ticked below u (omega (arith, ints, same, until, least))))
      ∙ just_one answer
      ∙ sym (ap (λ o. cons_option o (filter_map
      (two_hour_group channels tens) rest) ++ option_to_list answer) now.0
      ∙ ap (λ gs. gs ++ option_to_list answer) (none_of (two_hour_group channels tens) rest (λ u is.
      let least = among_least (low +ℤ pos 7200) u m is in
      two_before channels tens g v ticked below u (omega (arith, ints, same, until, least)))))
  one_more t from until low (suc m) here (inr later) =
      let rest = steps_from (low +ℤ pos 7200) 7200 m in
      let least = among_least (low +ℤ pos 7200) t m later in
      ap (λ o. cons_option o (filter_map (two_hour_group channels (tens ++ g ∷ [])) rest))
      (two_past channels tens g v ticked below low (omega (arith, ints, least, from)))
      ∙ cons_then (two_hour_group channels tens low) (filter_map (two_hour_group channels
      (tens ++ g ∷ [])) rest)
      (filter_map (two_hour_group channels tens) rest) (option_to_list answer)
      (one_more t from until (low +ℤ pos 7200) m (λ u is. here u (inr is)) later)

  pub two_completes : (clock : Clock) (n : ℕ) → IsAnswer (ticks clock n 7200)
      → (answer ≡ None) ⊎ ((t : ℤ) × IsAmong t (ticks clock n 7200) × (t ≤ℤ v) × (v <ℤ (t +ℤ pos 7200)))
      → two_hour_groups clock n channels (tens ++ g ∷ [])
      ≡ two_hour_groups clock n channels tens ++ option_to_list answer
  unfolding two_hour_groups ticks
  two_completes clock n here (inl none) =
      none_more (ticks clock n 7200) here none
      ∙ sym (append-nil (filter_map (two_hour_group channels tens) (ticks clock n 7200)))
      ∙ ap (λ o. filter_map (two_hour_group channels tens) (ticks clock n 7200) ++ option_to_list o)
      (sym none)
  two_completes clock n here (inr some) = one_more some.0 some.2 some.3 _ _ here some.1

-- of none, none are there
pub none_run : NoneRun []
none_run tick zero h = let some = h.some in omega (arith, some)
none_run tick (suc k) h = absurd (no_last (last_found [] tick k h.all).0)
  where
    no_last : (x : Group) × (None ≡ Some x) → ⊥
    no_last found = let e = found.1 in let bad : ⊥ = cc in bad

-- the first of some that are all there
pub first_found : (tens : List Group) (low : ℤ) (k : ℕ) → length (tens_from tens low (suc k)) ≡ suc k
    → (x : Group) × (find (has_tick low) tens ≡ Some x)
unfolding steps_from
first_found tens low k e = at (find (has_tick low) tens) refl e (from_most tens (low +ℤ pos 600) k)
  where
    at : (o : Option Group) → find (has_tick low) tens ≡ o
        → length (cons_option o (tens_from tens (low +ℤ pos 600) k)) ≡ suc k
        → length (tens_from tens (low +ℤ pos 600) k) ≤ k → (x : Group) × (find (has_tick low) tens ≡ Some x)
    at None is many most = absurd (omega (arith, many, most))
    at (Some x) is many most = (x, is)

pub no_tens : (tens : List Group) (t : ℤ) → tens_from tens t 0 ≡ []
unfolding steps_from
no_tens tens t = refl

-- ---- what runs after one more

module _ (tens : List Group) (g : Group) (v : ℤ) (ticked : g.tick ≡ Some v) (below : AreBelow v tens)
    (divisible : int_rem_euclid v (pos 600) ≡ pos 0) where
  -- two hours that run then ran before it up to it
  pub running_after : (t : ℤ) (c : ℕ) → AreRunning (tens ++ g ∷ []) t c
      → (k : ℕ) × (c ≡ suc k) × ((t +ℤ pos (600 * k)) ≡ v) × (length (tens_from tens t k) ≡ k)
  running_after t zero h = let some = h.some in absurd (omega (arith, some))
  running_after t (suc k) h =
      let last = last_found (tens ++ g ∷ []) t k h.all in
      let j = two_hours_of t h.whole in
      let m = multiple_of v divisible in
      let is_t = j.1 in
      let is_v = m.1 in
      let late : v <ℤ (t +ℤ pos (600 * suc k)) =
      subst (λ o. IfSome o (λ s. s <ℤ (t +ℤ pos (600 * suc k)))) ticked
      (last_of (λ g. IfSome g.tick (λ s. s <ℤ (t +ℤ pos (600 * suc k)))) tens h.latest) in
      let early : (t +ℤ pos (600 * k)) ≤ℤ v = by_lt_z v (t +ℤ pos (600 * k))
      (λ less. absurd (not_found last.0.0 (sym (found_after tens g v ticked below (t +ℤ pos
      (600 * k)) less) ∙ last.0.1)))
      (λ le. le) in
      let is : (t +ℤ pos (600 * k)) ≡ v = omega (arith, ints, is_t, is_v, late, early) in
      (k, refl, is, ap length (sym (from_before tens g v ticked below t k early)) ∙ last.1)
    where
      last_of : (P : Group → Type 0) (gs : List Group) → All P (gs ++ g ∷ []) → P g
      last_of P gs h = All-contains P (gs ++ g ∷ []) g h (Contains-push gs g)

      not_found : (x : Group) → None ≡ Some x → ⊥
      not_found x e = let bad : ⊥ = cc in bad

  -- those that ran up to it go on
  pub running_on : (t : ℤ) (k : ℕ) → int_rem_euclid t (pos 7200) ≡ pos 0 → k ≤ 10 → (t +ℤ pos (600 * k)) ≡ v
      → length (tens_from tens t k) ≡ k → AreRunning (tens ++ g ∷ []) t (suc k)
  running_on t k whole few is all = record {
    whole = whole;
    some = omega arith;
    few = omega (arith, few);
    all =
        ap length (from_upto tens g v ticked below t k is) ∙ length-append (tens_from tens t k) (g ∷ [])
        ∙ omega (arith, all);
    latest =
        All-push (λ g. IfSome g.tick (λ s. s <ℤ (t +ℤ pos (600 * suc k)))) tens g
        (All-from_recursion (λ g. IfSome g.tick (λ s. s <ℤ (t +ℤ pos (600 * suc k)))) tens
        (sooner tens below (omega (arith, ints, is))))
        (subst (λ o. IfSome o (λ s. s <ℤ (t +ℤ pos (600 * suc k)))) (sym ticked) (omega (arith, ints, is)));
  }
    where
      sooner : (gs : List Group) → AreBelow v gs → v ≤ℤ (t +ℤ pos (600 * suc k))
          → AllByRecursion (λ g. IfSome g.tick (λ s. s <ℤ (t +ℤ pos (600 * suc k)))) gs
      sooner [] h le = tt
      sooner (x ∷ xs) h le =
          let less = h.0.2 in (
            subst (λ o. IfSome o (λ s. s <ℤ (t +ℤ pos (600 * suc k)))) (sym h.0.1) (omega
                (arith, ints, less, le)),
            sooner xs h.1 le,
          )

-- those that run at a list are there up to a second, if all in the list lie before that
pub running_to : (tens : List Group) (t v : ℤ) (k : ℕ) → AreBelow v tens → int_rem_euclid t (pos 7200) ≡ pos 0
    → suc k ≤ 11 → (t +ℤ pos (600 * suc k)) ≡ v → length (tens_from tens t (suc k)) ≡ suc k
    → AreRunning tens t (suc k)
running_to tens t v k below whole few is all = record {
  whole = whole;
  some = omega arith;
  few = few;
  all = all;
  latest =
      All-from_recursion (λ g. IfSome g.tick (λ s. s <ℤ (t +ℤ pos (600 * suc k)))) tens
      (sooner tens below (omega (arith, ints, is)));
}
  where
    sooner : (gs : List Group) → AreBelow v gs → v ≤ℤ (t +ℤ pos (600 * suc k))
        → AllByRecursion (λ g. IfSome g.tick (λ s. s <ℤ (t +ℤ pos (600 * suc k)))) gs
    sooner [] h le = tt
    sooner (x ∷ xs) h le =
        let less = h.0.2 in (
          subst (λ o. IfSome o (λ s. s <ℤ (t +ℤ pos (600 * suc k)))) (sym h.0.1) (omega
              (arith, ints, less, le)),
          sooner xs h.1 le,
        )
