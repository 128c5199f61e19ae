-- More conditions after a list: events that ended stay as they were, one that did not goes on, and all others
-- begin later.
use Rattle.std.proofs.Common.{◌≡◌, ◌⊎◌, ℕ, zero, suc, ◌+◌, ◌<◌, ◌≤◌, Bool, true, false, List, [], ◌∷◌, ◌++◌, length, Option, Some, None, MatchOption, IfSome, option_map, refl, sym, ◌∙◌, ap, subst, inl, inr, arith}
use Rattle.std.specs.Bool.{⊤}
use Rattle.std.specs.List.{AllByRecursion}
use Rattle.std.proofs.lemmas.List.{length_push, append-nil}
use Rattle.std.proofs.Math.Seq.{append_snoc}
use Rattle.event_detect.specs.VoltageEvent.{Condition, Extent, begins_at, ends_at, event_from, event_after, extents}
use Rattle.event_detect.proofs.ExtentLaws.{extent, add_condition, extents_push}
use Rattle.pq_words.specs.First.{FirstAt, IsFirst, first_between}
use Rattle.pq_words.specs.Successors.{successors}
use Rattle.pq_words.proofs.FirstLaws.{first_between_is}

-- ---- the event from i on, by what the searches find

-- an answer of a search, as an equation or as none
pub found_or_not : (o : Option ℕ) → ((k : ℕ) × (o ≡ Some k)) ⊎ (o ≡ None)
found_or_not None = inr refl
found_or_not (Some k) = inl (k, refl)

pub first_at : (test : ℕ → Bool) (low high k : ℕ) → first_between test low high ≡ Some k →
    FirstAt test low high k
first_at test low high k e = subst (λ r. IsFirst test low high r) e (first_between_is test low high)

pub from_none : (cs : List Condition) (i : ℕ) → first_between (begins_at cs) i (length cs) ≡ None →
    event_from cs i ≡ None
unfolding event_from
from_none cs i e = ap (option_map (λ j. extent j (first_between (ends_at cs) (j + 1) (length cs)))) e

pub from_some : (cs : List Condition) (i j : ℕ) (last : Option ℕ) → first_between (begins_at cs) i (length cs)
    ≡ Some j
    → first_between (ends_at cs) (j + 1) (length cs) ≡ last → event_from cs i ≡ Some (extent j last)
unfolding event_from
from_some cs i j last e f = ap (option_map (λ j. extent j (first_between (ends_at cs) (j + 1) (length cs)))) e
    ∙ ap (λ o. Some (extent j o)) f

-- ---- how one list goes on from another

-- not ended before place n
abbrev pub IsLate : ℕ → Option ℕ → Type 0
IsLate n None = ⊤
IsLate n (Some k) = n ≤ k

-- begun at place n or after it
abbrev pub IsLater : ℕ → Extent → Type 0
IsLater n f = (n ≤ f.first) × IsLate n f.last

-- the second list goes on from the first, which was made of n conditions
abbrev pub Continues : ℕ → List Extent → List Extent → Type 0
Continues n [] fs = AllByRecursion (IsLater n) fs
Continues n (e ∷ es) [] = ⊥
Continues n (e ∷ es) (f ∷ fs) =
    let rest = Continues n es fs in
    (e.first ≡ f.first) × MatchOption e.last (IsLate n f.last × AllByRecursion (IsLater n) fs)
    (λ k. (f.last ≡ Some k) × (k < n) × rest)

-- within n conditions
abbrev pub IsInside : ℕ → Extent → Type 0
IsInside n e = (e.first < n) × IfSome e.last (λ k. k < n)

-- ---- a list goes on from itself

-- what holds of the list whatever is found, by what is found
module _ (P : List Extent → Type 0) (cs : List Condition) where
  pub at_limit : (o : Option Extent) → P [] → P (successors (event_after cs) zero o)
  unfolding successors
  at_limit None h = h
  at_limit (Some e) h = h

  pub by_found : (m i : ℕ) → P []
      → ((j : ℕ) → j < length cs → P (extent j None ∷ []))
      → ((j k : ℕ) → j < length cs → k < length cs → P (extent j (Some k) ∷ successors (event_after cs) m
      (event_from cs (k + 1))))
      → P (successors (event_after cs) (suc m) (event_from cs i))
  unfolding successors
  by_found m i nothing unended ended =
      elim (found_or_not (first_between (begins_at cs) i (length cs))) [
        | inr none ↦ subst (λ o. P (successors (event_after cs) (suc m) o)) (sym (from_none cs i none))
            nothing
        | inl found ↦
            let begun = first_at (begins_at cs) i (length cs) found.0 found.1 in
            elim (found_or_not (first_between (ends_at cs) (found.0 + 1) (length cs))) [
              | inr none ↦ subst (λ o. P (successors (event_after cs) (suc m) o))
                  (sym (from_some cs i found.0 None found.1 none)) (unended found.0 begun.below)
              | inl last ↦
                  let at = first_at (ends_at cs) (found.0 + 1) (length cs) last.0 last.1 in
                  subst (λ o. P (successors (event_after cs) (suc m) o)) (sym (from_some cs i found.0
                  (Some last.0) found.1 last.1)) (ended found.0 last.0 begun.below at.below)
            ]
      ]

self_from : (cs : List Condition) (m i : ℕ) → Continues (length cs) (successors (event_after cs) m
    (event_from cs i)) (successors (event_after cs) m (event_from cs i))
self_from cs zero i = at_limit (λ es. Continues (length cs) es es) cs (event_from cs i) tt
self_from cs (suc m) i =
    by_found (λ es. Continues (length cs) es es) cs m i tt (λ j begun. (refl, (tt, tt))) (λ j k begun at.
    (refl, (refl, at, self_from cs m (k + 1))))

inside_from : (cs : List Condition) (m i : ℕ) → AllByRecursion (IsInside (length cs))
    (successors (event_after cs) m (event_from cs i))
inside_from cs zero i = at_limit (AllByRecursion (IsInside (length cs))) cs (event_from cs i) tt
inside_from cs (suc m) i =
    by_found (AllByRecursion (IsInside (length cs))) cs m i tt (λ j begun. ((begun, tt), tt)) (λ j k begun at.
    ((begun, at), inside_from cs m (k + 1)))

pub extents_inside : (cs : List Condition) → AllByRecursion (IsInside (length cs)) (extents cs)
unfolding extents
extents_inside cs = inside_from cs (length cs) 0

-- ---- one more condition

later_more : (n m : ℕ) (b e : Bool) (fs : List Extent) → n ≤ m → AllByRecursion (IsLater n) fs →
    AllByRecursion (IsLater n) (add_condition b e m fs)
unfolding add_condition
later_more n m true e [] from h = ((from, tt), tt)
later_more n m false e [] from h = tt
later_more n m b e (f ∷ fs) from h = at f.last e h.0.1 (later_more n m b e fs from h.1)
  where
    at : (o : Option ℕ) (c : Bool) → IsLate n o → AllByRecursion (IsLater n) (add_condition b c m fs)
        → AllByRecursion (IsLater n) (add_condition b c m (extent f.first o ∷ fs))
    at None true late rest = ((h.0.0, from), tt)
    at None false late rest = ((h.0.0, tt), tt)
    at (Some k) c late rest = ((h.0.0, late), rest)

goes_on : (n m : ℕ) (b e : Bool) (es fs : List Extent) → n ≤ m → Continues n es fs → Continues n es
    (add_condition b e m fs)
unfolding add_condition
goes_on n m b e [] fs from h = later_more n m b e fs from h
goes_on n m b e (x ∷ es) [] from h = absurd h
goes_on n m b e (x ∷ es) (f ∷ fs) from h = at x.last f.last e h.1 (λ g. later_more n m b e fs from g)
    (λ g. goes_on n m b e es fs from g)
  where
    at : (o q : Option ℕ) (c : Bool) → MatchOption o (IsLate n q × AllByRecursion (IsLater n) fs)
        (λ k. (q ≡ Some k) × (k < n) × Continues n es fs)
        → (AllByRecursion (IsLater n) fs → AllByRecursion (IsLater n) (add_condition b c m fs))
        → (Continues n es fs → Continues n es (add_condition b c m fs))
        → Continues n (extent x.first o ∷ es) (add_condition b c m (extent f.first q ∷ fs))
    at None None true g late rest = (h.0, (from, tt))
    at None None false g late rest = (h.0, (tt, tt))
    at None (Some k) c g late rest = (h.0, (g.0, late g.1))
    at (Some j) None c g late rest = absurd (let none : None ≡ Some j = g.0 in let bad : ⊥ = cc in bad)
    at (Some j) (Some k) c g late rest = (h.0, (g.0, g.1, rest g.2))

more_from : (n : ℕ) (es : List Extent) (xs ds : List Condition) → n ≤ length xs → Continues n es
    (extents xs) → Continues n es (extents (xs ++ ds))
more_from n es xs [] from h = subst (λ ys. Continues n es (extents ys)) (sym (append-nil xs)) h
more_from n es xs (d ∷ ds) from h =
    subst (λ ys. Continues n es (extents ys)) (append_snoc xs d ds)
    (more_from n es (xs ++ d ∷ []) ds (omega (arith, from, length_push xs d))
    (subst (Continues n es) (sym (extents_push xs d)) (goes_on n (length xs) d.begins d.ends es
    (extents xs) from h)))

-- the extents of a longer list go on from those of its beginning
pub extents_go_on : (cs ds : List Condition) → Continues (length cs) (extents cs) (extents (cs ++ ds))
unfolding extents
extents_go_on cs ds = more_from (length cs) (extents cs) cs ds (omega arith) (self_from cs (length cs) 0)
