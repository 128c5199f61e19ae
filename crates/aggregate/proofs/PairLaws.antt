-- Ticks in pairs, each with the next, and which pair a place lies between.
use Rattle.std.proofs.Common.{◌≡◌, ◌⊎◌, ℕ, ◌<◌, ◌≤◌, Bool, true, false, cond, ◌&&◌, ◌||◌, nat_lt, nat_le, List, [], ◌∷◌, ◌++◌, drop, zip, find, filter_map, ℤ, Option, Some, None, option_and_then, option_to_list, refl, sym, ◌∙◌, ap, inl, inr, arith}
use Rattle.std.specs.Bool.{⊤}
use Rattle.std.specs.List.{AllByRecursion, cons_option, list_any}
use Rattle.std.proofs.lemmas.Bool.{cases_lt}
use Rattle.std.proofs.lemmas.Bool.Decides.{nat_tests}
use Rattle.aggregate.specs.TenSum.{lies_between}

-- each tick with the next
abbrev pub pairs : List ℤ → List (ℤ × ℤ)
pairs ts = zip ts (drop 1 ts)

-- ---- members

abbrev pub IsAmong : ℤ → List ℤ → Type 0
IsAmong t [] = ⊥
IsAmong t (u ∷ us) = (t ≡ u) ⊎ IsAmong t us

pub any_among : (test : ℤ → Bool) (ts : List ℤ) → list_any test ts ≡ true
    → (t : ℤ) × IsAmong t ts × (test t ≡ true)
any_among test [] h = absurd (let bad : ⊥ = cc in bad)
any_among test (t ∷ ts) h = at (test t) refl h (λ g. any_among test ts g)
  where
    at : (b : Bool) → test t ≡ b → (b || list_any test ts) ≡ true
        → (list_any test ts ≡ true → (u : ℤ) × IsAmong u ts × (test u ≡ true))
        → (u : ℤ) × IsAmong u (t ∷ ts) × (test u ≡ true)
    at true is h rest = (t, inl refl, is)
    at false is h rest = let r = rest h in (r.0, inr r.1, r.2)

pub none_among : (test : ℤ → Bool) (ts : List ℤ) (t : ℤ) → list_any test ts ≡ false → IsAmong t ts
    → test t ≡ false
none_among test [] t h is = absurd is
none_among test (u ∷ us) t h is = at (test u) refl h is (λ g i. none_among test us t g i)
  where
    at : (b : Bool) → test u ≡ b → (b || list_any test us) ≡ false → (t ≡ u) ⊎ IsAmong t us
        → (list_any test us ≡ false → IsAmong t us → test t ≡ false) → test t ≡ false
    at true here h is rest = absurd (let bad : ⊥ = cc in bad)
    at false here h (inl same) rest = ap test same ∙ here
    at false here h (inr later) rest = rest h later

-- the second of each pair is a tick
pub seconds_among : (ts : List ℤ) → AllByRecursion (λ p. IsAmong p.1 ts) (pairs ts)
seconds_among [] = tt
seconds_among (t ∷ []) = tt
seconds_among (t ∷ u ∷ us) = (inr (inl refl), later (pairs (u ∷ us)) (seconds_among (u ∷ us)))
  where
    later : (ps : List (ℤ × ℤ)) → AllByRecursion (λ p. IsAmong p.1 (u ∷ us)) ps
        → AllByRecursion (λ p. IsAmong p.1 (t ∷ u ∷ us)) ps
    later [] h = tt
    later (p ∷ ps) h = (inr h.0, later ps h.1)

-- ---- places of ticks do not fall

abbrev pub PlacesRise : (ℤ → ℕ) → List ℤ → Type 0
PlacesRise place [] = ⊤
PlacesRise place (t ∷ ts) = AllByRecursion (λ u. place t ≤ place u) ts × PlacesRise place ts

pub between : (place : ℤ → ℕ) (s : ℕ) (p : ℤ × ℤ) → lies_between place s p ≡ true
    → (place p.0 ≤ s) × (s < place p.1)
between place s p h = (low (place p.0) s (place p.1) h, high (place p.0) s (place p.1) h)
  where
    low : (a s b : ℕ) → (nat_le a s && nat_lt s b) ≡ true → a ≤ s
    low a s b h = grind (arith, nat_tests, h)

    high : (a s b : ℕ) → (nat_le a s && nat_lt s b) ≡ true → s < b
    high a s b h = grind (arith, nat_tests, h)

lies : (a s b : ℕ) → a ≤ s → s < b → (nat_le a s && nat_lt s b) ≡ true
lies a s b h g = grind (arith, nat_tests, h, g)

lies_before : (a s b : ℕ) → s < a → (nat_le a s && nat_lt s b) ≡ false
lies_before a s b h = grind (arith, nat_tests, h)

lies_after : (a s b : ℕ) → b ≤ s → (nat_le a s && nat_lt s b) ≡ false
lies_after a s b h = grind (arith, nat_tests, h)

among_rises : (place : ℤ → ℕ) (t u : ℤ) (ts : List ℤ) → AllByRecursion (λ u. place t ≤ place u) ts
    → IsAmong u ts → place t ≤ place u
among_rises place t u [] h is = absurd is
among_rises place t u (v ∷ vs) h (inl same) =
    let e : place u ≡ place v = ap place same in
    let le = h.0 in
    omega (arith, e, le)
among_rises place t u (v ∷ vs) h (inr later) = among_rises place t u vs h.1 later

-- where a tick's place lies after y and not after s, so does that of the last tick up to s
pub last_after : (place : ℤ → ℕ) (y s : ℕ) (ts : List ℤ) (u : ℤ) → PlacesRise place ts → IsAmong u ts
    → y < place u → place u ≤ s
    → AllByRecursion (λ p. lies_between place s p ≡ true → y < place p.0) (pairs ts)
last_after place y s [] u rise is from until = tt
last_after place y s (t ∷ []) u rise is from until = tt
last_after place y s (t ∷ v ∷ vs) u rise (inl same) from until =
    let e : place u ≡ place t = ap place same in
    (λ h. omega (arith, e, from), later v vs rise.0.0 rise.1)
  where
    later : (v : ℤ) (vs : List ℤ) → place t ≤ place v → PlacesRise place (v ∷ vs)
        → AllByRecursion (λ p. lies_between place s p ≡ true → y < place p.0) (pairs (v ∷ vs))
    later v [] h r = tt
    later v (w ∷ ws) h r =
        let e : place u ≡ place t = ap place same in
        let step = r.0.0 in
        (λ g. omega (arith, e, from, h), later w ws (omega (arith, h, step)) r.1)
last_after place y s (t ∷ v ∷ vs) u rise (inr is) from until = (
  (λ h. let past = (between place s (t, v) h).1 in
      let bound = at_least (v) vs rise.1 is in
      absurd (omega (arith, past, bound, until))),
  last_after place y s (v ∷ vs) u rise.1 is from until,
)
  where
    at_least : (v : ℤ) (vs : List ℤ) → PlacesRise place (v ∷ vs) → IsAmong u (v ∷ vs) → place v ≤ place u
    at_least v vs r (inl same) = let e : place u ≡ place v = ap place same in omega (arith, e)
    at_least v vs r (inr later) = among_rises place v u vs r.0 later

-- ---- what changes at the pair that a place lies between, and at no other

cons_joined : {G : Type 0} (o : Option G) (rest xs ys : List G) → rest ≡ xs ++ ys
    → cons_option o rest ≡ cons_option o xs ++ ys
cons_joined None rest xs ys h = h
cons_joined (Some g) rest xs ys h = ap (λ gs. g ∷ gs) h

one_option : {G : Type 0} (o : Option G) → cons_option o [] ≡ option_to_list o
one_option None = refl
one_option (Some g) = refl

find_later : (place : ℤ → ℕ) (s : ℕ) (t : ℤ) (ts : List ℤ) → PlacesRise place (t ∷ ts) → s < place t
    → find (lies_between place s) (pairs (t ∷ ts)) ≡ None
find_later place s t [] rise after = refl
find_later place s t (u ∷ us) rise after =
    let step = rise.0.0 in
    ap (λ b. cond b (Some (t, u)) (find (lies_between place s) (pairs (u ∷ us))))
    (lies_before (place t) s (place u) after)
    ∙ find_later place s u us rise.1 (omega (arith, step, after))

module _ {G : Type 0} (place : ℤ → ℕ) (s : ℕ) where
  none_later : (g : ℤ × ℤ → Option G) → ((p : ℤ × ℤ) → s < place p.0 → g p ≡ None) → (t : ℤ) (ts : List ℤ)
      → PlacesRise place (t ∷ ts) → s < place t → filter_map g (pairs (t ∷ ts)) ≡ []
  none_later g none t [] rise after = refl
  none_later g none t (u ∷ us) rise after =
      let step = rise.0.0 in
      ap (λ o. cons_option o (filter_map g (pairs (u ∷ us)))) (none (t, u) after)
      ∙ none_later g none u us rise.1 (omega (arith, step, after))

  -- f and h agree at the pairs before it; at it f has nothing, and h has a; after it both have nothing
  module _ (f h a : ℤ × ℤ → Option G)
      (past : (p : ℤ × ℤ) → place p.1 ≤ s → h p ≡ f p)
      (f_later : (p : ℤ × ℤ) → s < place p.0 → f p ≡ None)
      (h_later : (p : ℤ × ℤ) → s < place p.0 → h p ≡ None) where
    pub one_changes : (ts : List ℤ) → PlacesRise place ts
        → AllByRecursion (λ p. lies_between place s p ≡ true → (f p ≡ None) × (h p ≡ a p)) (pairs ts)
        → filter_map h (pairs ts)
        ≡ filter_map f (pairs ts) ++ option_to_list (option_and_then a (find (lies_between place s)
        (pairs ts)))
    one_changes [] rise here = refl
    one_changes (t ∷ []) rise here = refl
    one_changes (t ∷ u ∷ us) rise here =
        elim (cases_lt s (place u)) [
          | inr over ↦
              ap (λ o. cons_option o (filter_map h (pairs (u ∷ us)))) (past (t, u) over)
              ∙ cons_joined (f (t, u)) (filter_map h (pairs (u ∷ us))) (filter_map f (pairs (u ∷ us)))
              (option_to_list (option_and_then a (find (lies_between place s) (pairs (u ∷ us)))))
              (one_changes (u ∷ us) rise.1 here.1)
              ∙ sym (ap (λ b. cons_option (f (t, u)) (filter_map f (pairs (u ∷ us)))
              ++ option_to_list (option_and_then a (cond b (Some (t, u)) (find (lies_between place s)
              (pairs (u ∷ us))))))
              (lies_after (place t) s (place u) over))
          | inl under ↦ elim (cases_lt s (place t)) [
            | inl before ↦
                none_later h h_later t (u ∷ us) rise before
                ∙ sym (ap (λ o. filter_map f (pairs (t ∷ u ∷ us)) ++ option_to_list (option_and_then a o))
                (find_later place s t (u ∷ us) rise before)
                ∙ ap (λ xs. xs ++ []) (none_later f f_later t (u ∷ us) rise before))
            | inr from ↦
                let is = lies (place t) s (place u) from under in
                let none = (here.0 is).0 in
                ap (λ o. cons_option o (filter_map h (pairs (u ∷ us)))) (here.0 is).1
                ∙ ap (cons_option (a (t, u))) (none_later h h_later u us rise.1 under)
                ∙ one_option (a (t, u))
                ∙ sym (ap (λ b. filter_map f (pairs (t ∷ u ∷ us))
                ++ option_to_list (option_and_then a (cond b (Some (t, u)) (find (lies_between place s)
                (pairs (u ∷ us))))))
                is
                ∙ ap (λ o. cons_option o (filter_map f (pairs (u ∷ us))) ++ option_to_list (a (t, u))) none
                ∙ ap (λ xs. xs ++ option_to_list (a (t, u))) (none_later f f_later u us rise.1 under))
          ]
        ]
