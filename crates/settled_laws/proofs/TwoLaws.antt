-- The 2-hour intervals that end by a place are told by the 10-minute intervals that do.
use Rattle.std.proofs.Common.{◌≡◌, ℕ, zero, suc, ◌-◌, ◌≤◌, ◌==◌, Bool, true, false, cond, nat_le, List, [], ◌∷◌, length, map, filter_map, ℤ, pos, ◌+ℤ◌, Option, Some, None, slice_get, refl, sym, ◌∙◌, ap, subst, arith}
use Rattle.std.specs.List.{AllByRecursion, cons_option}
use Rattle.std.specs.Option.{option_map_or}
use Rattle.std.proofs.lemmas.Bool.Decides.{nat_tests}
use Rattle.std.proofs.lemmas.Option.{cond_some, same_Some}
use Rattle.aggregate.specs.declared.group.Group.{Group}
use Rattle.aggregate.specs.Aggregation.{Part, group_of, as_part, last_end}
use Rattle.settled_laws.proofs.ShortLaws.{ends_by}
use Rattle.settled_laws.proofs.TenLaws.{settled}
use Rattle.pq_words.specs.Steps.{steps_from}

-- the 2-hour interval of a tick, by the 10-minute interval of each tick
abbrev pub two_over : ℕ → (ℤ → Option Group) → ℤ → Option Group
two_over channels f tick =
    let twelve = filter_map f (steps_from tick 600 12) in
    cond (length twelve == 12) (Some (group_of (Some tick) channels (map as_part twelve))) None

settled_some : (w : ℕ) (o : Option Group) (g : Group) → settled w o ≡ Some g → o ≡ Some g
settled_some w None g e = e
settled_some w (Some x) g e = ap Some (cond_some (ends_by w x) x g e).1

by_true : (a w : ℕ) → a ≤ w → nat_le a w ≡ true
by_true a w h = grind (arith, nat_tests, h)

by_le : (a w : ℕ) → nat_le a w ≡ true → a ≤ w
by_le a w h = grind (arith, nat_tests, h)

some_settled : (w : ℕ) (g : Group) → g.end ≤ w → settled w (Some g) ≡ Some g
some_settled w g h = ap (λ b. cond b (Some g) None) (by_true g.end w h)

-- two that give each other agree
pub same_settled : (w : ℕ) (o q : Option Group) → ((g : Group) → o ≡ Some g → g.end ≤ w → q ≡ Some g)
    → ((g : Group) → q ≡ Some g → g.end ≤ w → o ≡ Some g) → settled w o ≡ settled w q
same_settled w None None h k = refl
same_settled w None (Some g) h k = at (ends_by w g) refl
  where
    at : (b : Bool) → ends_by w g ≡ b → None ≡ cond b (Some g) None
    at true is = k g refl (by_le g.end w is)
    at false is = refl
same_settled w (Some g) q h k = at (ends_by w g) refl
  where
    against : (q : Option Group) → ends_by w g ≡ false
        → ((x : Group) → q ≡ Some x → x.end ≤ w → Some g ≡ Some x) → None ≡ settled w q
    against None is k = refl
    against (Some x) is k = in_both (ends_by w x) refl
      where
        in_both : (b : Bool) → ends_by w x ≡ b → None ≡ cond b (Some x) None
        in_both true by = let same : g ≡ x = same_Some g x (k x refl (by_le x.end w by)) in
            let e : false ≡ true = sym is ∙ ap (ends_by w) same ∙ by in absurd (let bad : ⊥ = cc in bad)
        in_both false by = refl

    at : (b : Bool) → ends_by w g ≡ b → cond b (Some g) None ≡ settled w q
    at true is = sym (ap (settled w) (h g refl (by_le g.end w is)) ∙ some_settled w g (by_le g.end w is))
    at false is = against q is k

-- ---- twelve that are all there

filter_map_most : (f : ℤ → Option Group) (xs : List ℤ) → length (filter_map f xs) ≤ length xs
filter_map_most f [] = omega arith
filter_map_most f (x ∷ xs) = at (f x) (filter_map_most f xs)
  where
    at : (o : Option Group) → length (filter_map f xs) ≤ length xs
        → length (cons_option o (filter_map f xs)) ≤ suc (length xs)
    at None h = omega (arith, h)
    at (Some g) h = omega (arith, h)

length_steps : (low : ℤ) (step n : ℕ) → length (steps_from low step n) ≡ n
unfolding steps_from
length_steps low step zero = refl
length_steps low step (suc n) = ap suc (length_steps (low +ℤ pos step) step n)

module _ (f : ℤ → Option Group) where
  all_found : (t : ℤ) (n : ℕ) → length (filter_map f (steps_from t 600 n)) ≡ n
      → AllByRecursion (λ u. (g : Group) × (f u ≡ Some g)) (steps_from t 600 n)
  unfolding steps_from
  all_found t zero e = tt
  all_found t (suc n) e = at (f t) refl e (λ h. all_found (t +ℤ pos 600) n h)
    where
      at : (o : Option Group) → f t ≡ o
          → length (cons_option o (filter_map f (steps_from (t +ℤ pos 600) 600 n))) ≡ suc n
          → (length (filter_map f (steps_from (t +ℤ pos 600) 600 n)) ≡ n
          → AllByRecursion (λ u. (g : Group) × (f u ≡ Some g)) (steps_from (t +ℤ pos 600) 600 n))
          → ((g : Group) × (f t ≡ Some g))
          × AllByRecursion (λ u. (g : Group) × (f u ≡ Some g)) (steps_from (t +ℤ pos 600) 600 n)
      at None is h rest =
          let most : length (filter_map f (steps_from (t +ℤ pos 600) 600 n)) ≤ n =
          subst (λ m. length (filter_map f (steps_from (t +ℤ pos 600) 600 n)) ≤ m)
          (length_steps (t +ℤ pos 600) 600 n) (filter_map_most f (steps_from (t +ℤ pos 600) 600 n)) in
          absurd (omega (arith, h, most))
      at (Some g) is h rest = ((g, is), rest (omega (arith, h)))

  last_more : (x y : Part) (ys : List Part) → last_end (x ∷ y ∷ ys) ≡ last_end (y ∷ ys)
  last_more x y ys =
      let e : length (x ∷ y ∷ ys) - 1 ≡ suc (length ys) = omega arith in
      let d : length (y ∷ ys) - 1 ≡ length ys = omega arith in
      ap (λ k. option_map_or (λ p. p.end) (slice_get (x ∷ y ∷ ys) k) 0) e
      ∙ sym (ap (λ k. option_map_or (λ p. p.end) (slice_get (y ∷ ys) k) 0) d)

  -- the intervals of consecutive ticks end no earlier than those before
  module _ (w : ℕ) (rises : (t : ℤ) (g h : Group) → f t ≡ Some g → f (t +ℤ pos 600) ≡ Some h → g.end ≤ h.end)
    where
      all_by : (t : ℤ) (n : ℕ) → AllByRecursion (λ u. (g : Group) × (f u ≡ Some g)) (steps_from t 600 (suc n))
          → last_end (map as_part (filter_map f (steps_from t 600 (suc n)))) ≤ w
          → AllByRecursion (λ u. (g : Group) × (f u ≡ Some g) × (g.end ≤ w)) (steps_from t 600 (suc n))
      unfolding steps_from
      all_by t zero all last =
          let one : filter_map f (t ∷ []) ≡ all.0.0 ∷ [] = ap (λ o. cons_option o []) all.0.1 in
          ((all.0.0, all.0.1, subst (λ gs. last_end (map as_part gs) ≤ w) one last), tt)
      all_by t (suc n) all last =
          let u = t +ℤ pos 600 in
          let more = filter_map f (steps_from (u +ℤ pos 600) 600 n) in
          let here : filter_map f (steps_from u 600 (suc n)) ≡ all.1.0.0 ∷ more =
          ap (λ o. cons_option o more) all.1.0.1 in
          let whole : filter_map f (steps_from t 600 (suc (suc n))) ≡ all.0.0 ∷ all.1.0.0 ∷ more =
          ap (λ o. cons_option o (filter_map f (steps_from u 600 (suc n)))) all.0.1
          ∙ ap (λ gs. all.0.0 ∷ gs) here in
          let same : last_end (map as_part (all.0.0 ∷ all.1.0.0 ∷ more))
          ≡ last_end (map as_part (filter_map f (steps_from u 600 (suc n)))) =
          last_more (as_part all.0.0) (as_part all.1.0.0) (map as_part more)
          ∙ sym (ap (λ gs. last_end (map as_part gs)) here) in
          let rest = all_by u n all.1 (subst (λ e. e ≤ w) (ap (λ gs. last_end (map as_part gs)) whole
          ∙ same) last) in
          let next : all.1.0.0 ≡ rest.0.0 = same_Some all.1.0.0 rest.0.0 (sym all.1.0.1 ∙ rest.0.1) in
          let bound : all.0.0.end ≤ all.1.0.0.end = rises t all.0.0 all.1.0.0 all.0.1 all.1.0.1 in
          let until : all.1.0.0.end ≤ w = subst (λ g. g.end ≤ w) (sym next) rest.0.2 in
          ((all.0.0, all.0.1, omega (arith, bound, until)), rest)

      module _ (h : ℤ → Option Group) (same : (t : ℤ) → settled w (f t) ≡ settled w (h t)) where
        carried : (us : List ℤ) → AllByRecursion (λ u. (g : Group) × (f u ≡ Some g) × (g.end ≤ w)) us
            → filter_map h us ≡ filter_map f us
        carried [] all = refl
        carried (u ∷ us) all =
            let g = all.0.0 in
            let there : h u ≡ Some g = settled_some w (h u) g (sym (same u) ∙ ap (settled w) all.0.1
            ∙ some_settled w g all.0.2) in
            ap (λ o. cons_option o (filter_map h us)) there ∙ ap (λ gs. g ∷ gs) (carried us all.1)
            ∙ sym (ap (λ o. cons_option o (filter_map f us)) all.0.1)

        twelve_of : (n : ℕ) → (n == 12) ≡ true → n ≡ 12
        twelve_of n e = grind (arith, nat_tests, e)

        pub two_carried : (channels : ℕ) (tick : ℤ) (g : Group) → two_over channels f tick ≡ Some g
            → g.end ≤ w → two_over channels h tick ≡ Some g
        unfolding group_of
        two_carried channels tick g e by =
            let twelve = filter_map f (steps_from tick 600 12) in
            let group : Group = group_of (Some tick) channels (map as_part twelve) in
            let parts = cond_some (length twelve == 12) group g e in
            let all = all_found tick 12 (twelve_of (length twelve) parts.0) in
            let ends : last_end (map as_part twelve) ≤ w = subst (λ x. x.end ≤ w) (sym parts.1) by in
            let us = all_by tick 11 all ends in
            ap (λ gs. cond (length gs == 12) (Some (group_of (Some tick) channels (map as_part gs))) None)
            (carried (steps_from tick 600 12) us) ∙ e
