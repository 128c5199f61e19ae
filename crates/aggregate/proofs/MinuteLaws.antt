-- The ten minutes in which a place lies, told by the moment of its sample.
use Rattle.std.proofs.Common.{◌≡◌, ℕ, zero, suc, ◌-◌, ◌*◌, ◌/◌, ◌%◌, ◌^◌, ◌<◌, ◌≤◌, Bool, true, false, cond, ◌&&◌, nat_lt, nat_le, find, ℤ, pos, negsuc, ◌+ℤ◌, ◌*ℤ◌, ◌≤ℤ◌, ◌<ℤ◌, Option, Some, None, option_map, unwrap_or, FitsSigned, to_z, of_z, w64, refl, sym, ◌∙◌, ap, subst, inl, inr, arith, lit<}
use Rattle.std.specs.Int.{int_div_euclid, int_rem_euclid}
use Rattle.std.specs.Prelude.{int_le}
use Rattle.std.proofs.lemmas.Bool.{cases_lt}
use Rattle.std.proofs.lemmas.Bool.Decides.{nat_tests}
use Rattle.std.proofs.lemmas.Int.{by_lt_z, ints, to_z-of_z}
use Rattle.std.proofs.lemmas.Option.{same_Some}
use Rattle.pq_time.specs.declared.clock.Clock.{Clock}
use Rattle.pq_time.specs.Tick.{IsTick, last_period, moment_of, tick_place, ticks}
use Rattle.pq_time.specs.Time.{IsClock, is_taken_by, place_of, time_of}
use Rattle.pq_time.proofs.PlaceLaws.{passed_small, taken_stays}
use Rattle.pq_time.proofs.TickLaws.{ticks_exact}
use Rattle.aggregate.specs.declared.ten.TenMinutes.{TenMinutes}
use Rattle.aggregate.specs.Aggregation.{tick_pairs}
use Rattle.aggregate.specs.TenSum.{lies_between, minutes_at}
use Rattle.aggregate.proofs.FollowLaws.{contains_among, among_contains}
use Rattle.aggregate.proofs.PairLaws.{pairs, IsAmong, between}
use Rattle.pq_words.specs.declared.limits.TheConstants.{MOST_SAMPLES}
use Rattle.pq_words.specs.Magnitude.{IsWithin}
use Rattle.pq_words.specs.First.{IsFirst, first_between}
use Rattle.pq_words.proofs.FirstLaws.{first_between_is}
use Rattle.pq_words.specs.Steps.{steps_from}

-- ---- a place and a moment

taken_by : (a b : ℤ) → int_le a b ≡ true → a ≤ℤ b
taken_by a b h = grind (arith, ints, h)

taken : (a b : ℤ) → a ≤ℤ b → int_le a b ≡ true
taken a b h = grind (arith, ints, h)

-- a sample that is taken at the moment or after it lies at the moment's place or after it
pub place_by : (clock : Clock) (moment : ℤ) (n s : ℕ) → s < n → moment ≤ℤ time_of clock s
    → place_of clock moment n ≤ s
unfolding place_of
place_by clock moment n s inside h =
    at (first_between (is_taken_by clock moment) 0 n) (first_between_is (is_taken_by clock moment) 0 n)
  where
    at : (o : Option ℕ) → IsFirst (is_taken_by clock moment) 0 n o → unwrap_or o n ≤ s
    at None none = absurd (none s (omega arith) inside (taken moment (time_of clock s) h))
    at (Some k) first =
        elim (cases_lt s k) [
          | inl less ↦ absurd (first.none_before s (omega arith) less (taken moment (time_of clock s) h))
          | inr rest ↦ rest
        ]

-- and one that lies there is
pub taken_at : (clock : Clock) (moment : ℤ) (n s : ℕ) → s < n → place_of clock moment n ≤ s
    → moment ≤ℤ time_of clock s
unfolding place_of
taken_at clock moment n s inside h =
    at (first_between (is_taken_by clock moment) 0 n) (first_between_is (is_taken_by clock moment) 0 n) h
  where
    at : (o : Option ℕ) → IsFirst (is_taken_by clock moment) 0 n o → unwrap_or o n ≤ s
        → moment ≤ℤ time_of clock s
    at None none h = absurd (omega (arith, inside, h))
    at (Some k) first h =
        taken_by moment (time_of clock s) (taken_stays clock moment k s h first.passes)

-- ---- whole periods

period_down : (z : ℤ) → ((int_div_euclid z (pos (600 * 10 ^ 9)) *ℤ pos (600 * 10 ^ 9)) ≤ℤ z)
    × (z <ℤ ((int_div_euclid z (pos (600 * 10 ^ 9)) *ℤ pos (600 * 10 ^ 9)) +ℤ pos (600 * 10 ^ 9)))
period_down (pos a) = (omega (arith, ints), omega (arith, ints))
period_down (negsuc a) = (omega (arith, ints), omega (arith, ints))

-- the last tick of 600 seconds at or before a moment, if it is there
pub tick_down : (moment : ℤ) → (moment_of (last_period moment 600 *ℤ pos 600) ≤ℤ moment)
    × (moment <ℤ moment_of ((last_period moment 600 *ℤ pos 600) +ℤ pos 600))
tick_down moment =
    let down = period_down moment in
    let low = down.0 in
    let high = down.1 in
    (omega (arith, ints, low), omega (arith, ints, high))

pub whole_periods : (j : ℤ) → int_rem_euclid (j *ℤ pos 600) (pos 600) ≡ pos 0
whole_periods (pos a) = ap pos (omega arith)
whole_periods (negsuc a) = at ((negsuc a) *ℤ pos 600) (omega (arith, ints))
  where
    at : (z : ℤ) → (z +ℤ pos (600 * suc a)) ≡ pos 0 → int_rem_euclid z (pos 600) ≡ pos 0
    at (pos b) e = absurd (omega (arith, ints, e))
    at (negsuc b) e = ap pos (omega (arith, ints, e))

-- what has no remainder is a whole number of periods
pub multiple_of : (z : ℤ) → int_rem_euclid z (pos 600) ≡ pos 0 → (j : ℤ) × (z ≡ (j *ℤ pos 600))
multiple_of (pos a) e = let r : a % 600 ≡ 0 = cc in (pos (a / 600), omega (arith, ints, r))
multiple_of (negsuc a) e = let r : 600 - 1 - a % 600 ≡ 0 = cc in (negsuc (a / 600), omega (arith, ints, r))

pub same_multiple : (a b : ℤ) → int_rem_euclid a (pos 600) ≡ pos 0 → int_rem_euclid b (pos 600) ≡ pos 0
    → a <ℤ (b +ℤ pos 600) → b <ℤ (a +ℤ pos 600) → a ≡ b
same_multiple a b none_a none_b h g =
    let j = multiple_of a none_a in
    let k = multiple_of b none_b in
    let is_a = j.1 in
    let is_b = k.1 in
    omega (arith, ints, is_a, is_b, h, g)

-- ---- the pair that a place lies between

-- what is found is a tick and the next, and passes
found_pair : (test : ℤ × ℤ → Bool) (low : ℤ) (m : ℕ) (p : ℤ × ℤ)
    → find test (pairs (steps_from low 600 m)) ≡ Some p
    → IsAmong p.0 (steps_from low 600 m) × IsAmong p.1 (steps_from low 600 m) × (p.1 ≡ (p.0 +ℤ pos 600))
    × (test p ≡ true)
unfolding steps_from
found_pair test low zero p e = absurd (let bad : ⊥ = cc in bad)
found_pair test low (suc zero) p e = absurd (let bad : ⊥ = cc in bad)
found_pair test low (suc (suc m)) p e =
    let next = low +ℤ pos 600 in
    at (test (low, next)) refl e (λ g. found_pair test next (suc m) p g)
  where
    at : (b : Bool) → test (low, low +ℤ pos 600) ≡ b
        → cond b (Some (low, low +ℤ pos 600)) (find test (pairs (steps_from (low +ℤ pos 600) 600
        (suc m)))) ≡ Some p
        → (find test (pairs (steps_from (low +ℤ pos 600) 600 (suc m))) ≡ Some p
        → IsAmong p.0 (steps_from (low +ℤ pos 600) 600 (suc m))
        × IsAmong p.1 (steps_from (low +ℤ pos 600) 600 (suc m))
        × (p.1 ≡ (p.0 +ℤ pos 600)) × (test p ≡ true))
        → IsAmong p.0 (steps_from low 600 (suc (suc m))) × IsAmong p.1 (steps_from low 600 (suc (suc m)))
        × (p.1 ≡ (p.0 +ℤ pos 600)) × (test p ≡ true)
    at true is e rest =
        let same : (low, low +ℤ pos 600) ≡ p = same_Some (low, low +ℤ pos 600) p e in
        subst (λ q. IsAmong q.0 (steps_from low 600 (suc (suc m)))
        × IsAmong q.1 (steps_from low 600 (suc (suc m)))
        × (q.1 ≡ (q.0 +ℤ pos 600)) × (test q ≡ true)) same (inl refl, inr (inl refl), refl, is)
    at false is e rest = let r = rest e in (inr r.0, inr r.1, r.2, r.3)

among_from : (low t : ℤ) (m : ℕ) → IsAmong t (steps_from low 600 m) → low ≤ℤ t
unfolding steps_from
among_from low t zero is = absurd is
among_from low t (suc m) (inl same) = omega (arith, ints, same)
among_from low t (suc m) (inr later) =
    let rest = among_from (low +ℤ pos 600) t m later in
    omega (arith, ints, rest)

-- the first that passes is found
find_pair : (test : ℤ × ℤ → Bool) (t : ℤ) → ((a : ℤ) → (a +ℤ pos 600) ≤ℤ t → test (a, a +ℤ pos 600) ≡ false)
    → test (t, t +ℤ pos 600) ≡ true → (low : ℤ) (m : ℕ) → IsAmong t (steps_from low 600 m)
    → IsAmong (t +ℤ pos 600) (steps_from low 600 m)
    → find test (pairs (steps_from low 600 m)) ≡ Some (t, t +ℤ pos 600)
unfolding steps_from
find_pair test t fails passes low zero is next = absurd is
find_pair test t fails passes low (suc zero) (inl same) (inl next) = absurd (omega (arith, ints, same, next))
find_pair test t fails passes low (suc zero) (inl same) (inr next) = absurd next
find_pair test t fails passes low (suc zero) (inr later) next = absurd later
find_pair test t fails passes low (suc (suc m)) (inl same) next =
    let P : ℤ → Type 0 = λ a. cond (test (a, a +ℤ pos 600)) (Some (a, a +ℤ pos 600))
    (find test (pairs (steps_from (low +ℤ pos 600) 600 (suc m)))) ≡ Some (t, t +ℤ pos 600) in
    subst P same (ap (λ b. cond b (Some (t, t +ℤ pos 600))
    (find test (pairs (steps_from (low +ℤ pos 600) 600 (suc m))))) passes)
find_pair test t fails passes low (suc (suc m)) (inr later) (inl next) =
    let from = among_from (low +ℤ pos 600) t (suc m) later in
    absurd (omega (arith, ints, from, next))
find_pair test t fails passes low (suc (suc m)) (inr later) (inr next) =
    let from = among_from (low +ℤ pos 600) t (suc m) later in
    ap (λ b. cond b (Some (low, low +ℤ pos 600)) (find test (pairs (steps_from (low +ℤ pos 600) 600
    (suc m)))))
    (fails low from)
    ∙ find_pair test t fails passes (low +ℤ pos 600) (suc m) later next

found_tick : (clock : Clock) (n : ℕ) (test : ℤ × ℤ → Bool) (p : ℤ × ℤ)
    → find test (tick_pairs clock n 600) ≡ Some p
    → IsAmong p.0 (ticks clock n 600) × IsAmong p.1 (ticks clock n 600) × (p.1 ≡ (p.0 +ℤ pos 600))
    × (test p ≡ true)
unfolding ticks
found_tick clock n test p e = found_pair test _ _ p e

find_tick : (clock : Clock) (n : ℕ) (test : ℤ × ℤ → Bool) (t : ℤ)
    → ((a : ℤ) → (a +ℤ pos 600) ≤ℤ t → test (a, a +ℤ pos 600) ≡ false) → test (t, t +ℤ pos 600) ≡ true
    → IsAmong t (ticks clock n 600) → IsAmong (t +ℤ pos 600) (ticks clock n 600)
    → find test (tick_pairs clock n 600) ≡ Some (t, t +ℤ pos 600)
unfolding ticks
find_tick clock n test t fails passes is next = find_pair test t fails passes _ _ is next

module _ (clock : Clock) (n s : ℕ) (inside : s < n) where
  -- a place between those of two seconds, told by their moments
  lies_at : (a b : ℤ) → moment_of a ≤ℤ time_of clock s → time_of clock s <ℤ moment_of b
      → lies_between (tick_place clock n) s (a, b) ≡ true
  lies_at a b low high =
      both (tick_place clock n a) (tick_place clock n b) (place_by clock (moment_of a) n s inside low)
      (elim (cases_lt s (tick_place clock n b)) [
        | inl less ↦ less
        | inr rest ↦
            let back = taken_at clock (moment_of b) n s inside rest in
            absurd (omega (arith, ints, back, high))
      ])
    where
      both : (p q : ℕ) → p ≤ s → s < q → (nat_le p s && nat_lt s q) ≡ true
      both p q h g = grind (arith, nat_tests, h, g)

  lies_past : (a b : ℤ) → moment_of b ≤ℤ time_of clock s → lies_between (tick_place clock n) s (a, b) ≡ false
  lies_past a b past =
      over (tick_place clock n a) (tick_place clock n b) (place_by clock (moment_of b) n s inside past)
    where
      over : (p q : ℕ) → q ≤ s → (nat_le p s && nat_lt s q) ≡ false
      over p q h = grind (arith, nat_tests, h)

  module _ (t : ℤ) (low : moment_of t ≤ℤ time_of clock s) (high : time_of clock s <ℤ moment_of
      (t +ℤ pos 600)) where
    pub minutes_are : IsTick clock n 600 t → IsTick clock n 600 (t +ℤ pos 600)
        → minutes_at clock n s ≡ Some (record { tick = t; next = tick_place clock n (t +ℤ pos 600) })
    unfolding minutes_at
    minutes_are is next =
        let all = ticks clock n 600 in
        let exact = ticks_exact clock n 600 (lit< tt) in
        ap (option_map {U = TenMinutes} (λ p. record { tick = p.0; next = tick_place clock n p.1 }))
        (find_tick clock n (lies_between (tick_place clock n) s) t fails (lies_at t (t +ℤ pos 600) low high)
        (contains_among all t ((exact t).1 is))
        (contains_among all (t +ℤ pos 600) ((exact (t +ℤ pos 600)).1 next)))
      where
        fails : (a : ℤ) → (a +ℤ pos 600) ≤ℤ t
            → lies_between (tick_place clock n) s (a, a +ℤ pos 600) ≡ false
        fails a h =
            let past : moment_of (a +ℤ pos 600) ≤ℤ time_of clock s = omega (arith, ints, h, low) in
            lies_past a (a +ℤ pos 600) past

    pub minutes_none : int_rem_euclid t (pos 600) ≡ pos 0
        → (IsTick clock n 600 t → IsTick clock n 600 (t +ℤ pos 600) → ⊥) → minutes_at clock n s ≡ None
    unfolding minutes_at
    minutes_none whole missing = at (find (lies_between (tick_place clock n) s) (tick_pairs clock n 600)) refl
      where
        impossible : (p : ℤ × ℤ) → find (lies_between (tick_place clock n) s) (tick_pairs clock n 600)
            ≡ Some p → ⊥
        impossible p e =
            let h = found_tick clock n (lies_between (tick_place clock n) s) p e in
            let exact = ticks_exact clock n 600 (lit< tt) in
            let is = (exact p.0).0 (among_contains (ticks clock n 600) p.0 h.0) in
            let next = (exact p.1).0 (among_contains (ticks clock n 600) p.1 h.1) in
            let step = h.2 in
            let inside_pair = between (tick_place clock n) s p h.3 in
            let from = taken_at clock (moment_of p.0) n s inside inside_pair.0 in
            let until : time_of clock s <ℤ moment_of p.1 = by_lt_z (time_of clock s) (moment_of p.1)
            (λ less. less)
            (λ back. let bound = place_by clock (moment_of p.1) n s inside back in
            let less = inside_pair.1 in absurd (omega (arith, bound, less))) in
            let same : p.0 ≡ t = same_multiple p.0 t is.divisible whole
            (omega (arith, ints, from, high)) (omega (arith, ints, low, until, step)) in
            missing (subst (IsTick clock n 600) same is)
            (subst (IsTick clock n 600) (step ∙ ap (λ a. a +ℤ pos 600) same) next)

        at : (o : Option (ℤ × ℤ)) → find (lies_between (tick_place clock n) s) (tick_pairs clock n 600) ≡ o
            → option_map {U = TenMinutes} (λ p. record { tick = p.0; next = tick_place clock n p.1 }) o ≡ None
        at None e = refl
        at (Some p) e = absurd (impossible p e)

-- the two ticks are there where the first is not before the first sample, and the next not after the end
pub minutes_by : (clock : Clock) (n s : ℕ) (t : ℤ) → s < n → t
    ≡ (last_period (time_of clock s) 600 *ℤ pos 600)
    → clock.t0 ≤ℤ moment_of t → moment_of (t +ℤ pos 600) ≤ℤ time_of clock n
    → minutes_at clock n s ≡ Some (record { tick = t; next = tick_place clock n (t +ℤ pos 600) })
minutes_by clock n s t inside is after before =
    let down = tick_down (time_of clock s) in
    let down_low = down.0 in
    let down_high = down.1 in
    let low : moment_of t ≤ℤ time_of clock s = subst (λ a. moment_of a ≤ℤ time_of clock s)
    (sym is) down_low in
    let high : time_of clock s <ℤ moment_of (t +ℤ pos 600) =
    subst (λ a. time_of clock s <ℤ moment_of (a +ℤ pos 600)) (sym is) down_high in
    minutes_are clock n s inside t low high
    (record { divisible = whole t is; not_before = after; not_after = omega (arith, ints, before) })
    (record { divisible = whole_next t is; not_before = omega (arith, ints, after); not_after = before })
  where
    whole : (t : ℤ) → t ≡ (last_period (time_of clock s) 600 *ℤ pos 600) → int_rem_euclid t (pos 600) ≡ pos 0
    whole t is = ap (λ a. int_rem_euclid a (pos 600)) is ∙ whole_periods (last_period (time_of clock s) 600)

    whole_next : (t : ℤ) → t ≡ (last_period (time_of clock s) 600 *ℤ pos 600)
        → int_rem_euclid (t +ℤ pos 600) (pos 600) ≡ pos 0
    whole_next t is =
        let one : (t +ℤ pos 600) ≡ ((last_period (time_of clock s) 600 +ℤ pos 1) *ℤ pos 600) =
        omega (arith, ints, is) in
        ap (λ a. int_rem_euclid a (pos 600)) one ∙ whole_periods (last_period (time_of clock s) 600 +ℤ pos 1)

pub minutes_none_by : (clock : Clock) (n s : ℕ) (t : ℤ) → s < n
    → t ≡ (last_period (time_of clock s) 600 *ℤ pos 600)
    → (clock.t0 ≤ℤ moment_of t → moment_of (t +ℤ pos 600) ≤ℤ time_of clock n → ⊥) → minutes_at clock n s
    ≡ None
minutes_none_by clock n s t inside is missing =
    let down = tick_down (time_of clock s) in
    let down_low = down.0 in
    let down_high = down.1 in
    let low : moment_of t ≤ℤ time_of clock s = subst (λ a. moment_of a ≤ℤ time_of clock s)
    (sym is) down_low in
    let high : time_of clock s <ℤ moment_of (t +ℤ pos 600) =
    subst (λ a. time_of clock s <ℤ moment_of (a +ℤ pos 600)) (sym is) down_high in
    minutes_none clock n s inside t low high
    (ap (λ a. int_rem_euclid a (pos 600)) is ∙ whole_periods (last_period (time_of clock s) 600))
    (λ first next. missing first.not_before next.not_after)

-- ---- bounds

-- the moments of a recording are far within those of an i64
pub time_small : (clock : Clock) (i : ℕ) → IsClock clock → i ≤ MOST_SAMPLES
    → IsWithin (81 * 10 ^ 17) (time_of clock i)
unfolding time_of
time_small clock i sound few =
    let passed = passed_small i clock.rate few sound.slowest in
    (omega (arith, ints, sound.t0, passed), omega (arith, ints, sound.t0, passed))

-- the last tick, by the moment as it is computed
pub near_tick : (moment tick : ℤ) → FitsSigned w64 moment
    → tick ≡ (last_period (to_z w64 (of_z w64 moment)) 600 *ℤ pos 600)
    → (tick ≡ (last_period moment 600 *ℤ pos 600)) × (moment_of tick ≤ℤ moment)
    × (moment <ℤ moment_of (tick +ℤ pos 600))
near_tick moment tick fits is =
    let same : tick ≡ (last_period moment 600 *ℤ pos 600) = is
    ∙ ap (λ m. last_period m 600 *ℤ pos 600) (to_z-of_z w64 moment fits) in
    let down = tick_down moment in (
      same,
      subst (λ a. moment_of a ≤ℤ moment) (sym same) down.0,
      subst (λ a. moment <ℤ moment_of (a +ℤ pos 600)) (sym same) down.1,
    )
