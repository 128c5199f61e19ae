-- What the machine for 2-hour intervals keeps agrees with what it was fed, and goes on to.
use Rattle.std.proofs.Common.{◌≡◌, ◌⊎◌, ℕ, zero, suc, ◌+◌, ◌*◌, ◌^◌, ◌≤◌, ◌==◌, Bool, true, false, cond, List, [], ◌∷◌, ◌++◌, length, map, ℤ, pos, ◌+ℤ◌, ◌≤ℤ◌, ◌<ℤ◌, Option, Some, None, IfSome, option_and_then, option_to_list, slice_get, refl, sym, ◌∙◌, ap, subst, inl, inr, arith}
use Rattle.std.specs.Bool.{⊤}
use Rattle.std.specs.Int.{int_rem_euclid}
use Rattle.std.specs.List.{AllByRecursion}
use Rattle.std.specs.Ordering.{int_eq}
use Rattle.std.proofs.lemmas.Bool.{both_ways, cases_eq}
use Rattle.std.proofs.lemmas.Bool.Decides.{nat_tests, Decides-int_eq}
use Rattle.std.proofs.lemmas.Int.{ints}
use Rattle.std.proofs.lemmas.List.{length-append, length-map, map-append}
use Rattle.std.proofs.lemmas.List.Elements.{All-contains, Contains-push, recursion_from_All}
use Rattle.std.proofs.lemmas.Option.{same_Some}
use Rattle.pq_time.specs.declared.clock.Clock.{Clock}
use Rattle.pq_time.specs.Tick.{IsTick, ticks}
use Rattle.pq_time.specs.Time.{IsClock}
use Rattle.pq_time.proofs.TickLaws.{ticks_exact}
use Rattle.aggregate.specs.declared.group.Group.{Group}
use Rattle.aggregate.specs.declared.two_hour.TwoHours.{TwoHours}
use Rattle.aggregate.specs.Aggregation.{as_part, group_of, has_tick, two_hour_group, two_hour_groups}
use Rattle.aggregate.specs.BasicOrder.{IsSetting}
use Rattle.aggregate.specs.Sum.{Adds, HasSummed, IsGroupOf, SumView}
use Rattle.aggregate.specs.TwoHourSum.{AreRunning, AreTens, Completes, HasSeen, IsTen, MayFollow, NoneRun, RunsAfter, SeesMore, TwoHourView, begins_two_hours, next_hours, next_ten, tens_from}
use Rattle.pq_words.specs.declared.limits.TheConstants.{MOST_SAMPLES}
use Rattle.pq_words.specs.Magnitude.{IsWithin}
use Rattle.aggregate.proofs.FollowLaws.{among_contains, contains_among}
use Rattle.aggregate.proofs.MinuteLaws.{multiple_of, time_small}
use Rattle.aggregate.proofs.PairLaws.{IsAmong}
use Rattle.aggregate.proofs.TwoHourStepLaws.{AreBelow, IsAnswer, first_found, found_is, from_most, from_upto, last_found, made, no_tens, running_after, running_on, running_to, same_two_hours, tens_between, tick_of_found, two_completes, two_here, two_hours_of}

-- ---- 10-minute intervals as they come

abbrev Rises : Group → Group → Type 0
Rises a b = (s t : ℤ) → a.tick ≡ Some s → b.tick ≡ Some t → s <ℤ t

abbrev RiseFrom : Group → List Group → Type 0
RiseFrom a [] = ⊤
RiseFrom a (b ∷ bs) = Rises a b × RiseFrom b bs

rise_from : (a : Group) (bs : List Group) → ((i : ℕ) (x y : Group) (s t : ℤ) → slice_get (a ∷ bs) i ≡ Some x
    → slice_get (a ∷ bs) (i + 1) ≡ Some y → x.tick ≡ Some s → y.tick ≡ Some t → s <ℤ t) → RiseFrom a bs
rise_from a [] h = tt
rise_from a (b ∷ bs) h = (
  (λ s t x y. h 0 a b s t refl refl x y),
  rise_from b bs (λ i x y s t at next u w.
      let step : suc i + 1 ≡ suc (i + 1) = omega arith in
      h (suc i) x y s t at (ap (slice_get (a ∷ b ∷ bs)) step ∙ next) u w),
)

-- all before the last lie below its tick
below_from : (clock : Clock) (n : ℕ) (a : Group) (bs : List Group) (g : Group) (v : ℤ) → g.tick ≡ Some v
    → RiseFrom a (bs ++ g ∷ []) → AllByRecursion (IsTen clock n) (a ∷ (bs ++ g ∷ [])) → AreBelow v (a ∷ bs)
below_from clock n a [] g v is h each =
    let tick = each.0.ticked in
    ((tick.0, tick.1, h.0 tick.0 v tick.1 is), tt)
below_from clock n a (b ∷ bs) g v is h each =
    let tick = each.0.ticked in
    let later = below_from clock n b bs g v is h.1 each.1 in
    let step = h.0 tick.0 later.0.0 tick.1 later.0.1 in
    let less = later.0.2 in
    ((tick.0, tick.1, omega (arith, ints, step, less)), later)

pub are_below : (clock : Clock) (n : ℕ) (fed : List Group) (g : Group) (v : ℤ) → g.tick ≡ Some v
    → AreTens clock n (fed ++ g ∷ []) → AreBelow v fed
are_below clock n [] g v is h = tt
are_below clock n (a ∷ bs) g v is h =
    below_from clock n a bs g v is (rise_from a (bs ++ g ∷ []) h.rise)
    (recursion_from_All (IsTen clock n) (a ∷ (bs ++ g ∷ [])) h.each)

-- the last of some is one
pub last_ten : (clock : Clock) (n : ℕ) (fed : List Group) (g : Group) → AreTens clock n (fed ++ g ∷ [])
    → IsTen clock n g
last_ten clock n fed g h = All-contains (IsTen clock n) (fed ++ g ∷ []) g h.each (Contains-push fed g)

pub tick_of_last : (clock : Clock) (n : ℕ) (fed : List Group) (g : Group) (v : ℤ) → g.tick ≡ Some v
    → AreTens clock n (fed ++ g ∷ []) → IsTick clock n 600 v
tick_of_last clock n fed g v is h =
    let tick = (last_ten clock n fed g h).ticked in
    subst (IsTick clock n 600) (same_Some tick.0 v (sym tick.1 ∙ is)) tick.2

-- ---- which two hours it begins or goes on with

next_none : (hours : Option TwoHours) (v : ℤ) → next_hours hours v ≡ None
    → (begins_two_hours v ≡ false) × ((h : TwoHours) → hours ≡ Some h → next_ten h ≡ v → ⊥)
next_none hours v e = at (begins_two_hours v) refl e
  where
    other : (hours : Option TwoHours)
        → option_and_then (λ h. cond (int_eq (next_ten h) v) (Some h) None) hours ≡ None
        → (h : TwoHours) → hours ≡ Some h → next_ten h ≡ v → ⊥
    other hours none h is same =
        let e : None ≡ Some h = sym none
        ∙ ap (option_and_then (λ h. cond (int_eq (next_ten h) v) (Some h) None)) is
        ∙ ap (λ b. cond b (Some h) None) ((Decides-int_eq (next_ten h) v).1 same) in
        let bad : ⊥ = cc in bad

    at : (b : Bool) → begins_two_hours v ≡ b
        → cond b (Some (record { tick = v; count = 0 }))
        (option_and_then (λ h. cond (int_eq (next_ten h) v) (Some h) None) hours) ≡ None
        → (begins_two_hours v ≡ false) × ((h : TwoHours) → hours ≡ Some h → next_ten h ≡ v → ⊥)
    at true is e = absurd (let bad : ⊥ = cc in bad)
    at false is e = (is, other hours e)

abbrev IsNext : Option TwoHours → ℤ → TwoHours → Type 0
IsNext hours v h = ((begins_two_hours v ≡ true) × (record { tick = v; count = 0 } ≡ h))
    ⊎ ((begins_two_hours v ≡ false) × (hours ≡ Some h) × (next_ten h ≡ v))

next_some : (hours : Option TwoHours) (v : ℤ) (h : TwoHours) → next_hours hours v ≡ Some h → IsNext hours v h
next_some hours v h e = at (begins_two_hours v) refl e
  where
    on : (hours : Option TwoHours) → begins_two_hours v ≡ false
        → option_and_then (λ h. cond (int_eq (next_ten h) v) (Some h) None) hours ≡ Some h → IsNext hours v h
    on None is e = absurd (let bad : ⊥ = cc in bad)
    on (Some x) is e = passed (int_eq (next_ten x) v) refl e
      where
        passed : (b : Bool) → int_eq (next_ten x) v ≡ b → cond b (Some x) None ≡ Some h → IsNext (Some x) v h
        passed true same e = inr (
          is,
          e,
          ap next_ten (sym (same_Some x h e))
              ∙ (Decides-int_eq (next_ten x) v).0 same,
        )
        passed false same e = absurd (let bad : ⊥ = cc in bad)

    at : (b : Bool) → begins_two_hours v ≡ b
        → cond b (Some (record { tick = v; count = 0 }))
        (option_and_then (λ h. cond (int_eq (next_ten h) v) (Some h) None) hours) ≡ Some h
        → IsNext hours v h
    at true is e = inl (is, same_Some (record { tick = v; count = 0 }) h e)
    at false is e = on hours is e

-- ---- one more, after some that the machine has seen

module _ (clock : Clock) (n channels : ℕ) (fed : List Group) (g : Group) (v : ℤ) (ticked : g.tick ≡ Some v)
    (tens : AreTens clock n (fed ++ g ∷ [])) (hours : Option TwoHours) (sum : SumView)
    (runs : RunsAfter fed sum hours) where
  below : AreBelow v fed
  below = are_below clock n fed g v ticked tens

  divisible : int_rem_euclid v (pos 600) ≡ pos 0
  divisible = (tick_of_last clock n fed g v ticked tens).divisible

  whole_tick : (t : ℤ) → IsAmong t (ticks clock n 7200) → int_rem_euclid t (pos 7200) ≡ pos 0
  whole_tick t is =
      ((ticks_exact clock n 7200 (omega arith) t).0 (among_contains (ticks clock n 7200) t is)).divisible

  -- the last that runs lies before the next
  ran_until : (h : TwoHours) → AreRunning fed h.tick h.count → next_ten h ≤ℤ v
  ran_until h r = at h.tick h.count r
    where
      at : (t : ℤ) (c : ℕ) → AreRunning fed t c → (t +ℤ pos (600 * c)) ≤ℤ v
      at t zero r = let some = r.some in absurd (omega (arith, some))
      at t (suc k) r =
          let last = (last_found fed t k r.all).0 in
          let found = found_is (λ g. (s : ℤ) × (g.tick ≡ Some s)
          × (s <ℤ v)) (has_tick (t +ℤ pos (600 * k))) fed
          last.0 below last.1 in
          let tick = found.0 in
          let same = tick_of_found (t +ℤ pos (600 * k)) tick.0 last.0 tick.1 found.1 in
          let less = tick.2 in
          let j = two_hours_of t r.whole in
          let m = multiple_of v divisible in
          let is_t = j.1 in
          let is_v = m.1 in
          omega (arith, ints, same, less, is_t, is_v)

  -- where nothing goes on, nothing ran up to it
  no_run : next_hours hours v ≡ None → (t : ℤ) (k : ℕ) → int_rem_euclid t (pos 7200) ≡ pos 0 → k ≤ 11
      → (t +ℤ pos (600 * k)) ≡ v → length (tens_from fed t k) ≡ k → ⊥
  no_run none t zero whole few is all =
      let same : t ≡ v = omega (arith, ints, is) in
      let begins : begins_two_hours v ≡ true = ap begins_two_hours (sym same)
      ∙ (Decides-int_eq (int_rem_euclid t (pos 7200)) (pos 0)).1 whole in
      both_ways (begins_two_hours v) (next_none hours v none).0 begins
  no_run none t (suc k) whole few is all = at hours runs (next_none hours v none).1
    where
      latest_at : (h : TwoHours) → AreRunning fed h.tick h.count → (t +ℤ pos (600 * k)) <ℤ next_ten h
      latest_at h r =
          let last = (last_found fed t k all).0 in
          let found = found_is (λ g. (s : ℤ) × (g.tick ≡ Some s)
          × (s <ℤ v)) (has_tick (t +ℤ pos (600 * k))) fed
          last.0 below last.1 in
          let late = found_is (λ g. IfSome g.tick (λ s. s <ℤ next_ten h)) (has_tick (t +ℤ pos
          (600 * k))) fed last.0
          (recursion_from_All (λ g. IfSome g.tick (λ s. s <ℤ next_ten h)) fed r.latest) last.1 in
          let tick = found.0 in
          let same = tick_of_found (t +ℤ pos (600 * k)) tick.0 last.0 tick.1 found.1 in
          let less : tick.0 <ℤ next_ten h = subst (λ o. IfSome o (λ s. s <ℤ next_ten h)) tick.1 late.0 in
          omega (arith, ints, same, less)

      at : (hours : Option TwoHours) → RunsAfter fed sum hours → ((h : TwoHours) → hours ≡ Some h
          → next_ten h ≡ v → ⊥)
          → ⊥
      at None runs other = runs t (suc k) (running_to fed t v k below whole few is all)
      at (Some h) runs other =
          let early = ran_until h runs.0 in
          let late = latest_at h runs.0 in
          let j = two_hours_of t whole in
          let i = two_hours_of h.tick runs.0.whole in
          let is_t = j.1 in
          let is_h = i.1 in
          other h refl (omega (arith, ints, early, late, is, is_t, is_h))

  -- where something goes on, it ran up to it
  abbrev pub GoesOn : TwoHours → Type 0
  GoesOn h = (int_rem_euclid h.tick (pos 7200) ≡ pos 0) × (h.count ≤ 11) × (next_ten h ≡ v)
      × (length (tens_from fed h.tick h.count) ≡ h.count)

  goes_on : (h : TwoHours) → IsNext hours v h → GoesOn h
  goes_on h (inl begins) =
      let P : TwoHours → Type 0 = λ h. GoesOn h in
      subst P begins.1 (
        (Decides-int_eq (int_rem_euclid v (pos 7200)) (pos 0)).0 begins.0,
        omega arith,
        omega (arith, ints),
        ap length (no_tens fed v),
      )
  goes_on h (inr on) =
      let r : RunsAfter fed sum (Some h) = subst (λ o. RunsAfter fed sum o) on.1 runs in
      (r.0.whole, r.0.few, on.2, r.0.all)

  -- its two hours are those in which the last one lies
  its_hours : (h : TwoHours) → GoesOn h → (t : ℤ) → int_rem_euclid t (pos 7200) ≡ pos 0 → t ≤ℤ v
      → v <ℤ (t +ℤ pos 7200) → t ≡ h.tick
  its_hours h on t whole from until =
      let few = on.1 in
      let is = on.2 in
      same_two_hours t h.tick whole on.0 (omega (arith, ints, few, is, from)) (omega
      (arith, ints, few, is, until))

  -- ---- nothing goes on

  not_made : (t : ℤ) (gs : List Group) → (length gs ≡ 12 → ⊥) → made channels t gs ≡ None
  not_made t gs other = ap (λ b. cond b (Some (group_of (Some t) channels (map as_part gs))) None)
      (not_twelve (length gs) other)
    where
      not_twelve : (m : ℕ) → (m ≡ 12 → ⊥) → (m == 12) ≡ false
      not_twelve m h = grind (arith, nat_tests, h)

  none_completes : next_hours hours v ≡ None → two_hour_groups clock n channels (fed ++ g ∷ [])
      ≡ two_hour_groups clock n channels fed ++ option_to_list None
  none_completes none =
      two_completes channels fed g v ticked below divisible None clock n (λ t is from until.
      let whole = whole_tick t is in
      let k = tens_between t v whole divisible from until in
      let here = two_here channels fed g v ticked below t k.0 k.1 k.2 in (
        here.0,
        here.1 ∙ not_made t (tens_from fed t k.0 ++ g ∷ []) (λ twelve.
            let most = from_most fed t k.0 in
            let more = length-append (tens_from fed t k.0) (g ∷ []) in
            let few = k.1 in
            no_run none t k.0 whole few k.2 (omega (arith, twelve, most, more, few))),
      ))
      (inl refl)

  none_runs : next_hours hours v ≡ None → NoneRun (fed ++ g ∷ [])
  none_runs none t c running =
      let ran = running_after fed g v ticked below divisible t c running in
      let few = running.few in
      let count = ran.1 in
      no_run none t ran.0 running.whole (omega (arith, few, count)) ran.2 ran.3

  -- ---- two hours go on

  module _ (h : TwoHours) (on : GoesOn h) where
    -- with it they are those so far, and it
    parts_more : tens_from (fed ++ g ∷ []) h.tick (suc h.count) ≡ tens_from fed h.tick h.count ++ g ∷ []
    parts_more = from_upto fed g v ticked below h.tick h.count on.2

    is_answer : IsAnswer channels fed g v ticked below divisible
        (made channels h.tick (tens_from fed h.tick h.count ++ g ∷ [])) (ticks clock n 7200)
    is_answer t is from until =
        let same = its_hours h on t (whole_tick t is) from until in
        let here = two_here channels fed g v ticked below h.tick h.count on.1 on.2 in
        let F : ℤ → Type 0 = λ u. (two_hour_group channels fed u ≡ None)
        × (two_hour_group channels (fed ++ g ∷ []) u
        ≡ made channels h.tick (tens_from fed h.tick h.count ++ g ∷ [])) in
        subst F (sym same) here

    -- the tick of two hours that are all there is one of the recording
    tick_there : h.count ≡ 11 → IsAmong h.tick (ticks clock n 7200)
    tick_there eleven =
        let all : length (tens_from fed h.tick 11) ≡ 11 =
        ap (λ c. length (tens_from fed h.tick c)) (sym eleven) ∙ on.3 ∙ eleven in
        let first = first_found fed h.tick 10 all in
        let found = found_is (IsTen clock n) (has_tick h.tick) fed first.0 (fed_tens fed tens) first.1 in
        let tick = found.0.ticked in
        let same = tick_of_found h.tick tick.0 first.0 tick.1 found.1 in
        let is : IsTick clock n 600 h.tick = subst (IsTick clock n 600) (sym same) tick.2 in
        contains_among (ticks clock n 7200) h.tick ((ticks_exact clock n 7200 (omega arith) h.tick).1
        (record { divisible = on.0; not_before = is.not_before; not_after = is.not_after }))
      where
        fed_tens : (xs : List Group) → AreTens clock n (xs ++ g ∷ []) → AllByRecursion (IsTen clock n) xs
        fed_tens xs h = front xs (recursion_from_All (IsTen clock n) (xs ++ g ∷ []) h.each)
          where
            front : (xs : List Group) → AllByRecursion (IsTen clock n) (xs ++ g ∷ [])
                → AllByRecursion (IsTen clock n) xs
            front [] h = tt
            front (x ∷ xs) h = (h.0, front xs h.1)

    whole_completes : (made_group : Group) → h.count ≡ 11
        → made_group ≡ group_of (Some h.tick) channels (map as_part (tens_from fed h.tick h.count ++ g ∷ []))
        → two_hour_groups clock n channels (fed ++ g ∷ [])
        ≡ two_hour_groups clock n channels fed ++ option_to_list (Some made_group)
    whole_completes made_group eleven is =
        let few = on.1 in
        let last = on.2 in
        let many : length (tens_from fed h.tick h.count ++ g ∷ []) ≡ 12 =
        length-append (tens_from fed h.tick h.count) (g ∷ []) ∙ omega (arith, on.3, eleven) in
        two_completes channels fed g v ticked below divisible
        (made channels h.tick (tens_from fed h.tick h.count ++ g ∷ [])) clock n is_answer
        (inr (h.tick, tick_there eleven, omega (arith, ints, last), omega (arith, ints, last, few)))
        ∙ ap (λ b. two_hour_groups clock n channels fed ++ option_to_list (cond b
        (Some (group_of (Some h.tick) channels (map as_part (tens_from fed h.tick h.count ++ g ∷ [])))) None))
        (ap (λ m. m == 12) many)
        ∙ ap (λ x. two_hour_groups clock n channels fed ++ option_to_list (Some x)) (sym is)

    whole_runs : h.count ≡ 11 → NoneRun (fed ++ g ∷ [])
    whole_runs eleven t c running =
        let ran = running_after fed g v ticked below divisible t c running in
        let few = running.few in
        let count = ran.1 in
        let is = ran.2 in
        let last = on.2 in
        let same = its_hours h on t running.whole (omega (arith, ints, is)) (omega
        (arith, ints, is, few, count)) in
        omega (arith, ints, same, is, last, few, count, eleven)

    part_completes : (h.count ≡ 11 → ⊥) → two_hour_groups clock n channels (fed ++ g ∷ [])
        ≡ two_hour_groups clock n channels fed ++ option_to_list None
    part_completes other =
        let all = on.3 in
        let more = length-append (tens_from fed h.tick h.count) (g ∷ []) in
        let none = not_made h.tick (tens_from fed h.tick h.count ++ g ∷ [])
        (λ twelve. other (omega (arith, all, more, twelve))) in
        two_completes channels fed g v ticked below divisible
        (made channels h.tick (tens_from fed h.tick h.count ++ g ∷ [])) clock n is_answer (inl none)
        ∙ ap (λ o. two_hour_groups clock n channels fed ++ option_to_list o) none

    part_runs : (h.count ≡ 11 → ⊥) → AreRunning (fed ++ g ∷ []) h.tick (h.count + 1)
    part_runs other =
        let few : h.count ≤ 10 = ten_at_most h.count on.1 other in
        let one : suc h.count ≡ h.count + 1 = omega arith in
        subst (AreRunning (fed ++ g ∷ []) h.tick) one
        (running_on fed g v ticked below divisible h.tick h.count on.0 few on.2 on.3)
      where
        ten_at_most : (c : ℕ) → c ≤ 11 → (c ≡ 11 → ⊥) → c ≤ 10
        ten_at_most c le other = elim (cases_eq c 11) [
          | inl is ↦ absurd (other is)
          | inr no_eleven ↦ grind
              (arith, le, no_eleven)
        ]

-- ---- the ways of a step

pub none_done : (old : TwoHourView) (g : Group) (v : ℤ) (answer : Option Group) → g.tick ≡ Some v
    → next_hours old.hours v ≡ None → answer ≡ None → Completes old g answer
none_done old g v answer ticked none is fed seen tens =
    none_completes old.clock old.samples old.channels fed g v ticked tens old.hours old.sum seen none
    ∙ ap (λ o. two_hour_groups old.clock old.samples old.channels fed ++ option_to_list o) (sym is)

pub none_seen : (old new : TwoHourView) (g : Group) (v : ℤ) → g.tick ≡ Some v → next_hours old.hours v ≡ None
    → new.hours ≡ None → SeesMore old new g
none_seen old new g v ticked none is fed seen tens =
    subst (λ o. RunsAfter (fed ++ g ∷ []) new.sum o) (sym is)
    (none_runs old.clock old.samples old.channels fed g v ticked tens old.hours old.sum seen none)

module _ (old mid : TwoHourView) (sum : SumView) (g : Group) (v : ℤ) (h : TwoHours) (ticked : g.tick ≡ Some v)
    (next : next_hours old.hours v ≡ Some h) (anew : begins_two_hours v ≡ true → HasSummed mid.sum [])
    (stays : begins_two_hours v ≡ false → mid.sum ≡ old.sum) where
  -- the sum is that of those so far
  summed_before : (fed : List Group) → HasSeen old fed
      → HasSummed mid.sum (map as_part (tens_from fed h.tick h.count))
  summed_before fed seen = at (next_some old.hours v h next)
    where
      at : IsNext old.hours v h → HasSummed mid.sum (map as_part (tens_from fed h.tick h.count))
      at (inl begins) =
          subst (λ (h : TwoHours). HasSummed mid.sum (map as_part (tens_from fed h.tick h.count))) begins.1
          (subst (λ gs. HasSummed mid.sum (map as_part gs)) (sym (no_tens fed v)) (anew begins.0))
      at (inr on) =
          let r : RunsAfter fed old.sum (Some h) = subst (λ o. RunsAfter fed old.sum o) on.1 seen in
          subst (λ s. HasSummed s (map as_part (tens_from fed h.tick h.count))) (sym (stays on.0)) r.1

  -- and there is room for one more
  pub room_for : (fed : List Group) → HasSeen old fed → AreTens old.clock old.samples (fed ++ g ∷ [])
      → mid.sum.count ≤ 11
  room_for fed seen tens =
      let on = goes_on old.clock old.samples old.channels fed g v ticked tens old.hours old.sum seen h
      (next_some old.hours v h next) in
      let number = (summed_before fed seen).number in
      let many = length-map (tens_from fed h.tick h.count) as_part in
      let all = on.3 in
      let few = on.1 in
      omega (arith, number, many, all, few)

  module _ (adds : Adds mid.sum sum (as_part g)) where
    summed : (fed : List Group) → HasSeen old fed
        → HasSummed sum (map as_part (tens_from fed h.tick h.count ++ g ∷ []))
    summed fed seen =
        subst (HasSummed sum) (sym (map-append as_part (tens_from fed h.tick h.count) (g ∷ [])))
        (adds (map as_part (tens_from fed h.tick h.count)) (summed_before fed seen))

    pub whole_done : (answer : Group) → h.count ≡ 11 → IsGroupOf sum (Some h.tick) old.channels answer
        → Completes old g (Some answer)
    whole_done answer eleven is fed seen tens =
        let on = goes_on old.clock old.samples old.channels fed g v ticked tens old.hours old.sum seen h
        (next_some old.hours v h next) in
        whole_completes old.clock old.samples old.channels fed g v ticked tens old.hours old.sum seen h on
        answer
        eleven (is (map as_part (tens_from fed h.tick h.count ++ g ∷ [])) (summed fed seen))

    pub whole_seen : (new : TwoHourView) → h.count ≡ 11 → new.hours ≡ None → SeesMore old new g
    whole_seen new eleven is fed seen tens =
        let on = goes_on old.clock old.samples old.channels fed g v ticked tens old.hours old.sum seen h
        (next_some old.hours v h next) in
        subst (λ o. RunsAfter (fed ++ g ∷ []) new.sum o) (sym is)
        (whole_runs old.clock old.samples old.channels fed g v ticked tens old.hours old.sum seen h on eleven)

    pub part_done : (h.count ≡ 11 → ⊥) → Completes old g None
    part_done other fed seen tens =
        let on = goes_on old.clock old.samples old.channels fed g v ticked tens old.hours old.sum seen h
        (next_some old.hours v h next) in
        part_completes old.clock old.samples old.channels fed g v ticked tens old.hours old.sum seen h on
        other

    pub part_seen : (new : TwoHourView) → (h.count ≡ 11 → ⊥) → new.sum ≡ sum
        → new.hours ≡ Some (record { tick = h.tick; count = h.count + 1 }) → SeesMore old new g
    part_seen new other sum_is is fed seen tens =
        let on = goes_on old.clock old.samples old.channels fed g v ticked tens old.hours old.sum seen h
        (next_some old.hours v h next) in
        let one : suc h.count ≡ h.count + 1 = omega arith in
        let parts : tens_from (fed ++ g ∷ []) h.tick (h.count + 1) ≡ tens_from fed h.tick h.count ++ g ∷ [] =
        ap (tens_from (fed ++ g ∷ []) h.tick) (sym one)
        ∙ parts_more old.clock old.samples old.channels fed g v ticked tens old.hours old.sum seen h on in
        subst (λ o. RunsAfter (fed ++ g ∷ []) new.sum o) (sym is) (
          part_runs old.clock old.samples old.channels fed g v ticked tens old.hours old.sum seen h on other,
          subst (λ gs. HasSummed new.sum (map as_part gs)) (sym parts)
              (subst (λ s. HasSummed s (map as_part (tens_from fed h.tick h.count ++ g ∷ []))) (sym sum_is)
              (summed fed seen)),
        )

-- ---- bounds

-- a tick of a recording lies near 1970
pub tick_near : (clock : Clock) (n period : ℕ) (t : ℤ) → IsClock clock → n ≤ MOST_SAMPLES
    → IsTick clock n period t → IsWithin (9 * 10 ^ 9) t
tick_near clock n period t sound short is =
    let small = time_small clock n sound short in
    let after = is.not_before in
    let before = is.not_after in
    let from = sound.t0 in
    (omega (arith, ints, small, after, before, from), omega (arith, ints, small, after, before, from))

-- and so do the two hours that it goes on with
pub next_near : (old : TwoHourView) (g : Group) (v : ℤ) (h : TwoHours) → g.tick ≡ Some v
    → IsSetting old.clock old.samples old.channels → MayFollow old g → next_hours old.hours v ≡ Some h
    → IsWithin (10 ^ 10) h.tick × (h.count ≤ 11)
next_near old g v h ticked setting may next =
    let on = goes_on old.clock old.samples old.channels may.0 g v ticked may.2 old.hours old.sum may.1 h
    (next_some old.hours v h next) in
    let near = tick_near old.clock old.samples 600 v setting.timed setting.short
    (tick_of_last old.clock old.samples may.0 g v ticked may.2) in
    let few = on.1 in
    let is = on.2 in
    ((omega (arith, ints, near, few, is), omega (arith, ints, near, few, is)), few)
