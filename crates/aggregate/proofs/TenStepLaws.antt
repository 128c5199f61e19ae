-- One more basic interval: the 10-minute interval that it completes, if it does.
use Rattle.std.proofs.Common.{◌≡◌, ℕ, ◌<◌, ◌≤◌, Bool, true, false, cond, ◌&&◌, nat_lt, nat_le, List, [], ◌∷◌, ◌++◌, find, ℤ, Option, Some, None, option_map, option_and_then, option_to_list, refl, sym, ◌∙◌, ap, arith}
use Rattle.std.specs.List.{AllByRecursion}
use Rattle.std.specs.Option.{option_or}
use Rattle.std.proofs.lemmas.Bool.{both_ways}
use Rattle.std.proofs.lemmas.Bool.Decides.{nat_tests}
use Rattle.std.proofs.lemmas.List.{map-append}
use Rattle.pq_time.specs.declared.clock.Clock.{Clock}
use Rattle.pq_time.specs.Tick.{tick_place, ticks}
use Rattle.aggregate.specs.declared.group.Group.{Group}
use Rattle.aggregate.specs.Aggregation.{Part, Basic, group_of, parts_of, reaches, ten_group, ten_groups, tick_pairs}
use Rattle.aggregate.specs.BasicOrder.{Follows, HasTickBetween}
use Rattle.aggregate.specs.TenSum.{completed, lies_between, minutes_at}
use Rattle.aggregate.proofs.FollowLaws.{AreLinked, FollowFrom, follow_after, one_before, contains_among, among_contains, ticks_rise}
use Rattle.aggregate.proofs.PairLaws.{pairs, IsAmong, seconds_among, between, last_after, one_changes}
use Rattle.aggregate.proofs.SegmentLaws.{AreWithin, segment_from, segment_is, segment_split, none_from, reaches_it, reached_last, not_reached}

-- ---- the 10-minute interval of a pair of ticks

module _ (clock : Clock) (n channels : ℕ) where
  -- the interval over a segment, if it reaches the next tick
  abbrev pub over : ℤ × ℤ → List Basic → Option Group
  over p segment =
      cond (reaches (parts_of segment) (tick_place clock n p.1))
      (Some (group_of (Some p.0) channels (parts_of segment))) None

  ten_of : (p : ℤ × ℤ) (bs : List Basic) → ten_group clock n channels bs p.0 p.1
      ≡ option_and_then (over p) (segment_from (tick_place clock n p.0) bs)
  unfolding ten_group
  ten_of p bs = ap (option_and_then (over p)) (segment_is (tick_place clock n p.0) bs)

  -- of a list whose last segment is f and those after it
  module _ (before rest : List Basic) (f : Basic) (begins : f.front ≡ true) (within : AreWithin rest)
      (follow : FollowFrom clock n f rest) where
    ten_split : (p : ℤ × ℤ) → ten_group clock n channels (before ++ f ∷ rest) p.0 p.1
        ≡ option_and_then (over p) (option_or (segment_from (tick_place clock n p.0) before)
        (cond (nat_le (tick_place clock n p.0) f.part.start) (Some (f ∷ rest)) None))
    ten_split p =
        ten_of p (before ++ f ∷ rest)
        ∙ ap (option_and_then (over p)) (segment_split (tick_place clock n p.0) before rest f begins within)

    starts_from : (a : Basic) (bs : List Basic) → f.part.start ≤ a.part.start → FollowFrom clock n a bs
        → AllByRecursion (λ q. f.part.start ≤ q.start) (parts_of (a ∷ bs))
    starts_from a [] from h = (from, tt)
    starts_from a (b ∷ bs) from h =
        let step = h.0.starts in
        (from, starts_from b bs (omega (arith, from, step)) h.1)

    begun_late : (place : ℕ) (ps : List Part) → place ≤ f.part.start
        → AllByRecursion (λ q. f.part.start ≤ q.start) ps
        → AllByRecursion (λ q. reaches_it place q ≡ false) ps
    begun_late place [] low h = tt
    begun_late place (q ∷ ps) low h = (late q.start q.end h.0, begun_late place ps low h.1)
      where
        late : (s e : ℕ) → f.part.start ≤ s → (nat_lt s place && nat_le place e) ≡ false
        late s e from = grind (arith, nat_tests, low, from)

    -- the next tick lies no later than its start: it is the interval of an earlier segment, if any
    ten_past : (p : ℤ × ℤ) → tick_place clock n p.1 ≤ f.part.start
        → ten_group clock n channels (before ++ f ∷ rest) p.0 p.1
        ≡ option_and_then (over p) (segment_from (tick_place clock n p.0) before)
    ten_past p low =
        ten_split p
        ∙ same (segment_from (tick_place clock n p.0) before) (nat_le (tick_place clock n p.0) f.part.start)
        (ap (λ b. cond b (Some (group_of (Some p.0) channels (parts_of (f ∷ rest)))) None)
        (not_reached (tick_place clock n p.1) (parts_of (f ∷ rest))
        (begun_late (tick_place clock n p.1) (parts_of (f ∷ rest)) low (starts_from f rest
        (omega arith) follow))))
      where
        same : (o : Option (List Basic)) (b : Bool) → over p (f ∷ rest) ≡ None
            → option_and_then (over p) (option_or o (cond b (Some (f ∷ rest)) None))
            ≡ option_and_then (over p) o
        same (Some segment) b none = refl
        same None true none = none
        same None false none = refl

    -- the tick lies after its start
    ten_later : (p : ℤ × ℤ) → AllByRecursion (λ b. b.part.start ≤ f.part.start) before
        → f.part.start < tick_place clock n p.0 → ten_group clock n channels (before ++ f ∷ rest) p.0 p.1
        ≡ None
    ten_later p starts later =
        ten_split p
        ∙ ap (λ o. option_and_then (over p) (option_or o
        (cond (nat_le (tick_place clock n p.0) f.part.start) (Some (f ∷ rest)) None)))
        (none_from (tick_place clock n p.0) before (lower before starts))
        ∙ ap (λ b. option_and_then (over p) (cond b (Some (f ∷ rest)) None))
        (not_le (tick_place clock n p.0) f.part.start later)
      where
        not_le : (a b : ℕ) → b < a → nat_le a b ≡ false
        not_le a b h = grind (arith, nat_tests, h)

        lower : (bs : List Basic) → AllByRecursion (λ b. b.part.start ≤ f.part.start) bs
            → AllByRecursion (λ b. b.part.start < tick_place clock n p.0) bs
        lower [] h = tt
        lower (b ∷ bs) h = let step = h.0 in (omega (arith, step, later), lower bs h.1)

    -- the tick's segment is the last
    ten_here : (p : ℤ × ℤ) → segment_from (tick_place clock n p.0) before ≡ None
        → tick_place clock n p.0 ≤ f.part.start
        → ten_group clock n channels (before ++ f ∷ rest) p.0 p.1 ≡ over p (f ∷ rest)
    ten_here p none from =
        ten_split p
        ∙ ap (λ o. option_and_then (over p) (option_or o
        (cond (nat_le (tick_place clock n p.0) f.part.start) (Some (f ∷ rest)) None))) none
        ∙ ap (λ b. option_and_then (over p) (cond b (Some (f ∷ rest)) None))
        (is_le (tick_place clock n p.0) f.part.start from)
      where
        is_le : (a b : ℕ) → a ≤ b → nat_le a b ≡ true
        is_le a b h = grind (arith, nat_tests, h)

    -- before it, no segment of the tick's begins
    segment_none : (p : ℤ × ℤ) → segment_from (tick_place clock n p.0) before ≡ None
        → ten_group clock n channels before p.0 p.1 ≡ None
    segment_none p none = ten_of p before ∙ ap (option_and_then (over p)) none

  -- ---- which basic interval reaches a tick

  -- one that is followed within its segment reaches no tick
  apart : (a b : Basic) → Follows clock n a b → b.front ≡ false → (u : ℤ) → IsAmong u (ticks clock n 600)
      → reaches_it (tick_place clock n u) a.part ≡ false
  apart a b follows goes_on u tick = at (reaches_it (tick_place clock n u) a.part) refl
    where
      less : (s q e : ℕ) → (nat_lt s q && nat_le q e) ≡ true → s < q
      less s q e h = grind (arith, nat_tests, h)

      most : (s q e : ℕ) → (nat_lt s q && nat_le q e) ≡ true → q ≤ e
      most s q e h = grind (arith, nat_tests, h)

      at : (c : Bool) → reaches_it (tick_place clock n u) a.part ≡ c → c ≡ false
      at false is = refl
      at true is =
          let from = less a.part.start (tick_place clock n u) a.part.end is in
          let until = most a.part.start (tick_place clock n u) a.part.end is in
          let joined = follows.joined goes_on in
          let tick_between : HasTickBetween clock n a.part.start b.part.start =
          (u, among_contains (ticks clock n 600) u tick, from, omega (arith, joined, until)) in
          absurd (both_ways b.front goes_on (follows.front.1 tick_between))

  unreached : (a : Basic) (bs : List Basic) (b : Basic) → FollowFrom clock n a (bs ++ b ∷ []) → AreWithin bs
      → b.front ≡ false → (u : ℤ) → IsAmong u (ticks clock n 600)
      → AllByRecursion (λ q. reaches_it (tick_place clock n u) q ≡ false) (parts_of (a ∷ bs))
  unreached a [] b h within goes_on u tick = (apart a b h.0 goes_on u tick, tt)
  unreached a (c ∷ cs) b h within goes_on u tick =
      (apart a c h.0 within.0 u tick, unreached c cs b h.1 within.1 goes_on u tick)

  -- ---- the segments before the last

  starts_below : (s m : ℕ) (bs : List Basic) → m ≤ s → AllByRecursion (λ b. b.part.start ≤ m) bs
      → AllByRecursion (λ b. b.part.start ≤ s) bs
  starts_below s m [] le h = tt
  starts_below s m (b ∷ bs) le h = let step = h.0 in (omega (arith, step, le), starts_below s m bs le h.1)

  starts_before : (s m : ℕ) (bs : List Basic) → m < s → AllByRecursion (λ b. b.part.start ≤ m) bs
      → AllByRecursion (λ b. b.part.start < s) bs
  starts_before s m [] less h = tt
  starts_before s m (b ∷ bs) less h = let step = h.0 in (
    omega
        (arith, step, less),
    starts_before s m bs less h.1,
  )

  begun_before : (before rest : List Basic) (f : Basic) → AreLinked clock n (before ++ f ∷ rest)
      → AllByRecursion (λ b. b.part.start ≤ f.part.start) before
  begun_before [] rest f h = tt
  begun_before (x ∷ xs) rest f h =
      let last = one_before clock n x xs f rest h in
      let step = last.1.starts in
      starts_below f.part.start last.0.part.start (x ∷ xs) (omega (arith, step)) last.2

  -- the tick between which and the next it begins has no earlier segment
  none_before : (before rest : List Basic) (f : Basic) → AreLinked clock n (before ++ f ∷ rest)
      → f.front ≡ true
      → AllByRecursion (λ p. lies_between (tick_place clock n) f.part.start p ≡ true
      → segment_from (tick_place clock n p.0) before ≡ None) (pairs (ticks clock n 600))
  none_before [] rest f h begins = each (pairs (ticks clock n 600))
    where
      each : (ps : List (ℤ × ℤ)) → AllByRecursion (λ p. lies_between (tick_place clock n) f.part.start p
          ≡ true
          → segment_from (tick_place clock n p.0) [] ≡ None) ps
      each [] = tt
      each (p ∷ ps) = ((λ _. refl), each ps)
  none_before (x ∷ xs) rest f h begins =
      let last = one_before clock n x xs f rest h in
      let tick = last.1.front.0 begins in
      each last.0.part.start last.2 (pairs (ticks clock n 600))
      (last_after (tick_place clock n) last.0.part.start f.part.start (ticks clock n 600) tick.0
      (ticks_rise clock n 600) (contains_among (ticks clock n 600) tick.0 tick.1) tick.2 tick.3)
    where
      each : (m : ℕ) → AllByRecursion (λ b. b.part.start ≤ m) (x ∷ xs) → (ps : List (ℤ × ℤ))
          → AllByRecursion (λ p. lies_between (tick_place clock n) f.part.start p ≡ true
          → m < tick_place clock n p.0) ps
          → AllByRecursion (λ p. lies_between (tick_place clock n) f.part.start p ≡ true
          → segment_from (tick_place clock n p.0) (x ∷ xs) ≡ None) ps
      each m starts [] g = tt
      each m starts (p ∷ ps) g = (
        (λ is. none_from (tick_place clock n p.0) (x ∷ xs)
            (starts_before (tick_place clock n p.0) m (x ∷ xs) (g.0 is) starts)),
        each m starts ps g.1,
      )

  -- ---- one more basic interval

  -- what it completes, by the ticks between which its segment begins
  abbrev pub completes_at : Basic → List Basic → ℤ × ℤ → Option Group
  completes_at b segment p =
      cond (reaches_it (tick_place clock n p.1) b.part) (Some (group_of (Some p.0) channels
      (parts_of segment)))
      None

  same_pairs : (f g : ℤ × ℤ → Option Group) → ((p : ℤ × ℤ) → f p ≡ g p) → (o : Option (ℤ × ℤ))
      → option_and_then f o ≡ option_and_then g o
  same_pairs f g h None = refl
  same_pairs f g h (Some p) = h p

  by_minutes : (b : Basic) (segment : List Basic) (place : ℕ)
      → option_and_then (completes_at b segment) (find (lies_between (tick_place clock n) place)
      (tick_pairs clock n 600))
      ≡ option_and_then (completed channels b segment) (minutes_at clock n place)
  unfolding minutes_at
  by_minutes b segment place = at (find (lies_between (tick_place clock n) place) (tick_pairs clock n 600))
    where
      at : (o : Option (ℤ × ℤ)) → option_and_then (completes_at b segment) o
          ≡ option_and_then (completed channels b segment)
          (option_map (λ p. record { tick = p.0; next = tick_place clock n p.1 }) o)
      at None = refl
      at (Some p) = refl

  -- the first of a segment
  pub first_completes : (before : List Basic) (f : Basic) → AreLinked clock n (before ++ f ∷ [])
      → f.front ≡ true → ten_groups clock n channels (before ++ f ∷ [])
      ≡ ten_groups clock n channels before
      ++ option_to_list (option_and_then (completed channels f (f ∷ [])) (minutes_at clock n f.part.start))
  unfolding ten_groups
  first_completes before f h begins =
      let s = f.part.start in
      one_changes (tick_place clock n) s (λ p. ten_group clock n channels before p.0 p.1)
      (λ p. ten_group clock n channels (before ++ f ∷ []) p.0 p.1) (completes_at f (f ∷ []))
      (λ p low. ten_past before [] f begins tt tt p low ∙ sym (ten_of p before))
      (λ p later. ten_of p before ∙ ap (option_and_then (over p)) (none_from (tick_place clock n p.0) before
      (starts_before (tick_place clock n p.0) s before later (begun_before before [] f h))))
      (λ p later. ten_later before [] f begins tt tt p (begun_before before [] f h) later)
      (ticks clock n 600) (ticks_rise clock n 600)
      (each (pairs (ticks clock n 600)) (none_before before [] f h begins))
      ∙ ap (λ o. ten_groups clock n channels before ++ option_to_list o) (by_minutes f (f ∷ []) s)
    where
      each : (ps : List (ℤ × ℤ)) → AllByRecursion (λ p. lies_between (tick_place clock n) f.part.start p
          ≡ true
          → segment_from (tick_place clock n p.0) before ≡ None) ps
          → AllByRecursion (λ p. lies_between (tick_place clock n) f.part.start p ≡ true
          → (ten_group clock n channels before p.0 p.1 ≡ None)
          × (ten_group clock n channels (before ++ f ∷ []) p.0 p.1 ≡ completes_at f (f ∷ []) p)) ps
      each [] g = tt
      each (p ∷ ps) g = (
        (λ is.
            let none = g.0 is in (
              segment_none before [] f begins tt tt p none,
              ten_here before [] f begins tt tt p none (between (tick_place clock n) f.part.start p is).0
                  ∙ ap (λ c. cond c (Some (group_of (Some p.0) channels (parts_of (f ∷ [])))) None)
                  (reached_last (tick_place clock n p.1) [] f.part tt),
            )),
        each ps g.1,
      )

  follow_front : (a : Basic) (bs cs : List Basic) → FollowFrom clock n a (bs ++ cs) → FollowFrom clock n a bs
  follow_front a [] cs h = tt
  follow_front a (b ∷ bs) cs h = (h.0, follow_front b bs cs h.1)

  linked_front : (before : List Basic) (f : Basic) (rest cs : List Basic)
      → AreLinked clock n (before ++ f ∷ (rest ++ cs)) → AreLinked clock n (before ++ f ∷ rest)
  linked_front [] f rest cs h = follow_front f rest cs h
  linked_front (x ∷ xs) f rest cs h = at x xs h
    where
      at : (x : Basic) (xs : List Basic) → FollowFrom clock n x (xs ++ f ∷ (rest ++ cs))
          → FollowFrom clock n x (xs ++ f ∷ rest)
      at x [] h = (h.0, follow_front f rest cs h.1)
      at x (y ∷ ys) h = (h.0, at y ys h.1)

  within_push : (bs : List Basic) (b : Basic) → AreWithin bs → b.front ≡ false → AreWithin (bs ++ b ∷ [])
  within_push [] b h e = (e, tt)
  within_push (c ∷ cs) b h e = (h.0, within_push cs b h.1 e)

  -- the segment so far reaches no tick, and with the last one it does where that does
  over_last : (f : Basic) (rest : List Basic) (b : Basic) → FollowFrom clock n f (rest ++ b ∷ [])
      → AreWithin rest → b.front ≡ false → (p : ℤ × ℤ) → IsAmong p.1 (ticks clock n 600)
      → (over p (f ∷ rest) ≡ None) × (over p (f ∷ (rest ++ b ∷ [])) ≡ completes_at b (f ∷ (rest ++ b ∷ [])) p)
  over_last f rest b h within goes_on p tick =
      let place = tick_place clock n p.1 in
      let none = unreached f rest b h within goes_on p.1 tick in
      let segment : List Basic = f ∷ (rest ++ b ∷ []) in (
        ap (λ c. cond c (Some (group_of (Some p.0) channels (parts_of (f ∷ rest)))) None)
            (not_reached place (parts_of (f ∷ rest)) none),
        ap (λ c. cond c (Some (group_of (Some p.0) channels (parts_of segment))) None)
            (ap (λ ps. reaches ps place) (map-append (λ b. b.part) (f ∷ rest) (b ∷ []))
            ∙ reached_last place (parts_of (f ∷ rest)) b.part none),
      )

  -- one that goes on with a segment
  pub next_completes : (before : List Basic) (f : Basic) (rest : List Basic) (b : Basic)
      → AreLinked clock n (before ++ f ∷ (rest ++ b ∷ [])) → f.front ≡ true → AreWithin rest → b.front ≡ false
      → ten_groups clock n channels (before ++ f ∷ (rest ++ b ∷ []))
      ≡ ten_groups clock n channels (before ++ f ∷ rest)
      ++ option_to_list (option_and_then (completed channels b (f ∷ (rest ++ b ∷ [])))
      (minutes_at clock n f.part.start))
  unfolding ten_groups
  next_completes before f rest b h begins within goes_on =
      let s = f.part.start in
      let segment : List Basic = rest ++ b ∷ [] in
      let all_within = within_push rest b within goes_on in
      let follow = follow_after clock n before f segment h in
      let follow_rest = follow_front f rest (b ∷ []) follow in
      let starts = begun_before before segment f h in
      one_changes (tick_place clock n) s (λ p. ten_group clock n channels (before ++ f ∷ rest) p.0 p.1)
      (λ p. ten_group clock n channels (before ++ f ∷ segment) p.0 p.1) (completes_at b (f ∷ segment))
      (λ p low. ten_past before segment f begins all_within follow p low
      ∙ sym (ten_past before rest f begins within follow_rest p low))
      (λ p later. ten_later before rest f begins within follow_rest p starts later)
      (λ p later. ten_later before segment f begins all_within follow p starts later)
      (ticks clock n 600) (ticks_rise clock n 600)
      (each follow follow_rest (pairs (ticks clock n 600)) (none_before before segment f h begins)
      (seconds_among (ticks clock n 600)))
      ∙ ap (λ o. ten_groups clock n channels (before ++ f ∷ rest) ++ option_to_list o) (by_minutes b
      (f ∷ segment) s)
    where
      each : FollowFrom clock n f (rest ++ b ∷ []) → FollowFrom clock n f rest → (ps : List (ℤ × ℤ))
          → AllByRecursion (λ p. lies_between (tick_place clock n) f.part.start p ≡ true
          → segment_from (tick_place clock n p.0) before ≡ None) ps
          → AllByRecursion (λ p. IsAmong p.1 (ticks clock n 600)) ps
          → AllByRecursion (λ p. lies_between (tick_place clock n) f.part.start p ≡ true
          → (ten_group clock n channels (before ++ f ∷ rest) p.0 p.1 ≡ None)
          × (ten_group clock n channels (before ++ f ∷ (rest ++ b ∷ [])) p.0 p.1
          ≡ completes_at b (f ∷ (rest ++ b ∷ [])) p)) ps
      each follow follow_rest [] g i = tt
      each follow follow_rest (p ∷ ps) g i = (
        (λ is.
            let none = g.0 is in
            let from = (between (tick_place clock n) f.part.start p is).0 in
            let last = over_last f rest b follow within goes_on p i.0 in (
              ten_here before rest f begins within follow_rest p none from ∙ last.0,
              ten_here before (rest ++ b ∷ []) f begins (within_push rest b within goes_on) follow p none from
                  ∙ last.1,
            )),
        each follow follow_rest ps g.1 i.1,
      )
