-- The 10-minute intervals come in the order of their ticks, and no value is greater than a sample may be.
use Rattle.std.proofs.Common.{◌≡◌, ℕ, zero, suc, ◌+◌, ◌-◌, ◌*◌, ◌/◌, ◌^◌, ◌≤◌, Bool, true, false, cond, nat_lt, List, [], ◌∷◌, length, map, drop, zip, filter_map, sum_by, ℤ, pos, ◌+ℤ◌, ◌<ℤ◌, Option, Some, None, option_map, option_and_then, IfSome, All, slice_get, slice_index, get_or, refl, sym, ◌∙◌, ap, subst, inl, inr, arith}
use Rattle.std.specs.List.{AllByRecursion, cons_option}
use Rattle.std.proofs.Math.Nat.{div-le_of_le-mul}
use Rattle.std.proofs.lemmas.Bool.{cases_lt}
use Rattle.std.proofs.lemmas.Int.{ints}
use Rattle.std.proofs.lemmas.List.{length-map}
use Rattle.std.proofs.lemmas.List.Elements.{All-drop, All-from_recursion, All-map, All-take, All-weaker}
use Rattle.std.proofs.lemmas.List.Sums.{sum_by-le}
use Rattle.aggregate.specs.declared.group.Group.{Group}
use Rattle.aggregate.specs.Aggregation.{Basic, Part, channel_root, group_of, parts_of, is_front_from, reaches, segment_at, segment_end, segment_of, ten_group, ten_groups, tick_pairs}
use Rattle.aggregate.specs.BasicOrder.{AreBasics, AreQuiet, IsBasic}
use Rattle.aggregate.specs.TwoHourSum.{AreTens, IsTen}
use Rattle.aggregate.proofs.FollowLaws.{among_contains}
use Rattle.aggregate.proofs.PairLaws.{IsAmong}
use Rattle.aggregate.proofs.SumLaws.{quiet_at}
use Rattle.fixed_rms.specs.Root.{isqrt, mean_of_squares, root_mean, square}
use Rattle.fixed_rms.proofs.RootLaws.{isqrt_is, square_within}
use Rattle.pq_time.specs.declared.clock.Clock.{Clock}
use Rattle.pq_time.specs.Tick.{IsTick, tick_place, ticks}
use Rattle.pq_time.proofs.TickLaws.{ticks_exact}
use Rattle.pq_words.specs.declared.limits.TheConstants.{MOST_MICROVOLTS}
use Rattle.pq_words.specs.First.{first_between}
use Rattle.pq_words.specs.Steps.{numbers_below, steps_from}
use Rattle.pq_words.proofs.StepLaws.{length_numbers}

-- ---- no value is too great

squares_rise : (r s : ℕ) → r ≤ s → r * r ≤ s * s
squares_rise r s h = grind (arith, h)

root_within : (r : ℕ) → r * r ≤ MOST_MICROVOLTS ^ 2 → r ≤ MOST_MICROVOLTS
root_within r h = elim (cases_lt MOST_MICROVOLTS r) [
  | inl less ↦ absurd (omega (arith, squares_rise (MOST_MICROVOLTS + 1) r (omega (arith, less)), h))
  | inr rest ↦ rest
]

mean_within : (values : List ℕ) → AreQuiet values → root_mean values ≤ MOST_MICROVOLTS
unfolding root_mean mean_of_squares
mean_within values quiet =
    let total : sum_by square values ≤ length values * MOST_MICROVOLTS ^ 2 =
    sum_by-le square (MOST_MICROVOLTS ^ 2) values (All-weaker (λ v. v ≤ MOST_MICROVOLTS)
    (λ v. square v ≤ MOST_MICROVOLTS ^ 2) (λ v h. square_within v h) values quiet) in
    let mean : sum_by square values / length values ≤ MOST_MICROVOLTS ^ 2 =
    div-le_of_le-mul (length values) total in
    let root = isqrt_is (sum_by square values / length values) (omega (arith, mean)) in
    root_within (isqrt (sum_by square values / length values)) (omega (arith, root.square, mean))

channel_within : (channels : ℕ) (parts : List Part) (k : ℕ) → All (λ (p : Part). AreQuiet p.values) parts
    → channel_root channels parts k ≤ MOST_MICROVOLTS
channel_within channels parts k quiet = at (nat_lt k channels)
  where
    at : (b : Bool) → cond b (root_mean (map (λ (p : Part). slice_index p.values k) parts)) 0
        ≤ MOST_MICROVOLTS
    at true = mean_within (map (λ (p : Part). slice_index p.values k) parts)
        (All-map (λ v. v ≤ MOST_MICROVOLTS) (λ (p : Part). slice_index p.values k) parts
        (All-weaker (λ (p : Part). AreQuiet p.values) (λ (p : Part). slice_index p.values k ≤ MOST_MICROVOLTS)
        (λ p h. quiet_at p.values k h) parts quiet))
    at false = omega arith

-- ---- each is one of a tick

ten_is : (clock : Clock) (n channels : ℕ) (basics : List Basic) (tick next : ℤ)
    → All (IsBasic n channels) basics → IsTick clock n 600 tick
    → IfSome (ten_group clock n channels basics tick next) (IsTen clock n)
unfolding ten_group segment_of group_of
ten_is clock n channels basics tick next basic is =
    at (first_between (is_front_from basics (tick_place clock n tick)) 0 (length basics))
  where
    parts : ℕ → List Part
    parts k = parts_of (segment_at basics k)

    in_case : (b : Bool) (g : Group) → IsTen clock n g → IfSome (cond b (Some g) None) (IsTen clock n)
    in_case true g h = h
    in_case false g h = tt

    quiet : (k : ℕ) → All (λ (p : Part). AreQuiet p.values) (parts_of (segment_at basics k))
    quiet k = All-map (λ (p : Part). AreQuiet p.values) (λ (b : Basic). b.part) (segment_at basics k)
        (All-take (λ (b : Basic). AreQuiet b.part.values) (segment_end basics k - k) (drop k basics)
        (All-drop (λ (b : Basic). AreQuiet b.part.values) k basics
        (All-weaker (IsBasic n channels) (λ (b : Basic). AreQuiet b.part.values)
        (λ b h. h.quiet) basics basic)))

    at : (o : Option ℕ) → IfSome (option_and_then
        (λ segment. cond (reaches (parts_of segment) (tick_place clock n next))
        (Some (group_of (Some tick) channels (parts_of segment))) None)
        (option_map (segment_at basics) o)) (IsTen clock n)
    at None = tt
    at (Some k) =
        in_case (reaches (parts_of (segment_at basics k)) (tick_place clock n next))
        (group_of (Some tick) channels (parts_of (segment_at basics k)))
        (record {
          ticked = (tick, refl, is);
          long = length-map (numbers_below 16) (channel_root channels (parts_of (segment_at basics k)))
              ∙ length_numbers 0 16;
          quiet = All-map (λ v. v ≤ MOST_MICROVOLTS) (channel_root channels (parts_of (segment_at basics k)))
              (numbers_below 16)
              (λ i d inside. channel_within channels (parts_of (segment_at basics k))
              (get_or (numbers_below 16) i d) (quiet k));
        })

kept_each : {X : Type 0} (P : Group → Type 0) (f : X → Option Group) (xs : List X)
    → AllByRecursion (λ x. IfSome (f x) P) xs → AllByRecursion P (filter_map f xs)
kept_each P f [] h = tt
kept_each P f (x ∷ xs) h = at (f x) h.0 (kept_each P f xs h.1)
  where
    at : (o : Option Group) → IfSome o P → AllByRecursion P (filter_map f xs)
        → AllByRecursion P (cons_option o (filter_map f xs))
    at None here rest = rest
    at (Some g) here rest = (here, rest)

each_of : {X : Type 0} (P Q : X → Type 0) → ((x : X) → P x → Q x) → (xs : List X) → AllByRecursion P xs
    → AllByRecursion Q xs
each_of P Q f [] h = tt
each_of P Q f (x ∷ xs) h = (f x h.0, each_of P Q f xs h.1)

firsts_among : (ts us : List ℤ) → AllByRecursion (λ p. IsAmong p.0 ts) (zip ts us)
firsts_among [] us = tt
firsts_among (t ∷ ts) [] = tt
firsts_among (t ∷ ts) (u ∷ us) = (
  inl refl,
  each_of (λ p. IsAmong p.0 ts) (λ p. IsAmong p.0 (t ∷ ts)) (λ p h. inr h) (zip ts us)
      (firsts_among ts us),
)

-- ---- and their ticks rise

module _ (f : ℤ × ℤ → Option Group) (ticked : (p : ℤ × ℤ) → IfSome (f p) (λ g. g.tick ≡ Some p.0)) where
  -- the group is of a later tick
  abbrev IsLater : ℤ → Group → Type 0
  IsLater low g = IfSome g.tick (λ t. low <ℤ t)

  later : (low first : ℤ) (n : ℕ) (us : List ℤ) → low <ℤ first
      → AllByRecursion (IsLater low) (filter_map f (zip (steps_from first 600 n) us))
  unfolding steps_from
  later low first zero us less = tt
  later low first (suc n) [] less = tt
  later low first (suc n) (u ∷ us) less =
      at (f (first, u)) (ticked (first, u)) (later low (first +ℤ pos 600) n us (omega (arith, ints, less)))
    where
      at : (o : Option Group) → IfSome o (λ g. g.tick ≡ Some first)
          → AllByRecursion (IsLater low) (filter_map f (zip (steps_from (first +ℤ pos 600) 600 n) us))
          → AllByRecursion (IsLater low)
          (cons_option o (filter_map f (zip (steps_from (first +ℤ pos 600) 600 n) us)))
      at None is rest = rest
      at (Some g) is rest = (subst (λ o. IfSome o (λ t. low <ℤ t)) (sym is) less, rest)

  first_later : (low t : ℤ) (b : Group) (gs : List Group) → AllByRecursion (IsLater low) gs
      → slice_get gs 0 ≡ Some b → b.tick ≡ Some t → low <ℤ t
  first_later low t b [] h there is = absurd (let bad : ⊥ = cc in bad)
  first_later low t b (g ∷ gs) h there is =
      let same : g ≡ b = cc in
      subst (λ o. IfSome o (λ t. low <ℤ t)) is (subst (IsLater low) same h.0)

  rising : (first : ℤ) (n : ℕ) (us : List ℤ) (i : ℕ) (a b : Group) (s t : ℤ)
      → slice_get (filter_map f (zip (steps_from first 600 n) us)) i ≡ Some a
      → slice_get (filter_map f (zip (steps_from first 600 n) us)) (i + 1) ≡ Some b
      → a.tick ≡ Some s → b.tick ≡ Some t → s <ℤ t
  unfolding steps_from
  rising first zero us i a b s t here next is then = absurd (let bad : ⊥ = cc in bad)
  rising first (suc n) [] i a b s t here next is then = absurd (let bad : ⊥ = cc in bad)
  rising first (suc n) (u ∷ us) i a b s t here next is then =
      at (f (first, u)) (ticked (first, u)) i here next
      (λ i here next. rising (first +ℤ pos 600) n us i a b s t here next is then)
    where
      at : (o : Option Group) → IfSome o (λ g. g.tick ≡ Some first) → (i : ℕ)
          → slice_get (cons_option o (filter_map f (zip (steps_from (first +ℤ pos 600) 600 n) us))) i ≡ Some a
          → slice_get (cons_option o (filter_map f (zip (steps_from (first +ℤ pos 600) 600 n) us))) (i + 1)
          ≡ Some b
          → ((i : ℕ) → slice_get (filter_map f (zip (steps_from (first +ℤ pos 600) 600 n) us)) i ≡ Some a
          → slice_get (filter_map f (zip (steps_from (first +ℤ pos 600) 600 n) us)) (i + 1) ≡ Some b → s <ℤ t)
          → s <ℤ t
      at None tick i here next rest = rest i here next
      at (Some g) tick zero here next rest =
          let same : g ≡ a = cc in
          let start : Some s ≡ Some first = sym is ∙ ap (λ (g : Group). g.tick) (sym same) ∙ tick in
          let begun : s ≡ first = cc in
          subst (λ z. z <ℤ t) (sym begun)
          (first_later first t b (filter_map f (zip (steps_from (first +ℤ pos 600) 600 n) us))
          (later first (first +ℤ pos 600) n us (omega (arith, ints))) next then)
      at (Some g) tick (suc i) here next rest =
          let e : suc i + 1 ≡ suc (i + 1) = omega arith in
          rest i here
          (sym (ap (slice_get (g ∷ filter_map f (zip (steps_from (first +ℤ pos 600) 600 n) us))) e) ∙ next)

ten_ticked : (clock : Clock) (n channels : ℕ) (basics : List Basic) (p : ℤ × ℤ)
    → IfSome (ten_group clock n channels basics p.0 p.1) (λ g. g.tick ≡ Some p.0)
unfolding ten_group segment_of group_of
ten_ticked clock n channels basics p =
    at (first_between (is_front_from basics (tick_place clock n p.0)) 0 (length basics))
  where
    in_case : (b : Bool) (g : Group) → g.tick ≡ Some p.0 →
        IfSome (cond b (Some g) None) (λ g. g.tick ≡ Some p.0)
    in_case true g h = h
    in_case false g h = tt

    at : (o : Option ℕ) → IfSome (option_and_then
        (λ segment. cond (reaches (parts_of segment) (tick_place clock n p.1))
        (Some (group_of (Some p.0) channels (parts_of segment))) None)
        (option_map (segment_at basics) o)) (λ g. g.tick ≡ Some p.0)
    at None = tt
    at (Some k) = in_case (reaches (parts_of (segment_at basics k)) (tick_place clock n p.1))
        (group_of (Some p.0) channels (parts_of (segment_at basics k))) refl

-- the 10-minute intervals of basic intervals in order come in order themselves
pub tens_in_order : (clock : Clock) (n channels : ℕ) (basics : List Basic) → AreBasics clock n channels basics
    → AreTens clock n (ten_groups clock n channels basics)
unfolding ten_groups ticks
tens_in_order clock n channels basics are =
    let ten : ℤ × ℤ → Option Group = λ p. ten_group clock n channels basics p.0 p.1 in
    let ts = ticks clock n 600 in
    record {
      each = All-from_recursion (IsTen clock n) (filter_map ten (tick_pairs clock n 600))
          (kept_each (IsTen clock n) ten (tick_pairs clock n 600)
          (each_of (λ p. IsAmong p.0 ts) (λ p. IfSome (ten p) (IsTen clock n))
          (λ p h. ten_is clock n channels basics p.0 p.1 are.each
          ((ticks_exact clock n 600 (omega arith) p.0).0 (among_contains ts p.0 h)))
          (tick_pairs clock n 600) (firsts_among ts (drop 1 ts))));
      rise = rising ten (ten_ticked clock n channels basics) _ _ (drop 1 ts);
    }
