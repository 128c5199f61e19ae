-- What holds of each selection that is given: 1 to 16 rising positions of channels within the limit.
use Rattle.std.proofs.Common.{◌≡◌, ℕ, zero, suc, ◌+◌, ◌-◌, ◌<◌, ◌≤◌, ◌==◌, ◌&&◌, ◌||◌, Bool, true, false, cond, List, [], ◌∷◌, ◌++◌, length, length-append, Option, Some, None, Ok, Err, position, inl, inr, refl, sym, subst, ap, ◌∙◌, arith}
use Rattle.std.specs.Prelude.{filter, is_some, not, nat_lt, pos, slice_get, unwrap_or}
use Rattle.std.specs.List.{All, range_with_len, AllByRecursion}
use Rattle.std.specs.List.Sorted.{IsStrictlyIncreasing}
use Rattle.std.specs.Option.{option_map_or}
use Rattle.std.proofs.lemmas.Bool.{and_parts, both_ways, cases_eq, eqb-false, eqb-true, eq-eqb, leb-true, le-leb, ltb-true, ne_eqb, not-true, or_cases, or_left}
use Rattle.std.proofs.lemmas.Option.{slice_get_within}
use Rattle.std.proofs.lemmas.List.Elements.{All-append, All-cons, All-filter, All-from_recursion, All-head, All-nil, All-weaker, filter_passes, recursion_from_All}
use Rattle.std.proofs.lemmas.List.FromFn.{get_or-range_with_len, length-range_with_len}
use Rattle.std.proofs.lemmas.List.Kept.{IsStrictlyIncreasing-filter}
use Rattle.std.proofs.lemmas.List.Quantifiers.{position-Some}
use Rattle.pq_words.specs.FirstFault.{provided}
use Rattle.pq_words.proofs.ReadingLemmas.{bind_ok, provided_ok, some_ok}
use Rattle.comtrade_cfg.specs.declared.limits.TheConstants.{MOST_PICOVOLTS}
use Rattle.pq_words.specs.declared.limits.TheConstants.{MOST_SELECTED}
use Rattle.comtrade_cfg.specs.declared.cfg.Analogue.{Analogue}
use Rattle.comtrade_cfg.specs.declared.select_fault.SelectFault.TheVariants as fault
use Rattle.comtrade_cfg.specs.Configuration.{Configuration}
use Rattle.comtrade_cfg.specs.Selecting.{AreWithinLimit, GivesGoodSelections, IsGoodSelection, Selected, chosen_after, coefficients_at, coefficients_of, greatest_of, is_among, is_voltage_channel, is_within_value_limit, positions_of, reference_index, selected_of, unit_power, values_within_limit, voltage_channels}

-- ---- the wanted numbers

-- each chosen number is that of a channel in V or kV, and there are few of them
pub record AreGood (channels : List Analogue) (chosen : List ℕ) : Type 0 where
  pub volts : All (λ n. is_voltage_channel channels n ≡ true) chosen
  pub few : length chosen ≤ MOST_SELECTED

one_more : (channels : List Analogue) (good : List ℕ) (n : ℕ) → AreGood channels good →
    is_voltage_channel channels n ≡ true → length good < MOST_SELECTED → AreGood channels (good ++ n ∷ [])
one_more channels good n are volts room =
    let good_one : ℕ → Type 0 = λ n. is_voltage_channel channels n ≡ true in
    record {
      volts = All-append good_one good (n ∷ []) are.volts
          (All-cons good_one n [] volts (All-nil good_one));
      few = omega (arith, length-append good (n ∷ []), room);
    }

pub chosen_good : (channels : List Analogue) (good wanted chosen : List ℕ) → AreGood channels good →
    chosen_after channels good wanted ≡ Ok chosen → AreGood channels chosen
chosen_good channels good [] chosen are e = let same : good ≡ chosen = cc in subst (AreGood channels) same are
chosen_good channels good (n ∷ wanted) chosen are e =
    let once = bind_ok (provided (is_voltage_channel channels n && not (is_among good n))
    (fault.Channel n) n) _
    chosen e in
    let room = bind_ok (provided (nat_lt (length good) MOST_SELECTED) fault.TooMany n) _ chosen once.2 in
    let tests = provided_ok (is_voltage_channel channels n && not (is_among good n))
    (fault.Channel n) n once.0
    once.1 in
    let volts = and_parts (is_voltage_channel channels n) (not (is_among good n)) tests.0 in
    let left = provided_ok (nat_lt (length good) MOST_SELECTED) fault.TooMany n room.0 room.1 in
    chosen_good channels (good ++ n ∷ []) wanted chosen
    (one_more channels good n are volts.0 (ltb-true (length good) MOST_SELECTED left.0)) room.2

-- ---- their positions

-- positions that rise, from low on
rising_range : (low n : ℕ) → IsStrictlyIncreasing (range_with_len low n)
rising_range low n k inside =
    let size = length-range_with_len low n in
    rw (
      get_or-range_with_len low n k 0 (omega (arith, size)),
      get_or-range_with_len low n (k + 1) 0 (omega (arith, size)),
    ) (omega arith)

-- they are below the length
range_below : (low n most : ℕ) → low + n ≤ most → AllByRecursion (λ p. p < most) (range_with_len low n)
range_below low zero most within = tt
range_below low (suc n) most within = (omega arith, range_below (low + 1) n most (omega arith))

-- how many numbers pass a test
abbrev counts : (ℕ → Bool) → List ℕ → ℕ
counts p xs = length (filter p xs)

-- a test or another passes no more often than the two
counts_or : (p q : ℕ → Bool) (xs : List ℕ) → counts (λ n. p n || q n) xs ≤ counts p xs + counts q xs
counts_or p q [] = omega arith
counts_or p q (x ∷ xs) = at (p x) (q x) (counts_or p q xs)
  where
    at : (b c : Bool) → counts (λ n. p n || q n) xs ≤ counts p xs + counts q xs →
        length (cond (b || c) (x ∷ filter (λ n. p n || q n) xs) (filter (λ n. p n || q n) xs))
        ≤ length (cond b (x ∷ filter p xs) (filter p xs)) + length (cond c (x ∷ filter q xs) (filter q xs))
    at true true h = omega arith
    at true false h = omega arith
    at false true h = omega arith
    at false false h = omega arith

counts_none : (xs : List ℕ) → counts (λ n. false) xs ≡ 0
counts_none [] = refl
counts_none (x ∷ xs) = counts_none xs

-- one position at most is that of a number, and none that is greater
none_above : (low n number : ℕ) → number ≤ low → counts (λ p. number == p + 1) (range_with_len low n) ≡ 0
none_above low zero number within = refl
none_above low (suc n) number within =
    at (number == low + 1) (ne_eqb number (low + 1) (λ e. omega (arith, e)))
    (none_above (low + 1) n number (omega arith))
  where
    at : (b : Bool) → b ≡ false → counts (λ p. number == p + 1) (range_with_len (low + 1) n) ≡ 0 →
        length (cond b (low ∷ filter (λ p. number == p + 1) (range_with_len (low + 1) n))
        (filter (λ p. number == p + 1) (range_with_len (low + 1) n))) ≡ 0
    at true is none = absurd cc
    at false is none = none

once : (low n number : ℕ) → counts (λ p. number == p + 1) (range_with_len low n) ≤ 1
once low zero number = omega arith
once low (suc n) number = at (number == low + 1) refl (once (low + 1) n number)
  where
    at : (b : Bool) → (number == low + 1) ≡ b → counts (λ p. number == p + 1) (range_with_len
        (low + 1) n) ≤ 1 →
        length (cond b (low ∷ filter (λ p. number == p + 1) (range_with_len (low + 1) n))
        (filter (λ p. number == p + 1) (range_with_len (low + 1) n))) ≤ 1
    at true is rest =
        let none = none_above (low + 1) n number (omega (arith, eqb-true number (low + 1) is)) in
        omega (arith, none)
    at false is rest = rest

-- no more positions than numbers
few_positions : (chosen : List ℕ) (low n : ℕ) →
    counts (λ p. is_among chosen (p + 1)) (range_with_len low n) ≤ length chosen
few_positions [] low n = let none = counts_none (range_with_len low n) in omega (arith, none)
few_positions (number ∷ chosen) low n =
    let rest = few_positions chosen low n in
    let first = once low n number in
    let both = counts_or (λ p. number == p + 1) (λ p. is_among chosen (p + 1)) (range_with_len low n) in
    omega (arith, rest, first, both)

-- the position of a chosen number is among them
later : (low p : ℕ) → low ≤ p → (p ≡ low → ⊥) → low + 1 ≤ p
later low p from other = elim (cases_eq p low) [ inl e ↦ absurd (other e) | inr e ↦ omega (arith, from, e) ]

some_position : (chosen : List ℕ) (low n p : ℕ) → low ≤ p → p < low + n → is_among chosen (p + 1) ≡ true →
    0 < length (filter (λ p. is_among chosen (p + 1)) (range_with_len low n))
some_position chosen low zero p from until among = absurd (omega arith)
some_position chosen low (suc n) p from until among =
    at (is_among chosen (low + 1)) refl (λ after. some_position chosen (low + 1) n p after
    (omega arith) among)
  where
    at : (b : Bool) → is_among chosen (low + 1) ≡ b →
        (low + 1 ≤ p → 0 < length (filter (λ p. is_among chosen (p + 1)) (range_with_len (low + 1) n))) →
        0 < length (cond b (low ∷ filter (λ p. is_among chosen (p + 1)) (range_with_len (low + 1) n))
        (filter (λ p. is_among chosen (p + 1)) (range_with_len (low + 1) n)))
    at true is rest = omega arith
    at false is rest = rest (later low p from
        (λ e. both_ways (is_among chosen (low + 1)) is (subst (λ p. is_among chosen (p + 1) ≡ true) e among)))

positive : (n : ℕ) → (n ≡ 0 → ⊥) → 0 < n
positive zero other = absurd (other refl)
positive (suc n) other = omega arith

-- a number in V or kV is that of a channel
numbered : (channels : List Analogue) (n : ℕ) → is_voltage_channel channels n ≡ true →
    (0 < n) × (n - 1 < length channels)
numbered channels n volts = at (n == 0) refl
  where
    in_list : (o : Option Analogue) → slice_get channels (n - 1) ≡ o →
        option_map_or (λ c. is_some (unit_power c.unit)) o false ≡ true → n - 1 < length channels
    in_list None is e = absurd cc
    in_list (Some c) is e = slice_get_within channels (n - 1) c is

    at : (b : Bool) → (n == 0) ≡ b → (0 < n) × (n - 1 < length channels)
    at true is = absurd (both_ways false refl (sym (ap (λ b. option_map_or (λ c. is_some (unit_power c.unit))
        (cond b None (slice_get channels (n - 1))) false) is) ∙ volts))
    at false is =
        let got = ap (λ b. option_map_or (λ c. is_some (unit_power c.unit))
        (cond b None (slice_get channels (n - 1))) false) is in
        (positive n (eqb-false n 0 is), in_list (slice_get channels (n - 1)) refl (sym got ∙ volts))

some_chosen : (channels : List Analogue) (chosen : List ℕ) → AreGood channels chosen →
    (length chosen == 0) ≡ false → 0 < length (positions_of channels chosen)
some_chosen channels [] are e = absurd cc
some_chosen channels (n ∷ chosen) are e =
    let place = numbered channels n (All-head (λ n. is_voltage_channel channels n
    ≡ true) n chosen are.volts) in
    some_position (n ∷ chosen) 0 (length channels) (n - 1) (omega arith) (omega (arith, place.1))
    (or_left (n == n - 1 + 1) (is_among chosen (n - 1 + 1)) (eq-eqb n (n - 1 + 1) (omega (arith, place.0))))

-- what is chosen is in V or kV
among_good : (P : ℕ → Type 0) (chosen : List ℕ) (n : ℕ) → AllByRecursion P chosen → is_among chosen n ≡ true →
    P n
among_good P [] n are e = absurd cc
among_good P (m ∷ chosen) n are e = elim (or_cases (m == n) (is_among chosen n) e) [
  | inl is ↦ subst P (eqb-true m n is) are.0
  | inr later ↦ among_good P chosen n are.1 later
]

-- ---- their values

values_good : (channels : List Analogue) (positions : List ℕ) → values_within_limit channels positions
    ≡ Ok tt →
    AllByRecursion (λ p. option_map_or is_within_value_limit (slice_get channels p) true ≡ true) positions
values_good channels [] e = tt
values_good channels (p ∷ positions) e =
    at (option_map_or is_within_value_limit (slice_get channels p) true) refl e
    (values_good channels positions)
  where
    at : (b : Bool) → option_map_or is_within_value_limit (slice_get channels p) true ≡ b →
        cond b (values_within_limit channels positions) (Err (fault.Value (p + 3))) ≡ Ok tt →
        (values_within_limit channels positions ≡ Ok tt →
        AllByRecursion (λ p. option_map_or is_within_value_limit (slice_get channels p) true
        ≡ true) positions)
        → AllByRecursion (λ p. option_map_or is_within_value_limit (slice_get channels p) true ≡ true)
        (p ∷ positions)
    at true is e rest = (is, rest e)
    at false is e rest = absurd cc

-- a channel whose test passes
pub limit_kept : (channel : Analogue) → is_within_value_limit channel ≡ true →
    AreWithinLimit (coefficients_of channel)
limit_kept channel e = leb-true (greatest_of (coefficients_of channel)) MOST_PICOVOLTS e

-- and the test of a channel that is within the limit
pub limit_passes : (channel : Analogue) → AreWithinLimit (coefficients_of channel) →
    is_within_value_limit channel ≡ true
limit_passes channel within = le-leb (greatest_of (coefficients_of channel)) MOST_PICOVOLTS within

at_position : (o : Option Analogue) → option_map_or is_within_value_limit o true ≡ true →
    AreWithinLimit (option_map_or coefficients_of o (record { a = pos 0; b = pos 0 }))
at_position None e = omega arith
at_position (Some channel) e = limit_kept channel e

-- ---- the reference

reference_good : (positions : List ℕ) (reference : Option ℕ) (index : ℕ) → 0 < length positions →
    reference_index positions reference ≡ Ok index → index < length positions
reference_good positions None index some e = let same : 0 ≡ index = cc in subst
    (λ n. n < length positions) same some
reference_good positions (Some r) index some e =
    (position-Some (λ p. p + 1 == r) positions index 0
    (some_ok (position (λ p. p + 1 == r) positions) (fault.Channel r) index e)).0

-- ---- the whole

good : (c : Configuration) (chosen : List ℕ) (index : ℕ) (reference : Option ℕ) →
    AreGood c.analogue chosen → (length chosen == 0) ≡ false →
    reference_index (positions_of c.analogue chosen) reference ≡ Ok index →
    values_within_limit c.analogue (positions_of c.analogue chosen) ≡ Ok tt →
    IsGoodSelection c (record { positions = positions_of c.analogue chosen; reference = index })
good c chosen index reference are some index_is values_are =
    let size : ℕ = length c.analogue in
    let positions : List ℕ = positions_of c.analogue chosen in
    let among : ℕ → Bool = λ p. is_among chosen (p + 1) in
    let volts : ℕ → Type 0 = λ p. is_voltage_channel c.analogue (p + 1) ≡ true in
    let volts_of : ℕ → Type 0 = λ n. is_voltage_channel c.analogue n ≡ true in
    let there : ℕ → Type 0 = λ p. p < size in
    let limit : ℕ → Type 0 = λ p. option_map_or is_within_value_limit (slice_get c.analogue p) true ≡ true in
    let within : ℕ → Type 0 = λ p. AreWithinLimit (coefficients_at c p) in
    let has = some_chosen c.analogue chosen are some in
    record {
      some = has;
      few = omega (arith, few_positions chosen 0 size, are.few);
      rising = IsStrictlyIncreasing-filter among (range_with_len 0 size) (rising_range 0 size);
      there = All-filter among there (range_with_len 0 size)
          (All-from_recursion there (range_with_len 0 size) (range_below 0 size size (omega arith)));
      volts = All-weaker (λ p. among p ≡ true) volts
          (λ p is. among_good volts_of chosen (p + 1) (recursion_from_All volts_of chosen are.volts) is)
          positions (filter_passes among (range_with_len 0 size));
      within = All-weaker limit within (λ p is. at_position (slice_get c.analogue p) is) positions
          (All-from_recursion limit positions (values_good c.analogue positions values_are));
      reference = reference_good positions reference index has index_is;
    }

-- the law of selecting
pub selection_good : GivesGoodSelections
unfolding selected_of
selection_good c s (wanted, reference, e) =
    let numbers : List ℕ = unwrap_or wanted (voltage_channels c.analogue) in
    let chosen = bind_ok (chosen_after c.analogue [] numbers) _ s e in
    let some = bind_ok (provided (not (length chosen.0 == 0)) (fault.Channel 0) chosen.0) _ s chosen.2 in
    let positions : List ℕ = positions_of c.analogue chosen.0 in
    let index = bind_ok (reference_index positions reference) _ s some.2 in
    let values = bind_ok (values_within_limit c.analogue positions) _ s index.2 in
    let test = provided_ok (not (length chosen.0 == 0)) (fault.Channel 0) chosen.0 some.0 some.1 in
    let found : Selected = record { positions = positions; reference = index.0 } in
    let same : found ≡ s = cc in
    subst (IsGoodSelection c) same (good c chosen.0 index.0 reference
    (chosen_good c.analogue [] numbers chosen.0
    (record { volts = All-nil (λ n. is_voltage_channel c.analogue n ≡ true); few = omega arith }) chosen.1)
    (not-true (length chosen.0 == 0) test.0) index.1 values.1)
