-- The magnitude of a rounded decimal, and the values of chosen channels judged one after another.
use Rattle.std.proofs.Common.{◌≡◌, ℕ, zero, suc, ◌+◌, ◌-◌, ◌<◌, ◌≤◌, ◌&&◌, Bool, true, false, List, ◌∷◌, length, get_or, Err, refl, ap, arith}
use Rattle.std.specs.Prelude.{unsigned_abs, not, if◌then◌else◌, filter, slice_get, Some}
use Rattle.std.specs.Option.{option_map_or}
use Rattle.std.specs.List.{range_with_len}
use Rattle.std.proofs.lemmas.Option.{slice_get_read}
use Rattle.std.proofs.lemmas.List.Sums.{length-filter, count_by-le-length}
use Rattle.std.proofs.lemmas.List.FromFn.{length-range_with_len}
use Rattle.pq_base.specs.Decimal.{with_sign}
use Rattle.comtrade_cfg.specs.declared.cfg.Analogue.{Analogue}
use Rattle.comtrade_cfg.specs.declared.select_fault.SelectFault.TheVariants as fault
use Rattle.comtrade_cfg.specs.Selecting.{values_within_limit, positions_of, is_among, is_within_value_limit}

-- the sign takes nothing from the magnitude
pub sign_abs : (negative : Bool) (n : ℕ) → unsigned_abs (with_sign negative n) ≡ n
sign_abs true zero = refl
sign_abs true (suc n) = refl
sign_abs false n = refl

-- the chosen positions from i on
abbrev pub chosen_from : List Analogue → List ℕ → ℕ → List ℕ
chosen_from channels chosen i = filter (λ p. is_among chosen (p + 1)) (range_with_len i (length channels - i))

judge_more : (among within : Bool) (channels : List Analogue) (i : ℕ) (more : List ℕ) →
    option_map_or is_within_value_limit (slice_get channels i) true ≡ within
    → (among && not within) ≡ false → values_within_limit channels (if among then i ∷ more else more)
    ≡ values_within_limit channels more
judge_more true true channels i more is e = rw is refl
judge_more true false channels i more is e = absurd cc
judge_more false within channels i more is e = refl

judge_stop : (among within : Bool) (channels : List Analogue) (i : ℕ) (more : List ℕ) →
    option_map_or is_within_value_limit (slice_get channels i) true ≡ within
    → (among && not within) ≡ true → values_within_limit channels (if among then i ∷ more else more)
    ≡ Err (fault.Value (i + 3))
judge_stop true true channels i more is e = absurd cc
judge_stop true false channels i more is e = rw is refl
judge_stop false within channels i more is e = absurd cc

got : (channels : List Analogue) (i : ℕ) (ch : Analogue) → slice_get channels i ≡ Some ch →
    option_map_or is_within_value_limit (slice_get channels i) true ≡ is_within_value_limit ch
got channels i ch is = ap (λ o. option_map_or is_within_value_limit o true) is

-- a channel that is not past the limit
pub judged_more : (channels : List Analogue) (chosen : List ℕ) (i : ℕ) (ch : Analogue) → i < length channels →
    ch ≡ get_or channels i ch → (is_among chosen (i + 1) && not (is_within_value_limit ch)) ≡ false
    → values_within_limit channels (chosen_from channels chosen i)
    ≡ values_within_limit channels (chosen_from channels chosen (i + 1))
judged_more channels chosen i ch inside is e =
    let k : length channels - i ≡ suc (length channels - (i + 1)) = omega arith in
    rw k (judge_more (is_among chosen (i + 1)) (is_within_value_limit ch) channels i
    (chosen_from channels chosen (i + 1)) (got channels i ch
    (slice_get_read channels (length channels) i ch refl inside is)) e)

-- a channel past the limit
pub judged_stop : (channels : List Analogue) (chosen : List ℕ) (i : ℕ) (ch : Analogue) → i < length channels →
    ch ≡ get_or channels i ch → (is_among chosen (i + 1) && not (is_within_value_limit ch)) ≡ true
    → values_within_limit channels (chosen_from channels chosen i) ≡ Err (fault.Value (i + 3))
judged_stop channels chosen i ch inside is e =
    let k : length channels - i ≡ suc (length channels - (i + 1)) = omega arith in
    rw k (judge_stop (is_among chosen (i + 1)) (is_within_value_limit ch) channels i
    (chosen_from channels chosen (i + 1)) (got channels i ch
    (slice_get_read channels (length channels) i ch refl inside is)) e)

-- no more positions than channels
pub few_chosen : (channels : List Analogue) (chosen : List ℕ) →
    length (positions_of channels chosen) ≤ length channels
few_chosen channels chosen =
    let p : ℕ → Bool = λ p. is_among chosen (p + 1) in
    let xs = range_with_len 0 (length channels) in
    omega (arith, length-filter p xs, length-range_with_len 0 (length channels), count_by-le-length p xs)
