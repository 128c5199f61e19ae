-- What a sum holds after one more interval, and the interval that it gives.
use Rattle.std.proofs.Common.{◌≡◌, ◌≢◌, ◌⊎◌, ℕ, zero, suc, ◌+◌, ◌-◌, ◌*◌, ◌/◌, ◌^◌, ◌<◌, ◌≤◌, Bool, true, false, cond, ◌||◌, nat_lt, List, [], ◌∷◌, ◌++◌, length, map, sum_by, ℤ, Option, Some, slice_get, slice_index, get_or, refl, sym, ◌∙◌, ap, inl, inr, arith}
use Rattle.std.specs.List.{list_any}
use Rattle.std.specs.Option.{option_map_or}
use Rattle.std.proofs.lemmas.Bool.{cases_lt}
use Rattle.std.proofs.lemmas.List.{get_or_default, get_or_past, length-map, length_push}
use Rattle.std.proofs.lemmas.List.Folds.{list_any-append}
use Rattle.std.proofs.lemmas.List.FromFn.{fill_by_all}
use Rattle.std.proofs.lemmas.List.Sums.{sum_by-cons, sum_by_push}
use Rattle.aggregate.specs.Aggregation.{Part, channel_root, first_start, group_of, last_end}
use Rattle.aggregate.specs.BasicOrder.{AreQuiet}
use Rattle.aggregate.specs.Sum.{HasSummed, IsSum, SumView}
use Rattle.fixed_rms.specs.Root.{isqrt, mean_of_squares, root_mean, square}
use Rattle.fixed_rms.proofs.RootLaws.{square_within}
use Rattle.pq_words.specs.declared.limits.TheConstants.{MOST_MICROVOLTS, MOST_SAMPLES}
use Rattle.pq_words.specs.Steps.{numbers_below, numbers_from}

-- ---- one more interval

first_kept : (parts : List Part) (p : Part) → 0 < length parts → first_start (parts ++ p ∷ [])
    ≡ first_start parts
first_kept [] p some = absurd (omega (arith, some))
first_kept (q ∷ qs) p some = refl

get_last : (parts : List Part) (p : Part) → slice_get (parts ++ p ∷ []) (length parts) ≡ Some p
get_last [] p = refl
get_last (q ∷ qs) p = get_last qs p

last_new : (parts : List Part) (p : Part) → last_end (parts ++ p ∷ []) ≡ p.end
last_new parts p =
    let at : length (parts ++ p ∷ []) - 1 ≡ length parts = omega (arith, length_push parts p) in
    ap (λ k. option_map_or (λ (p : Part). p.end) (slice_get (parts ++ p ∷ []) k) 0) at
    ∙ ap (λ o. option_map_or (λ (p : Part). p.end) o 0) (get_last parts p)

or_nothing : (b : Bool) → (b || false) ≡ b
or_nothing true = refl
or_nothing false = refl

flag_new : (parts : List Part) (p : Part) → list_any (λ (p : Part). p.flagged) (parts ++ p ∷ [])
    ≡ (list_any (λ (p : Part). p.flagged) parts || p.flagged)
flag_new parts p = list_any-append (λ (p : Part). p.flagged) parts (p ∷ [])
    ∙ ap (λ b. list_any (λ (p : Part). p.flagged) parts || b) (or_nothing p.flagged)

-- the sum after one more interval: the first one's start is there already, but for no interval
pub summed_more : (old : SumView) (start : ℕ) (flagged : Bool) (squares : List ℕ) (parts : List Part)
    (p : Part)
    → HasSummed old parts
    → ((old.count ≡ 0) × (start ≡ p.start)) ⊎ ((old.count ≢ 0) × (start ≡ old.start))
    → flagged ≡ (old.flagged || p.flagged)
    → ((k : ℕ) → slice_index squares k ≡ slice_index old.squares k + square (slice_index p.values k))
    → HasSummed (record {
      start = start;
      end = p.end;
      count = old.count + 1;
      flagged = flagged;
      squares = squares;
    }) (parts ++ p ∷ [])
summed_more old start flagged squares parts p h begun flag added = record {
  first = first_is parts h begun;
  last = sym (last_new parts p);
  number = omega (arith, length_push parts p, h.number);
  flag = flag ∙ ap (λ b. b || p.flagged) h.flag ∙ sym (flag_new parts p);
  total = λ k inside.
      added k ∙ ap (λ n. n + square (slice_index p.values k)) (h.total k inside)
      ∙ sym (sum_by_push (λ (p : Part). square (slice_index p.values k)) parts p);
}
  where
    first_is : (parts : List Part) → HasSummed old parts
        → ((old.count ≡ 0) × (start ≡ p.start)) ⊎ ((old.count ≢ 0) × (start ≡ old.start))
        → start ≡ first_start (parts ++ p ∷ [])
    first_is [] h (inl none) = none.1
    first_is [] h (inr some) = absurd (some.0 h.number)
    first_is (q ∷ qs) h (inl none) = absurd (omega (arith, none.0, h.number))
    first_is (q ∷ qs) h (inr some) = some.1 ∙ h.first

-- of no interval
pub summed_none : (zeros : List ℕ) → ((k : ℕ) → slice_index zeros k ≡ 0) → HasSummed (record {
  start = 0;
  end = 0;
  count = 0;
  flagged = false;
  squares = zeros;
}) []
summed_none zeros none = record {
  first = refl;
  last = refl;
  number = refl;
  flag = refl;
  total = λ k inside. none k;
}

-- ---- in range

pub quiet_at : (values : List ℕ) (k : ℕ) → AreQuiet values → slice_index values k ≤ MOST_MICROVOLTS
quiet_at values k quiet = elim (cases_lt k (length values)) [
  | inl inside ↦ quiet k 0 inside
  | inr past ↦ omega (arith, get_or_past values k 0 past)
]

-- one more square to each sum
pub in_range : (count : ℕ) (old squares values : List ℕ) → count < MOST_SAMPLES → IsSum count old
    → AreQuiet values → length old ≡ length squares
    → ((k : ℕ) → slice_index squares k ≡ slice_index old k + square (slice_index values k))
    → IsSum (count + 1) squares
in_range count old squares values room is quiet long added = record {
  short = omega (arith, room);
  quiet = λ k d inside.
      let here : get_or squares k d ≡ get_or squares k 0 = get_or_default squares k d 0 inside in
      let before : get_or old k 0 ≤ count * MOST_MICROVOLTS ^ 2 =
      is.quiet k 0 (omega (arith, inside, long)) in
      let more : square (slice_index values k) ≤ MOST_MICROVOLTS ^ 2 =
      square_within (slice_index values k) (quiet_at values k quiet) in
      let sum : get_or squares k 0 ≡ get_or old k 0 + square (slice_index values k) = added k in
      omega (arith, here, before, more, sum);
}

-- ---- the interval that contains them

maps_below : {X : Type 0} (f g : ℕ → X) (low n : ℕ) → ((k : ℕ) → k < low + n → f k ≡ g k)
    → map f (numbers_from low n) ≡ map g (numbers_from low n)
unfolding numbers_from
maps_below f g low zero same = refl
maps_below f g low (suc n) same =
    ap (λ x. x ∷ map f (numbers_from (low + 1) n)) (same low (omega arith))
    ∙ ap (λ xs. g low ∷ xs) (maps_below f g (low + 1) n (λ k below. same k (omega (arith, below))))

sum_of_mapped : {X : Type 0} (f : ℕ → ℕ) (g : X → ℕ) (xs : List X) → sum_by f (map g xs)
    ≡ sum_by (λ x. f (g x)) xs
sum_of_mapped f g [] = refl
sum_of_mapped f g (x ∷ xs) =
    sum_by-cons f (g x) (map g xs) ∙ ap (λ n. f (g x) + n) (sum_of_mapped f g xs)
    ∙ sym (sum_by-cons (λ x. f (g x)) x xs)

root_is : (s : SumView) (parts : List Part) → HasSummed s parts → (k : ℕ) → k < 16
    → isqrt (slice_index s.squares k / s.count) ≡ root_mean (map (λ (p : Part). slice_index p.values k) parts)
unfolding root_mean mean_of_squares
root_is s parts h k inside =
    let value : Part → ℕ = λ p. slice_index p.values k in
    ap (λ n. isqrt (slice_index s.squares k / n)) (h.number ∙ sym (length-map parts value))
    ∙ ap (λ n. isqrt (n / length (map value parts)))
    (h.total k inside ∙ sym (sum_of_mapped square value parts))

pub group_is : (tick : Option ℤ) (channels : ℕ) (s : SumView) (values : List ℕ) (parts : List Part)
    → HasSummed s parts
    → values ≡ map (λ k. cond (nat_lt k channels) (isqrt (slice_index s.squares k / s.count)) 0)
    (numbers_below 16)
    → record {
      tick = tick;
      start = s.start;
      end = s.end;
      count = s.count;
      flagged = s.flagged;
      values = values;
    } ≡ group_of tick channels parts
unfolding group_of
group_is tick channels s values parts h made =
    let roots : values ≡ map (channel_root channels parts) (numbers_below 16) =
    made ∙ maps_below (λ k. cond (nat_lt k channels) (isqrt (slice_index s.squares k / s.count)) 0)
    (channel_root channels parts) 0 16
    (λ k below. ap (λ r. cond (nat_lt k channels) r 0) (root_is s parts h k (omega (arith, below)))) in
    let first = h.first in
    let last = h.last in
    let number = h.number in
    let flag = h.flag in
    cc

-- what an array of sixteen has at each index
pub sixteen : (f : ℕ → ℕ) (xs : List ℕ) → length xs ≡ 16 → ((k : ℕ) → k < 16 → slice_index xs k ≡ f k)
    → xs ≡ map f (numbers_below 16)
unfolding numbers_from
sixteen f xs long each = fill_by_all f xs 16 0 long each
