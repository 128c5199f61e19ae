-- How many items of all lanes are merged: how a step changes it, and between which bounds it lies.
use Rattle.std.proofs.Common.{◌≡◌, ◌⊎◌, ℕ, zero, suc, ◌+◌, ◌*◌, ◌<◌, ◌≤◌, List, [], ◌∷◌, length, Option, Some, IsSome, option_and_then, slice_get, slice_index, slice_set, sum, sum_by, refl, sym, ◌∙◌, ap, subst, inl, inr, arith}
use Rattle.std.proofs.lemmas.List.Sums.{sum_by-cons}
use Rattle.freq10s.specs.declared.reading.Reading.{Reading}
use Rattle.interval_ledger.specs.Channel.{ChannelView, with_merged}
use Rattle.interval_ledger.specs.Count.{counts_of}
use Rattle.interval_ledger.specs.Heads.{HeadsArePosted, heads_of}
use Rattle.interval_ledger.specs.NextDue.{value_at}
use Rattle.interval_ledger.specs.Posted.{merged_of}
use Rattle.interval_ledger.specs.Settlement.{needed_items}
use Rattle.interval_ledger.proofs.CountLaws.{each_lane, set_got, some_is}
use Rattle.lanes.specs.Lane.{lane_count, need}
use Rattle.pq_base.specs.Recorded.{Recorded}
use Rattle.pq_sequence.specs.MeasuredRecording.{channel_count}
use Rattle.pq_words.specs.Steps.{numbers_from}

-- ---- sums

sum_cons : (x : ℕ) (xs : List ℕ) → sum (x ∷ xs) ≡ x + sum xs
sum_cons x xs = sum_by-cons (λ n. n) x xs

sum_two : (x y : ℕ) (xs : List ℕ) → sum (x ∷ y ∷ xs) ≡ x + y + sum xs
sum_two x y xs = let a = sum_cons x (y ∷ xs) in let b = sum_cons y xs in omega (arith, a, b)

-- what is at most each of some numbers in turn is in sum at most theirs
sum_most : (f : ℕ → ℕ) (low : ℕ) (xs : List ℕ) →
    ((i : ℕ) → i < length xs → f (low + i) ≤ slice_index xs i) →
    sum_by f (numbers_from low (length xs)) ≤ sum xs
unfolding numbers_from
sum_most f low [] each = omega arith
sum_most f low (x ∷ xs) each =
    let start : low + 0 ≡ low = omega arith in
    let first : f low ≤ x = subst (λ k. f k ≤ x) start (each 0 (omega arith)) in
    let rest = sum_most f (low + 1) xs (λ i inside.
    let next : low + suc i ≡ low + 1 + i = omega arith in
    subst (λ k. f k ≤ slice_index xs i) next (each (suc i) (omega (arith, inside)))) in
    let a = sum_by-cons f low (numbers_from (low + 1) (length xs)) in
    let b = sum_cons x xs in omega (arith, first, rest, a, b)

-- ---- heads by lane

heads-length : (channels : List ChannelView) (basics readings : ℕ) →
    length (heads_of channels basics readings) ≡ 2 * length channels + 1
heads-length [] basics readings = omega arith
heads-length (c ∷ cs) basics readings = let rest = heads-length cs basics readings in omega (arith, rest)

inside_cons : (c : ChannelView) (cs : List ChannelView) (p : ℕ) → suc p < length (c ∷ cs) → p < length cs
inside_cons c cs p inside = omega (arith, inside)

sampler_head : (channels : List ChannelView) (basics readings p : ℕ) → p < length channels →
    slice_index (heads_of channels basics readings) (2 * p) ≡ basics
sampler_head [] basics readings p inside = absurd (omega (arith, inside))
sampler_head (c ∷ cs) basics readings zero inside = refl
sampler_head (c ∷ cs) basics readings (suc p) inside =
    let twice : 2 * suc p ≡ suc (suc (2 * p)) = omega arith in
    ap (slice_index (basics ∷ c.merged ∷ heads_of cs basics readings)) twice
    ∙ sampler_head cs basics readings p (inside_cons c cs p inside)

detector_head : (channels : List ChannelView) (basics readings p : ℕ) → p < length channels →
    slice_index (heads_of channels basics readings) (2 * p + 1) ≡ merged_of channels p
detector_head [] basics readings p inside = absurd (omega (arith, inside))
detector_head (c ∷ cs) basics readings zero inside = refl
detector_head (c ∷ cs) basics readings (suc p) inside =
    let twice : 2 * suc p + 1 ≡ suc (suc (2 * p + 1)) = omega arith in
    ap (slice_index (basics ∷ c.merged ∷ heads_of cs basics readings)) twice
    ∙ detector_head cs basics readings p (inside_cons c cs p inside)

frequency_head : (channels : List ChannelView) (basics readings : ℕ) →
    slice_index (heads_of channels basics readings) (2 * length channels) ≡ readings
frequency_head [] basics readings = refl
frequency_head (c ∷ cs) basics readings =
    let twice : 2 * length (c ∷ cs) ≡ suc (suc (2 * length cs)) = omega arith in
    ap (slice_index (basics ∷ c.merged ∷ heads_of cs basics readings)) twice
    ∙ frequency_head cs basics readings

-- ---- bounds

-- where each lane has merged what a place needs, all have
module _ (r : Recorded) (w : ℕ) (channels : List ChannelView) (basics readings : ℕ)
    (many : length channels ≡ channel_count r)
    (samplers : (p : ℕ) → p < channel_count r → need r (2 * p) w ≤ basics)
    (detectors : (p : ℕ) → p < channel_count r → need r (2 * p + 1) w ≤ merged_of channels p)
    (frequency : need r (2 * channel_count r) w ≤ readings) where
  each_needed : (lane : ℕ) → lane < 2 * channel_count r + 1 →
      need r lane w ≤ slice_index (heads_of channels basics readings) lane
  each_needed =
      each_lane (channel_count r)
      (λ lane. need r lane w ≤ slice_index (heads_of channels basics readings) lane)
      (λ p inside. subst (λ n. need r (2 * p) w ≤ n)
      (sym (sampler_head channels basics readings p (omega (arith, inside, many)))) (samplers p inside))
      (λ p inside. subst (λ n. need r (2 * p + 1) w ≤ n)
      (sym (detector_head channels basics readings p (omega (arith, inside, many)))) (detectors p inside))
      (subst (λ n. need r (2 * channel_count r) w ≤ n)
      (sym (ap (λ n. slice_index (heads_of channels basics readings) (2 * n)) (sym many)
      ∙ frequency_head channels basics readings)) frequency)

  pub all_needed : needed_items r w ≤ sum (heads_of channels basics readings)
  all_needed =
      let heads = heads_of channels basics readings in
      let long : length heads ≡ lane_count r =
      heads-length channels basics readings ∙ ap (λ n. 2 * n + 1) many in
      subst (λ n. sum_by (λ lane. need r lane w) (numbers_from 0 n) ≤ sum heads) long
      (sum_most (λ lane. need r lane w) 0 heads
      (λ i inside. let same : 0 + i ≡ i = omega arith in
      subst (λ k. need r k w ≤ slice_index heads i) (sym same) (each_needed i (omega (arith, inside, long)))))

-- no more is merged than posted
pub most_merged : (channels : List ChannelView) (readings : List Reading) (basics merged : ℕ) →
    HeadsArePosted channels readings basics merged →
    sum (heads_of channels basics merged) ≤ sum (counts_of channels readings)
most_merged [] readings basics merged heads =
    let a = sum_cons merged [] in
    let b = sum_cons (length readings) [] in
    let few = heads.frequency in omega (arith, a, b, few)
most_merged (c ∷ cs) readings basics merged heads =
    let a = sum_two basics c.merged (heads_of cs basics merged) in
    let b = sum_two (length c.values.items) (length c.windows.items) (counts_of cs readings) in
    let values = heads.samplers 0 c refl in
    let windows = heads.detectors 0 c refl in
    let rest = most_merged cs readings basics merged (record {
      samplers = λ p d at. heads.samplers (suc p) d at;
      detectors = λ p d at. heads.detectors (suc p) d at;
      frequency = heads.frequency;
    }) in omega (arith, a, b, values, windows, rest)

-- ---- one window more

module _ (channels : List ChannelView) (readings : List Reading) (basics merged : ℕ) where
  pub heads_window : (p : ℕ) (c : ChannelView) → slice_get channels p ≡ Some c →
      c.merged < length c.windows.items → HeadsArePosted channels readings basics merged →
      HeadsArePosted (slice_set channels p (with_merged c)) readings basics merged
  heads_window p c at less heads = record {
    samplers = λ k d there. by_values k d (set_got channels p (with_merged c) k d there);
    detectors = λ k d there. by_windows k d (set_got channels p (with_merged c) k d there);
    frequency = heads.frequency;
  }
    where
      by_values : (k : ℕ) (d : ChannelView) →
          ((k ≡ p) × (with_merged c ≡ d)) ⊎ (slice_get channels k ≡ Some d) → basics ≤ length d.values.items
      by_values k d (inl same) =
          subst (λ (d : ChannelView). basics ≤ length d.values.items) same.1 (heads.samplers p c at)
      by_values k d (inr old) = heads.samplers k d old

      by_windows : (k : ℕ) (d : ChannelView) →
          ((k ≡ p) × (with_merged c ≡ d)) ⊎ (slice_get channels k ≡ Some d) →
          d.merged ≤ length d.windows.items
      by_windows k d (inl same) =
          subst (λ (d : ChannelView). d.merged ≤ length d.windows.items) same.1 (omega (arith, less))
      by_windows k d (inr old) = heads.detectors k d old

pub more_window : (channels : List ChannelView) (basics readings p : ℕ) (c : ChannelView) →
    slice_get channels p ≡ Some c →
    sum (heads_of (slice_set channels p (with_merged c)) basics readings)
    ≡ sum (heads_of channels basics readings) + 1
more_window [] basics readings zero c at = absurd (let bad : ⊥ = cc in bad)
more_window [] basics readings (suc p) c at = absurd (let bad : ⊥ = cc in bad)
more_window (d ∷ ds) basics readings zero c at =
    let a = sum_two basics (c.merged + 1) (heads_of ds basics readings) in
    let b = sum_two basics d.merged (heads_of ds basics readings) in
    let same = ap (λ (c : ChannelView). c.merged) (some_is d c at) in omega (arith, a, b, same)
more_window (d ∷ ds) basics readings (suc p) c at =
    let a = sum_two basics d.merged (heads_of (slice_set ds p (with_merged c)) basics readings) in
    let b = sum_two basics d.merged (heads_of ds basics readings) in
    let rest = more_window ds basics readings p c at in omega (arith, a, b, rest)

-- ---- one basic interval more

some_inside : {X : Type 0} (xs : List X) (k : ℕ) → IsSome (slice_get xs k) → k < length xs
some_inside [] zero some = absurd (let bad : ⊥ = cc in bad)
some_inside [] (suc k) some = absurd (let bad : ⊥ = cc in bad)
some_inside (x ∷ xs) zero some = omega arith
some_inside (x ∷ xs) (suc k) some = let less = some_inside xs k some in omega (arith, less)

got_inside : {X : Type 0} (xs : List X) (k : ℕ) (x : X) → slice_get xs k ≡ Some x → k < length xs
got_inside [] zero x is = absurd (let bad : ⊥ = cc in bad)
got_inside [] (suc k) x is = absurd (let bad : ⊥ = cc in bad)
got_inside (y ∷ ys) zero x is = omega arith
got_inside (y ∷ ys) (suc k) x is = let less = got_inside ys k x is in omega (arith, less)

pub heads_basic : (channels : List ChannelView) (readings : List Reading) (basics merged count : ℕ) →
    count ≡ basics + 1 → ((p : ℕ) → p < length channels → IsSome (value_at channels basics p)) →
    HeadsArePosted channels readings basics merged → HeadsArePosted channels readings count merged
heads_basic channels readings basics merged count more each heads = record {
  samplers = λ p c at.
      let there : IsSome (slice_get c.values.items basics) =
      subst (λ (o : Option ChannelView). IsSome (option_and_then
      (λ (c : ChannelView). slice_get c.values.items basics) o)) at (each p (got_inside channels p c at)) in
      let less = some_inside c.values.items basics there in omega (arith, less, more);
  detectors = heads.detectors;
  frequency = heads.frequency;
}

pub more_basic : (channels : List ChannelView) (basics readings count : ℕ) → count ≡ basics + 1 →
    sum (heads_of channels count readings) ≡ sum (heads_of channels basics readings) + length channels
more_basic [] basics readings count more = omega arith
more_basic (c ∷ cs) basics readings count more =
    let a = sum_two count c.merged (heads_of cs count readings) in
    let b = sum_two basics c.merged (heads_of cs basics readings) in
    let rest = more_basic cs basics readings count more in omega (arith, a, b, rest, more)

-- ---- one reading more

pub more_reading : (channels : List ChannelView) (basics readings count : ℕ) → count ≡ readings + 1 →
    sum (heads_of channels basics count) ≡ sum (heads_of channels basics readings) + 1
more_reading [] basics readings count more =
    let a = sum_cons count [] in let b = sum_cons readings [] in omega (arith, a, b, more)
more_reading (c ∷ cs) basics readings count more =
    let a = sum_two basics c.merged (heads_of cs basics count) in
    let b = sum_two basics c.merged (heads_of cs basics readings) in
    let rest = more_reading cs basics readings count more in omega (arith, a, b, rest)

-- ---- a post

-- nothing more is merged where each channel has merged as much
pub heads_stay : (xs ys : List ChannelView) (basics readings : ℕ) → length xs ≡ length ys →
    ((c : ℕ) → merged_of xs c ≡ merged_of ys c) → heads_of xs basics readings ≡ heads_of ys basics readings
heads_stay [] [] basics readings long same = refl
heads_stay [] (y ∷ ys) basics readings long same = absurd (omega (arith, long))
heads_stay (x ∷ xs) [] basics readings long same = absurd (omega (arith, long))
heads_stay (x ∷ xs) (y ∷ ys) basics readings long same =
    ap (λ n. basics ∷ n ∷ heads_of xs basics readings) (same 0)
    ∙ ap (λ ns. basics ∷ y.merged ∷ ns)
    (heads_stay xs ys basics readings (omega (arith, long)) (λ c. same (suc c)))

-- nothing is merged at first
pub heads_none : (channels : List ChannelView) → ((c : ℕ) → merged_of channels c ≡ 0) →
    sum (heads_of channels 0 0) ≡ 0
heads_none [] none = refl
heads_none (c ∷ cs) none =
    let a = sum_two 0 c.merged (heads_of cs 0 0) in
    let here = none 0 in
    let rest = heads_none cs (λ k. none (suc k)) in omega (arith, a, here, rest)
