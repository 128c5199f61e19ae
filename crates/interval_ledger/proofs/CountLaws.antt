-- How many items of each lane are posted, and which queue an item of a lane belongs to.
use Rattle.std.proofs.Common.{◌≡◌, ◌≢◌, ◌⊎◌, ℕ, zero, suc, ◌+◌, ◌*◌, ◌/◌, ◌%◌, ◌<◌, ◌≤◌, ◌==◌, Bool, true, false, cond, nat_lt, List, [], ◌∷◌, length, Option, None, Some, option_map, slice_get, slice_index, slice_set, refl, sym, ◌∙◌, ap, subst, inl, inr, arith}
use Rattle.std.proofs.lemmas.Bool.{cases_lt}
use Rattle.std.proofs.lemmas.Bool.Decides.{nat_tests}
use Rattle.event_detect.specs.declared.window.Window.{Window}
use Rattle.freq10s.specs.declared.reading.Reading.{Reading}
use Rattle.interval_ledger.specs.Channel.{ChannelView}
use Rattle.interval_ledger.specs.Count.{counts_of}
use Rattle.interval_ledger.proofs.HeadLaws.{get_mapped}
use Rattle.lanes.specs.declared.lane_item.LaneItem.{LaneItem}
use Rattle.lanes.specs.declared.lane_item.LaneItem.TheVariants as item
use Rattle.lanes.specs.Lane.{detector_items, frequency_items, lane_items, recorded_readings, recorded_runs, sampler_items, value_of, windows_at}
use Rattle.pq_base.specs.Recorded.{Recorded}
use Rattle.pq_sequence.specs.MeasuredRecording.{channel_count}
use Rattle.ten_twelve.specs.declared.span.Span.{Span}

-- ---- lists by index

pub some_is : {X : Type 0} (x y : X) → Some x ≡ Some y → x ≡ y
some_is x y e = cc

-- an element of a list of which one was set: that one, or an element of the old list
pub set_got : {X : Type 0} (xs : List X) (p : ℕ) (y : X) (k : ℕ) (z : X) →
    slice_get (slice_set xs p y) k ≡ Some z → ((k ≡ p) × (y ≡ z)) ⊎ (slice_get xs k ≡ Some z)
set_got [] zero y k z is = inr is
set_got [] (suc p) y k z is = inr is
set_got (x ∷ xs) zero y zero z is = inl (refl, some_is y z is)
set_got (x ∷ xs) zero y (suc k) z is = inr is
set_got (x ∷ xs) (suc p) y zero z is = inr is
set_got {X} (x ∷ xs) (suc p) y (suc k) z is = shifted (set_got xs p y k z is)
  where
    shifted : ((k ≡ p) × (y ≡ z)) ⊎ (slice_get xs k ≡ Some z) →
        ((suc k ≡ suc p) × (y ≡ z)) ⊎ (slice_get xs k ≡ Some z)
    shifted (inl h) = inl (ap suc h.0, h.1)
    shifted (inr h) = inr h

-- ---- lanes by number

-- a number is twice another or one more
half : (n : ℕ) → (p : ℕ) × ((n ≡ 2 * p) ⊎ (n ≡ 2 * p + 1))
half zero = (0, inl refl)
half (suc n) = next (half n).0 (half n).1
  where
    next : (p : ℕ) → (n ≡ 2 * p) ⊎ (n ≡ 2 * p + 1) → (p : ℕ) × ((suc n ≡ 2 * p) ⊎ (suc n ≡ 2 * p + 1))
    next p (inl e) = (p, inr (omega (arith, e)))
    next p (inr e) = (p + 1, inl (omega (arith, e)))

-- what holds of each sampler's lane, each detector's and the last holds of each lane
pub each_lane : (n : ℕ) (P : ℕ → Type 0) → ((p : ℕ) → p < n → P (2 * p)) → ((p : ℕ) → p < n → P (2 * p + 1)) →
    P (2 * n) → (lane : ℕ) → lane < 2 * n + 1 → P lane
each_lane n P even odd last lane inside = at (half lane).0 (half lane).1
  where
    below : (p : ℕ) → lane ≡ 2 * p → (p < n) ⊎ (n ≤ p) → P lane
    below p e (inl less) = subst P (sym e) (even p less)
    below p e (inr past) = let is : 2 * n ≡ lane = omega (arith, e, past, inside) in subst P is last

    at : (p : ℕ) → (lane ≡ 2 * p) ⊎ (lane ≡ 2 * p + 1) → P lane
    at p (inl e) = below p e (cases_lt p n)
    at p (inr e) = subst P (sym e) (odd p (omega (arith, e, inside)))

-- ---- counts

-- as many as two of each channel and one more
pub counts-length : (channels : List ChannelView) (readings : List Reading) →
    length (counts_of channels readings) ≡ 2 * length channels + 1
counts-length [] readings = omega arith
counts-length (c ∷ cs) readings = let rest = counts-length cs readings in omega (arith, rest)

pub sampler_count : (channels : List ChannelView) (readings : List Reading) (lane p : ℕ) (c : ChannelView) →
    lane ≡ 2 * p → slice_get channels p ≡ Some c →
    slice_index (counts_of channels readings) lane ≡ length c.values.items
sampler_count [] readings lane zero c is at = absurd (let bad : ⊥ = cc in bad)
sampler_count [] readings lane (suc p) c is at = absurd (let bad : ⊥ = cc in bad)
sampler_count (d ∷ ds) readings zero zero c is at = ap (λ c. length c.values.items) (some_is d c at)
sampler_count (d ∷ ds) readings (suc lane) zero c is at = absurd (omega (arith, is))
sampler_count (d ∷ ds) readings zero (suc p) c is at = absurd (omega (arith, is))
sampler_count (d ∷ ds) readings (suc zero) (suc p) c is at = absurd (omega (arith, is))
sampler_count (d ∷ ds) readings (suc (suc lane)) (suc p) c is at =
    sampler_count ds readings lane p c (omega (arith, is)) at

pub detector_count : (channels : List ChannelView) (readings : List Reading) (lane p : ℕ) (c : ChannelView) →
    lane ≡ 2 * p + 1 → slice_get channels p ≡ Some c →
    slice_index (counts_of channels readings) lane ≡ length c.windows.items
detector_count [] readings lane zero c is at = absurd (let bad : ⊥ = cc in bad)
detector_count [] readings lane (suc p) c is at = absurd (let bad : ⊥ = cc in bad)
detector_count (d ∷ ds) readings zero p c is at = absurd (omega (arith, is))
detector_count (d ∷ ds) readings (suc zero) zero c is at = ap (λ c. length c.windows.items) (some_is d c at)
detector_count (d ∷ ds) readings (suc zero) (suc p) c is at = absurd (omega (arith, is))
detector_count (d ∷ ds) readings (suc (suc lane)) zero c is at = absurd (omega (arith, is))
detector_count (d ∷ ds) readings (suc (suc lane)) (suc p) c is at =
    detector_count ds readings lane p c (omega (arith, is)) at

pub frequency_count : (channels : List ChannelView) (readings : List Reading) (lane : ℕ) →
    lane ≡ 2 * length channels → slice_index (counts_of channels readings) lane ≡ length readings
frequency_count [] readings zero is = refl
frequency_count [] readings (suc lane) is = absurd (omega (arith, is))
frequency_count (c ∷ cs) readings zero is = absurd (omega (arith, is))
frequency_count (c ∷ cs) readings (suc zero) is = absurd (omega (arith, is))
frequency_count (c ∷ cs) readings (suc (suc lane)) is = frequency_count cs readings lane (omega (arith, is))

-- one more of a sampler, of a detector and of the frequency lane
pub sampler_more : (channels : List ChannelView) (readings : List Reading) (lane p : ℕ)
    (c new : ChannelView) (many : ℕ) → lane ≡ 2 * p → slice_get channels p ≡ Some c →
    length new.values.items ≡ many → length new.windows.items ≡ length c.windows.items →
    counts_of (slice_set channels p new) readings ≡ slice_set (counts_of channels readings) lane many
sampler_more [] readings lane zero c new many is at more same = absurd (let bad : ⊥ = cc in bad)
sampler_more [] readings lane (suc p) c new many is at more same = absurd (let bad : ⊥ = cc in bad)
sampler_more (d ∷ ds) readings zero zero c new many is at more same =
    ap (λ n. n ∷ length new.windows.items ∷ counts_of ds readings) more
    ∙ ap (λ n. many ∷ n ∷ counts_of ds readings)
    (same ∙ sym (ap (λ c. length c.windows.items) (some_is d c at)))
sampler_more (d ∷ ds) readings (suc lane) zero c new many is at more same = absurd (omega (arith, is))
sampler_more (d ∷ ds) readings zero (suc p) c new many is at more same = absurd (omega (arith, is))
sampler_more (d ∷ ds) readings (suc zero) (suc p) c new many is at more same = absurd (omega (arith, is))
sampler_more (d ∷ ds) readings (suc (suc lane)) (suc p) c new many is at more same =
    ap (λ ns. length d.values.items ∷ length d.windows.items ∷ ns)
    (sampler_more ds readings lane p c new many (omega (arith, is)) at more same)

pub detector_more : (channels : List ChannelView) (readings : List Reading) (lane p : ℕ)
    (c new : ChannelView) (many : ℕ) → lane ≡ 2 * p + 1 → slice_get channels p ≡ Some c →
    length new.windows.items ≡ many → length new.values.items ≡ length c.values.items →
    counts_of (slice_set channels p new) readings ≡ slice_set (counts_of channels readings) lane many
detector_more [] readings lane zero c new many is at more same = absurd (let bad : ⊥ = cc in bad)
detector_more [] readings lane (suc p) c new many is at more same = absurd (let bad : ⊥ = cc in bad)
detector_more (d ∷ ds) readings zero p c new many is at more same = absurd (omega (arith, is))
detector_more (d ∷ ds) readings (suc zero) zero c new many is at more same =
    ap (λ n. length new.values.items ∷ n ∷ counts_of ds readings) more
    ∙ ap (λ n. n ∷ many ∷ counts_of ds readings)
    (same ∙ sym (ap (λ c. length c.values.items) (some_is d c at)))
detector_more (d ∷ ds) readings (suc zero) (suc p) c new many is at more same = absurd (omega (arith, is))
detector_more (d ∷ ds) readings (suc (suc lane)) zero c new many is at more same = absurd (omega (arith, is))
detector_more (d ∷ ds) readings (suc (suc lane)) (suc p) c new many is at more same =
    ap (λ ns. length d.values.items ∷ length d.windows.items ∷ ns)
    (detector_more ds readings lane p c new many (omega (arith, is)) at more same)

pub frequency_more : (channels : List ChannelView) (old new : List Reading) (lane : ℕ) →
    lane ≡ 2 * length channels →
    counts_of channels new ≡ slice_set (counts_of channels old) lane (length new)
frequency_more [] old new zero is = refl
frequency_more [] old new (suc lane) is = absurd (omega (arith, is))
frequency_more (c ∷ cs) old new zero is = absurd (omega (arith, is))
frequency_more (c ∷ cs) old new (suc zero) is = absurd (omega (arith, is))
frequency_more (c ∷ cs) old new (suc (suc lane)) is =
    ap (λ ns. length c.values.items ∷ length c.windows.items ∷ ns)
    (frequency_more cs old new lane (omega (arith, is)))

-- ---- the lane of an item

module _ (r : Recorded) (lane k : ℕ) where
  abbrev by_tests : Bool → Bool → Bool → List LaneItem
  by_tests within even last =
      cond within (cond even (sampler_items r (lane / 2)) (detector_items r (lane / 2)))
      (cond last (frequency_items r) [])

  -- a lane is that of a sampler, of a detector or of frequency, or it has no items
  pub kind_of_lane : (P : Type 0) →
      (lane ≡ 2 * (lane / 2) → lane / 2 < channel_count r →
      lane_items r lane ≡ sampler_items r (lane / 2) → P) →
      (lane ≡ 2 * (lane / 2) + 1 → lane / 2 < channel_count r →
      lane_items r lane ≡ detector_items r (lane / 2) → P) →
      (lane ≡ 2 * channel_count r → lane_items r lane ≡ frequency_items r → P) →
      (lane_items r lane ≡ [] → P) → P
  unfolding lane_items
  kind_of_lane P sampler detector frequency none =
      at (nat_lt lane (2 * channel_count r)) (lane % 2 == 0) (lane == 2 * channel_count r) refl refl refl
    where
      inside : nat_lt lane (2 * channel_count r) ≡ true → lane / 2 < channel_count r
      inside is = let less : lane < 2 * channel_count r = grind (arith, nat_tests, is) in omega (arith, less)

      twice : (lane % 2 == 0) ≡ true → lane ≡ 2 * (lane / 2)
      twice is = let even : lane % 2 ≡ 0 = grind (arith, nat_tests, is) in omega (arith, even)

      once : (lane % 2 == 0) ≡ false → lane ≡ 2 * (lane / 2) + 1
      once is = let odd : lane % 2 ≢ 0 = grind (arith, nat_tests, is) in omega (arith, odd)

      same : (lane == 2 * channel_count r) ≡ true → lane ≡ 2 * channel_count r
      same is = grind (arith, nat_tests, is)

      parts : (within even last : Bool) → nat_lt lane (2 * channel_count r) ≡ within →
          (lane % 2 == 0) ≡ even → (lane == 2 * channel_count r) ≡ last →
          by_tests (nat_lt lane (2 * channel_count r)) (lane % 2 == 0) (lane == 2 * channel_count r)
          ≡ by_tests within even last
      parts within even last a b c =
          ap (λ x. by_tests x (lane % 2 == 0) (lane == 2 * channel_count r)) a
          ∙ ap (λ x. by_tests within x (lane == 2 * channel_count r)) b
          ∙ ap (by_tests within even) c

      at : (within even last : Bool) → nat_lt lane (2 * channel_count r) ≡ within →
          (lane % 2 == 0) ≡ even → (lane == 2 * channel_count r) ≡ last → P
      at true true last a b c = sampler (twice b) (inside a) (parts true true last a b c)
      at true false last a b c = detector (once b) (inside a) (parts true false last a b c)
      at false even true a b c = frequency (same c) (parts false even true a b c)
      at false even false a b c = none (parts false even false a b c)

  got_as : (xs : List LaneItem) (i : LaneItem) → lane_items r lane ≡ xs →
      slice_get (lane_items r lane) k ≡ Some i → slice_get xs k ≡ Some i
  got_as xs i e is = sym (ap (λ ys. slice_get ys k) e) ∙ is

  no_item : {X : Type 0} (k : ℕ) (i : LaneItem) → slice_get [] k ≡ Some i → X
  no_item zero i is = absurd (let bad : ⊥ = cc in bad)
  no_item (suc k) i is = absurd (let bad : ⊥ = cc in bad)

  -- no value is that of a detector, and so on
  kept_sampler : (P : LaneItem → Type 0) → ((start end value : ℕ) → P (item.Value start end value)) →
      (i : LaneItem) → slice_get (sampler_items r (lane / 2)) k ≡ Some i → P i
  kept_sampler P value i is =
      at (slice_get (recorded_runs r) k)
      (sym (get_mapped (value_of r (lane / 2)) k (recorded_runs r)) ∙ is)
    where
      at : (o : Option Span) → option_map (value_of r (lane / 2)) o ≡ Some i → P i
      at None e = absurd (let bad : ⊥ = cc in bad)
      at (Some run) e = subst P (some_is (value_of r (lane / 2) run) i e) (value _ _ _)

  pub kept_windows : (P : LaneItem → Type 0) →
      ((w : Window) → slice_get (windows_at r (lane / 2)) k ≡ Some w → P (item.Window w)) →
      (i : LaneItem) → slice_get (detector_items r (lane / 2)) k ≡ Some i → P i
  kept_windows P window i is =
      at (slice_get (windows_at r (lane / 2)) k) refl
      (sym (get_mapped item.Window k (windows_at r (lane / 2))) ∙ is)
    where
      at : (o : Option Window) → slice_get (windows_at r (lane / 2)) k ≡ o →
          option_map item.Window o ≡ Some i → P i
      at None found e = absurd (let bad : ⊥ = cc in bad)
      at (Some w) found e = subst P (some_is (item.Window w) i e) (window w found)

  pub kept_readings : (P : LaneItem → Type 0) →
      ((x : Reading) → slice_get (recorded_readings r) k ≡ Some x → P (item.Reading x)) →
      (i : LaneItem) → slice_get (frequency_items r) k ≡ Some i → P i
  kept_readings P reading i is =
      at (slice_get (recorded_readings r) k) refl
      (sym (get_mapped item.Reading k (recorded_readings r)) ∙ is)
    where
      at : (o : Option Reading) → slice_get (recorded_readings r) k ≡ o →
          option_map item.Reading o ≡ Some i → P i
      at None found e = absurd (let bad : ⊥ = cc in bad)
      at (Some x) found e = subst P (some_is (item.Reading x) i e) (reading x found)

  -- so an item of a lane tells of what it is
  pub by_item : (P : LaneItem → Type 0) →
      (lane ≡ 2 * (lane / 2) → lane / 2 < channel_count r → (start end value : ℕ) →
      slice_get (sampler_items r (lane / 2)) k ≡ Some (item.Value start end value) →
      P (item.Value start end value)) →
      (lane ≡ 2 * (lane / 2) + 1 → lane / 2 < channel_count r → (w : Window) →
      slice_get (windows_at r (lane / 2)) k ≡ Some w → P (item.Window w)) →
      (lane ≡ 2 * channel_count r → (x : Reading) → slice_get (recorded_readings r) k ≡ Some x →
      P (item.Reading x)) →
      (i : LaneItem) → slice_get (lane_items r lane) k ≡ Some i → P i
  by_item P value window reading i is =
      kind_of_lane (P i)
      (λ twice inside e. kept_value twice inside (got_as (sampler_items r (lane / 2)) i e is))
      (λ once inside e. kept_windows P (window once inside) i (got_as (detector_items r (lane / 2)) i e is))
      (λ last e. kept_readings P (reading last) i (got_as (frequency_items r) i e is))
      (λ e. no_item k i (got_as [] i e is))
    where
      kept_value : lane ≡ 2 * (lane / 2) → lane / 2 < channel_count r →
          slice_get (sampler_items r (lane / 2)) k ≡ Some i → P i
      kept_value twice inside got =
          kept_sampler (λ i. slice_get (sampler_items r (lane / 2)) k ≡ Some i → P i)
          (λ start end v there. value twice inside start end v there) i got got
