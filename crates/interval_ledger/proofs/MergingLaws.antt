-- The steps of merging by what is posted: which window is next, what is left after it, and that the flags of
-- the next basic interval and of the next reading are told.
use Rattle.std.proofs.Common.{◌≡◌, ◌≢◌, ℕ, zero, suc, ◌+◌, ◌^◌, ◌<◌, ◌≤◌, List, [], ◌∷◌, length, drop, Option, None, Some, slice_get, slice_set, refl, sym, ◌∙◌, ap, subst, arith}
use Rattle.std.specs.List.{AllByRecursion}
use Rattle.std.specs.Option.{option_map_or}
use Rattle.std.proofs.lemmas.List.{length-map}
use Rattle.std.proofs.lemmas.List.Elements.{recursion_from_All}
use Rattle.aggregate.specs.Aggregation.{Basic}
use Rattle.aggregate.specs.BasicOrder.{IsBasic}
use Rattle.event_detect.specs.declared.limits.Limits.{Limits}
use Rattle.event_detect.specs.declared.window.Window.{Window}
use Rattle.freq10s.specs.declared.reading.Reading.{Reading}
use Rattle.interval_ledger.specs.declared.next_due.Due.{Due}
use Rattle.interval_ledger.specs.declared.next_due.Due.TheVariants as due
use Rattle.interval_ledger.specs.Channel.{ChannelView, first_start, first_starts, with_merged}
use Rattle.interval_ledger.specs.Earliest.{IsFirstLeast}
use Rattle.interval_ledger.specs.Known.{IsNextWindow, IsToldNow}
use Rattle.interval_ledger.specs.Left.{IsLeft}
use Rattle.interval_ledger.specs.Merged.{IsAbreast, Merged, all_basics}
use Rattle.interval_ledger.specs.NextDue.{IsNextDue}
use Rattle.interval_ledger.specs.Posted.{ArePosted, AreWithinReach, due_end, merged_of}
use Rattle.interval_ledger.proofs.EarliestLaws.{earliest_next, found_window}
use Rattle.interval_ledger.proofs.FeedLaws.{basics_are}
use Rattle.interval_ledger.proofs.FlagLaws.{flag_told}
use Rattle.interval_ledger.proofs.MergeLaws.{next_of_drop}
use Rattle.interval_ledger.proofs.PostedLaws.{due_waits, starts_first}
use Rattle.interval_ledger.proofs.StopLaws.{basics_wait, readings_wait}
use Rattle.lanes.specs.Lane.{windows_at}
use Rattle.pq_base.specs.Recorded.{Recorded, IsRecording, sample_count}
use Rattle.pq_sequence.specs.MeasuredRecording.{channel_count, recorded_events, recorded_windows}

-- ---- lists by index

pub all_got : {X : Type 0} (P : X → Type 0) (xs : List X) (k : ℕ) (x : X) → AllByRecursion P xs →
    slice_get xs k ≡ Some x → P x
all_got P [] k x h is = absurd (let bad : ⊥ = cc in bad)
all_got P (y ∷ ys) zero x h is = subst P (same y is) h.0
  where
    same : (y : _) → Some y ≡ Some x → y ≡ x
    same y e = cc
all_got P (y ∷ ys) (suc k) x h is = all_got P ys k x h.1 is

pub rest_got : {X : Type 0} (P : X → Type 0) (xs : List X) (k : ℕ) (x : X) → AllByRecursion P (drop k xs) →
    slice_get xs k ≡ Some x → P x
rest_got P [] k x h is = absurd (let bad : ⊥ = cc in bad)
rest_got P (y ∷ ys) zero x h is = all_got P (y ∷ ys) 0 x h is
rest_got P (y ∷ ys) (suc k) x h is = rest_got P ys k x h is

got_set : {X : Type 0} (xs : List X) (i : ℕ) (y : X) → i < length xs → slice_get (slice_set xs i y) i ≡ Some y
got_set [] i y inside = absurd (omega (arith, inside))
got_set (x ∷ xs) zero y inside = refl
got_set (x ∷ xs) (suc i) y inside = got_set xs i y (omega (arith, inside))

got_other : {X : Type 0} (xs : List X) (i j : ℕ) (y : X) → j ≢ i →
    slice_get (slice_set xs i y) j ≡ slice_get xs j
got_other [] zero j y other = refl
got_other [] (suc i) j y other = refl
got_other (x ∷ xs) zero zero y other = absurd (other refl)
got_other (x ∷ xs) zero (suc j) y other = refl
got_other (x ∷ xs) (suc i) zero y other = refl
got_other (x ∷ xs) (suc i) (suc j) y other = got_other xs i j y (λ e. other (ap suc e))

got_inside : {X : Type 0} (xs : List X) (k : ℕ) (x : X) → slice_get xs k ≡ Some x → k < length xs
got_inside [] k x is = absurd (let bad : ⊥ = cc in bad)
got_inside (y ∷ ys) zero x is = omega arith
got_inside (y ∷ ys) (suc k) x is = let less = got_inside ys k x is in omega (arith, less)

-- one more window of a channel is merged, and of the others as many
pub merged_more : (channels : List ChannelView) (c : ℕ) (v : ChannelView) → slice_get channels c ≡ Some v →
    merged_of (slice_set channels c (with_merged v)) c ≡ suc (merged_of channels c)
merged_more channels c v is =
    let count : Option ChannelView → ℕ = λ o. option_map_or (λ v. v.merged) o 0 in
    let step : v.merged + 1 ≡ suc v.merged = omega arith in
    ap count (got_set channels c (with_merged v) (got_inside channels c v is))
    ∙ step
    ∙ ap suc (sym (ap count is))

pub merged_same : (channels : List ChannelView) (c : ℕ) (v : ChannelView) (k : ℕ) → k ≢ c →
    merged_of channels k ≡ merged_of (slice_set channels c (with_merged v)) k
merged_same channels c v k other =
    ap (λ o. option_map_or (λ v. v.merged) o 0) (sym (got_other channels c k (with_merged v) other))

-- ---- the next window

module _ (r : Recorded) (limits : Limits) (given : IsRecording r) (channels : List ChannelView)
    (readings : List Reading) (posted : ArePosted r channels readings) (w : ℕ)
    (within : AreWithinReach r channels readings w) (small : w < 2 ^ 64) where
  due_until : (basics merged : ℕ) (found : Option Due) → IsNextDue channels basics readings merged w found →
      due_end w found ≤ w
  due_until basics merged None is = omega arith
  due_until basics merged (Some (due.Basic first)) is = is.1
  due_until basics merged (Some (due.Reading reading)) is = is.1

  many : length (first_starts channels) ≡ channel_count r
  many = length-map channels first_start ∙ posted.many

  -- the window that is found by the first starts is the next of the merged ones, and each basic interval and
  -- reading that is left ends after its start; so what is left is known after it too
  pub window_next : (m : Merged) (found : Option Due) (c : ℕ) (v : ChannelView) →
      IsNextDue channels m.basics readings m.readings w found → IsLeft r m.windows (merged_of channels) →
      IsFirstLeast (first_starts channels) (due_end w found) c → slice_get channels c ≡ Some v →
      (x : Window) × (slice_get (windows_at r c) (merged_of channels c) ≡ Some x)
      × IsNextWindow r limits m (record { channel = c; window = x })
      × IsLeft r (m.windows + 1) (merged_of (slice_set channels c (with_merged v)))
  window_next m found c v next state first is =
      let until = due_until m.basics m.readings found next in
      let starts = starts_first r limits given channels readings posted w within small in
      let window = found_window r limits given (merged_of channels) w (due_end w found)
      (first_starts channels) many starts until c first in
      let before : window.0.start < due_end w found = omega (arith, first.below, window.2) in
      let waits = due_waits r limits given channels readings posted w within m.basics m.readings
      window.0.start
      found next before in
      let both = next_of_drop m.windows (recorded_windows r) _ _
      (earliest_next r limits given (merged_of channels) w (due_end w found) (first_starts channels) many
      starts
      until (merged_of (slice_set channels c (with_merged v))) m.windows c first state
      (merged_more channels c v is) (merged_same channels c v)) in (
        window.0,
        window.1,
        record {
          is_next = both.0;
          basics = basics_wait r limits given m.basics window.0.start waits.0;
          readings = readings_wait r limits given m.readings window.0.start waits.1;
        },
        both.1,
      )

-- ---- flags

module _ (r : Recorded) (limits : Limits) (given : IsRecording r) (m : Merged) (near : ℕ)
    (abreast : IsAbreast r limits m near) where
  -- once no window is left that begins before the next basic interval ends, its flag is told
  pub basic_told : (b : Basic) → slice_get (all_basics r limits) m.basics ≡ Some b →
      AllByRecursion (λ x. b.part.end ≤ x.window.start) (drop m.windows (recorded_windows r)) →
      IsToldNow r limits m b.part.start b.part.end
  basic_told b is later =
      let basic = all_got (IsBasic (sample_count r) (channel_count r)) (all_basics r limits) m.basics b
      (recursion_from_All (IsBasic (sample_count r) (channel_count r)) (all_basics r limits)
      (basics_are r (recorded_events r limits) given).each) is in
      flag_told r limits m near b.part.start b.part.end given abreast
      (rest_got (λ b. near ≤ b.part.end) (all_basics r limits) m.basics b abreast.basics is) basic.some
      basic.within later
