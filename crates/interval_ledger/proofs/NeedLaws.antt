-- What a settled place needs of each lane is merged.
use Rattle.std.proofs.Common.{◌≡◌, ℕ, zero, suc, ◌+◌, ◌*◌, ◌<◌, ◌≤◌, Bool, true, false, cond, nat_le, List, [], ◌∷◌, ◌++◌, map, drop, refl, sym, ◌∙◌, subst, ap, arith}
use Rattle.std.specs.List.{AllByRecursion, sum_by}
use Rattle.std.proofs.lemmas.Bool.Decides.{nat_tests}
use Rattle.std.proofs.lemmas.List.{drop-map}
use Rattle.std.proofs.lemmas.List.Sums.{sum_by-cons}
use Rattle.aggregate.specs.Aggregation.{Basic}
use Rattle.event_detect.specs.declared.limits.Limits.{Limits}
use Rattle.event_detect.specs.declared.window.Window.{Window}
use Rattle.interval_ledger.specs.Left.{IsLeft, windows_left}
use Rattle.interval_ledger.specs.Merged.{Merged, IsSettled}
use Rattle.lanes.specs.declared.lane_item.LaneItem.TheVariants as item
use Rattle.lanes.specs.Lane.{lane_key, need, recorded_readings, recorded_runs, value_of, windows_at}
use Rattle.lanes.proofs.LaneLaws.{detector_lane, frequency_lane, sampler_lane}
use Rattle.lanes.proofs.NeedLaws.{few_needed}
use Rattle.polyphase.specs.PolyphaseEvent.{ChannelWindow, joined_from, merged_cmp, merged_windows, of_channel}
use Rattle.polyphase.proofs.MovedLaws.{moved_ordered}
use Rattle.pq_base.specs.Recorded.{Recorded}
use Rattle.pq_sequence.specs.BasicInterval.{basic_span, begins_segment, fronts}
use Rattle.pq_sequence.specs.MeasuredRecording.{basic_over, channel_count, recorded_events, recorded_places, reference_cycles}
use Rattle.pq_words.specs.Sorted.{in_order}
use Rattle.pq_words.specs.Steps.{numbers_from}
use Rattle.settled_laws.proofs.ListLaws.{all_from, all_mapped, all_unmapped}
use Rattle.ten_twelve.specs.declared.span.Span.{Span}

-- ---- what holds of all merged windows holds of each channel's

module _ (w : ℕ) where
  -- 1 for a window that begins before w, and 0
  begun : ChannelWindow → ℕ
  begun m = cond (nat_le w m.window.start) 0 1

  begun_not : (m : ChannelWindow) → w ≤ m.window.start → begun m ≡ 0
  unfolding begun
  begun_not m h =
      let passes : nat_le w m.window.start ≡ true = grind (arith, nat_tests, h) in
      ap (λ b. cond b 0 1) passes

  not_begun : (m : ChannelWindow) → begun m ≡ 0 → w ≤ m.window.start
  unfolding begun
  not_begun m h = at (nat_le w m.window.start) (begun m) refl refl h
    where
      le_of : nat_le w m.window.start ≡ true → w ≤ m.window.start
      le_of is = grind (arith, nat_tests, is)

      at : (b : Bool) (n : ℕ) → nat_le w m.window.start ≡ b → n ≡ cond b 0 1 → n ≡ 0 → w ≤ m.window.start
      at true n is one h = le_of is
      at false n is one h = absurd (omega (arith, one, h))

  none_begun : (ms : List ChannelWindow) → AllByRecursion (λ m. w ≤ m.window.start) ms → sum_by begun ms ≡ 0
  none_begun [] h = refl
  none_begun (m ∷ ms) h =
      let e = sum_by-cons begun m ms in
      let a = begun_not m h.0 in
      let b = none_begun ms h.1 in
      omega (arith, e, a, b)

  all_from_none : (ms : List ChannelWindow) → sum_by begun ms ≡ 0
      → AllByRecursion (λ m. w ≤ m.window.start) ms
  all_from_none [] h = tt
  all_from_none (m ∷ ms) h =
      let e = sum_by-cons begun m ms in
      let a : begun m ≡ 0 = omega (arith, e, h) in
      let b : sum_by begun ms ≡ 0 = omega (arith, e, h) in
      (not_begun m a, all_from_none ms b)

  parts_from : (k : ℕ) (xs : List Window) (ms : List ChannelWindow) →
      AllByRecursion (λ m. w ≤ m.window.start) (of_channel k xs ++ ms) →
      AllByRecursion (λ v. w ≤ v.start) xs × AllByRecursion (λ m. w ≤ m.window.start) ms
  parts_from k [] ms h = (tt, h)
  parts_from k (x ∷ xs) ms h = let rest = parts_from k xs ms h.1 in ((h.0, rest.0), rest.1)

  of_each : (k : ℕ) (xss : List (List Window)) →
      AllByRecursion (λ m. w ≤ m.window.start) (joined_from k xss) →
      AllByRecursion (AllByRecursion (λ v. w ≤ v.start)) xss
  of_each k [] h = tt
  of_each k (xs ∷ xss) h =
      let parts = parts_from k xs (joined_from (k + 1) xss) h in (parts.0, of_each (k + 1) xss parts.1)

  left_from : (xss : List (List Window)) → AllByRecursion (λ m. w ≤ m.window.start) (merged_windows xss) →
      AllByRecursion (AllByRecursion (λ v. w ≤ v.start)) xss
  unfolding merged_windows
  left_from xss h =
      of_each 0 xss (all_from_none (joined_from 0 xss)
      (moved_ordered merged_cmp (joined_from 0 xss) begun
      ∙ none_begun (in_order merged_cmp (joined_from 0 xss)) h))

at_number : (P : List Window → Type 0) (f : ℕ → List Window) (low n i : ℕ) → i < n →
    AllByRecursion P (map f (numbers_from low n)) → P (f (low + i))
unfolding numbers_from
at_number P f low zero i inside h = absurd (omega (arith, inside))
at_number P f low (suc n) zero inside h =
    let e : low ≡ low + 0 = omega arith in subst (λ k. P (f k)) e h.0
at_number P f low (suc n) (suc i) inside h =
    let e : low + 1 + i ≡ low + suc i = omega arith in
    subst (λ k. P (f k)) e (at_number P f (low + 1) n i (omega (arith, inside)) h.1)

-- ---- what is needed is merged

module _ (r : Recorded) (limits : Limits) (m : Merged) (w : ℕ) (settled : IsSettled r limits m w) where
  abbrev made : Span → Basic
  made run = basic_over r (recorded_events r limits) (basic_span (reference_cycles r) run)
      (begins_segment (fronts (reference_cycles r) (recorded_places r)) run)

  pub sampler_needed : (c : ℕ) → c < channel_count r → need r (2 * c) w ≤ m.basics
  sampler_needed c inside =
      let later = drop m.basics (recorded_runs r) in
      let ends : AllByRecursion (λ run. w < (made run).part.end) later =
      all_unmapped (λ b. w < b.part.end) made later
      (subst (AllByRecursion (λ b. w < b.part.end)) (drop-map made m.basics (recorded_runs r))
      settled.basics) in
      few_needed w r (2 * c) m.basics
      (subst (λ xs. AllByRecursion (λ i. w < lane_key i) (drop m.basics xs)) (sym (sampler_lane r c inside))
      (subst (AllByRecursion (λ i. w < lane_key i)) (sym (drop-map (value_of r c) m.basics (recorded_runs r)))
      (all_mapped (λ i. w < lane_key i) (value_of r c) later ends)))

  pub detector_needed : (next : ℕ → ℕ) (c : ℕ) → c < channel_count r → IsLeft r m.windows next →
      need r (2 * c + 1) w ≤ next c
  detector_needed next c inside state =
      let later = drop (next c) (windows_at r c) in
      let all = left_from w (windows_left r next)
      (subst (AllByRecursion (λ x. w ≤ x.window.start)) state settled.windows) in
      let zero_is : 0 + c ≡ c = omega arith in
      let one : AllByRecursion (λ v. w ≤ v.start) later =
      subst (λ k. AllByRecursion (λ v. w ≤ v.start) (drop (next k) (windows_at r k))) zero_is
      (at_number (AllByRecursion (λ v. w ≤ v.start)) (λ k. drop (next k) (windows_at r k)) 0 (channel_count r)
      c
      inside all) in
      few_needed w r (2 * c + 1) (next c)
      (subst (λ xs. AllByRecursion (λ i. w < lane_key i) (drop (next c) xs)) (sym (detector_lane r c inside))
      (subst (AllByRecursion (λ i. w < lane_key i)) (sym (drop-map item.Window (next c) (windows_at r c)))
      (all_mapped (λ i. w < lane_key i) item.Window later
      (all_from (λ v. w ≤ v.start) (λ v. w < v.start + 1) (λ v h. omega (arith, h)) later one))))

  pub frequency_needed : need r (2 * channel_count r) w ≤ m.readings
  frequency_needed =
      few_needed w r (2 * channel_count r) m.readings
      (subst (λ xs. AllByRecursion (λ i. w < lane_key i) (drop m.readings xs)) (sym (frequency_lane r))
      (subst (AllByRecursion (λ i. w < lane_key i))
      (sym (drop-map item.Reading m.readings (recorded_readings r)))
      (all_mapped (λ i. w < lane_key i) item.Reading (drop m.readings (recorded_readings r))
      settled.readings)))
