-- By the first item that is left of each lane: once none has a key up to a place within the reaches, what is
-- merged settles the place.
use Rattle.std.proofs.Common.{◌≡◌, ℕ, zero, suc, ◌+◌, ◌*◌, ◌<◌, ◌≤◌, List, [], ◌∷◌, length, map, drop, slice_get, Some, sym, subst, inl, inr, arith}
use Rattle.std.specs.List.{AllByRecursion}
use Rattle.std.proofs.lemmas.List.{drop-map}
use Rattle.aggregate.specs.Aggregation.{Basic}
use Rattle.event_detect.specs.declared.limits.Limits.{Limits}
use Rattle.event_detect.specs.declared.window.Window.{Window}
use Rattle.freq10s.specs.declared.reading.Reading.{Reading}
use Rattle.half_cycle.proofs.WindowBounds.{Follow}
use Rattle.interval_ledger.specs.Left.{BasicsWait, IsLeft, ReadingsWait, WindowsWait, windows_left}
use Rattle.interval_ledger.specs.Merged.{Merged, all_basics, IsSettled}
use Rattle.interval_ledger.proofs.MergeLaws.{after_one, first_left, windows_begin}
use Rattle.lanes.specs.declared.lane_item.LaneItem.TheVariants as item
use Rattle.lanes.specs.Lane.{lane_key, reach, recorded_readings, recorded_runs, value_of, windows_at}
use Rattle.lanes.proofs.KeyLaws.{KeysRise, frequency_rises}
use Rattle.lanes.proofs.LaneLaws.{detector_lane, frequency_lane, sampler_lane}
use Rattle.lanes.proofs.ReachLaws.{past_reach}
use Rattle.pq_base.specs.Recorded.{Recorded, IsRecording, sample_count, samples_at}
use Rattle.pq_sequence.specs.BasicInterval.{basic_span, begins_segment, fronts}
use Rattle.pq_sequence.specs.MeasuredRecording.{basic_over, channel_count, recorded_events, recorded_places, recorded_windows, reference_cycles}
use Rattle.pq_sequence.proofs.NeighbourLaws.{LinkedFrom}
use Rattle.pq_words.specs.Steps.{numbers_from}
use Rattle.settled_laws.proofs.BasicLaws.{AreLinked, Succeeds}
use Rattle.settled_laws.proofs.EarlyLaws.{merged_all}
use Rattle.settled_laws.proofs.IntervalLaws.{basics_are_linked}
use Rattle.settled_laws.proofs.ListLaws.{all_from, all_mapped, all_unmapped}
use Rattle.ten_twelve.specs.declared.span.Span.{Span}

-- ---- past the reach

module _ (r : Recorded) (limits : Limits) (given : IsRecording r) where
  pub windows_past : (c k w : ℕ) → c < channel_count r → w ≤ reach r (2 * c + 1) k →
      AllByRecursion (λ v. w ≤ v.start) (drop k (windows_at r c))
  windows_past c k w inside until =
      let later = drop k (windows_at r c) in
      let lane : AllByRecursion (λ i. w < lane_key i) (map item.Window later) =
      subst (AllByRecursion (λ i. w < lane_key i)) (drop-map item.Window k (windows_at r c))
      (subst (λ xs. AllByRecursion (λ i. w < lane_key i) (drop k xs)) (detector_lane r c inside)
      (past_reach r given (2 * c + 1) k w until)) in
      all_from (λ v. w < v.start + 1) (λ v. w ≤ v.start) (λ v h. omega (arith, h)) later
      (all_unmapped (λ i. w < lane_key i) item.Window later lane)

  pub readings_past : (k w : ℕ) → w ≤ reach r (2 * channel_count r) k →
      AllByRecursion (λ x. w < x.end) (drop k (recorded_readings r))
  readings_past k w until =
      let later = drop k (recorded_readings r) in
      all_unmapped (λ i. w < lane_key i) item.Reading later
      (subst (AllByRecursion (λ i. w < lane_key i)) (drop-map item.Reading k (recorded_readings r))
      (subst (λ xs. AllByRecursion (λ i. w < lane_key i) (drop k xs)) (frequency_lane r)
      (past_reach r given (2 * channel_count r) k w until)))

  -- the basic interval over a run of cycles
  abbrev made : Span → Basic
  made run = basic_over r (recorded_events r limits) (basic_span (reference_cycles r) run)
      (begins_segment (fronts (reference_cycles r) (recorded_places r)) run)

  pub basics_past : (c k w : ℕ) → c < channel_count r → w ≤ reach r (2 * c) k →
      AllByRecursion (λ b. w < b.part.end) (drop k (all_basics r limits))
  basics_past c k w inside until =
      let later = drop k (recorded_runs r) in
      let keys : AllByRecursion (λ run. w < lane_key (value_of r c run)) later =
      all_unmapped (λ i. w < lane_key i) (value_of r c) later
      (subst (AllByRecursion (λ i. w < lane_key i)) (drop-map (value_of r c) k (recorded_runs r))
      (subst (λ xs. AllByRecursion (λ i. w < lane_key i) (drop k xs)) (sampler_lane r c inside)
      (past_reach r given (2 * c) k w until))) in
      subst (AllByRecursion (λ b. w < b.part.end)) (sym (drop-map made k (recorded_runs r)))
      (all_mapped (λ b. w < b.part.end) made later keys)

-- ---- from the first that is left

pub windows_from : (n low k w : ℕ) (vs : List Window) (x : Window) → Follow n low vs →
    slice_get vs k ≡ Some x → w ≤ x.start → AllByRecursion (λ v. w ≤ v.start) (drop k vs)
windows_from n low k w vs x begun is from =
    subst (AllByRecursion (λ v. w ≤ v.start)) (sym (first_left k vs x is)) (
      from,
      all_from (λ v. x.start < v.start) (λ v. w ≤ v.start) (λ v h. omega (arith, from, h)) (drop (suc k) vs)
          (after_one n low k vs x begun is),
    )

same_reading : (x y : Reading) → Some x ≡ Some y → x ≡ y
same_reading x y e = cc

keys_from : (n w low : ℕ) (xs : List Reading) → w < low → KeysRise n low (map item.Reading xs) →
    AllByRecursion (λ x. w < x.end) xs
keys_from n w low [] less rises = tt
keys_from n w low (x ∷ xs) less rises =
    let from = rises.0 in
    (omega (arith, less, from), keys_from n w x.end xs (omega (arith, less, from)) rises.2)

readings_from : (n w low k : ℕ) (xs : List Reading) (x : Reading) → KeysRise n low (map item.Reading xs) →
    slice_get xs k ≡ Some x → w < x.end → AllByRecursion (λ y. w < y.end) (drop k xs)
readings_from n w low zero [] x rises is h = tt
readings_from n w low (suc k) [] x rises is h = tt
readings_from n w low zero (y ∷ ys) x rises is h =
    let here : w < y.end = subst (λ z. w < z.end) (sym (same_reading y x is)) h in
    (here, keys_from n w y.end ys here rises.2)
readings_from n w low (suc k) (y ∷ ys) x rises is h = readings_from n w y.end k ys x rises.2 is h

same_basic : (x y : Basic) → Some x ≡ Some y → x ≡ y
same_basic x y e = cc

module _ (places : List ℕ) where
  ends_from : (w : ℕ) (b : Basic) (bs : List Basic) → LinkedFrom (Succeeds places) b bs → w < b.part.end →
      AllByRecursion (λ c. w < c.part.end) bs
  ends_from w b [] l h = tt
  ends_from w b (c ∷ bs) l h =
      let more = l.0.0 in (omega (arith, h, more), ends_from w c bs l.1 (omega (arith, h, more)))

  linked_later : (w : ℕ) (b c : Basic) (bs : List Basic) (k : ℕ) → LinkedFrom (Succeeds places) b bs →
      slice_get bs k ≡ Some c → w < c.part.end → AllByRecursion (λ x. w < x.part.end) (drop k bs)
  linked_later w b c [] zero l is h = tt
  linked_later w b c [] (suc k) l is h = tt
  linked_later w b c (x ∷ bs) zero l is h =
      let here : w < x.part.end = subst (λ y. w < y.part.end) (sym (same_basic x c is)) h in
      (here, ends_from w x bs l.1 here)
  linked_later w b c (x ∷ bs) (suc k) l is h = linked_later w x c bs k l.1 is h

  later_ends : (w : ℕ) (c : Basic) (bs : List Basic) (k : ℕ) → AreLinked places bs →
      slice_get bs k ≡ Some c → w < c.part.end → AllByRecursion (λ x. w < x.part.end) (drop k bs)
  later_ends w c [] zero l is h = tt
  later_ends w c [] (suc k) l is h = tt
  later_ends w c (x ∷ bs) zero l is h =
      let here : w < x.part.end = subst (λ y. w < y.part.end) (sym (same_basic x c is)) h in
      (here, ends_from w x bs l.1 here)
  later_ends w c (x ∷ bs) (suc k) l is h = linked_later w x c bs k l.1 is h

each_channel : (P : List Window → Type 0) (f : ℕ → List Window) (low n : ℕ) →
    ((k : ℕ) → k < low + n → P (f k)) → AllByRecursion P (map f (numbers_from low n))
unfolding numbers_from
each_channel P f low zero h = tt
each_channel P f low (suc n) h =
    (h low (omega arith), each_channel P f (low + 1) n (λ k below. h k (omega (arith, below))))

-- ---- what waits

module _ (r : Recorded) (limits : Limits) (given : IsRecording r) where
  pub windows_wait : (m w : ℕ) (next : ℕ → ℕ) → IsLeft r m next →
      ((c : ℕ) → c < channel_count r → WindowsWait r c (next c) w) →
      AllByRecursion (λ x. w ≤ x.window.start) (drop m (recorded_windows r))
  windows_wait m w next state wait =
      subst (AllByRecursion (λ x. w ≤ x.window.start)) (sym state)
      (merged_all (λ v. w ≤ v.start) (windows_left r next)
      (each_channel (AllByRecursion (λ v. w ≤ v.start)) (λ c. drop (next c) (windows_at r c)) 0
      (channel_count r) (λ c below. one c (omega (arith, below)) (wait c (omega (arith, below))))))
    where
      one : (c : ℕ) → c < channel_count r → WindowsWait r c (next c) w →
          AllByRecursion (λ v. w ≤ v.start) (drop (next c) (windows_at r c))
      one c inside (inl h) = windows_past r limits given c (next c) w inside h
      one c inside (inr h) =
          windows_from (length (samples_at r c)) 0 (next c) w (windows_at r c) h.0 (windows_begin r c given)
          h.1 h.2

  pub basics_wait : (k w : ℕ) → BasicsWait r limits k w →
      AllByRecursion (λ b. w < b.part.end) (drop k (all_basics r limits))
  basics_wait k w (inl h) = basics_past r limits given h.0 k w h.1 h.2
  basics_wait k w (inr h) =
      later_ends (recorded_places r) w h.0 (all_basics r limits) k
      (basics_are_linked r (recorded_events r limits) given) h.1 h.2

  pub readings_wait : (k w : ℕ) → ReadingsWait r k w →
      AllByRecursion (λ x. w < x.end) (drop k (recorded_readings r))
  readings_wait k w (inl h) = readings_past r limits given k w h
  readings_wait k w (inr h) =
      readings_from (sample_count r) w 0 k (recorded_readings r) h.0 (frequency_rises r given) h.1 h.2

  -- what is merged settles the place
  pub settled_by : (m : Merged) (w : ℕ) (next : ℕ → ℕ) → IsLeft r m.windows next →
      ((c : ℕ) → c < channel_count r → WindowsWait r c (next c) w) → BasicsWait r limits m.basics w →
      ReadingsWait r m.readings w → IsSettled r limits m w
  settled_by m w next state windows basics readings = record {
    windows = windows_wait m.windows w next state windows;
    basics = basics_wait m.basics w basics;
    readings = readings_wait m.readings w readings;
  }
