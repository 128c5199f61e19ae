-- The windows of a recording: none is empty, and each begins before the end; and they are those of its
-- channels by position.
use Rattle.std.proofs.Common.{◌≡◌, ℕ, suc, ◌+◌, ◌<◌, List, [], ◌∷◌, length, map, get_or, ℤ, refl, sym, ◌∙◌, ap, arith}
use Rattle.std.specs.List.{AllByRecursion}
use Rattle.std.proofs.lemmas.List.Elements.{All-from_get_or, recursion_from_All}
use Rattle.half_cycle.proofs.WindowBounds.{windows_lie}
use Rattle.lanes.specs.Lane.{windows_at}
use Rattle.pq_base.specs.Recorded.{Recorded, IsRecording, sample_count, samples_at}
use Rattle.pq_sequence.specs.MeasuredRecording.{channel_windows, positions, recorded_rule, recorded_windows, windows_by_channel}
use Rattle.pq_sequence.proofs.ResultLaws.{rule_of_recording}
use Rattle.pq_words.specs.Steps.{numbers_from, numbers_below}
use Rattle.settled_laws.proofs.EarlyLaws.{IsWindow, merged_all}
use Rattle.settled_laws.proofs.ListLaws.{all_each, all_from, all_mapped}

module _ (r : Recorded) (given : IsRecording r) where
  lie : (s : List ℤ) → AllByRecursion (λ v. (v.start < v.end) × (v.end < length s)) (channel_windows r s)
  lie s = recursion_from_All (λ v. (v.start < v.end) × (v.end < length s)) (channel_windows r s)
      (windows_lie s (recorded_rule r) (rule_of_recording r given))

  -- none of them is empty
  pub not_empty : AllByRecursion (λ m. IsWindow m.window) (recorded_windows r)
  not_empty =
      merged_all IsWindow (windows_by_channel r)
      (all_mapped (AllByRecursion IsWindow) (channel_windows r) r.samples
      (all_each (λ s. AllByRecursion IsWindow (channel_windows r s))
      (λ s. all_from (λ v. (v.start < v.end) × (v.end < length s)) IsWindow (λ v h. h.0) (channel_windows r s)
      (lie s)) r.samples))

  even : AllByRecursion (λ s. length s ≡ sample_count r) r.samples
  even = recursion_from_All (λ s. length s ≡ sample_count r) r.samples
      (All-from_get_or (λ s. length s ≡ sample_count r) r.samples [] given.even)

  -- each begins before the end
  pub begun_before : AllByRecursion (λ m. m.window.start < sample_count r) (recorded_windows r)
  begun_before =
      merged_all (λ v. v.start < sample_count r) (windows_by_channel r)
      (all_mapped (AllByRecursion (λ v. v.start < sample_count r)) (channel_windows r) r.samples
      (all_from (λ s. length s ≡ sample_count r)
      (λ s. AllByRecursion (λ v. v.start < sample_count r) (channel_windows r s))
      (λ s same. all_from (λ v. (v.start < v.end) × (v.end < length s)) (λ v. v.start < sample_count r)
      (λ v h. omega (arith, h.0, h.1, same)) (channel_windows r s) (lie s)) r.samples even))

-- ---- by position

by_index : {X Y : Type 0} (f : X → Y) (g : ℕ → X) (d : X) (low : ℕ) (xs : List X) →
    ((k : ℕ) → k < length xs → g (low + k) ≡ get_or xs k d) →
    map f xs ≡ map (λ c. f (g c)) (numbers_from low (length xs))
unfolding numbers_from
by_index f g d low [] same = refl
by_index f g d low (x ∷ xs) same =
    let first : low + 0 ≡ low = omega arith in
    ap (λ y. f y ∷ map f xs) (sym (same 0 (omega arith)) ∙ ap g first)
    ∙ ap (λ ys. f (g low) ∷ ys) (by_index f g d (low + 1) xs
    (λ k inside. let step : low + 1 + k ≡ low + suc k = omega arith in
    ap g step ∙ same (suc k) (omega (arith, inside))))

pub windows_by_position : (r : Recorded) → IsRecording r →
    windows_by_channel r ≡ map (windows_at r) (positions r)
windows_by_position r given =
    by_index (channel_windows r) (samples_at r) [] 0 r.samples
    (λ k inside. let none : 0 + k ≡ k = omega arith in ap (samples_at r) none)
    ∙ ap (λ n. map (windows_at r) (numbers_below n)) given.paired
