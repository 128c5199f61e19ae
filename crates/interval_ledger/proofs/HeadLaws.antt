-- The next basic interval, by what the samplers posted of it.
use Rattle.std.proofs.Common.{◌≡◌, ℕ, zero, suc, ◌+◌, ◌<◌, List, [], ◌∷◌, map, take, slice_get, slice_range, false, Option, Some, None, option_map, refl, sym, ◌∙◌, ap, arith}
use Rattle.aggregate.specs.Aggregation.{Part}
use Rattle.event_detect.specs.declared.limits.Limits.{Limits}
use Rattle.event_detect.specs.Flag.{is_touched}
use Rattle.fixed_rms.specs.Root.{rms}
use Rattle.interval_ledger.specs.Merged.{all_basics}
use Rattle.interval_ledger.proofs.FlagLaws.{bares, latest_of, next_basic}
use Rattle.lanes.specs.declared.lane_item.LaneItem.{LaneItem}
use Rattle.lanes.specs.declared.lane_item.LaneItem.TheVariants as item
use Rattle.lanes.specs.Lane.{recorded_runs, sampler_items, value_of}
use Rattle.pq_base.specs.Recorded.{Recorded, IsRecording, samples_at}
use Rattle.pq_sequence.specs.BasicInterval.{basic_span}
use Rattle.pq_sequence.specs.MeasuredRecording.{channel_count, recorded_events, recorded_places, reference_cycles, roots_over}
use Rattle.pq_words.specs.Steps.{numbers_from, numbers_below}
use Rattle.settled_laws.proofs.BasicLaws.{is_new}
use Rattle.settled_laws.proofs.BuildLaws.{bare_of, dressed}
use Rattle.ten_twelve.specs.declared.span.Span.{Span}

-- the parts of a posted value
unfoldable pub posted_start : LaneItem → ℕ
posted_start (item.Value start end value) = start
posted_start (item.Window w) = 0
posted_start (item.Reading reading) = 0

unfoldable pub posted_end : LaneItem → ℕ
posted_end (item.Value start end value) = end
posted_end (item.Window w) = 0
posted_end (item.Reading reading) = 0

posted_value : LaneItem → ℕ
posted_value (item.Value start end value) = value
posted_value (item.Window w) = 0
posted_value (item.Reading reading) = 0

pub get_mapped : {X Y : Type 0} (f : X → Y) (k : ℕ) (xs : List X) →
    slice_get (map f xs) k ≡ option_map f (slice_get xs k)
get_mapped f zero [] = refl
get_mapped f (suc k) [] = refl
get_mapped f zero (x ∷ xs) = refl
get_mapped f (suc k) (x ∷ xs) = get_mapped f k xs

roots_same : (f g : ℕ → ℕ) (low n : ℕ) → ((c : ℕ) → c < low + n → f c ≡ g c) →
    map f (numbers_from low n) ≡ map g (numbers_from low n)
unfolding numbers_from
roots_same f g low zero same = refl
roots_same f g low (suc n) same =
    ap (λ x. x ∷ map f (numbers_from (low + 1) n)) (same low (omega arith))
    ∙ ap (λ xs. g low ∷ xs) (roots_same f g (low + 1) n (λ c below. same c (omega (arith, below))))

module _ (r : Recorded) (limits : Limits) (given : IsRecording r) (k start end : ℕ) (value : ℕ → ℕ)
    (posted : (c : ℕ) → c < channel_count r →
    slice_get (sampler_items r c) k ≡ Some (item.Value start end (value c))) where
  -- the span of it, with its values and no flag yet
  abbrev part : Part
  part = record {
    start = start;
    end = end;
    values = map value (numbers_below (channel_count r));
    flagged = false;
  }

  bare_posted : slice_get (bares r) k ≡ Some part
  unfolding posted_start posted_end posted_value
  bare_posted =
      get_mapped (bare_of r (reference_cycles r)) k (recorded_runs r)
      ∙ at (slice_get (recorded_runs r) k)
      (λ c inside. sym (get_mapped (value_of r c) k (recorded_runs r)) ∙ posted c inside)
    where
      some_of : (x y : LaneItem) → Some x ≡ Some y → x ≡ y
      some_of x y e = cc

      at : (o : Option Span) →
          ((c : ℕ) → c < channel_count r
          → option_map (value_of r c) o ≡ Some (item.Value start end (value c))) →
          option_map (bare_of r (reference_cycles r)) o ≡ Some part
      at None h = absurd (let e = h 0 given.channels.0 in let bad : ⊥ = cc in bad)
      at (Some run) h =
          let span = basic_span (reference_cycles r) run in
          let each : (c : ℕ) → c < channel_count r → value_of r c run ≡ item.Value start end (value c) =
          λ c inside. some_of (value_of r c run) (item.Value start end (value c)) (h c inside) in
          let first = each 0 given.channels.0 in
          let by : ℕ → ℕ → List ℕ → Option Part =
          λ s e vs. Some (record { start = s; end = e; values = vs; flagged = false }) in
          ap (λ s. by s span.end (roots_over r span)) (ap posted_start first)
          ∙ ap (λ e. by start e (roots_over r span)) (ap posted_end first)
          ∙ ap (by start end)
          (roots_same (λ position. rms (slice_range (samples_at r position) span.start span.end)) value 0
          (channel_count r) (λ c below. ap posted_value (each c (omega (arith, below)))))

  -- so the next basic interval is told by the posted values, the ticks' places and what touches it
  pub basic_posted : slice_get (all_basics r limits) k ≡ Some (record {
    front = is_new (recorded_places r) (latest_of (take k (all_basics r limits))) start;
    part = record {
      start = start;
      end = end;
      values = map value (numbers_below (channel_count r));
      flagged = is_touched (recorded_events r limits) start end;
    };
  })
  basic_posted =
      next_basic r limits given k
      ∙ ap (option_map (dressed (recorded_places r) (is_touched (recorded_events r limits))
      (latest_of (take k (all_basics r limits))))) bare_posted
