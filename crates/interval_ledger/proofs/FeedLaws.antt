-- The basic intervals of a recording are such as an aggregator may be fed, so many of them and one more.
use Rattle.std.proofs.Common.{◌≡◌, ℕ, zero, suc, ◌+◌, ◌-◌, ◌*◌, ◌/◌, ◌^◌, ◌<◌, ◌≤◌, List, [], ◌∷◌, ◌++◌, length, take, drop, ℤ, All, slice_get, slice_range, Some, refl, sym, ◌∙◌, subst, inl, inr, arith}
use Rattle.std.proofs.Math.Nat.{div-le_of_le-mul}
use Rattle.std.proofs.lemmas.Bool.{cases_lt}
use Rattle.std.proofs.lemmas.List.{get_or_append_left, length-append, length-map, take-append-drop}
use Rattle.std.proofs.lemmas.List.Elements.{All-drop, All-map, All-take, All-weaker}
use Rattle.aggregate.specs.Aggregation.{Basic}
use Rattle.aggregate.specs.BasicOrder.{AreBasics, BeginsAtFront, Follows, IsBasic}
use Rattle.event_detect.specs.declared.event.Event.{Event}
use Rattle.event_detect.specs.declared.limits.Limits.{Limits}
use Rattle.fixed_rms.specs.Root.{isqrt, mean_square, rms, sum_of_squares}
use Rattle.fixed_rms.proofs.RootLaws.{isqrt_is, squares_within}
use Rattle.interval_ledger.specs.Merged.{all_basics}
use Rattle.interval_ledger.proofs.StepLaws.{taken_more}
use Rattle.lanes.specs.Lane.{recorded_runs}
use Rattle.lanes.proofs.KeyLaws.{recorded_cycles}
use Rattle.pq_base.specs.Recorded.{Recorded, IsRecording, sample_count, samples_at}
use Rattle.pq_sequence.specs.BasicInterval.{IsRun, basic_runs, basic_span, begins_segment, cycles_of, fronts}
use Rattle.pq_sequence.specs.MeasuredRecording.{basic_over, basics_of, channel_count, clock_of, positions, recorded_events, recorded_places, reference_cycles}
use Rattle.pq_sequence.proofs.BasicLemmas.{numbers_lie, runs_lie, some_cycles, starts_before}
use Rattle.pq_sequence.proofs.BasicOrder.{basics_in_order}
use Rattle.pq_sequence.proofs.NeighbourLaws.{linked_at}
use Rattle.pq_time.specs.declared.clock.Clock.{Clock}
use Rattle.pq_words.specs.declared.limits.TheConstants.{MOST_MICROVOLTS}
use Rattle.pq_words.specs.Magnitude.{IsWithin}
use Rattle.pq_words.proofs.StepLaws.{length_numbers}
use Rattle.ten_twelve.specs.declared.span.Span.{Span}

-- ---- no root is too great

squares_rise : (r s : ℕ) → r ≤ s → r * r ≤ s * s
squares_rise r s h = grind (arith, h)

root_within : (r : ℕ) → r * r ≤ MOST_MICROVOLTS ^ 2 → r ≤ MOST_MICROVOLTS
root_within r h = elim (cases_lt MOST_MICROVOLTS r) [
  | inl less ↦ absurd (omega (arith, squares_rise (MOST_MICROVOLTS + 1) r (omega (arith, less)), h))
  | inr rest ↦ rest
]

pub rms_within : (samples : List ℤ) → All (IsWithin MOST_MICROVOLTS) samples → rms samples ≤ MOST_MICROVOLTS
unfolding rms mean_square
rms_within samples quiet =
    let sum : ℕ = sum_of_squares samples in
    let mean : sum / length samples ≤ MOST_MICROVOLTS ^ 2 =
    div-le_of_le-mul (length samples) (squares_within samples quiet) in
    let root = isqrt_is (sum / length samples) (omega (arith, mean)) in
    root_within (isqrt (sum / length samples)) (omega (arith, root.square, mean))

-- ---- all of them

module _ (r : Recorded) (events : List Event) (given : IsRecording r) where
  abbrev made : Span → Basic
  made run = basic_over r events (basic_span (reference_cycles r) run)
      (begins_segment (fronts (reference_cycles r) (recorded_places r)) run)

  root_at : (a b c : ℕ) → c < channel_count r → rms (slice_range (samples_at r c) a b) ≤ MOST_MICROVOLTS
  root_at a b c inside =
      rms_within (slice_range (samples_at r c) a b)
      (All-take (IsWithin MOST_MICROVOLTS) (b - a) (drop a (samples_at r c))
      (All-drop (IsWithin MOST_MICROVOLTS) a (samples_at r c)
      (given.quiet c (omega (arith, inside, given.paired)))))

  one : (run : Span) → IsRun (length (reference_cycles r)) run →
      IsBasic (sample_count r) (channel_count r) (made run)
  one run is =
      let span = basic_span (reference_cycles r) run in
      let cycles = recorded_cycles r given in
      let root : ℕ → ℕ = λ position. rms (slice_range (samples_at r position) span.start span.end) in
      record {
        some = starts_before (reference_cycles r) (sample_count r) run is cycles;
        within = let below = cycles.below run.end 0 is.there in omega (arith, below);
        long = length-map (positions r) root ∙ length_numbers 0 (channel_count r);
        quiet = All-map (λ v. v ≤ MOST_MICROVOLTS) root (positions r)
            (All-weaker (λ c. c < 0 + channel_count r) (λ c. root c ≤ MOST_MICROVOLTS)
            (λ c below. root_at span.start span.end c (omega (arith, below))) (positions r)
            (numbers_lie 0 (channel_count r)));
      }

  pub basics_are : AreBasics (clock_of r) (sample_count r) (channel_count r)
      (basics_of r events (reference_cycles r))
  unfolding basic_runs
  basics_are =
      let boundaries = reference_cycles r in
      let some = some_cycles r.lf (cycles_of r.lf) refl in
      let order = basics_in_order r events boundaries (recorded_cycles r given) some in
      let follows = Follows (clock_of r) (sample_count r) in
      record {
        first = order.0;
        each = All-map (IsBasic (sample_count r) (channel_count r)) made (recorded_runs r)
            (All-weaker (IsRun (length boundaries))
            (λ run. IsBasic (sample_count r) (channel_count r) (made run)) one (recorded_runs r)
            (runs_lie (fronts boundaries (recorded_places r)) (cycles_of r.lf) (length boundaries) some));
        follow = λ i a b. linked_at follows (basics_of r events boundaries) i a b order.1;
      }

-- ---- the first of them

get_left : {X : Type 0} (xs ys : List X) (k : ℕ) → k < length xs → slice_get (xs ++ ys) k ≡ slice_get xs k
get_left [] ys k inside = absurd (omega (arith, inside))
get_left (x ∷ xs) ys zero inside = refl
get_left (x ∷ xs) ys (suc k) inside = get_left xs ys k (omega (arith, inside))

got_within : {X : Type 0} (xs : List X) (k : ℕ) (x : X) → slice_get xs k ≡ Some x → k < length xs
got_within [] k x is = absurd (let bad : ⊥ = cc in bad)
got_within (y ∷ ys) zero x is = omega arith
got_within (y ∷ ys) (suc k) x is = let less = got_within ys k x is in omega (arith, less)

earlier : (clock : Clock) (n channels : ℕ) (front rest : List Basic) →
    AreBasics clock n channels (front ++ rest) → AreBasics clock n channels front
earlier clock n channels front rest are = record {
  first = begins front are.first;
  each = λ k d inside. subst (IsBasic n channels) (get_or_append_left front rest d k inside)
      (are.each k d (omega (arith, inside, length-append front rest)));
  follow = λ i a b here next.
      are.follow i a b (get_left front rest i (got_within front i a here) ∙ here)
      (get_left front rest (i + 1) (got_within front (i + 1) b next) ∙ next);
}
  where
    begins : (front : List Basic) → BeginsAtFront (front ++ rest) → BeginsAtFront front
    begins [] h = tt
    begins (b ∷ bs) h = h

-- so many of them and the next are such as an aggregator may be fed
pub basics_fed : (r : Recorded) (limits : Limits) → IsRecording r → (k : ℕ) (b : Basic) →
    slice_get (all_basics r limits) k ≡ Some b →
    AreBasics (clock_of r) (sample_count r) (channel_count r) (take k (all_basics r limits) ++ b ∷ [])
basics_fed r limits given k b is =
    let all = all_basics r limits in
    let clock = clock_of r in
    let n = sample_count r in
    let channels = channel_count r in
    subst (AreBasics clock n channels) (taken_more all k b is)
    (earlier clock n channels (take (k + 1) all) (drop (k + 1) all)
    (subst (AreBasics clock n channels) (sym (take-append-drop (k + 1) all))
    (basics_are r (recorded_events r limits) given)))
