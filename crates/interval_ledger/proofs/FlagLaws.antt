-- A basic interval's flag and a reading's, once the windows that begin before its end are merged and no
-- others;
-- and how the next basic interval is told.
use Rattle.std.proofs.Common.{◌≡◌, ℕ, zero, suc, ◌<◌, ◌≤◌, Bool, ◌||◌, List, [], ◌∷◌, ◌++◌, map, take, drop, slice_get, Option, Some, None, option_map, refl, sym, ◌∙◌, ap, arith}
use Rattle.std.specs.List.{AllByRecursion, list_any}
use Rattle.std.proofs.lemmas.List.{take-append-drop}
use Rattle.aggregate.specs.Aggregation.{Basic, Part, parts_of}
use Rattle.event_detect.specs.declared.kind.Kind.{Kind}
use Rattle.event_detect.specs.declared.limits.Limits.{Limits}
use Rattle.event_detect.specs.Flag.{is_touched}
use Rattle.interval_ledger.specs.Merged.{Merged, all_basics, IsAbreast}
use Rattle.interval_ledger.proofs.KnownLaws.{more_from}
use Rattle.lanes.specs.Lane.{recorded_runs}
use Rattle.polyphase.specs.PolyphaseEvent.{all_polyphase_events, kinds}
use Rattle.pq_base.specs.Recorded.{Recorded, IsRecording, sample_count}
use Rattle.pq_sequence.specs.BasicInterval.{fronts}
use Rattle.pq_sequence.specs.MeasuredRecording.{channel_count, recorded_events, recorded_places, recorded_windows, reference_cycles}
use Rattle.settled_laws.specs.Touch.{touches_now}
use Rattle.settled_laws.proofs.BuildLaws.{bare_of, basics_built, built, dressed, last_start}
use Rattle.settled_laws.proofs.IntervalLaws.{basics_are_linked}
use Rattle.settled_laws.proofs.ListLaws.{all_from}
use Rattle.settled_laws.proofs.SettledLaws.{any_kind}
use Rattle.settled_laws.proofs.TouchedLaws.{all_touched_now}

-- ---- flags

any_of_list : (t : Kind → Bool) (ks : List Kind) → any_kind t ks ≡ list_any t ks
any_of_list t [] = refl
any_of_list t (k ∷ ks) = ap (λ b. t k || b) (any_of_list t ks)

-- the merged windows tell what touches a span up to its end: each of them begins before that, and each other
-- at
-- it or after it
pub flag_told : (r : Recorded) (limits : Limits) (m : Merged) (near start end : ℕ) → IsRecording r →
    IsAbreast r limits m near → near ≤ end → start < end → end ≤ sample_count r →
    AllByRecursion (λ x. end ≤ x.window.start) (drop m.windows (recorded_windows r)) →
    is_touched (recorded_events r limits) start end
    ≡ list_any (λ kind. touches_now kind limits (channel_count r) start (take m.windows (recorded_windows r)))
    kinds
flag_told r limits m near start end given abreast until order inside later =
    let fed = take m.windows (recorded_windows r) in
    let more = drop m.windows (recorded_windows r) in
    let split : recorded_windows r ≡ fed ++ more = sym (take-append-drop m.windows (recorded_windows r)) in
    ap (λ ms. is_touched (all_polyphase_events limits (channel_count r) (sample_count r) ms) start end) split
    ∙ all_touched_now limits (channel_count r) (sample_count r) start end fed more order inside
    (all_from (λ x. x.window.start < near) (λ x. x.window.start < end) (λ x h. omega (arith, h, until)) fed
    abreast.windows)
    (more_from r limits end given fed more split later)
    ∙ any_of_list (λ kind. touches_now kind limits (channel_count r) start fed) kinds

-- ---- the next basic interval

-- the one that is built of the bare span at index k, by the start of the one before it
built_at : (places : List ℕ) (touched : ℕ → ℕ → Bool) (before : Option ℕ) (ps : List Part) (k : ℕ) →
    slice_get (built places touched before ps) k
    ≡ option_map (dressed places touched (last_start before (take k ps))) (slice_get ps k)
built_at places touched before [] zero = refl
built_at places touched before [] (suc k) = refl
built_at places touched before (p ∷ ps) zero = refl
built_at places touched before (p ∷ ps) (suc k) = built_at places touched (Some p.start) ps k

-- the start of the last of what is built is that of the last bare span
built_starts : (places : List ℕ) (touched : ℕ → ℕ → Bool) (before also : Option ℕ) (ps : List Part) (k : ℕ) →
    last_start also (parts_of (take k (built places touched before ps))) ≡ last_start also (take k ps)
built_starts places touched before also [] zero = refl
built_starts places touched before also [] (suc k) = refl
built_starts places touched before also (p ∷ ps) zero = refl
built_starts places touched before also (p ∷ ps) (suc k) =
    built_starts places touched (Some p.start) (Some p.start) ps k

-- the start of the last of some basic intervals
abbrev pub latest_of : List Basic → Option ℕ
latest_of basics = last_start None (parts_of basics)

pub latest_more : (basics : List Basic) (b : Basic) → latest_of (basics ++ b ∷ []) ≡ Some b.part.start
latest_more basics b = go None basics
  where
    go : (before : Option ℕ) (bs : List Basic) →
        last_start before (parts_of (bs ++ b ∷ [])) ≡ Some b.part.start
    go before [] = refl
    go before (c ∷ cs) = go (Some c.part.start) cs

-- the bare spans of the recording
abbrev pub bares : Recorded → List Part
bares r = map (bare_of r (reference_cycles r)) (recorded_runs r)

-- the next basic interval is the next bare span, a segment's first by the ticks' places, and flagged where an
-- event touches it
pub next_basic : (r : Recorded) (limits : Limits) → IsRecording r → (k : ℕ) →
    slice_get (all_basics r limits) k
    ≡ option_map (dressed (recorded_places r) (is_touched (recorded_events r limits))
    (latest_of (take k (all_basics r limits)))) (slice_get (bares r) k)
next_basic r limits given k =
    let touched : ℕ → ℕ → Bool = is_touched (recorded_events r limits) in
    let places = recorded_places r in
    let spans = bares r in
    let built_so : all_basics r limits ≡ built places touched None spans =
    basics_built r (reference_cycles r) (fronts (reference_cycles r) places) places (recorded_events r limits)
    (recorded_runs r) (basics_are_linked r (recorded_events r limits) given) in
    ap (λ bs. slice_get bs k) built_so
    ∙ built_at places touched None spans k
    ∙ ap (λ o. option_map (dressed places touched o) (slice_get spans k))
    (sym (ap (λ bs. latest_of (take k bs)) built_so ∙ built_starts places touched None None spans k))
