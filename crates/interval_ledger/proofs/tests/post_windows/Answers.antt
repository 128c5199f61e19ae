use Rattle.std.proofs.Common.{◌≡◌, ℕ, zero, suc, ◌+◌, ◌<◌, ◌≤◌, List, [], ◌∷◌, length, drop, Some, option_map, slice_get, slice_index, get_or-set_same, sym, ◌∙◌, ap, subst, arith}
use Rattle.std.proofs.lemmas.List.{length-map}
use Rattle.std.proofs.lemmas.Option.{slice_get-map}
use Rattle.event_detect.specs.declared.window.Window.{Window}
use Rattle.half_cycle.specs.HalfCycleWindow.{windows}
use Rattle.interval_ledger.specs.declared.ledger.Ledger.{Ledger}
use Rattle.interval_ledger.specs.Ledger.{IsNextItem, PostsOne, count_of, view_of}
use Rattle.interval_ledger.specs.Settlement.{SettlementView}
use Rattle.interval_ledger.proofs.GivenLaws.{recording_given}
use Rattle.lanes.specs.declared.lane_item.LaneItem.TheVariants as item
use Rattle.lanes.specs.Lane.{lane_items, windows_at}
use Rattle.lanes.proofs.LaneLaws.{detector_lane}
use Rattle.pq_base.specs.Recorded.{Recorded}
use Rattle.pq_sequence.specs.MeasuredRecording.{channel_count, recorded_rule}
use Rattle.interval_ledger.proofs.tests.post_windows.Goals as goal

first_left : {X : Type 0} (xs : List X) (k : ℕ) (x : X) (rest : List X) → drop k xs ≡ x ∷ rest →
    (slice_get xs k ≡ Some x) × (drop (suc k) xs ≡ rest)
first_left [] zero x rest is = absurd (let bad : ⊥ = cc in bad)
first_left [] (suc k) x rest is = absurd (let bad : ⊥ = cc in bad)
first_left (y ∷ ys) zero x rest is =
    (let same : Some y ≡ Some x = cc in same, let left : ys ≡ rest = cc in left)
first_left (y ∷ ys) (suc k) x rest is = first_left ys k x rest is

inside : (r : Recorded) (l : Ledger) → (view_of l).recording ≡ r → 0 < channel_count r
inside r l about = subst (λ r. 0 < channel_count r) about (recording_given l).channels.0

none_left : {X : Type 0} (xs : List X) (k : ℕ) → drop k xs ≡ [] → length xs ≤ k
none_left [] k is = omega arith
none_left (y ∷ ys) zero is = absurd (let bad : ⊥ = cc in bad)
none_left (y ∷ ys) (suc k) is = let less = none_left ys k is in omega (arith, less)

next_item : (r : Recorded) (l : Ledger) (w : Window) → (view_of l).recording ≡ r →
    slice_get (windows_at r 0) (count_of l 1) ≡ Some w → IsNextItem l 1 (item.Window w)
next_item r l w about is =
    ap (λ xs. slice_get xs (count_of l 1))
    (ap (λ r. lane_items r 1) about ∙ detector_lane r 0 (inside r l about))
    ∙ slice_get-map item.Window (windows_at r 0) (count_of l 1)
    ∙ ap (option_map item.Window) is

one_more : (l m : Ledger) → PostsOne l m 1 → count_of m 1 ≡ suc (count_of l 1)
one_more l m posts =
    let some = (recording_given l).channels.0 in
    let sized = l.posted.sized in
    ap (λ (v : SettlementView). slice_index v.counts 1) posts
    ∙ get_or-set_same (view_of l).counts 1 (count_of l 1 + 1) 0 (omega (arith, some, sized))
    ∙ omega arith

all_posted : (r : Recorded) (l : Ledger) → (view_of l).recording ≡ r →
    length (windows_at r 0) ≤ count_of l 1 → count_of l 1 ≡ length (windows_at r 0)
all_posted r l about all =
    let there = inside r l about in
    let some = (recording_given l).channels.0 in
    let most = l.posted.most 1 (omega (arith, some)) in
    let items = ap length (ap (λ r. lane_items r 1) about ∙ detector_lane r 0 there) in
    let long = length-map (windows_at r 0) item.Window in omega (arith, all, most, items, long)

-- none is posted yet
pub loop-window-init : goal.loop-window-init
loop-window-init c =
    let r = c.args.recording.now in
    let all = c.into_iter-window-iterator.ensures.into_iter_gives
    ∙ c.new-window-items.ensures
    ∙ ap (λ rule. windows c.samples.result.now rule) c.recorded_rule.ensures.value
    ∙ ap (λ xs. windows xs (recorded_rule r)) c.samples.ensures.value in
    record {
      about = c.requires.about;
      left = ap (λ k. drop k (windows_at r 0)) c.requires.none ∙ sym all;
    }

-- the window is the next item of lane 1
pub post-requires : goal.post-requires
post-requires c =
    let is = c.loop-window.invariant in
    next_item c.args.recording.now c.loop-window.ledger c.in-Some.window is.about
    (first_left (windows_at c.args.recording.now 0) (count_of c.loop-window.ledger 1) c.in-Some.window _
    (is.left ∙ c.in-Some.ensures.steps)).0

-- and then it is posted
pub loop-window-preserved : goal.loop-window-preserved
loop-window-preserved c =
    let r = c.args.recording.now in
    let is = c.loop-window.invariant in
    let l = c.loop-window.ledger in
    record {
      about = ap (λ v. v.recording) c.post.ensures ∙ is.about;
      left = ap (λ k. drop k (windows_at r 0)) (one_more l c.post.new.self c.post.ensures)
          ∙ (first_left (windows_at r 0) (count_of l 1) c.in-Some.window _
          (is.left ∙ c.in-Some.ensures.steps)).1;
    }

pub returns-clause-about : goal.returns-clause-about
returns-clause-about c = c.loop-window.invariant.about

-- all are
pub returns-clause-all : goal.returns-clause-all
returns-clause-all c =
    let r = c.args.recording.now in
    let is = c.loop-window.invariant in
    all_posted r c.loop-window.ledger is.about
    (none_left (windows_at r 0) (count_of c.loop-window.ledger 1) (is.left ∙ c.in-None.ensures.steps.0))
