-- What a lane's seat may do with the ledger that it took.
use Rattle.std.proofs.Common.{◌≡◌, ◌≢◌, ℕ, ◌+◌, ◌-◌, ◌<◌, ◌≤◌, min, List, [], ◌∷◌, ◌++◌, length, length-append, length-drop, length-take, take, drop, slice_get, slice_set, Option, Some, None, refl, sym, ap, ◌∙◌, subst, arith, get_or-set_same, get_or-set_other}
use Rattle.chain_core.proofs.ChangedLaws.{get_before}
use Rattle.interval_ledger.specs.declared.ledger.Ledger.{Ledger}
use Rattle.interval_ledger.specs.declared.subject.Subject.{Subject}
use Rattle.interval_ledger.specs.Ledger.{AreNextItems, PostsMany, PostsOne, count_of, reach_of, subject_of, view_of as ledger_view}
use Rattle.interval_ledger.specs.Settlement.{SettlementView, posted_count, with_posts}
use Rattle.lanes.specs.declared.lane_item.LaneItem.{LaneItem}
use Rattle.lanes.specs.Lane.{lane_count, lane_items, lane_key, reach}
use Rattle.lanes.proofs.ReachLaws.{reach_done, reach_next}
use Rattle.pq_base.specs.Recorded.{Recorded, sample_count}
use Rattle.progress_words.specs.declared.pass_view.PassView.{PassView}
use Rattle.progress_words.specs.PassView.{after_lane_give, lane_part}
use Rattle.progress_words.specs.Turn.{LaneMayGive}
use Rattle.query_session.specs.Ahead.{AreKeys, IsFirstNext, reach_before}
use Rattle.query_session.specs.Bounds.{HasBounds}
use Rattle.query_session.proofs.ListLaws.{drop_again, drop_part, get_drop, none_left, set_again, set_as_was}

abbrev View : Type 0
View = PassView Ledger Subject

-- ---- the count of a ledger that was taken

-- it is what the seat last gave back, since the reach tells it
pub held_count : (v : View) (u : Ledger) (lane count : ℕ) → HasBounds v.name.recording v.name.limits →
    subject_of u ≡ v.name → reach_of u lane ≡ (lane_part v.role).reach_given →
    (lane_part v.role).reach_given ≡ reach v.name.recording lane count → lane < lane_count v.name.recording →
    count ≤ length (lane_items v.name.recording lane) → count_of u lane ≡ count
held_count v u lane count bounds named covers given inside counted =
    let r : Recorded = v.name.recording in
    let same : (ledger_view u).recording ≡ r = ap (λ (s : Subject). s.recording) named in
    let there : reach r lane (count_of u lane) ≡ reach r lane count =
    ap (λ (x : Recorded). reach x lane (count_of u lane)) (sym same) ∙ (covers ∙ given) in
    let most : count_of u lane ≤ length (lane_items r lane) =
    subst (λ (x : Recorded). count_of u lane ≤ length (lane_items x lane)) same
    (u.posted.most lane (subst (λ (x : Recorded). lane < lane_count x) (sym same) inside)) in
    bounds.tells lane (count_of u lane) count most counted there

-- ---- posts

posted_is : (s : SettlementView) (lane k : ℕ) → lane < length s.counts →
    posted_count (with_posts s lane k) lane ≡ posted_count s lane + k
posted_is s lane k inside = get_or-set_same s.counts lane (posted_count s lane + k) 0 inside

pub posts_none : (s : SettlementView) (lane : ℕ) → s ≡ with_posts s lane 0
posts_none s lane =
    let same : slice_set s.counts lane (posted_count s lane + 0) ≡ s.counts =
    ap (λ k. slice_set s.counts lane k) {x = posted_count s lane + 0} {y = posted_count s lane} (omega arith)
    ∙ set_as_was s.counts lane in
    λ i. record s { counts = sym same i }

pub posts_more : (s : SettlementView) (lane k : ℕ) → lane < length s.counts →
    with_posts (with_posts s lane k) lane 1 ≡ with_posts s lane (k + 1)
posts_more s lane k inside =
    let count = posted_count s lane in
    let same : slice_set (slice_set s.counts lane (count + k)) lane
    (posted_count (with_posts s lane k) lane + 1)
    ≡ slice_set s.counts lane (count + (k + 1)) =
    set_again s.counts lane (count + k) (posted_count (with_posts s lane k) lane + 1)
    ∙ ap (λ j. slice_set s.counts lane j) (ap (λ j. j + 1) (posted_is s lane k inside) ∙ omega arith) in
    λ i. record s { counts = same i }

pub posts_on : (old mid new : Ledger) (lane k : ℕ) → lane < lane_count (ledger_view old).recording →
    PostsMany old mid lane k → PostsOne mid new lane → PostsMany old new lane (k + 1)
posts_on old mid new lane k inside many one =
    let sized = old.posted.sized in
    one
    ∙ (ap (λ s. with_posts s lane 1) many ∙ posts_more (ledger_view old) lane k
    (omega (arith, inside, sized)))

count_after : (t u : Ledger) (lane k : ℕ) → PostsMany t u lane k → lane < length (ledger_view t).counts →
    count_of u lane ≡ count_of t lane + k
count_after t u lane k posts inside =
    ap (λ s. posted_count s lane) posts ∙ posted_is (ledger_view t) lane k inside

count_beside : (t u : Ledger) (lane k j : ℕ) → PostsMany t u lane k → j ≢ lane → count_of u j ≡ count_of t j
count_beside t u lane k j posts other =
    ap (λ s. posted_count s j) posts
    ∙ get_or-set_other (ledger_view t).counts lane j (count_of t lane + k) 0 other

-- the next items, once so many of them are posted
pub next_after : (old mid : Ledger) (lane k : ℕ) (items : List LaneItem) →
    lane < lane_count (ledger_view old).recording → AreNextItems old lane items → PostsMany old mid lane k →
    IsFirstNext mid lane (drop k items)
next_after old mid lane k items inside next posts i first =
    let sized = old.posted.sized in
    let there = next k i (ap (λ j. slice_get items j) {x = k} {y = k + 0} (omega arith)
    ∙ (sym (get_drop k 0 items) ∙ first)) in
    let count = count_after old mid lane k posts (omega (arith, inside, sized)) in
    let same = ap (λ (s : SettlementView). s.recording) posts in
    (λ j. slice_get (lane_items (same j) lane) (count j)) ∙ there

-- the ledger may go back with more of the lane's items
pub may_give_lane : (n : ℕ) (t u : Ledger) (v : View) (lane k : ℕ) →
    HasBounds v.name.recording v.name.limits →
    subject_of t ≡ v.name → (lane_part v.role).lane ≡ lane → v.held_value ≡ Some t → PostsMany t u lane k →
    lane < length (ledger_view t).counts →
    LaneMayGive {V = Ledger} {N = Subject} reach_of subject_of n u v
may_give_lane n t u v lane k bounds named place held posts inside = (
  t,
  held,
  (λ i. record { recording = (posts i).recording; limits = (posts i).limits }),
  (
    (λ j l other. let same = count_beside t u lane k j posts (λ e. other (e ∙ sym place)) in
        λ i. reach (posts i).recording j (same i)),
    subst (λ j. reach_of t j ≤ reach_of u j) (sym place) (
        let more = count_after t u lane k posts inside in
        let r : Recorded = v.name.recording in
        let of_t : (ledger_view t).recording ≡ r = ap (λ (s : Subject). s.recording) named in
        let of_u : (ledger_view u).recording ≡ r = ap (λ (s : SettlementView). s.recording) posts ∙ of_t in
        let a = bounds.rises lane (count_of t lane) (count_of u lane) (omega (arith, more)) in
        subst (λ (x : Recorded). reach x lane (count_of t lane) ≤ reach_of u lane) (sym of_t)
        (subst (λ (x : Recorded). reach r lane (count_of t lane) ≤ reach x lane (count_of u lane))
        (sym of_u) a)
        ),
  ),
)

-- the lane's reach in it
pub posted_reach : (r : Recorded) (t u : Ledger) (lane count k : ℕ) → PostsMany t u lane k →
    lane < length (ledger_view t).counts → count_of t lane ≡ count → (ledger_view t).recording ≡ r →
    reach_of u lane ≡ reach r lane (count + k)
posted_reach r t u lane count k posts inside was same =
    (λ i. reach (posts i).recording lane (count_after t u lane k posts inside i))
    ∙ (λ i. reach (same i) lane (was i + k))

-- ---- what is left

-- what is left after so many more are posted
pub left_after : (k count : ℕ) (m u all : List LaneItem) → k ≤ length m → m ++ u ≡ drop count all →
    drop k m ++ u ≡ drop (count + k) all
left_after k count m u all few left =
    sym (drop_part k m u few) ∙ (ap (drop k) left ∙ drop_again k count all)

empty : {A : Type 0} (xs : List A) → length xs ≤ 0 → xs ≡ []
empty [] l = refl
empty (x ∷ xs) l = absurd (omega (arith, l))

-- where 65 are measured and no more than 64 of them are posted, nothing measured means that nothing is left
pub all_measured : (k count : ℕ) (m u all : List LaneItem) → m ++ u ≡ drop count all →
    m ≡ take 65 (drop count all) → k ≤ 64 → drop k m ≡ [] → u ≡ []
all_measured k count m u all left measured few none =
    let few_left = none_left k m none in
    let size = ap length measured ∙ length-take 65 (drop count all) in
    let both = sym (length-append m u) ∙ ap length left in
    empty u (omega (arith, few_left, size, both, few))

-- how many are measured
pub many_measured : (count : ℕ) (m all : List LaneItem) → m ≡ take 65 (drop count all) →
    length m ≡ min 65 (length all - count)
many_measured count m all measured =
    let size = ap length measured ∙ length-take 65 (drop count all) in
    let rest = length-drop count all in
    omega (arith, size, rest)

-- what is measured stands in the lane
measured_at : (count k : ℕ) (m u all : List LaneItem) (i : LaneItem) → m ++ u ≡ drop count all →
    slice_get m k ≡ Some i → slice_get all (count + k) ≡ Some i
measured_at count k m u all i left is =
    sym (get_drop count k all) ∙ (ap (λ xs. slice_get xs k) (sym left) ∙ get_before m u k i is)

pub are_next : (u : Ledger) (r : Recorded) (lane count : ℕ) (m rest : List LaneItem) →
    (ledger_view u).recording ≡ r → count_of u lane ≡ count → m ++ rest ≡ drop count (lane_items r lane) →
    AreNextItems u lane m
are_next u r lane count m rest same was left k i is =
    (λ j. slice_get (lane_items (same j) lane) (was j + k))
    ∙ measured_at count k m rest (lane_items r lane) i left is

pub are_keys : (r : Recorded) (lane count samples : ℕ) (m rest : List LaneItem) →
    ((k : ℕ) (i : LaneItem) → slice_get (lane_items r lane) k ≡ Some i →
    (1 ≤ lane_key i) × (lane_key i ≤ sample_count r)) →
    samples ≡ sample_count r → m ++ rest ≡ drop count (lane_items r lane) → AreKeys samples m
are_keys r lane count samples m rest keys end left k i is =
    let h = keys (count + k) i (measured_at count k m rest (lane_items r lane) i left is) in
    (h.0, omega (arith, h.1, end))

-- the reach before what is measured is the lane's
pub due_is : (r : Recorded) (lane count samples : ℕ) (m rest : List LaneItem) → samples ≡ sample_count r →
    m ++ rest ≡ drop count (lane_items r lane) → (m ≡ [] → rest ≡ []) →
    reach_before samples m ≡ reach r lane count
due_is r lane count samples [] rest end left ready =
    end ∙ sym (reach_done r lane count (none_left count (lane_items r lane) (sym left ∙ ready refl)))
due_is r lane count samples (x ∷ xs) rest end left ready =
    sym (reach_next r lane count x
    (ap (λ k. slice_get (lane_items r lane) k) {x = count} {y = count + 0} (omega arith)
    ∙ measured_at count 0 (x ∷ xs) rest (lane_items r lane) x left refl))

-- nothing is left exactly where nothing is measured
pub more_left : (count : ℕ) (m rest all : List LaneItem) → m ++ rest ≡ drop count all → 0 < length m →
    count < length all
more_left count m rest all left some =
    let size = sym (length-append m rest) ∙ (ap length left ∙ length-drop count all) in
    omega (arith, size, some)

pub all_posted : (count : ℕ) (m rest all : List LaneItem) → m ++ rest ≡ drop count all →
    (m ≡ [] → rest ≡ []) → length m ≤ 0 → length all ≤ count
all_posted count m rest all left ready none =
    let m_none = empty m none in
    none_left count all (sym left ∙ (ap (λ xs. xs ++ rest) m_none ∙ ready m_none))

-- ---- what the pass knows then

pub gave_lane : (u : Ledger) (v : View) (lane : ℕ) → (lane_part v.role).lane ≡ lane →
    lane_part (after_lane_give {V = Ledger} {N = Subject} reach_of u v).role
    ≡ record (lane_part v.role) { reach_given = reach_of u lane }
gave_lane u v lane place = λ i. record (lane_part v.role) { reach_given = reach_of u (place i) }

pub no_ledger : (u : Ledger) → ◌≡◌ {A = Option Ledger} None (Some u) → ⊥
no_ledger u e = cc

pub not_posted : (k : ℕ) → ◌≡◌ {A = Option ℕ} None (Some k) → ⊥
not_posted k e = cc
