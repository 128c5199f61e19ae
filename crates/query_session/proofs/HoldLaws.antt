-- What a session may do with the ledger that it took.
use Rattle.std.proofs.Common.{◌≡◌, ℕ, ◌<◌, ◌≤◌, List, length, slice_index, Option, Some, None, sym, ap, subst, arith}
use Rattle.interval_ledger.specs.declared.ledger.Ledger.{Ledger}
use Rattle.interval_ledger.specs.declared.subject.Subject.{Subject}
use Rattle.interval_ledger.specs.Ledger.{IsReached, KeepsCounts, reach_of, subject_of, view_of as ledger_view}
use Rattle.lanes.specs.Lane.{lane_count, reach}
use Rattle.pq_base.specs.Recorded.{Recorded, sample_count}
use Rattle.progress_words.specs.Turn.{ReaderMayGive}
use Rattle.query_session.specs.declared.answer.Next.{Next}
use Rattle.query_session.specs.declared.answer.Next.TheVariants.{End}
use Rattle.query_session.specs.declared.stage.Stage.TheVariants.{Idle}
use Rattle.query_session.specs.Bounds.{HasBounds}
use Rattle.query_session.specs.Least.{IsLeast}
use Rattle.query_session.specs.Reading.{Answers}
use Rattle.query_session.specs.Session.{View}
use Rattle.query_session.specs.Stage.{CoversReads, HasSeen, MayAdvance}

-- it may be advanced to the least word
pub within_reaches : (u : Ledger) (name : Subject) (words : List ℕ) (lane word : ℕ) →
    CoversReads {V = Ledger} {N = Subject} reach_of subject_of u name words →
    length words ≡ lane_count name.recording → IsLeast (length words) words lane word →
    IsReached u word
within_reaches u name words lane word covers long least =
    let same = ap (λ (s : Subject). lane_count s.recording) covers.0 in
    λ k l. let inside : k < length words = omega (arith, same, long, l) in
    let reached = covers.1 k inside in let low = least.least k inside in omega (arith, reached, low)

-- and given back then
pub may_give : (n : ℕ) (t u : Ledger) (v : View) → v.held_value ≡ Some t → KeepsCounts t u →
    ReaderMayGive {V = Ledger} {N = Subject} reach_of subject_of n u v
may_give n t u v held keeps = (
  t,
  held,
  keeps.subject_same,
  (λ lane l i. reach (keeps.subject_same i).recording lane (slice_index (keeps.counts_same i) lane)),
)

some_pair : (a b c d : ℕ) → ◌≡◌ {A = Option (ℕ × ℕ)} (Some (a, b)) (Some (c, d)) → (a ≡ c) × (b ≡ d)
some_pair a b c d e = (ap (first_or a) e, ap (second_or b) e)
  where
    first_or : ℕ → Option (ℕ × ℕ) → ℕ
    first_or z (Some p) = p.0
    first_or z None = z

    second_or : ℕ → Option (ℕ × ℕ) → ℕ
    second_or z (Some p) = p.1
    second_or z None = z

pub seen_is : (F : ℕ → ℕ → Type 0) (a b : ℕ) → F a b → (c d : ℕ) →
    ◌≡◌ {A = Option (ℕ × ℕ)} (Some (a, b)) (Some (c, d)) → F c d
seen_is F a b h c d e =
    let t = some_pair a b c d e in subst (λ x. F x d) t.0 (subst (F a) t.1 h)

pub held_is : (F : Ledger → Type 0) (t : Ledger) → F t → (u : Ledger) →
    ◌≡◌ {A = Option Ledger} (Some t) (Some u) → F u
held_is F t h u e = let same : t ≡ u = cc in subst F same h

-- an idle session has seen nothing and holds nothing
pub none_seen : (words : List ℕ) → HasSeen {V = Ledger} Idle words
none_seen words lane word e = absurd (let bad : ⊥ = cc in bad)

pub none_held : (name : Subject) (words : List ℕ) →
    MayAdvance {V = Ledger} {N = Subject} reach_of subject_of Idle name words
none_held name words u e = absurd (let bad : ⊥ = cc in bad)

-- where the least word is that of the end, each is
pub all_at_end : (old new : Ledger) (name : Subject) (words : List ℕ) (lane word cursor : ℕ) (next : Next) →
    HasBounds name.recording name.limits →
    CoversReads {V = Ledger} {N = Subject} reach_of subject_of old name words →
    IsLeast (length words) words lane word → Answers old new lane word cursor next → next ≡ End →
    (k : ℕ) → k < length words → slice_index words k ≡ sample_count name.recording
all_at_end old new name words lane word cursor next bounds covers least answers e k l =
    let ended = subst (Answers old new lane word cursor) e answers in
    let done = ended.1 in
    let low = least.least k l in
    let reached = covers.1 k l in
    let count : ℕ = slice_index (ledger_view old).counts k in
    let most : reach (ledger_view old).recording k count ≤ sample_count name.recording =
    subst (λ (r : Recorded). reach r k count ≤ sample_count name.recording)
    (ap (λ (s : Subject). s.recording) (sym covers.0)) (bounds.most k count) in
    let same = ap (λ (s : Subject). sample_count s.recording) covers.0 in
    omega (arith, done, low, reached, most, same)
