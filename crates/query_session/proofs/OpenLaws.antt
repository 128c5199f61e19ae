-- What opening makes.
use Rattle.std.proofs.Common.{◌≡◌, ℕ, ◌+◌, zero, suc, List, [], ◌∷◌, ◌++◌, length, replicate, slice_index, refl, ap, ◌∙◌, subst, arith}
use Rattle.event_detect.specs.declared.limits.Limits.{Limits}
use Rattle.interval_ledger.specs.declared.ledger.Ledger.{Ledger}
use Rattle.interval_ledger.specs.declared.subject.Subject.{Subject}
use Rattle.interval_ledger.specs.Ledger.{reach_of, subject_of}
use Rattle.interval_ledger.specs.Settlement.{SettlementView}
use Rattle.lanes.specs.Lane.{lane_count, reach}
use Rattle.pq_base.specs.Recorded.{Recorded}
use Rattle.progress_words.specs.declared.pass_view.PassView.{PassView}
use Rattle.progress_words.specs.declared.pass_view.Role.TheVariants.{Raises, Reads}
use Rattle.progress_words.specs.declared.shared.Shared.{Ghosts}
use Rattle.progress_words.specs.PassView.{fresh_lane, fresh_reader, idle_view}
use Rattle.query_session.specs.declared.chain.ChainOf.{ChainOf}
use Rattle.query_session.specs.declared.seat.SeatOf.{SeatOf}
use Rattle.query_session.specs.Chain.{AreFreshSeats, AreReady, IsFreshLaneOf, IsFreshReaderOf, IsFreshSeat, IsOpeningOf, lane_at_first, reader_at_first, subject}

zeros : (n k : ℕ) → slice_index (replicate n 0) k ≡ 0
zeros zero k = refl
zeros (suc n) zero = refl
zeros (suc n) (suc k) = zeros n k

pub zeros_long : (n : ℕ) → length {A = ℕ} (replicate n 0) ≡ n
zeros_long zero = refl
zeros_long (suc n) = ap suc (zeros_long n)

-- the name and the reaches of a ledger with nothing posted
pub opened_name : (r : Recorded) (limits : Limits) (value : Ledger) → IsOpeningOf r limits value →
    subject_of value ≡ subject r limits
opened_name r limits value opening =
    λ i. record { recording = (opening i).recording; limits = (opening i).limits }

opened_reach : (r : Recorded) (limits : Limits) (value : Ledger) (lane : ℕ) → IsOpeningOf r limits value →
    reach_of value lane ≡ reach r lane 0
opened_reach r limits value lane opening =
    ap (λ (s : SettlementView). reach s.recording lane (slice_index s.counts lane)) opening
    ∙ ap (reach r lane) (zeros (lane_count r) lane)

-- what the passes know at opening
pub lane_first : (r : Recorded) (limits : Limits) (value : Ledger) (lane : ℕ) → IsOpeningOf r limits value →
    idle_view (subject_of value) value (Raises (fresh_lane lane (reach_of value lane)))
    ≡ lane_at_first r limits value lane
lane_first r limits value lane opening =
    let name = opened_name r limits value opening in
    let reached = opened_reach r limits value lane opening in
    λ i. idle_view (name i) value (Raises (fresh_lane lane (reached i)))

pub reader_first : (r : Recorded) (limits : Limits) (value : Ledger) (lanes : ℕ) →
    IsOpeningOf r limits value →
    lanes ≡ lane_count r →
    idle_view (subject_of value) value (Reads (fresh_reader lanes lanes)) ≡ reader_at_first r limits value
reader_first r limits value lanes opening all =
    let name = opened_name r limits value opening in
    λ i. idle_view (name i) value (Reads (fresh_reader (all i) (all i)))

pub fresh_lane_of : (r : Recorded) (limits : Limits) (value : Ledger) (lane : ℕ)
    (v : PassView Ledger Subject) →
    v ≡ lane_at_first r limits value lane → IsFreshLaneOf r lane v
fresh_lane_of r limits value lane v e = record {
  recording = ap (λ w. w.name.recording) e;
  role = ap (λ w. w.role) e;
  held = ap (λ w. w.held_value) e;
}

pub fresh_reader_of : (r : Recorded) (limits : Limits) (value : Ledger) (v : PassView Ledger Subject) →
    v ≡ reader_at_first r limits value → IsFreshReaderOf r v
fresh_reader_of r limits value v e = record {
  recording = ap (λ w. w.name.recording) e;
  role = ap (λ w. w.role) e;
  held = ap (λ w. w.held_value) e;
}

pub seats_snoc : {g : Ghosts Ledger Subject} (chain : ChainOf Ledger Subject) (r : Recorded) (limits : Limits)
    (lane : ℕ) (seats : List (SeatOf Ledger g)) (s : SeatOf Ledger g) →
    AreFreshSeats chain r limits lane seats → IsFreshSeat chain r limits (lane + length seats) s →
    AreFreshSeats chain r limits lane (seats ++ s ∷ [])
seats_snoc {g} chain r limits lane [] s h p =
    (subst (λ (k : ℕ). IsFreshSeat chain r limits k s) (omega arith) p, tt)
seats_snoc {g} chain r limits lane (x ∷ xs) s h p = (
  h.0,
  seats_snoc chain r limits (lane + 1) xs s h.1
      (subst (λ (k : ℕ). IsFreshSeat chain r limits k s) (omega arith) p),
)

-- fresh seats are ready
pub fresh_ready : {g : Ghosts Ledger Subject} (chain : ChainOf Ledger Subject) (r : Recorded)
    (limits : Limits)
    (lane : ℕ) (seats : List (SeatOf Ledger g)) →
    AreFreshSeats chain r limits lane seats → AreReady chain seats
fresh_ready {g} chain r limits lane [] h k d l = absurd (omega (arith, l))
fresh_ready {g} chain r limits lane (s ∷ seats) h zero d l = (h.0.mine, h.0.idle)
fresh_ready {g} chain r limits lane (s ∷ seats) h (suc k) d l =
    fresh_ready chain r limits (lane + 1) seats h.1 k d (omega (arith, l))
