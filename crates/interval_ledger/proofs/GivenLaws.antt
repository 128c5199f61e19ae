-- What a ledger is about is a recording.
use Rattle.std.proofs.Common.{◌≡◌, ◌⊎◌, ℕ, ap, inl, inr, arith}
use Rattle.std.proofs.Math.Logic.{∥∥₁_elim}
use Rattle.std.proofs.Math.Nat.{ℕ_set}
use Rattle.std.proofs.Props.{props}
use Rattle.interval_ledger.specs.declared.ledger.Ledger.{Ledger}
use Rattle.interval_ledger.specs.Ledger.{view_of}
use Rattle.pq_base.specs.Recorded.{IsRecording, Recorded}

line_prop : (n : ℕ) → IsProp ((n ≡ 50) ⊎ (n ≡ 60))
line_prop n (inl a) (inl b) = ap inl (ℕ_set n 50 a b)
line_prop n (inl a) (inr b) = absurd (omega (arith, a, b))
line_prop n (inr a) (inl b) = absurd (omega (arith, a, b))
line_prop n (inr a) (inr b) = ap inr (ℕ_set n 60 a b)

recording_prop : (r : Recorded) → IsProp (IsRecording r)
recording_prop r = hlevel (props, line_prop)

pub recording_given : (l : Ledger) → IsRecording (view_of l).recording
recording_given l = ∥∥₁_elim l.posted.given (recording_prop (view_of l).recording) (λ given. given)
