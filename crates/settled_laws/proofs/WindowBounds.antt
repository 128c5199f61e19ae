-- Windows lie within the signal, and none is empty; so do those of all channels of a recording.
use Rattle.std.proofs.Common.{ℕ, ◌<◌, List, [], length, ℤ, subst}
use Rattle.std.specs.List.{AllByRecursion}
use Rattle.std.proofs.lemmas.List.Elements.{All-from_get_or, All-map, recursion_from_All}
use Rattle.event_detect.specs.declared.window.Window.{Window}
use Rattle.half_cycle.specs.HalfCycleWindow.{windows}
use Rattle.half_cycle.proofs.WindowBounds.{windows_lie}
use Rattle.pq_base.specs.Recorded.{Recorded, IsRecording, sample_count, samples_at}
use Rattle.pq_sequence.specs.MeasuredRecording.{channel_windows, recorded_rule, windows_by_channel}
use Rattle.pq_sequence.proofs.ResultLaws.{rule_of_recording}
use Rattle.zero_cross.specs.declared.rule.Rule.{Rule}
use Rattle.zero_cross.specs.Boundary.{IsRule}

-- a window that is not empty and ends before place n
abbrev pub IsWithin : ℕ → Window → Type 0
IsWithin n w = (w.start < w.end) × (w.end < n)

pub windows_within : (s : List ℤ) (rule : Rule) → IsRule rule →
    AllByRecursion (IsWithin (length s)) (windows s rule)
windows_within s rule given = recursion_from_All (IsWithin (length s)) (windows s rule)
    (windows_lie s rule given)

pub channels_within : (r : Recorded) → IsRecording r →
    AllByRecursion (AllByRecursion (IsWithin (sample_count r))) (windows_by_channel r)
channels_within r is =
    let all : List Window → Type 0 = AllByRecursion (IsWithin (sample_count r)) in
    let lies : (k : ℕ) → k < length r.samples → all (channel_windows r (samples_at r k)) = λ k inside.
    subst (λ count. AllByRecursion (IsWithin count) (channel_windows r (samples_at r k))) (is.even k inside)
    (windows_within (samples_at r k) (recorded_rule r) (rule_of_recording r is)) in
    recursion_from_All all (windows_by_channel r)
    (All-map all (channel_windows r) r.samples
    (All-from_get_or (λ samples. all (channel_windows r samples)) r.samples [] lies))
