-- The sequential result: its items, their range and its cuts.
use Rattle.std.proofs.Common.{◌<◌, length, All, refl}
use Rattle.std.proofs.lemmas.List.Elements.{All-weaker}
use Rattle.std.proofs.lemmas.List.Sorted.{All-permutation}
use Rattle.event_detect.specs.declared.limits.Limits.{Limits}
use Rattle.pq_base.specs.Recorded.{Recorded, IsRecording, sample_count}
use Rattle.pq_items.specs.ItemOrder.{item_cmp}
use Rattle.pq_items.specs.ItemRange.{IsItemInRange}
use Rattle.pq_sequence.specs.MeasuredRecording.{recorded_events, recorded_rule, recorded_windows}
use Rattle.pq_sequence.specs.SequentialResult.{all_items, sequential}
use Rattle.pq_sequence.proofs.MergedLemmas.{IsWindowIn, recorded_in}
use Rattle.pq_sequence.proofs.PlaceLaws.{all_placed}
use Rattle.pq_sequence.specs.WholeResult.{IsPlaced}
use Rattle.pq_words.proofs.SortedLaws.{in_order_permutes}
use Rattle.zero_cross.specs.Boundary.{IsRule}

-- the rule of a recording is one
pub rule_of_recording : (r : Recorded) → IsRecording r → IsRule (recorded_rule r)
rule_of_recording r is = record {
  rate = r.rate;
  lf = r.lf;
  line = is.lf;
  least = is.rate.0;
  most = is.rate.1;
  is = refl;
}

-- the events of a recording lie in it
pub events_placed : (r : Recorded) (limits : Limits) → IsRecording r →
    All (IsPlaced (length r.numbers) (sample_count r)) (recorded_events r limits)
events_placed r limits is = all_placed (length r.numbers) (sample_count r) is.channels.0 limits
    (recorded_windows r) (recorded_in r is (rule_of_recording r is))

-- their channels are those of the recording
pub channels_there : (r : Recorded) (limits : Limits) → IsRecording r →
    All (λ event. event.channel < length r.numbers) (recorded_events r limits)
channels_there r limits is =
    All-weaker (IsPlaced (length r.numbers) (sample_count r)) (λ event. event.channel < length r.numbers)
    (λ event placed. placed.channel) (recorded_events r limits) (events_placed r limits is)

-- and so are those of its merged windows
pub windows_there : (r : Recorded) → IsRecording r →
    All (λ m. m.channel < length r.numbers) (recorded_windows r)
windows_there r is =
    All-weaker (IsWindowIn (length r.numbers) (sample_count r)) (λ m. m.channel < length r.numbers)
    (λ m lies. lies.2) (recorded_windows r) (recorded_in r is (rule_of_recording r is))

-- what is true of all items is true of those of the result
pub result_in_range : (r : Recorded) (limits : Limits) → All IsItemInRange (all_items r limits) →
    All IsItemInRange (sequential r limits)
unfolding sequential
result_in_range r limits are = All-permutation IsItemInRange (all_items r limits) (sequential r limits)
    (in_order_permutes item_cmp (all_items r limits)) are
