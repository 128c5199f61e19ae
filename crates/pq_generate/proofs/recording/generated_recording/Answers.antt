use Rattle.std.proofs.Common.{◌∙◌, subst, sym}
use Rattle.pq_base.specs.Recorded.{IsRecording}
use Rattle.pq_generate.proofs.RecordingLemmas.{is_recording, same_recording}
use Rattle.pq_generate.proofs.recording.generated_recording.Goals as goal

pub new-requires : goal.new-requires
new-requires c = subst IsRecording
    (sym (same_recording c.args.seed c.in_ok-numbers.numbers.items c.in_ok-samples.samples.items
    c.in_ok-first.first c.in_ok-second.second c.in_ok-third.third c.in_ok-numbers.ensures.items
    c.in_ok-samples.ensures.items c.in_ok-first.ensures c.in_ok-second.ensures c.in_ok-third.ensures))
    (is_recording c.args.seed)

pub returns : goal.returns
returns c = c.new.ensures ∙ same_recording c.args.seed c.in_ok-numbers.numbers.items
    c.in_ok-samples.samples.items c.in_ok-first.first c.in_ok-second.second c.in_ok-third.third
    c.in_ok-numbers.ensures.items
    c.in_ok-samples.ensures.items c.in_ok-first.ensures c.in_ok-second.ensures c.in_ok-third.ensures
