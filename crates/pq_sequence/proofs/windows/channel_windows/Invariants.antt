use Rattle.std.proofs.Common.{◌≡◌, map, take}
use Rattle.pq_sequence.specs.MeasuredRecording.{channel_windows}
use Rattle.pq_sequence.proofs.windows.channel_windows.Given as goal

-- the windows of the channels so far
abbrev pub invariant-loop-position : goal.invariant-loop-position
invariant-loop-position l =
    l.channels.items ≡ map (channel_windows l.recording) (take l.position l.recording.samples)
