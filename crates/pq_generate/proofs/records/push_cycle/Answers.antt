use Rattle.std.proofs.Common.{◌≡◌, ◌+◌, ◌*◌, ◌++◌, get_or, pos, to_z, of_z, ◌∙◌, ap, arith}
use Rattle.std.proofs.lemmas.List.{append-nil}
use Rattle.std.specs.Int.{w16}
use Rattle.std.specs.Option.{option_to_list}
use Rattle.pq_generate.proofs.CountLemmas.{sine_back}
use Rattle.pq_generate.proofs.RecordLemmas.{record_pushed, records_none}
use Rattle.pq_generate.specs.Cycles.{count_in_cycle}
use Rattle.pq_generate.specs.GeneratedRecording.{on_channels, record_bytes, sine}
use Rattle.pq_generate.proofs.records.push_cycle.Goals as goal

pub loop-place-init : goal.loop-place-init
loop-place-init c = grind (arith, append-nil, records_none)

pub loop-place-preserved : goal.loop-place-preserved
loop-place-preserved c =
    let d = c.args.disturbance in
    let cycle = c.args.cycle in
    let place = c.loop-place.place in
    let below = c.loop-place-test.true in
    let counts : c.channel_counts.result
    ≡ on_channels (count_in_cycle d cycle (to_z w16 (of_z w16 (get_or sine place (pos 0))))) =
    c.channel_counts.ensures in
    let known = counts ∙ ap (λ count. on_channels (count_in_cycle d cycle count)) (sine_back place below) in
    c.in_ok-extend_from_slice.ensures.items
    ∙ ap (λ dat. dat ++ c.record_bytes.result) c.loop-place.invariant
    ∙ record_pushed (option_to_list d) c.args.dat.now.items c.record_bytes.result cycle place below
    (c.record_bytes.ensures ∙ ap (record_bytes (24 * cycle + place + 1)) known)
