use Rattle.std.proofs.Common.{rules, ◌≡◌, ◌*◌, ◌+◌, ◌/◌, ◌≤◌, length, refl, sym, ◌∙◌, arith}
use Rattle.std.proofs.lemmas.Option.{slice_get_read}
use Rattle.interval_ledger.proofs.CountLaws.{detector_count, frequency_count, sampler_count}
use Rattle.interval_ledger.proofs.posting.count.Goals as goal

-- an even lane is that of a sampler
pub returns-then-lane-eq0 : goal.returns-then-lane-eq0
returns-then-lane-eq0 c =
    let lane = c.args.lane in
    let even = c.if-lane-eq0.true in
    let twice : lane ≡ 2 * (lane / 2) = omega (arith, even) in
    c.values.ensures
    ∙ sym (sampler_count c.args.channels.now c.args.readings.now.items lane (lane / 2) c.in-Some.channel.now
    twice
    (slice_get_read c.args.channels.now (length c.args.channels.now) (lane / 2) c.in-Some.channel.now refl
    c.in-Some.ensures.lookup.3.0 c.in-Some.ensures.lookup.1))

-- an odd one that of a detector
pub returns-else-lane-eq0 : goal.returns-else-lane-eq0
returns-else-lane-eq0 c =
    let lane = c.args.lane in
    let odd = c.if-lane-eq0.false in
    let once : lane ≡ 2 * (lane / 2) + 1 = omega (arith, odd) in
    c.windows.ensures
    ∙ sym (detector_count c.args.channels.now c.args.readings.now.items lane (lane / 2) c.in-Some.channel.now
    once
    (slice_get_read c.args.channels.now (length c.args.channels.now) (lane / 2) c.in-Some.channel.now refl
    c.in-Some.ensures.lookup.3.0 c.in-Some.ensures.lookup.1))

-- past the channels it is the last
pub returns-in-None : goal.returns-in-None
returns-in-None c =
    let lane = c.args.lane in
    let past : length c.args.channels.now ≤ lane / 2 = search rules in
    let within = c.requires in
    let last : lane ≡ 2 * length c.args.channels.now = omega (arith, past, within) in
    c.count.ensures ∙ sym (frequency_count c.args.channels.now c.args.readings.now.items lane last)
