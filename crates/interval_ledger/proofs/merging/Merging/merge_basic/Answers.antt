use Rattle.std.proofs.Common.{◌≡◌, ℕ, ◌∙◌, ◌<◌, ◌≤◌, Bool, List, [], ◌∷◌, length, take, get_or, slice_get, Some, IfSome, ap, sym, subst, arith}
use Rattle.aggregate.specs.BasicOrder.{basic_of}
use Rattle.interval_ledger.specs.declared.channel.SpanValue.{SpanValue}
use Rattle.interval_ledger.specs.declared.merging.Merging.{Merging}
use Rattle.interval_ledger.specs.declared.next_due.Due.TheVariants as due
use Rattle.interval_ledger.specs.Channel.{ChannelView}
use Rattle.interval_ledger.specs.Merging.{HasPosted, IsMerging, IsNext, NoneBefore}
use Rattle.interval_ledger.specs.Posted.{all_roots}
use Rattle.interval_ledger.specs.Segment.{SegmentsView, is_first_of_segment}
use Rattle.interval_ledger.specs.Watch.{TellsTouch}
use Rattle.interval_ledger.proofs.BasicStateLaws.{basic_counts, basic_fewer, basic_follows, basic_inside, basic_is, basic_merges, due_basic, first_there, starts_later}
use Rattle.interval_ledger.proofs.merging.Merging.merge_basic.Goals as goal

taken_roots : (own channels : List ChannelView) (k n : ℕ) (roots : List ℕ) → channels ≡ own →
    n ≡ length channels → take (length channels) roots ≡ all_roots channels k → take n roots ≡ all_roots own k
taken_roots own channels k n roots same many are =
    ap (λ m. take m roots) many ∙ are ∙ ap (λ cs. all_roots cs k) same

-- what is handed in is the basic interval that is due
handed : (s : Merging) (posted : HasPosted s) (at : IsMerging s) (first : SpanValue)
    (next : IsNext s (due.Basic first)) (none : NoneBefore s first.end) (front flagged : Bool)
    (channels : List ChannelView) (n : ℕ) (roots : List ℕ) →
    front ≡ is_first_of_segment s.segments.places s.segments.before first.start →
    TellsTouch s.known.watch first.start flagged → channels ≡ s.channels.items →
    n ≡ length channels → take (length channels) roots ≡ all_roots channels s.basics_merged →
    basic_of front (record { start = first.start; end = first.end }) (take n roots) flagged
    ≡ due_basic s posted at first next
handed s posted at first next none front flagged channels n roots tells_front tells same many are =
    basic_is s posted at first next front flagged (take n roots) none tells_front tells
    (taken_roots s.channels.items channels s.basics_merged n roots same many are)

first_got : (channels : List ChannelView) (c : ChannelView) → 0 < length channels → c ≡ get_or channels 0 c →
    slice_get channels 0 ≡ Some c
first_got [] c some is = absurd (omega (arith, some))
first_got (x ∷ xs) c some is = ap Some (sym is)

-- the basic interval is the next
pub add_basic-requires-clause-follows : goal.add_basic-requires-clause-follows
add_basic-requires-clause-follows g c =
    let s = c.args.self.now in
    let r = c.requires in
    basic_follows s r.posted r.at c.args.first r.next _
    (handed s r.posted r.at c.args.first r.next r.none c.begins-front.result c.touches-flagged.result
    c.deref.result.now c.len.result c.roots-values.result c.begins-front.ensures.value
    c.touches-flagged.ensures c.deref.ensures.value (c.len.ensures ∙ sym c.deref.ensures.len)
    c.roots-values.ensures)

-- the one before it does not begin later
pub pass-requires : goal.pass-requires
pass-requires g c =
    let s = c.args.self.now in
    let r = c.requires in
    subst (λ (x : SegmentsView). IfSome x.before (λ b. b ≤ c.args.first.start))
    (sym c.begins-front.ensures.same) (starts_later s r.posted r.at c.args.first r.next)

-- each channel has posted it
pub next_index-self-requires : goal.next_index-self-requires
next_index-self-requires g c =
    let s = c.args.self.now in
    let r = c.requires in
    let some = first_there s r.posted r.at c.args.first r.next in
    let inside = basic_inside s r.posted r.at c.args.first r.next c.index.result.now
    (first_got s.channels.items c.index.result.now some c.index.ensures) in
    omega (arith, inside, c.values.ensures)

-- the basic interval is merged
pub returns-clause-at : goal.returns-clause-at
returns-clause-at g c =
    let s = c.args.self.now in
    let r = c.requires in
    basic_merges s r.posted r.at c.args.first r.next c.add_basic.new.self c.pass.new.self
    c.next_index-self.result c.next_index-self.ensures c.add_basic.ensures.name _
    (handed s r.posted r.at c.args.first r.next r.none c.begins-front.result c.touches-flagged.result
    c.deref.result.now c.len.result c.roots-values.result c.begins-front.ensures.value
    c.touches-flagged.ensures c.deref.ensures.value (c.len.ensures ∙ sym c.deref.ensures.len)
    c.roots-values.ensures)
    c.in_ok-add_basic.ensures.value
    (c.pass.ensures
    ∙ ap (λ (x : SegmentsView). record x { before = Some c.args.first.start }) c.begins-front.ensures.same)

-- one less is left
pub returns-clause-fewer : goal.returns-clause-fewer
returns-clause-fewer g c =
    let s = c.args.self.now in
    let r = c.requires in
    basic_fewer s r.posted r.at c.args.first r.next c.add_basic.new.self c.pass.new.self
    c.next_index-self.result c.next_index-self.ensures c.add_basic.ensures.name

-- and one of each sampler more is merged
pub returns-clause-ticks : goal.returns-clause-ticks
returns-clause-ticks g c =
    let s = c.args.self.now in
    let r = c.requires in
    let more = basic_counts s r.posted r.at c.args.first r.next c.add_basic.new.self c.pass.new.self
    c.next_index-self.result c.next_index-self.ensures c.add_basic.ensures.name in
    let ticked = c.tick_each.ensures in
    let many = c.len-2.ensures in record {
      rises = omega (arith, more);
      ticks = omega (arith, more, ticked, many);
    }
