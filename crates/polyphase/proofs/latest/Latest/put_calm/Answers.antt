-- A value within all thresholds in the place of another changes no count.
use Rattle.std.proofs.Common.{◌≡◌, ◌∙◌, ap, sym, subst, set, Some}
use Rattle.event_detect.specs.Threshold.{class_of}
use Rattle.polyphase.specs.Latest.{BeginAlike, with_value}
use Rattle.polyphase.proofs.LatestLaws.{begin_alike, below, counted_alike, set_view, values_view}
use Rattle.polyphase.proofs.latest.Latest.put_calm.Goals as goal

pub invariant_of-self : goal.invariant_of-self
invariant_of-self c =
    let i = c.self.inside in
    let inside = below c.args.position i.limits i.channels i.values c.args.self.now c.self.view_is
    c.requires.inside in
    let alike : class_of i.limits c.in-Some.before ≡ class_of i.limits c.args.value =
    c.is_calm.ensures c.if-not-is_calm.false ∙ sym (c.is_calm-2.ensures c.if-not-is_calm-2.false) in
    counted_alike i.limits i.channels i.values i.counts c.self.invariant c.args.position inside
    c.args.value c.in-Some.before c.in-Some.is alike

pub returns-clause-value : goal.returns-clause-value
returns-clause-value c passed =
    let i = c.self.inside in
    let inside = below c.args.position i.limits i.channels i.values c.args.self.now c.self.view_is
    c.requires.inside in
    set_view i.limits i.channels i.values c.args.position c.args.value inside
    ∙ ap (λ l. with_value l c.args.position c.args.value) c.self.view_is

pub returns-clause-begins : goal.returns-clause-begins
returns-clause-begins c passed =
    let i = c.self.inside in
    let inside = below c.args.position i.limits i.channels i.values c.args.self.now c.self.view_is
    c.requires.inside in
    let alike : class_of i.limits c.in-Some.before ≡ class_of i.limits c.args.value =
    c.is_calm.ensures c.if-not-is_calm.false ∙ sym (c.is_calm-2.ensures c.if-not-is_calm-2.false) in
    let counted = counted_alike i.limits i.channels i.values i.counts c.self.invariant c.args.position inside
    c.args.value c.in-Some.before c.in-Some.is alike in
    let later = set i.values c.args.position (Some c.args.value) in
    let begin : BeginAlike (values_view i.limits i.channels i.values)
    (values_view i.limits i.channels later) =
    begin_alike i.limits i.channels i.values later i.counts c.self.invariant counted in
    subst (λ l. BeginAlike l (values_view i.limits i.channels later)) c.self.view_is begin
