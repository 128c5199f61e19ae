-- The counts follow the value that is put, whether or not the channel had one.
use Rattle.std.proofs.Common.{◌≡◌, ◌∙◌, ◌<◌, ◌≤◌, length, ap, sym, subst, arith, length-take, take, set, Some, List, ℕ, Option}
use Rattle.event_detect.specs.declared.limits.Class.{Class}
use Rattle.event_detect.specs.Threshold.{class_of}
use Rattle.polyphase.specs.declared.counts.Counts.{Counts}
use Rattle.polyphase.specs.declared.latest.Latest.TheInside.{Inside}
use Rattle.polyphase.specs.Latest.{LatestView, AreAtMost, IsAmong, IsCounted, with_class, with_value}
use Rattle.polyphase.proofs.LatestLaws.{below, values_view, among, counted_in_place, counted_at_first, set_view}
use Rattle.polyphase.proofs.latest.Latest.put.Goals as goal
use Rattle.polyphase.proofs.latest.Latest.put.Goals.{in-Some, in_default}

pub without-self-inside-requires : goal.without-self-inside-requires
without-self-inside-requires c =
    let i = c.self.inside in
    let inside = below c.args.position i.limits i.channels i.values c.args.self.now c.self.view_is
    c.requires in
    subst (λ class. IsAmong class i.counts) (sym c.classify.ensures)
    (among i.limits i.channels i.values i.counts c.self.invariant c.args.position inside c.in-Some.before
    c.in-Some.is)

-- the counts that are kept in the end, by the fields before the value was put
counted : (now before : Inside) (position value : ℕ) (class : Class) (counts : Counts) → now ≡ before
    → class ≡ class_of now.limits value → counts ≡ with_class now.counts class
    → IsCounted before.limits before.channels (set before.values position (Some value))
    (with_class before.counts (class_of before.limits value))
    → IsCounted now.limits now.channels (set now.values position (Some value)) counts
counted now before position value class counts now_is class_is counts_is is =
    let P : Inside → Type 0 = λ i. IsCounted i.limits i.channels (set i.values position (Some value))
    (with_class i.counts (class_of i.limits value)) in
    subst (IsCounted now.limits now.channels (set now.values position (Some value)))
    (sym (counts_is ∙ ap (with_class now.counts) class_is)) (subst P (sym now_is) is)

pub invariant_of-self : goal.invariant_of-self
invariant_of-self c =
    let i = c.self.inside in
    let now = c.match-self-index.self-inside in
    let inside = below c.args.position i.limits i.channels i.values c.args.self.now c.self.view_is
    c.requires in
    elim c.match-self-index.branch [
      | in-Some w ↦
          let left = w.without-self-inside.result in
          counted now (record { limits = i.limits; channels = i.channels; values = i.values; counts = left })
          c.args.position c.args.value c.classify-2.result c.with-self-inside.result w.self-inside-is
          c.classify-2.ensures c.with-self-inside.ensures
          (counted_in_place i.limits i.channels i.values i.counts c.self.invariant c.args.position inside
          c.args.value w.in-Some.before left w.in-Some.is
          (ap (with_class left) (sym w.classify.ensures) ∙ w.without-self-inside.ensures))
      | in_default w ↦
          counted now i c.args.position c.args.value c.classify-2.result c.with-self-inside.result
          w.self-inside-is c.classify-2.ensures c.with-self-inside.ensures
          (counted_at_first i.limits i.channels i.values i.counts c.self.invariant c.args.position inside
          c.args.value w.in_default.is)
    ]

-- the fields but the counts are those before
same_view : (now before : Inside) (latest : LatestView) (position value : ℕ)
    → values_view now.limits now.channels now.values ≡ values_view before.limits before.channels before.values
    → values_view before.limits before.channels before.values ≡ latest → position < before.channels
    → position < now.channels
    → values_view now.limits now.channels
    (set now.values position (Some value)) ≡ with_value latest position value
same_view now before latest position value same is inside inside_now =
    set_view now.limits now.channels now.values position value inside_now
    ∙ ap (λ l. with_value l position value) (same ∙ is)

pub returns : goal.returns
returns c =
    let i = c.self.inside in
    let now = c.match-self-index.self-inside in
    let inside = below c.args.position i.limits i.channels i.values c.args.self.now c.self.view_is
    c.requires in
    let view : Inside → LatestView = λ n. values_view n.limits n.channels n.values in
    let room : Inside → ℕ = λ n. n.channels in
    let same : (values_view now.limits now.channels now.values ≡ values_view i.limits i.channels i.values)
    × (now.channels ≡ i.channels) = elim c.match-self-index.branch [
      | in-Some w ↦ (ap view w.self-inside-is, ap room w.self-inside-is)
      | in_default w ↦ (ap view w.self-inside-is, ap room w.self-inside-is)
    ] in
    same_view now i c.args.self.now c.args.position c.args.value same.0 c.self.view_is inside
    (subst (λ n. c.args.position < n) (sym same.1) inside)
