-- A front begins the sum anew; then the basic interval is added, and may reach the next tick.
use Rattle.std.proofs.Common.{◌≡◌, ◌&&◌, nat_lt, nat_le, true, false, Some, None, FitsSigned, w64, rules, refl, sym, ◌∙◌, ap, subst, inl, inr, arith}
use Rattle.std.proofs.lemmas.Bool.{cases_Bool}
use Rattle.std.proofs.lemmas.Int.{to_z-of_z}
use Rattle.aggregate.specs.Aggregation.{group_of, parts_of}
use Rattle.aggregate.specs.Sum.{Adds}
use Rattle.aggregate.specs.BasicOrder.{basic_of}
use Rattle.aggregate.specs.TenSum.{TenView}
use Rattle.aggregate.proofs.TenSumLaws.{last_basic, room_in, step_completes, step_sees, told_none, told_missed, told_reached}
use Rattle.aggregate.proofs.ten.TenSum.step.Goals as goal

-- it has fewer basic intervals than there are samples
pub add-requires-clause-room : goal.add-requires-clause-room
add-requires-clause-room c =
    let old = c.args.self.now in
    let mid = c.begin.new.self in
    let b = basic_of c.args.front c.args.basic c.args.values.now c.args.flagged in
    let count : c.self.inside.sum.count ≡ mid.sum.count = ap (λ (v : TenView). v.sum.count) c.self.view_is in
    let short = c.self.invariant.short in
    let samples : c.self.inside.samples ≡ old.samples = ap (λ (v : TenView). v.samples) c.self.view_is
    ∙ c.begin.ensures.same.same_samples in
    elim (cases_Bool c.args.front) [
      | inl is ↦
          let none = (c.begin.ensures.begun is).summed.number in
          omega (arith, count, none)
      | inr is ↦
          let room = room_in old b is c.requires in
          let same : mid.sum.count ≡ old.sum.count =
          ap (λ (v : TenView). v.sum.count) (c.begin.ensures.goes_on is) in
          omega (arith, count, room, same, samples, short)
    ]

pub add-requires-clause-quiet : goal.add-requires-clause-quiet
add-requires-clause-quiet c =
    let old = c.args.self.now in
    let b = basic_of c.args.front c.args.basic c.args.values.now c.args.flagged in
    (last_basic old.clock old.samples old.channels c.requires.0 b c.requires.2).quiet

-- no ten minutes are there
pub returns-in_err-minutes-clause-value : goal.returns-in_err-minutes-clause-value
returns-in_err-minutes-clause-value c =
    let old = c.args.self.now in
    let mid = c.begin.new.self in
    let b = basic_of c.args.front c.args.basic c.args.values.now c.args.flagged in
    let none : c.self.inside.minutes ≡ None = search rules in
    let gone : c.from_residual.result ≡ None = search rules in
    let adds : Adds mid.sum c.add.new.self b.part =
    subst (λ (v : TenView). Adds v.sum c.add.new.self b.part) c.self.view_is c.add.ensures.value in
    step_completes old mid c.add.new.self b c.begin.ensures.same c.begin.ensures.begun
    c.begin.ensures.goes_on adds
    c.from_residual.result
    (λ segment summed. told_none old.channels b segment mid.minutes c.from_residual.result
    (sym (ap (λ (v : TenView). v.minutes) c.self.view_is) ∙ none) gone)

pub returns-in_err-minutes-clause-seen : goal.returns-in_err-minutes-clause-seen
returns-in_err-minutes-clause-seen c =
    let old = c.args.self.now in
    let mid = c.begin.new.self in
    let b = basic_of c.args.front c.args.basic c.args.values.now c.args.flagged in
    let new : TenView = record {
      clock = c.self.inside.clock;
      samples = c.self.inside.samples;
      channels = c.self.inside.channels;
      sum = c.add.new.self;
      minutes = c.self.inside.minutes;
    } in
    let adds : Adds mid.sum c.add.new.self b.part =
    subst (λ (v : TenView). Adds v.sum c.add.new.self b.part) c.self.view_is c.add.ensures.value in
    step_sees old mid c.add.new.self b c.begin.ensures.same c.begin.ensures.begun c.begin.ensures.goes_on
    adds new
    (record {
      same_clock = ap (λ (v : TenView). v.clock) c.self.view_is ∙ c.begin.ensures.same.same_clock;
      same_samples = ap (λ (v : TenView). v.samples) c.self.view_is ∙ c.begin.ensures.same.same_samples;
      same_channels = ap (λ (v : TenView). v.channels) c.self.view_is ∙ c.begin.ensures.same.same_channels;
    })
    refl (ap (λ (v : TenView). v.minutes) c.self.view_is)

-- it reaches the next tick
pub returns-then-end_in-clause-value : goal.returns-then-end_in-clause-value
returns-then-end_in-clause-value c =
    let old = c.args.self.now in
    let mid = c.begin.new.self in
    let b = basic_of c.args.front c.args.basic c.args.values.now c.args.flagged in
    let m = c.in_ok-minutes.minutes in
    let some : c.self.inside.minutes ≡ Some m = search rules in
    let fits : FitsSigned w64 m.tick = search rules in
    let reached : (nat_lt b.part.start m.next && nat_le m.next b.part.end) ≡ true = search rules in
    let channels : c.self.inside.channels ≡ old.channels = ap (λ (v : TenView). v.channels) c.self.view_is
    ∙ c.begin.ensures.same.same_channels in
    let adds : Adds mid.sum c.add.new.self b.part =
    subst (λ (v : TenView). Adds v.sum c.add.new.self b.part) c.self.view_is c.add.ensures.value in
    step_completes old mid c.add.new.self b c.begin.ensures.same c.begin.ensures.begun
    c.begin.ensures.goes_on adds
    (Some c.group.result)
    (λ segment summed. told_reached old.channels b segment m mid.minutes c.group.result
    (sym (ap (λ (v : TenView). v.minutes) c.self.view_is) ∙ some) reached
    (c.group.ensures.value (parts_of segment) summed
    ∙ ap (λ t. group_of (Some t) c.self.inside.channels (parts_of segment)) (to_z-of_z w64 m.tick fits)
    ∙ ap (λ n. group_of (Some m.tick) n (parts_of segment)) channels))

pub returns-then-end_in-clause-seen : goal.returns-then-end_in-clause-seen
returns-then-end_in-clause-seen c =
    let old = c.args.self.now in
    let mid = c.begin.new.self in
    let b = basic_of c.args.front c.args.basic c.args.values.now c.args.flagged in
    let new : TenView = record {
      clock = c.self.inside.clock;
      samples = c.self.inside.samples;
      channels = c.self.inside.channels;
      sum = c.add.new.self;
      minutes = c.self.inside.minutes;
    } in
    let adds : Adds mid.sum c.add.new.self b.part =
    subst (λ (v : TenView). Adds v.sum c.add.new.self b.part) c.self.view_is c.add.ensures.value in
    step_sees old mid c.add.new.self b c.begin.ensures.same c.begin.ensures.begun c.begin.ensures.goes_on
    adds new
    (record {
      same_clock = ap (λ (v : TenView). v.clock) c.self.view_is ∙ c.begin.ensures.same.same_clock;
      same_samples = ap (λ (v : TenView). v.samples) c.self.view_is ∙ c.begin.ensures.same.same_samples;
      same_channels = ap (λ (v : TenView). v.channels) c.self.view_is ∙ c.begin.ensures.same.same_channels;
    })
    refl (ap (λ (v : TenView). v.minutes) c.self.view_is)

-- it does not
pub returns-clause-value : goal.returns-clause-value
returns-clause-value c =
    let old = c.args.self.now in
    let mid = c.begin.new.self in
    let b = basic_of c.args.front c.args.basic c.args.values.now c.args.flagged in
    let m = c.in_ok-minutes.minutes in
    let some : c.self.inside.minutes ≡ Some m = search rules in
    let missed : (nat_lt b.part.start m.next && nat_le m.next b.part.end) ≡ false = search rules in
    let adds : Adds mid.sum c.add.new.self b.part =
    subst (λ (v : TenView). Adds v.sum c.add.new.self b.part) c.self.view_is c.add.ensures.value in
    step_completes old mid c.add.new.self b c.begin.ensures.same c.begin.ensures.begun
    c.begin.ensures.goes_on adds
    None
    (λ segment summed. told_missed old.channels b segment m mid.minutes
    (sym (ap (λ (v : TenView). v.minutes) c.self.view_is) ∙ some) missed)

pub returns-clause-seen : goal.returns-clause-seen
returns-clause-seen c =
    let old = c.args.self.now in
    let mid = c.begin.new.self in
    let b = basic_of c.args.front c.args.basic c.args.values.now c.args.flagged in
    let new : TenView = record {
      clock = c.self.inside.clock;
      samples = c.self.inside.samples;
      channels = c.self.inside.channels;
      sum = c.add.new.self;
      minutes = c.self.inside.minutes;
    } in
    let adds : Adds mid.sum c.add.new.self b.part =
    subst (λ (v : TenView). Adds v.sum c.add.new.self b.part) c.self.view_is c.add.ensures.value in
    step_sees old mid c.add.new.self b c.begin.ensures.same c.begin.ensures.begun c.begin.ensures.goes_on
    adds new
    (record {
      same_clock = ap (λ (v : TenView). v.clock) c.self.view_is ∙ c.begin.ensures.same.same_clock;
      same_samples = ap (λ (v : TenView). v.samples) c.self.view_is ∙ c.begin.ensures.same.same_samples;
      same_channels = ap (λ (v : TenView). v.channels) c.self.view_is ∙ c.begin.ensures.same.same_channels;
    })
    refl (ap (λ (v : TenView). v.minutes) c.self.view_is)
