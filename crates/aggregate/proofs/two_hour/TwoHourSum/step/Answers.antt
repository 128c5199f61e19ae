-- A 10-minute interval begins two hours or goes on with them, and may be their last; else none run.
use Rattle.std.proofs.Common.{◌≡◌, ℕ, ◌+◌, ◌^◌, true, false, ℤ, [], Option, Some, None, FitsSigned, to_z, of_z, w64, rules, refl, sym, ◌∙◌, ap, subst, arith}
use Rattle.std.proofs.lemmas.Int.{to_z-of_z}
use Rattle.std.proofs.lemmas.Option.{same_Some}
use Rattle.aggregate.specs.declared.two_hour.TwoHours.{TwoHours}
use Rattle.aggregate.specs.Aggregation.{as_part}
use Rattle.aggregate.specs.BasicOrder.{IsSetting}
use Rattle.aggregate.specs.Sum.{Adds, HasSummed, IsGroupOf}
use Rattle.aggregate.specs.TwoHourSum.{IsNear, TwoHourView, begins_two_hours, next_hours}
use Rattle.pq_words.specs.Magnitude.{IsWithin}
use Rattle.aggregate.proofs.TwoHourSumLaws.{last_ten, next_near, none_done, none_seen, part_done, part_seen, room_for, whole_done, whole_seen}
use Rattle.aggregate.proofs.two_hour.TwoHourSum.step.Goals as goal

-- none go on
pub returns-in_err-hours-clause-value : goal.returns-in_err-hours-clause-value
returns-in_err-hours-clause-value c =
    let old = c.args.self.now in
    let mid = c.take_hours.new.self in
    let g = c.args.ten.now in
    let v = c.in_ok-tick.tick in
    let ticked : g.tick ≡ Some v = search rules in
    let fits : FitsSigned w64 v = search rules in
    let same : to_z w64 (of_z w64 v) ≡ v = to_z-of_z w64 v fits in
    let none : c.take_hours.result ≡ None = search rules in
    let next : next_hours old.hours v ≡ None = sym (c.take_hours.ensures.value
    ∙ ap (next_hours old.hours) same)
    ∙ none in
    let gone : c.from_residual-in_err-hours.result ≡ None = search rules in
    none_done old g v c.from_residual-in_err-hours.result ticked next gone

pub returns-in_err-hours-clause-seen : goal.returns-in_err-hours-clause-seen
returns-in_err-hours-clause-seen c =
    let old = c.args.self.now in
    let mid = c.take_hours.new.self in
    let g = c.args.ten.now in
    let v = c.in_ok-tick.tick in
    let ticked : g.tick ≡ Some v = search rules in
    let fits : FitsSigned w64 v = search rules in
    let same : to_z w64 (of_z w64 v) ≡ v = to_z-of_z w64 v fits in
    let none : c.take_hours.result ≡ None = search rules in
    let next : next_hours old.hours v ≡ None = sym (c.take_hours.ensures.value
    ∙ ap (next_hours old.hours) same)
    ∙ none in
    none_seen old mid g v ticked next c.take_hours.ensures.taken

-- fewer than twelve were added
pub add-requires-clause-room : goal.add-requires-clause-room
add-requires-clause-room c =
    let old = c.args.self.now in
    let mid = c.take_hours.new.self in
    let g = c.args.ten.now in
    let v = c.in_ok-tick.tick in
    let ticked : g.tick ≡ Some v = search rules in
    let fits : FitsSigned w64 v = search rules in
    let same : to_z w64 (of_z w64 v) ≡ v = to_z-of_z w64 v fits in
    let h = c.in_ok-hours.hours in
    let some : c.take_hours.result ≡ Some h = search rules in
    let next : next_hours old.hours v ≡ Some h = sym (c.take_hours.ensures.value
    ∙ ap (next_hours old.hours) same)
    ∙ some in
    let anew : begins_two_hours v ≡ true → HasSummed mid.sum [] =
    λ e. c.take_hours.ensures.anew (ap begins_two_hours same ∙ e) in
    let stays : begins_two_hours v ≡ false → mid.sum ≡ old.sum =
    λ e. c.take_hours.ensures.goes_on (ap begins_two_hours same ∙ e) in
    let room = room_for old mid c.self.inside.sum g v h ticked next anew stays c.requires.0 c.requires.1
    c.requires.2 in
    let count : c.self.inside.sum.count ≡ mid.sum.count = ap (λ
    (w : TwoHourView). w.sum.count) c.self.view_is in
    omega (arith, room, count)

pub add-requires-clause-quiet : goal.add-requires-clause-quiet
add-requires-clause-quiet c =
    let old = c.args.self.now in
    (last_ten old.clock old.samples c.requires.0 c.args.ten.now c.requires.2).quiet

-- it is the twelfth
pub returns-then-count-eq-TENS_IN_TWO_HOURS-clause-value :
    goal.returns-then-count-eq-TENS_IN_TWO_HOURS-clause-value
returns-then-count-eq-TENS_IN_TWO_HOURS-clause-value c =
    let old = c.args.self.now in
    let mid = c.take_hours.new.self in
    let g = c.args.ten.now in
    let v = c.in_ok-tick.tick in
    let ticked : g.tick ≡ Some v = search rules in
    let fits : FitsSigned w64 v = search rules in
    let same : to_z w64 (of_z w64 v) ≡ v = to_z-of_z w64 v fits in
    let h = c.in_ok-hours.hours in
    let some : c.take_hours.result ≡ Some h = search rules in
    let next : next_hours old.hours v ≡ Some h = sym (c.take_hours.ensures.value
    ∙ ap (next_hours old.hours) same)
    ∙ some in
    let anew : begins_two_hours v ≡ true → HasSummed mid.sum [] =
    λ e. c.take_hours.ensures.anew (ap begins_two_hours same ∙ e) in
    let stays : begins_two_hours v ≡ false → mid.sum ≡ old.sum =
    λ e. c.take_hours.ensures.goes_on (ap begins_two_hours same ∙ e) in
    let adds : Adds mid.sum c.add.new.self (as_part g) =
    subst (λ (w : TwoHourView). Adds w.sum c.add.new.self (as_part g)) c.self.view_is c.add.ensures.value in
    let eleven : h.count ≡ 11 = omega (arith, c.if-count-eq-TENS_IN_TWO_HOURS.true) in
    let channels : c.self.inside.channels ≡ old.channels = ap (λ (w : TwoHourView). w.channels) c.self.view_is
    ∙ c.take_hours.ensures.same.same_channels in
    let tick_fits : FitsSigned w64 h.tick = search rules in
    let tick_same : to_z w64 (of_z w64 h.tick) ≡ h.tick = to_z-of_z w64 h.tick tick_fits in
    let is : IsGroupOf c.add.new.self (Some h.tick) old.channels c.group.result =
    subst (λ n. IsGroupOf c.add.new.self (Some h.tick) n c.group.result) channels
    (subst (λ t. IsGroupOf c.add.new.self (Some t) c.self.inside.channels c.group.result) tick_same
    c.group.ensures.value) in
    whole_done old mid c.add.new.self g v h ticked next anew stays adds c.group.result eleven is

pub returns-then-count-eq-TENS_IN_TWO_HOURS-clause-seen :
    goal.returns-then-count-eq-TENS_IN_TWO_HOURS-clause-seen
returns-then-count-eq-TENS_IN_TWO_HOURS-clause-seen c =
    let old = c.args.self.now in
    let mid = c.take_hours.new.self in
    let g = c.args.ten.now in
    let v = c.in_ok-tick.tick in
    let ticked : g.tick ≡ Some v = search rules in
    let fits : FitsSigned w64 v = search rules in
    let same : to_z w64 (of_z w64 v) ≡ v = to_z-of_z w64 v fits in
    let h = c.in_ok-hours.hours in
    let some : c.take_hours.result ≡ Some h = search rules in
    let next : next_hours old.hours v ≡ Some h = sym (c.take_hours.ensures.value
    ∙ ap (next_hours old.hours) same)
    ∙ some in
    let anew : begins_two_hours v ≡ true → HasSummed mid.sum [] =
    λ e. c.take_hours.ensures.anew (ap begins_two_hours same ∙ e) in
    let stays : begins_two_hours v ≡ false → mid.sum ≡ old.sum =
    λ e. c.take_hours.ensures.goes_on (ap begins_two_hours same ∙ e) in
    let adds : Adds mid.sum c.add.new.self (as_part g) =
    subst (λ (w : TwoHourView). Adds w.sum c.add.new.self (as_part g)) c.self.view_is c.add.ensures.value in
    let eleven : h.count ≡ 11 = omega (arith, c.if-count-eq-TENS_IN_TWO_HOURS.true) in
    let new : TwoHourView = record {
      clock = c.self.inside.clock;
      samples = c.self.inside.samples;
      channels = c.self.inside.channels;
      sum = c.add.new.self;
      hours = c.self.inside.hours;
    } in
    whole_seen old mid c.add.new.self g v h ticked next anew stays adds new eleven
    (ap (λ (w : TwoHourView). w.hours) c.self.view_is ∙ c.take_hours.ensures.taken)

-- two hours stay within range
pub invariant_of-self-2 : goal.invariant_of-self-2
invariant_of-self-2 c =
    let old = c.args.self.now in
    let mid = c.take_hours.new.self in
    let g = c.args.ten.now in
    let v = c.in_ok-tick.tick in
    let ticked : g.tick ≡ Some v = search rules in
    let fits : FitsSigned w64 v = search rules in
    let same : to_z w64 (of_z w64 v) ≡ v = to_z-of_z w64 v fits in
    let h = c.in_ok-hours.hours in
    let some : c.take_hours.result ≡ Some h = search rules in
    let next : next_hours old.hours v ≡ Some h = sym (c.take_hours.ensures.value
    ∙ ap (next_hours old.hours) same)
    ∙ some in
    let anew : begins_two_hours v ≡ true → HasSummed mid.sum [] =
    λ e. c.take_hours.ensures.anew (ap begins_two_hours same ∙ e) in
    let stays : begins_two_hours v ≡ false → mid.sum ≡ old.sum =
    λ e. c.take_hours.ensures.goes_on (ap begins_two_hours same ∙ e) in
    let tick_fits : FitsSigned w64 h.tick = search rules in
    let tick_same : to_z w64 (of_z w64 h.tick) ≡ h.tick = to_z-of_z w64 h.tick tick_fits in
    let clock : c.self.inside.clock ≡ old.clock = ap (λ (w : TwoHourView). w.clock) c.self.view_is
    ∙ c.take_hours.ensures.same.same_clock in
    let samples : c.self.inside.samples ≡ old.samples = ap (λ (w : TwoHourView). w.samples) c.self.view_is
    ∙ c.take_hours.ensures.same.same_samples in
    let channels : c.self.inside.channels ≡ old.channels = ap (λ (w : TwoHourView). w.channels) c.self.view_is
    ∙ c.take_hours.ensures.same.same_channels in
    let setting : IsSetting old.clock old.samples old.channels =
    subst (λ k. IsSetting k old.samples old.channels) clock
    (subst (λ n. IsSetting c.self.inside.clock n old.channels) samples
    (subst (IsSetting c.self.inside.clock c.self.inside.samples) channels c.self.invariant.setting)) in
    let near = next_near old g v h ticked setting c.requires next in
    let few = near.1 in
    let P : TwoHours → Type 0 = λ x. IsNear x.tick x.count in
    let next_h : TwoHours = record { tick = to_z w64 (of_z w64 h.tick); count = h.count + 1 } in
    let is : IsNear next_h.tick next_h.count = record {
      near = subst (λ t. IsWithin (10 ^ 10) t) (sym tick_same) near.0;
      few = omega (arith, few);
    } in
    record { setting = c.self.invariant.setting; range = λ x e. subst P (same_Some next_h x e) is }

-- it is one before that
pub returns-clause-value : goal.returns-clause-value
returns-clause-value c =
    let old = c.args.self.now in
    let mid = c.take_hours.new.self in
    let g = c.args.ten.now in
    let v = c.in_ok-tick.tick in
    let ticked : g.tick ≡ Some v = search rules in
    let fits : FitsSigned w64 v = search rules in
    let same : to_z w64 (of_z w64 v) ≡ v = to_z-of_z w64 v fits in
    let h = c.in_ok-hours.hours in
    let some : c.take_hours.result ≡ Some h = search rules in
    let next : next_hours old.hours v ≡ Some h = sym (c.take_hours.ensures.value
    ∙ ap (next_hours old.hours) same)
    ∙ some in
    let anew : begins_two_hours v ≡ true → HasSummed mid.sum [] =
    λ e. c.take_hours.ensures.anew (ap begins_two_hours same ∙ e) in
    let stays : begins_two_hours v ≡ false → mid.sum ≡ old.sum =
    λ e. c.take_hours.ensures.goes_on (ap begins_two_hours same ∙ e) in
    let adds : Adds mid.sum c.add.new.self (as_part g) =
    subst (λ (w : TwoHourView). Adds w.sum c.add.new.self (as_part g)) c.self.view_is c.add.ensures.value in
    let other : h.count ≡ 11 → ⊥ = λ e. omega (arith, e, c.if-count-eq-TENS_IN_TWO_HOURS.false) in
    part_done old mid c.add.new.self g v h ticked next anew stays adds other

pub returns-clause-seen : goal.returns-clause-seen
returns-clause-seen c =
    let old = c.args.self.now in
    let mid = c.take_hours.new.self in
    let g = c.args.ten.now in
    let v = c.in_ok-tick.tick in
    let ticked : g.tick ≡ Some v = search rules in
    let fits : FitsSigned w64 v = search rules in
    let same : to_z w64 (of_z w64 v) ≡ v = to_z-of_z w64 v fits in
    let h = c.in_ok-hours.hours in
    let some : c.take_hours.result ≡ Some h = search rules in
    let next : next_hours old.hours v ≡ Some h = sym (c.take_hours.ensures.value
    ∙ ap (next_hours old.hours) same)
    ∙ some in
    let anew : begins_two_hours v ≡ true → HasSummed mid.sum [] =
    λ e. c.take_hours.ensures.anew (ap begins_two_hours same ∙ e) in
    let stays : begins_two_hours v ≡ false → mid.sum ≡ old.sum =
    λ e. c.take_hours.ensures.goes_on (ap begins_two_hours same ∙ e) in
    let adds : Adds mid.sum c.add.new.self (as_part g) =
    subst (λ (w : TwoHourView). Adds w.sum c.add.new.self (as_part g)) c.self.view_is c.add.ensures.value in
    let other : h.count ≡ 11 → ⊥ = λ e. omega (arith, e, c.if-count-eq-TENS_IN_TWO_HOURS.false) in
    let tick_fits : FitsSigned w64 h.tick = search rules in
    let tick_same : to_z w64 (of_z w64 h.tick) ≡ h.tick = to_z-of_z w64 h.tick tick_fits in
    let new : TwoHourView = record {
      clock = c.self.inside.clock;
      samples = c.self.inside.samples;
      channels = c.self.inside.channels;
      sum = c.add.new.self;
      hours = Some (record { tick = to_z w64 (of_z w64 h.tick); count = h.count + 1 });
    } in
    part_seen old mid c.add.new.self g v h ticked next anew stays adds new other refl
    (ap (λ t. after t (h.count + 1)) tick_same)
  where
    after : ℤ → ℕ → Option TwoHours
    after tick count = Some (record { tick = tick; count = count })
