use Rattle.std.proofs.Common.{◌≡◌, ◌∙◌, map, take, ap, sym, subst, refl}
use Rattle.aggregate.specs.BasicOrder.{basic_of}
use Rattle.aggregate.specs.ShortSums.{Completes, SeesMore, ShortView, recent_view}
use Rattle.aggregate.specs.Sum.{part_of}
use Rattle.aggregate.specs.declared.short.Recent.{Recent}
use Rattle.aggregate.proofs.ShortLaws.{completes_of, pushed, sees_of}
use Rattle.aggregate.proofs.short.ShortSums.step.Goals as goal

-- a run may be completed
pub returns-clause-value : goal.returns-clause-value
returns-clause-value c =
    let i = c.self.inside in
    let b = basic_of c.args.front c.args.span c.args.values.now c.args.flagged in
    let was : ShortView = record { channels = i.channels; recent = map (recent_view i.channels) i.recent } in
    subst (λ (s : ShortView). Completes s b c.completed-completed.result) c.self.view_is
    (completes_of was b c.completed-completed.result c.completed-completed.ensures)

-- and one more basic interval is kept
pub returns-clause-seen : goal.returns-clause-seen
returns-clause-seen c =
    let i = c.self.inside in
    let b = basic_of c.args.front c.args.span c.args.values.now c.args.flagged in
    let was : ShortView = record { channels = i.channels; recent = map (recent_view i.channels) i.recent } in
    let now : ShortView =
    record { channels = i.channels; recent = map (recent_view i.channels) c.push.new.recent } in
    let next : Recent = record {
      begins = c.begins_next.result;
      span = c.args.span;
      values = c.padded.result;
      flagged = c.args.flagged;
    } in
    let channels : i.channels ≡ c.args.self.now.channels =
    ap (λ (s : ShortView). s.channels) c.self.view_is in
    let values : take i.channels c.padded.result ≡ c.args.values.now =
    ap (λ n. take n c.padded.result) (channels ∙ sym c.requires.long) ∙ c.padded.ensures.value in
    let P : ShortView → Type 0 = λ s. SeesMore s now b in
    subst P c.self.view_is
    (sees_of was now b refl
    (pushed i.channels i.recent c.push.new.recent next c.args.front b.part c.push.ensures
    c.begins_next.ensures
    (ap (λ vs. part_of c.args.span vs c.args.flagged) values)))
