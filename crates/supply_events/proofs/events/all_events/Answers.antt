use Rattle.std.proofs.Common.{◌≡◌, ◌<◌, ◌∙◌, [], ◌∷◌, ◌++◌, All, IfOk, List, ap, append_assoc, append-nil, subst, sym}
use Rattle.std.proofs.lemmas.List.Elements.{All-head, All-tail}
use Rattle.event_detect.specs.VoltageEvent.{ended_events}
use Rattle.polyphase.specs.Poly.{HasSeen, answer_of, channel_window}
use Rattle.polyphase.specs.PolyphaseEvent.{ChannelWindow, conditions}
use Rattle.supply_events.specs.EventLists.{events_of}
use Rattle.supply_events.proofs.EventLemmas.{all_kinds, ended_more, ends_there, left_there, none_ended, with_open}
use Rattle.supply_events.proofs.events.all_events.Goals as goal

-- nothing is fed yet
pub loop-window-init : goal.loop-window-init
loop-window-init c =
    let all = c.into_iter-window-iterator.ensures.into_iter_gives in
    record {
      fed = (
        [],
        record {
          parts = all;
          channels_kept = c.new-poly.ensures.channels;
          limits_kept = c.new-poly.ensures.limits;
          seen = c.new-poly.ensures.value;
          found = λ kind. c.new-lists.ensures kind
              ∙ sym (none_ended kind c.args.limits.now c.args.channels);
        },
      );
      there = subst (λ (ws : List ChannelWindow). All (λ m. m.channel < c.args.channels) ws) (sym all)
          c.requires.there;
    }

-- the window is of one of the channels
pub step-requires : goal.step-requires
step-requires c =
    let channels = c.args.channels in
    let there = subst (λ (ws : List ChannelWindow). All (λ m. m.channel < channels) ws)
    c.in-Some.ensures.steps c.loop-window.invariant.there in
    let inside = All-head (λ (m : ChannelWindow). m.channel < channels) c.in-Some.window c.next.new.self
    there in
    subst (λ k. c.window.inside.position < k) (sym c.loop-window.invariant.fed.1.channels_kept)
    (subst (λ k. k < channels) (sym (ap (λ (m : ChannelWindow). m.channel) c.window.view_is)) inside)

-- one window more
pub loop-window-preserved : goal.loop-window-preserved
loop-window-preserved c =
    let limits = c.args.limits.now in
    let channels = c.args.channels in
    let fed = c.loop-window.invariant.fed.0 in
    let before = c.loop-window.invariant.fed.1 in
    let window = c.in-Some.window in
    let rest = c.next.new.self in
    let m = channel_window c.window.inside.position c.window.inside.window in
    let same : m ≡ window = c.window.view_is in
    let steps = c.in-Some.ensures.steps in
    record {
      fed = (
        fed ++ window ∷ [],
        record {
          parts = append_assoc fed (window ∷ []) rest ∙ ap (λ ws. fed ++ ws) (sym steps) ∙ before.parts;
          channels_kept = c.step.ensures.same ∙ before.channels_kept;
          limits_kept = c.step.ensures.limits ∙ before.limits_kept;
          seen = subst (λ w. HasSeen c.step.new.self (fed ++ w ∷ [])) same
              (c.step.ensures.seen fed before.seen);
          found = λ kind. ended_more kind limits channels fed window (answer_of kind c.step.result)
              (events_of c.loop-window.lists kind) (events_of c.push_answers.new.self kind)
              (ends_there kind c.loop-window.poly.limits limits c.loop-window.poly.channels channels fed m
              window (answer_of kind c.step.result) before.limits_kept before.channels_kept same
              (c.step.ensures.value fed kind before.seen))
              (before.found kind) (c.in_ok-push_answers.ensures kind);
        },
      );
      there = All-tail (λ (m : ChannelWindow). m.channel < channels) window rest
          (subst (λ (ws : List ChannelWindow). All (λ m. m.channel < channels) ws) steps
          c.loop-window.invariant.there);
    }

-- those that are left open, and then kind by kind
pub returns : goal.returns
returns c =
    let limits = c.args.limits.now in
    let channels = c.args.channels in
    let windows = c.args.windows in
    let before = c.loop-window.invariant.fed.1 in
    let fed = c.loop-window.invariant.fed.0 in
    let whole : fed ≡ windows = sym (append-nil fed) ∙ ap (λ ws. fed ++ ws) (sym c.in-None.ensures.steps.0)
    ∙ before.parts in
    subst (λ events. IfOk c.joined.result (λ found. found.items ≡ events))
    (all_kinds limits channels c.args.n windows (events_of c.push_answers-2.new.self)
    (λ kind. with_open kind limits channels c.args.n windows (answer_of kind c.finish.result)
    (events_of c.loop-window.lists kind) (events_of c.push_answers-2.new.self kind)
    (left_there kind c.args.n c.loop-window.poly.limits limits c.loop-window.poly.channels channels fed
    windows (answer_of kind c.finish.result) before.limits_kept before.channels_kept whole
    (c.finish.ensures.value fed kind before.seen))
    (before.found kind ∙ ap (λ fed. ended_events kind (conditions kind limits channels fed)) whole)
    (c.in_ok-push_answers-2.ensures kind)))
    c.joined.ensures
