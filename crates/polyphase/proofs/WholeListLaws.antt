-- A Poly gives the events of the whole list.
use Rattle.std.proofs.Common.{◌≡◌, ℕ, zero, suc, Bool, true, false, List, [], ◌∷◌, ◌++◌, length, set, Option, Some, None, option_to_list, slice_get, refl, sym, ◌∙◌, ap, subst, append_assoc}
use Rattle.std.proofs.Math.Seq.{append_snoc}
use Rattle.std.proofs.lemmas.List.{append-nil, append_cancel_left}
use Rattle.event_detect.specs.declared.event.Event.{Event}
use Rattle.event_detect.specs.declared.kind.Kind.{Kind}
use Rattle.event_detect.specs.declared.limits.Limits.{Limits}
use Rattle.event_detect.specs.VoltageEvent.{Condition, event_from, extents, events, ended_events}
use Rattle.event_detect.specs.Detector.{OpenEvent}
use Rattle.event_detect.proofs.EventLaws.{open_event, ended_event, ended_events_push}
use Rattle.polyphase.specs.Poly.{PolyView, HasSeen, answer_of}
use Rattle.polyphase.specs.PolyphaseEvent.{ChannelWindow, condition_over, conditions, latest_values, EndsAtWindow}
use Rattle.polyphase.specs.WholeList.{KeepsSetting, StepsOver, given_of, GivesPolyphaseEvents}
use Rattle.polyphase.proofs.ConditionLaws.{conditions_none, conditions_push}
use Rattle.pq_words.specs.First.{first_of, first_between}
use Rattle.pq_words.specs.Successors.{successors}

-- the events of a kind that the windows have ended
abbrev ended_of : Kind → PolyView → List ChannelWindow → List Event
ended_of kind p ms = ended_events kind (conditions kind p.limits p.channels ms)

-- what a Poly has seen and given, after some steps
record Gone (p last : PolyView) (fed all : List ChannelWindow)
    (answers : List (List (Option Event))) : Type 0 where
  setting : KeepsSetting p last
  seen : HasSeen last all
  given : (kind : Kind) → ended_of kind p all ≡ ended_of kind p fed ++ given_of kind answers

same_setting : (kind : Kind) (p q : PolyView) (ms : List ChannelWindow) → KeepsSetting p q
    → ended_of kind q ms ≡ ended_of kind p ms
same_setting kind p q ms same =
    ap (λ n. ended_events kind (conditions kind q.limits n ms)) same.0
    ∙ ap (λ l. ended_events kind (conditions kind l p.channels ms)) same.1

gone : (p last : PolyView) (fed ms : List ChannelWindow) (answers : List (List (Option Event)))
    → HasSeen p fed
    → StepsOver p ms answers last → Gone p last fed (fed ++ ms) answers
gone p last fed [] [] seen same =
    let P : PolyView → Type 0 = λ q. HasSeen q (fed ++ []) in
    let nothing : fed ++ [] ≡ fed = append-nil fed in
    record {
      setting = (ap (λ (q : PolyView). q.channels) same, ap (λ (q : PolyView). q.limits) same);
      seen = subst P (sym same) (subst (λ ms. HasSeen p ms) (sym nothing) seen);
      given = λ kind. ap (ended_of kind p) nothing ∙ sym (append-nil (ended_of kind p fed));
    }
gone p last fed (m ∷ ms) (a ∷ more) seen steps =
    let next = steps.0 in
    let rest = gone next last (fed ++ m ∷ []) ms more (steps.2 fed seen) steps.4 in
    let longer : (fed ++ m ∷ []) ++ ms ≡ fed ++ m ∷ ms = append_snoc fed m ms in
    record {
      setting = (rest.setting.0 ∙ steps.3.0, rest.setting.1 ∙ steps.3.1);
      seen = subst (λ ms. HasSeen last ms) longer rest.seen;
      given = λ kind.
          ap (ended_of kind p) (sym longer)
          ∙ sym (same_setting kind p next ((fed ++ m ∷ []) ++ ms) steps.3)
          ∙ rest.given kind
          ∙ ap (λ es. es ++ given_of kind more) (same_setting kind p next (fed ++ m ∷ []) steps.3)
          ∙ ap (λ es. es ++ given_of kind more) (steps.1 fed kind seen)
          ∙ append_assoc (ended_of kind p fed) (option_to_list (answer_of kind a)) (given_of kind more);
    }
gone p last fed [] (a ∷ more) seen steps = absurd steps
gone p last fed (m ∷ ms) [] seen steps = absurd steps

none_ended : (kind : Kind) (p : PolyView) → ended_of kind p [] ≡ []
unfolding ended_events extents event_from successors first_between first_of
none_ended kind p = ap (ended_events kind) (conditions_none kind p.limits p.channels)

-- the only event that a condition ends is of the kind, and ends with its window
abbrev EndsWith : Kind → ChannelWindow → Event → Type 0
EndsWith kind m event = (event.kind ≡ kind) × (event.end ≡ m.window.end) × (event.is_open ≡ false)

ended_there : (kind : Kind) (e : Bool) (c : Condition) (m : ChannelWindow) (o : Option OpenEvent)
    (event : Event)
    → c.window ≡ m.window → ended_event kind e c o ≡ Some event → EndsWith kind m event
ended_there kind e c m None event same is = absurd (let bad : ⊥ = cc in bad)
ended_there kind false c m (Some r) event same is = absurd (let bad : ⊥ = cc in bad)
ended_there kind true c m (Some r) event same is =
    (sym (ap kind_of is), sym (ap ending is) ∙ ap (λ w. w.end) same, sym (ap opening is))
  where
    kind_of : Option Event → Kind
    kind_of None = event.kind
    kind_of (Some event) = event.kind

    ending : Option Event → ℕ
    ending None = event.end
    ending (Some event) = event.end

    opening : Option Event → Bool
    opening None = event.is_open
    opening (Some event) = event.is_open

one_only : (a b : Option Event) → option_to_list a ≡ option_to_list b → a ≡ b
one_only a b same = sym (back a) ∙ ap first_in same ∙ back b
  where
    first_in : List Event → Option Event
    first_in [] = None
    first_in (event ∷ more) = Some event

    back : (o : Option Event) → first_in (option_to_list o) ≡ o
    back None = refl
    back (Some event) = refl

ends_with : (kind : Kind) (limits : Limits) (channels : ℕ) (fed : List ChannelWindow) (m : ChannelWindow)
    (event : Event) → EndsAtWindow kind limits channels fed m (Some event) → EndsWith kind m event
ends_with kind limits channels fed m event ends =
    let cs = conditions kind limits channels fed in
    let c = condition_over kind limits
    (set (latest_values channels fed (length fed)) m.channel (Some m.window.value)) m in
    let pushed : ended_events kind (cs ++ c ∷ []) ≡ ended_events kind cs ++ option_to_list (Some event) =
    ap (ended_events kind) (sym (conditions_push kind limits channels fed m)) ∙ ends in
    ended_there kind c.ends c m (open_event kind cs) event refl
    (sym (one_only (Some event) (ended_event kind c.ends c (open_event kind cs))
    (append_cancel_left (ended_events kind cs) (event ∷ [])
    (option_to_list (ended_event kind c.ends c (open_event kind cs)))
    (sym pushed ∙ ended_events_push kind cs c))))

at_place : (kind : Kind) (p last : PolyView) (fed ms : List ChannelWindow)
    (answers : List (List (Option Event)))
    (k : ℕ) (m : ChannelWindow) (a : List (Option Event)) (event : Event)
    → HasSeen p fed → StepsOver p ms answers last
    → slice_get ms k ≡ Some m → slice_get answers k ≡ Some a → answer_of kind a ≡ Some event
    → EndsWith kind m event
at_place kind p last fed [] answers k m a event seen steps here there is = absurd (let bad : ⊥ = cc in bad)
at_place kind p last fed (l ∷ ms) [] k m a event seen steps here there is = absurd steps
at_place kind p last fed (l ∷ ms) (b ∷ more) zero m a event seen steps here there is =
    let same : l ≡ m = cc in
    let answer : answer_of kind b ≡ Some event = cc in
    subst (λ m. EndsWith kind m event) same
    (ends_with kind p.limits p.channels fed l event
    (subst (EndsAtWindow kind p.limits p.channels fed l) answer (steps.1 fed kind seen)))
at_place kind p last fed (l ∷ ms) (b ∷ more) (suc k) m a event seen steps here there is =
    at_place kind steps.0 last (fed ++ l ∷ []) ms more k m a event (steps.2 fed seen) steps.4 here there is

pub gives_polyphase_events : GivesPolyphaseEvents
gives_polyphase_events = record {
  all = λ kind n merged first last answers final seen steps left.
      let after = gone first last [] merged answers seen steps in
      let same = same_setting kind first last merged after.setting in
      let open_too : events kind n (conditions kind last.limits last.channels merged)
      ≡ ended_of kind last merged ++ option_to_list (answer_of kind final) = left merged kind after.seen in
      let setting : conditions kind last.limits last.channels merged
      ≡ conditions kind first.limits first.channels merged =
      ap (λ c. conditions kind last.limits c merged) after.setting.0
      ∙ ap (λ l. conditions kind l first.channels merged) after.setting.1 in
      sym
      (ap (events kind n) (sym setting)
      ∙ open_too
      ∙ ap (λ es. es ++ option_to_list (answer_of kind final))
      (same ∙ after.given kind ∙ ap (λ es. es ++ given_of kind answers) (none_ended kind first)));
  ends_there = λ kind merged first last answers k m a event seen steps here there is.
      at_place kind first last [] merged answers k m a event seen steps here there is;
  seen = λ merged first last answers seen steps. (gone first last [] merged answers seen steps).seen;
}
