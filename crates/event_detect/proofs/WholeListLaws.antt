-- A detector gives the events of the whole list.
use Rattle.std.proofs.Common.{◌≡◌, ℕ, zero, suc, Bool, true, false, List, [], ◌∷◌, ◌++◌, flat_map, Option, Some, None, option_to_list, slice_get, refl, sym, ◌∙◌, ap, subst, append_assoc}
use Rattle.std.proofs.Math.Seq.{append_snoc}
use Rattle.std.proofs.lemmas.List.{append-nil, append_cancel_left}
use Rattle.event_detect.specs.declared.event.Event.{Event}
use Rattle.event_detect.specs.declared.kind.Kind.{Kind}
use Rattle.event_detect.specs.VoltageEvent.{Condition, event_from, extents, events, ended_events}
use Rattle.event_detect.specs.Detector.{OpenEvent, Watch, HasSeen}
use Rattle.event_detect.specs.WholeList.{StepsOver, GivesEvents}
use Rattle.event_detect.proofs.EventLaws.{open_event, ended_event, ended_events_push}
use Rattle.event_detect.proofs.DetectorLaws.{seen_some}
use Rattle.pq_words.specs.First.{first_of, first_between}
use Rattle.pq_words.specs.Successors.{successors}

-- what a detector has seen and given, after some steps
record Gone (w last : Watch) (fed all : List Condition) (answers : List (Option Event)) : Type 0 where
  kind : last.kind ≡ w.kind
  seen : HasSeen last all
  given : ended_events w.kind all ≡ ended_events w.kind fed ++ flat_map option_to_list answers

gone : (w last : Watch) (fed cs : List Condition) (answers : List (Option Event)) → HasSeen w fed →
    StepsOver w cs answers last → Gone w last fed (fed ++ cs) answers
gone w last fed [] [] seen same =
    let P : Watch → Type 0 = λ v. HasSeen v (fed ++ []) in
    let nothing : fed ++ [] ≡ fed = append-nil fed in
    record {
      kind = ap (λ (v : Watch). v.kind) same;
      seen = subst P (sym same) (subst (λ cs. HasSeen w cs) (sym nothing) seen);
      given = ap (ended_events w.kind) nothing ∙ sym (append-nil (ended_events w.kind fed));
    }
gone w last fed (c ∷ cs) (a ∷ more) seen steps =
    let next = steps.0 in
    let rest = gone next last (fed ++ c ∷ []) cs more (steps.2 fed seen) steps.4 in
    let longer : (fed ++ c ∷ []) ++ cs ≡ fed ++ c ∷ cs = append_snoc fed c cs in
    let given : ended_events w.kind ((fed ++ c ∷ []) ++ cs) ≡ ended_events w.kind (fed ++ c ∷ [])
    ++ flat_map option_to_list more =
    subst (λ kind. ended_events kind ((fed ++ c ∷ []) ++ cs) ≡ ended_events kind (fed ++ c ∷ [])
    ++ flat_map option_to_list more) steps.3 rest.given in
    record {
      kind = rest.kind ∙ steps.3;
      seen = subst (λ cs. HasSeen last cs) longer rest.seen;
      given =
          ap (ended_events w.kind) (sym longer)
          ∙ given
          ∙ ap (λ es. es ++ flat_map option_to_list more) (steps.1 fed seen)
          ∙ append_assoc (ended_events w.kind fed) (option_to_list a) (flat_map option_to_list more);
    }
gone w last fed [] (a ∷ more) seen steps = absurd steps
gone w last fed (c ∷ cs) [] seen steps = absurd steps

none_ended : (kind : Kind) → ended_events kind [] ≡ []
unfolding ended_events extents event_from successors first_between first_of
none_ended kind = refl

-- the only event that a condition ends ends with its window
ended_there : (kind : Kind) (e : Bool) (c : Condition) (o : Option OpenEvent) (event : Event) →
    ended_event kind e c o ≡ Some event → (event.end ≡ c.window.end) × (event.is_open ≡ false)
ended_there kind e c None event is = absurd (let bad : ⊥ = cc in bad)
ended_there kind false c (Some r) event is = absurd (let bad : ⊥ = cc in bad)
ended_there kind true c (Some r) event is = (sym (ap (ending event) is), sym (ap (opening event) is))
  where
    ending : Event → Option Event → ℕ
    ending other None = other.end
    ending other (Some event) = event.end

    opening : Event → Option Event → Bool
    opening other None = other.is_open
    opening other (Some event) = event.is_open

one_only : (a b : Option Event) → option_to_list a ≡ option_to_list b → a ≡ b
one_only a b same = sym (back a) ∙ ap first_in same ∙ back b
  where
    first_in : List Event → Option Event
    first_in [] = None
    first_in (event ∷ more) = Some event

    back : (o : Option Event) → first_in (option_to_list o) ≡ o
    back None = refl
    back (Some event) = refl

at_index : (w last : Watch) (fed cs : List Condition) (answers : List (Option Event)) (k : ℕ) (c : Condition)
    (event : Event) → HasSeen w fed → StepsOver w cs answers last
    → slice_get cs k ≡ Some c → slice_get answers k ≡ Some (Some event) → (event.end ≡ c.window.end) ×
    (event.is_open ≡ false)
at_index w last fed [] answers k c event seen steps here there = absurd (let bad : ⊥ = cc in bad)
at_index w last fed (d ∷ cs) [] k c event seen steps here there = absurd steps
at_index w last fed (d ∷ cs) (a ∷ more) zero c event seen steps here there =
    let same : d ≡ c = cc in
    let answer : a ≡ Some event = cc in
    let ended : option_to_list a ≡ option_to_list (ended_event w.kind d.ends d (open_event w.kind fed)) =
    append_cancel_left (ended_events w.kind fed) (option_to_list a)
    (option_to_list (ended_event w.kind d.ends d (open_event w.kind fed)))
    (sym (steps.1 fed seen) ∙ ended_events_push w.kind fed d) in
    subst (λ (c : Condition). (event.end ≡ c.window.end) × (event.is_open ≡ false)) same
    (ended_there w.kind d.ends d (open_event w.kind fed) event
    (sym (one_only a (ended_event w.kind d.ends d (open_event w.kind fed)) ended) ∙ answer))
at_index w last fed (d ∷ cs) (a ∷ more) (suc k) c event seen steps here there =
    at_index steps.0 last (fed ++ d ∷ []) cs more k c event (steps.2 fed seen) steps.4 here there

pub gives_events : GivesEvents
gives_events = record {
  some = seen_some;
  all = λ n cs first last answers final seen steps left.
      let after = gone first last [] cs answers seen steps in
      let ends : events last.kind n cs ≡ ended_events last.kind cs ++ option_to_list final =
      left cs after.seen in
      sym
      (subst (λ kind. events kind n cs ≡ ended_events kind cs ++ option_to_list final) after.kind ends
      ∙ ap (λ es. es ++ option_to_list final) (after.given
      ∙ ap (λ es. es ++ flat_map option_to_list answers) (none_ended first.kind)));
  ends_there = λ cs first last answers k c event seen steps here there. at_index first last [] cs answers k c
      event seen steps here there;
}
