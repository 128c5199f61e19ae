-- What a detector keeps agrees with what it was fed, and goes on to.
use Rattle.std.proofs.Common.{◌≡◌, ℕ, true, false, cond, List, [], ◌∷◌, ◌++◌, Option, Some, None, option_map, option_to_list, refl, sym, ◌∙◌, ap, subst}
use Rattle.std.proofs.lemmas.List.{append_cancel_left}
use Rattle.event_detect.specs.declared.event.Event.{Event}
use Rattle.event_detect.specs.declared.detector.RunningEvent.{RunningEvent}
use Rattle.event_detect.specs.declared.kind.Kind.{Kind}
use Rattle.event_detect.specs.VoltageEvent.{Condition, event_from, extents, ended_events, seen_value}
use Rattle.event_detect.specs.Detector.{OpenEvent, Watch, open_at, HasSeen, Ends, SeesMore, StartsOpen, running_view, with_window}
use Rattle.event_detect.proofs.EventLaws.{open_event, open_event_push, next_event, begun, closed_at, ended_event, ended_events_push, events_split, open_start_is}
use Rattle.pq_words.specs.First.{first_of, first_between}
use Rattle.pq_words.specs.Successors.{successors}

-- an open event tells what is known of it
open_only : (kind : Kind) (r s : Option OpenEvent) → option_to_list (option_map (open_at kind 0) r)
    ≡ option_to_list (option_map (open_at kind 0) s) → r ≡ s
open_only kind r s same = sym (back r) ∙ ap known_in same ∙ back s
  where
    known_in : List Event → Option OpenEvent
    known_in [] = None
    known_in (e ∷ es) = Some (record { start = e.start; channel = e.channel; value = e.value })

    back : (r : Option OpenEvent) → known_in (option_to_list (option_map (open_at kind 0) r)) ≡ r
    back None = refl
    back (Some r) = refl

-- what runs is the event that the list leaves open
pub running_is : (w : Watch) (fed : List Condition) → HasSeen w fed → w.running ≡ open_event w.kind fed
running_is w fed seen =
    let left = option_to_list (option_map (open_at w.kind 0) w.running) in
    let right = option_to_list (option_map (open_at w.kind 0) (open_event w.kind fed)) in
    open_only w.kind w.running (open_event w.kind fed)
    (append_cancel_left (ended_events w.kind fed) left right (sym (seen 0) ∙ events_split w.kind 0 fed))

has_seen : (w : Watch) (fed : List Condition) → w.running ≡ open_event w.kind fed → HasSeen w fed
has_seen w fed is n = events_split w.kind n fed ∙ ap
    (λ o. ended_events w.kind fed ++ option_to_list (option_map (open_at w.kind n) o)) (sym is)

nothing_open : (kind : Kind) → None ≡ open_event kind []
unfolding extents event_from successors first_between first_of
nothing_open kind = refl

-- a detector in which nothing runs may have seen nothing
pub nothing_seen : (w : Watch) → w.running ≡ None → HasSeen w []
nothing_seen w none = has_seen w [] (none ∙ nothing_open w.kind)

-- the answer to one more condition
ends_of : (w : Watch) (c : Condition) (answer : Option Event) → ended_event w.kind c.ends c w.running ≡ answer
    → Ends w c answer
ends_of w c answer is fed seen =
    ended_events_push w.kind fed c
    ∙ ap (λ o. ended_events w.kind fed ++ option_to_list (ended_event w.kind c.ends c o))
    (sym (running_is w fed seen))
    ∙ ap (λ o. ended_events w.kind fed ++ option_to_list o) is

-- what runs after one more condition
sees_of : (w : Watch) (c : Condition) (o : Option OpenEvent)
    → next_event w.kind c.begins c.ends c w.running ≡ o → SeesMore w (record { kind = w.kind; running = o }) c
sees_of w c o is fed seen =
    has_seen (record { kind = w.kind; running = o }) (fed ++ c ∷ [])
    (sym is ∙ ap (next_event w.kind c.begins c.ends c) (running_is w fed seen)
    ∙ sym (open_event_push w.kind fed c))

abbrev pub watch : Kind → Option OpenEvent → Watch
watch kind o = record { kind = kind; running = o }

-- ---- the ways of a step, of a detector that is known by its parts

-- a detector, by what was found in its field
pub parts : (kind : Kind) (field found : Option RunningEvent) (w : Watch) → field ≡ found →
    watch kind (option_map running_view field) ≡ w → watch kind (option_map running_view found) ≡ w
parts kind field found w is view = sym (ap (λ o. watch kind (option_map running_view o)) is) ∙ view

step_ends : (w : Watch) (kind : Kind) (o : Option OpenEvent) (c : Condition) (answer : Option Event) →
    watch kind o ≡ w → ended_event kind c.ends c o ≡ answer → Ends w c answer
step_ends w kind o c answer is ended = let P : Watch → Type 0 = λ w. Ends w c answer in
    subst P is (ends_of (watch kind o) c answer ended)

step_sees : (w : Watch) (kind : Kind) (o next : Option OpenEvent) (c : Condition) → watch kind o ≡ w →
    next_event kind c.begins c.ends c o ≡ next → SeesMore w (watch kind next) c
step_sees w kind o next c is goes_on = let P : Watch → Type 0 = λ w. SeesMore w (watch kind next) c in
    subst P is (sees_of (watch kind o) c next goes_on)

-- where none runs, none ends
pub idle_ends : (w : Watch) (kind : Kind) (c : Condition) → watch kind None ≡ w → Ends w c None
idle_ends w kind c is = step_ends w kind None c None is refl

pub idle_begins : (w : Watch) (kind : Kind) (c : Condition) → watch kind None ≡ w → c.begins ≡ true →
    SeesMore w (watch kind (Some (begun c))) c
idle_begins w kind c is begins = step_sees w kind None (Some (begun c)) c is
    (ap (λ b. cond b (Some (begun c)) None) begins)

pub idle_stays : (w : Watch) (kind : Kind) (c : Condition) → watch kind None ≡ w → c.begins ≡ false →
    SeesMore w w c
idle_stays w kind c is stays =
    let P : Watch → Type 0 = λ v. SeesMore w v c in
    subst P is (step_sees w kind None None c is (ap (λ b. cond b (Some (begun c)) None) stays))

-- one that runs ends
pub running_ends : (w : Watch) (kind : Kind) (r next : OpenEvent) (c : Condition) (answer : Event) →
    watch kind (Some r) ≡ w → c.ends ≡ true
    → with_window kind r c.channel (seen_value c) ≡ next → answer ≡ closed_at kind c.window.end next →
    Ends w c (Some answer)
running_ends w kind r next c answer is ends more closed =
    step_ends w kind (Some r) c (Some answer) is
    (ap (λ e. cond e (Some (closed_at kind c.window.end (with_window kind r c.channel (seen_value c)))) None)
    ends
    ∙ ap (λ r. Some (closed_at kind c.window.end r)) more
    ∙ ap Some (sym closed))

pub running_stops : (w : Watch) (kind : Kind) (r : OpenEvent) (c : Condition) → watch kind (Some r) ≡ w
    → c.ends ≡ true → SeesMore w (watch kind None) c
running_stops w kind r c is ends = step_sees w kind (Some r) None c is
    (ap (λ e. cond e None (Some (with_window kind r c.channel (seen_value c)))) ends)

-- or goes on
pub running_stays : (w : Watch) (kind : Kind) (r : OpenEvent) (c : Condition) → watch kind (Some r) ≡ w
    → c.ends ≡ false → Ends w c None
running_stays w kind r c is stays =
    step_ends w kind (Some r) c None is (ap (λ e. cond e
    (Some (closed_at kind c.window.end (with_window kind r c.channel (seen_value c)))) None) stays)

pub running_goes_on : (w : Watch) (kind : Kind) (r next : OpenEvent) (c : Condition)
    → watch kind (Some r) ≡ w → c.ends ≡ false
    → with_window kind r c.channel (seen_value c) ≡ next → SeesMore w (watch kind (Some next)) c
running_goes_on w kind r next c is stays more =
    step_sees w kind (Some r) (Some next) c is (ap (λ e. cond e None
    (Some (with_window kind r c.channel (seen_value c)))) stays ∙ ap Some more)

-- where the event that runs began
pub starts_open : (w : Watch) (answer : Option ℕ) → answer ≡ option_map (λ r. r.start) w.running →
    StartsOpen w answer
starts_open w answer is fed seen = is ∙ ap (option_map (λ (r : OpenEvent). r.start)) (running_is w fed seen)
    ∙ sym (open_start_is w.kind fed)

-- every detector has seen some list
pub seen_some : (w : Watch) → (fed : List Condition) × HasSeen w fed
seen_some w = at w.kind w.running
  where
    at : (kind : Kind) (o : Option OpenEvent) → (fed : List Condition) × HasSeen (watch kind o) fed
    at kind None = ([], nothing_seen (watch kind None) refl)
    at kind (Some r) =
        let c : Condition = record {
          begins = true;
          ends = false;
          channel = r.channel;
          window =
              record { start = r.start; end = 0; value = r.value };
        } in
        (c ∷ [], idle_begins (watch kind None) kind c refl refl [] (nothing_seen (watch kind None) refl))
