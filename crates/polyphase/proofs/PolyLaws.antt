-- What a Poly keeps agrees with the windows that it was fed, and goes on to.
use Rattle.std.proofs.Common.{◌≡◌, ℕ, ◌+◌, List, [], ◌∷◌, ◌++◌, length, set, replicate, Option, None, Some, option_to_list, refl, sym, ◌∙◌, ap, subst, length-set}
use Rattle.std.proofs.lemmas.List.{length_push, length-replicate}
use Rattle.event_detect.specs.declared.event.Event.{Event}
use Rattle.event_detect.specs.declared.kind.Kind.{Kind}
use Rattle.event_detect.specs.declared.kind.Kind.TheVariants.{Dip, Swell, Interruption}
use Rattle.event_detect.specs.declared.limits.Limits.{Limits}
use Rattle.event_detect.specs.declared.window.Window.{Window}
use Rattle.event_detect.specs.Detector.{OpenEvent, Watch, HasSeen as HasSeenConditions, Ends as EndsOfKind, SeesMore as SeesMoreOfKind, LeavesOpen as LeavesOpenOfKind, StartsOpen as StartsOpenOfKind}
use Rattle.event_detect.specs.VoltageEvent.{Condition, IsLeftOpen, EndsAtLast, ended_events, open_start}
use Rattle.event_detect.proofs.DetectorLaws.{idle_ends, idle_stays}
use Rattle.polyphase.specs.Latest.{LatestView, BeginAlike, no_values, with_value}
use Rattle.polyphase.specs.Poly.{PolyView, AreIdle, Passes, poly_view, running_of, watch_of, channel_window, condition_of, HasSeen, answer_of, Ends, SeesMore, LeavesOpen, StartsOpen}
use Rattle.polyphase.specs.PolyphaseEvent.{ChannelWindow, condition_over, conditions, latest_values, EndsAtWindow}
use Rattle.polyphase.proofs.ConditionLaws.{latest_values_push, latest_values_none, conditions_push, conditions_none}

-- a detector by its kind
abbrev pub watch : Kind → Option OpenEvent → Watch
watch kind running = record { kind = kind; running = running }

-- what a Poly tells its detectors at one more window
abbrev pub next_condition : PolyView → ChannelWindow → Kind → Condition
next_condition p m kind = condition_over kind p.limits (set p.latest m.channel (Some m.window.value)) m

next_conditions : (p : PolyView) (m : ChannelWindow) (kind : Kind) (fed : List ChannelWindow) → HasSeen p fed
    → conditions kind p.limits p.channels (fed ++ m ∷ [])
    ≡ conditions kind p.limits p.channels fed ++ next_condition p m kind ∷ []
next_conditions p m kind fed seen =
    conditions_push kind p.limits p.channels fed m
    ∙ ap (λ values. conditions kind p.limits p.channels fed
    ++ condition_over kind p.limits (set values m.channel (Some m.window.value)) m ∷ []) (sym seen.values)

-- ---- a step

pub ends_of_kind : (p : PolyView) (m : ChannelWindow) (kind : Kind) (answer : Option Event)
    → EndsOfKind (watch_of p kind) (next_condition p m kind) answer
    → (fed : List ChannelWindow) → HasSeen p fed → EndsAtWindow kind p.limits p.channels fed m answer
ends_of_kind p m kind answer is fed seen =
    ap (ended_events kind) (next_conditions p m kind fed seen)
    ∙ is (conditions kind p.limits p.channels fed) (seen.of_kind kind)

pub all_end : (p : PolyView) (m : ChannelWindow) (a b c : Option Event)
    → EndsOfKind (watch Dip p.dip) (next_condition p m Dip) a
    → EndsOfKind (watch Swell p.swell) (next_condition p m Swell) b
    → EndsOfKind (watch Interruption p.interruption) (next_condition p m Interruption) c
    → Ends p m (a ∷ b ∷ c ∷ [])
all_end p m a b c dip swell interruption fed Dip seen = ends_of_kind p m Dip a dip fed seen
all_end p m a b c dip swell interruption fed Swell seen = ends_of_kind p m Swell b swell fed seen
all_end p m a b c dip swell interruption fed Interruption seen =
    ends_of_kind p m Interruption c interruption fed seen

pub all_see : (p q : PolyView) (m : ChannelWindow)
    → q.channels ≡ p.channels → q.limits ≡ p.limits → q.latest ≡ set p.latest m.channel (Some m.window.value)
    → ((kind : Kind) → SeesMoreOfKind (watch_of p kind) (watch_of q kind) (next_condition p m kind))
    → SeesMore p q m
all_see p q m channels limits values more fed seen = record {
  values =
      values
      ∙ ap (λ vs. set vs m.channel (Some m.window.value)) seen.values
      ∙ sym (latest_values_push p.channels fed m)
      ∙ ap (latest_values p.channels (fed ++ m ∷ [])) (sym (length_push fed m))
      ∙ ap (λ n. latest_values n (fed ++ m ∷ []) (length (fed ++ m ∷ []))) (sym channels);
  of_kind = λ kind.
      let longer : HasSeenConditions (watch_of q kind)
      (conditions kind p.limits p.channels fed ++ next_condition p m kind ∷ []) =
      more kind (conditions kind p.limits p.channels fed) (seen.of_kind kind) in
      let all : HasSeenConditions (watch_of q kind) (conditions kind p.limits p.channels (fed ++ m ∷ [])) =
      subst (HasSeenConditions (watch_of q kind)) (sym (next_conditions p m kind fed seen)) longer in
      let of_limits : HasSeenConditions (watch_of q kind)
      (conditions kind q.limits p.channels (fed ++ m ∷ [])) =
      subst (λ l. HasSeenConditions (watch_of q kind) (conditions kind l p.channels (fed ++ m ∷ [])))
      (sym limits) all in
      subst (λ n. HasSeenConditions (watch_of q kind) (conditions kind q.limits n (fed ++ m ∷ [])))
      (sym channels) of_limits;
}

-- ---- the end

pub left_of_kind : (p : PolyView) (n : ℕ) (kind : Kind) (answer : Option Event)
    → LeavesOpenOfKind (watch_of p kind) n answer
    → (fed : List ChannelWindow) → HasSeen p fed
    → IsLeftOpen kind n (conditions kind p.limits p.channels fed) answer
left_of_kind p n kind answer is fed seen = is (conditions kind p.limits p.channels fed) (seen.of_kind kind)

pub all_left : (p : PolyView) (n : ℕ) (a b c : Option Event)
    → LeavesOpenOfKind (watch Dip p.dip) n a
    → LeavesOpenOfKind (watch Swell p.swell) n b
    → LeavesOpenOfKind (watch Interruption p.interruption) n c
    → LeavesOpen p n (a ∷ b ∷ c ∷ [])
all_left p n a b c dip swell interruption fed Dip seen = left_of_kind p n Dip a dip fed seen
all_left p n a b c dip swell interruption fed Swell seen = left_of_kind p n Swell b swell fed seen
all_left p n a b c dip swell interruption fed Interruption seen =
    left_of_kind p n Interruption c interruption fed seen

-- a Poly whose detectors have seen nothing, and that has no values, has seen nothing
pub nothing_seen : (channels : ℕ) (limits : Limits) (d s i : Watch)
    → d.kind ≡ Dip → s.kind ≡ Swell → i.kind ≡ Interruption
    → HasSeenConditions d [] → HasSeenConditions s [] → HasSeenConditions i []
    → HasSeen (poly_view (no_values channels limits) d s i) []
nothing_seen channels limits d s i d_is s_is i_is dip swell interruption = record {
  values =
      sym (ap (λ n. latest_values n [] 0) (length-replicate channels None) ∙ latest_values_none channels);
  of_kind = λ kind.
      subst (HasSeenConditions (watch_of (poly_view (no_values channels limits) d s i) kind))
      (sym (conditions_none kind limits (length (replicate channels None)))) (at kind);
}
  where
    at : (kind : Kind) → HasSeenConditions (watch_of (poly_view (no_values channels limits) d s i) kind) []
    at Dip = let P : Kind → Type 0 = λ kind. HasSeenConditions (watch kind d.running) [] in subst P d_is dip
    at Swell = let P : Kind → Type 0 = λ kind. HasSeenConditions (watch kind s.running) [] in
        subst P s_is swell
    at Interruption =
        let P : Kind → Type 0 = λ kind. HasSeenConditions (watch kind i.running) [] in
        subst P i_is interruption

-- where the event that runs began
pub starts_open : (p : PolyView) (kind : Kind) (answer : Option ℕ) → StartsOpenOfKind (watch_of p kind) answer
    → StartsOpen p kind answer
starts_open p kind answer is fed seen = is (conditions kind p.limits p.channels fed) (seen.of_kind kind)

-- ---- where no event runs and none begins

abbrev idle_condition : LatestView → ℕ → Window → Kind → Condition
idle_condition latest position window kind =
    condition_of (with_value latest position window.value) position window kind

-- the window passes by
pub idle_passes : (latest : LatestView) (dips swells interruptions : Watch) (position : ℕ) (window : Window)
    → AreIdle latest dips swells interruptions
    → BeginAlike latest (with_value latest position window.value)
    → Passes (poly_view latest dips swells interruptions)
    (poly_view (with_value latest position window.value) dips swells interruptions)
    (channel_window position window)
idle_passes latest dips swells interruptions position window idle alike =
    let old = poly_view latest dips swells interruptions in
    let new = poly_view (with_value latest position window.value) dips swells interruptions in
    let m = channel_window position window in
    let at : Kind → Condition = idle_condition latest position window in
    let dip : watch Dip None ≡ watch Dip dips.running = ap (watch Dip) (sym idle.dip.stands) in
    let swell : watch Swell None ≡ watch Swell swells.running = ap (watch Swell) (sym idle.swell.stands) in
    let interruption : watch Interruption None ≡ watch Interruption interruptions.running =
    ap (watch Interruption) (sym idle.interruption.stands) in
    let each : (kind : Kind) → SeesMoreOfKind (watch_of old kind) (watch_of new kind) (at kind) =
    λ kind. elim kind as (λ k. SeesMoreOfKind (watch_of old k) (watch_of new k) (at k)) [
      | Dip ↦ idle_stays (watch Dip dips.running) Dip (at Dip) dip (alike Dip ∙ idle.dip.stays)
      | Swell ↦
          idle_stays (watch Swell swells.running) Swell (at Swell) swell (alike Swell ∙ idle.swell.stays)
      | Interruption ↦
          idle_stays (watch Interruption interruptions.running) Interruption (at Interruption) interruption
          (alike Interruption ∙ idle.interruption.stays)
    ] in
    record {
      ends = all_end old m None None None
          (idle_ends (watch Dip dips.running) Dip (at Dip) dip)
          (idle_ends (watch Swell swells.running) Swell (at Swell) swell)
          (idle_ends (watch Interruption interruptions.running) Interruption (at Interruption) interruption);
      sees = all_see old new m (length-set latest.values position (Some window.value)) refl refl each;
    }
