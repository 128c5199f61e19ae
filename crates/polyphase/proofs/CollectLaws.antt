-- The answers of a Poly, collected as they come, are the events of all kinds, in some order.
use Rattle.std.proofs.Common.{◌≡◌, ℕ, ◌+◌, List, [], ◌∷◌, ◌++◌, flat_map, Option, option_to_list, ap, ◌∙◌, sym, arith}
use Rattle.std.specs.List.{sum_by}
use Rattle.std.proofs.lemmas.List.Sums.{sum_by-append}
use Rattle.event_detect.specs.declared.event.Event.{Event}
use Rattle.event_detect.specs.declared.kind.Kind.{Kind}
use Rattle.event_detect.specs.declared.kind.Kind.TheVariants.{Dip, Swell, Interruption}
use Rattle.event_detect.specs.declared.limits.Limits.{Limits}
use Rattle.event_detect.specs.VoltageEvent.{ended_events, events}
use Rattle.polyphase.specs.Poly.{PolyView, HasSeen, Ends, LeavesOpen, answer_of}
use Rattle.polyphase.specs.PolyphaseEvent.{ChannelWindow, conditions, kinds, all_polyphase_events}
use Rattle.polyphase.proofs.MovedLaws.{IsMoved}

-- the events of all kinds that the windows have ended
abbrev pub all_ended : Limits → ℕ → List ChannelWindow → List Event
all_ended limits channels fed = flat_map
    (λ kind. ended_events kind (conditions kind limits channels fed)) kinds

-- the answers for the kinds in order, as they are collected
abbrev pub collected : List (Option Event) → List Event
collected answers =
    option_to_list (answer_of Dip answers) ++ option_to_list (answer_of Swell answers)
    ++ option_to_list (answer_of Interruption answers)

-- three lists, each with more behind it, and all of that behind the three
moved : (found a b c d e f u v w : List Event)
    → IsMoved found (a ++ (b ++ (c ++ []))) → u ≡ a ++ d → v ≡ b ++ e → w ≡ c ++ f
    → IsMoved (found ++ (d ++ e ++ f)) (u ++ (v ++ (w ++ [])))
moved found a b c d e f u v w same u_is v_is w_is g =
    let whole = same g in
    let s1 = sum_by-append g a (b ++ (c ++ [])) in
    let s2 = sum_by-append g b (c ++ []) in
    let s3 = sum_by-append g c [] in
    let s4 = sum_by-append g found (d ++ e ++ f) in
    let s5 = sum_by-append g (d ++ e) f in
    let s6 = sum_by-append g d e in
    let s7 = sum_by-append g u (v ++ (w ++ [])) in
    let s8 = sum_by-append g v (w ++ []) in
    let s9 = sum_by-append g w [] in
    let su = ap (sum_by g) u_is ∙ sum_by-append g a d in
    let sv = ap (sum_by g) v_is ∙ sum_by-append g b e in
    let sw = ap (sum_by g) w_is ∙ sum_by-append g c f in
    omega (arith, whole, s1, s2, s3, s4, s5, s6, s7, s8, s9, su, sv, sw)

-- one more window
pub step_collects : (p : PolyView) (m : ChannelWindow) (answers : List (Option Event))
    (fed : List ChannelWindow)
    (found : List Event) → HasSeen p fed → Ends p m answers
    → IsMoved found (all_ended p.limits p.channels fed)
    → IsMoved (found ++ collected answers) (all_ended p.limits p.channels (fed ++ m ∷ []))
step_collects p m answers fed found seen ends same =
    let now : Kind → List Event = λ kind. ended_events kind (conditions kind p.limits p.channels fed) in
    let after : Kind → List Event = λ kind. ended_events kind
    (conditions kind p.limits p.channels (fed ++ m ∷ [])) in
    moved found (now Dip) (now Swell) (now Interruption)
    (option_to_list (answer_of Dip answers)) (option_to_list (answer_of Swell answers))
    (option_to_list (answer_of Interruption answers)) (after Dip) (after Swell) (after Interruption) same
    (ends fed Dip seen) (ends fed Swell seen) (ends fed Interruption seen)

-- and the end: all events
pub finish_collects : (p : PolyView) (n : ℕ) (answers : List (Option Event)) (fed : List ChannelWindow)
    (found : List Event) → HasSeen p fed → LeavesOpen p n answers
    → IsMoved found (all_ended p.limits p.channels fed)
    → IsMoved (found ++ collected answers) (all_polyphase_events p.limits p.channels n fed)
unfolding all_polyphase_events
finish_collects p n answers fed found seen left same =
    let now : Kind → List Event = λ kind. ended_events kind (conditions kind p.limits p.channels fed) in
    let all : Kind → List Event = λ kind. events kind n (conditions kind p.limits p.channels fed) in
    moved found (now Dip) (now Swell) (now Interruption)
    (option_to_list (answer_of Dip answers)) (option_to_list (answer_of Swell answers))
    (option_to_list (answer_of Interruption answers)) (all Dip) (all Swell) (all Interruption) same
    (left fed Dip seen) (left fed Swell seen) (left fed Interruption seen)
