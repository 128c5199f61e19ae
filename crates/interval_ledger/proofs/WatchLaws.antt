-- What a watch has seen, after one more window.
use Rattle.std.proofs.Common.{◌≡◌, ℕ, List, [], ◌∷◌, ◌++◌, Option, Some, None, option_to_list, refl, sym, ◌∙◌, ap, subst, arith}
use Rattle.event_detect.specs.declared.event.Event.{Event}
use Rattle.event_detect.specs.declared.kind.Kind.{Kind}
use Rattle.event_detect.specs.declared.kind.Kind.TheVariants.{Dip, Swell, Interruption}
use Rattle.event_detect.specs.declared.limits.Limits.{Limits}
use Rattle.event_detect.specs.VoltageEvent.{event_from, extents, ended_events}
use Rattle.settled_laws.specs.Greatest.{greatest_end}
use Rattle.settled_laws.specs.Touch.{latest_end}
use Rattle.interval_ledger.specs.Watch.{HasSeen, NotesEnds, Passes, SeesMore, WatchView, end_of_kind, later_end}
use Rattle.polyphase.specs.Poly.{Ends, HasSeen as HasSeenByPoly, Passes as PolyPasses, PolyView}
use Rattle.polyphase.specs.Poly.{SeesMore as PolySeesMore, answer_of}
use Rattle.polyphase.specs.PolyphaseEvent.{ChannelWindow, conditions}
use Rattle.pq_words.specs.First.{first_between, first_of}
use Rattle.pq_words.specs.Successors.{successors}

-- no event has ended before the first window
pub none_ended : (kind : Kind) (limits : Limits) (channels : ℕ) → latest_end kind limits channels [] ≡ 0
unfolding greatest_end ended_events extents event_from first_between first_of successors conditions
none_ended kind limits channels = refl

-- one more event
greatest_push : (es : List Event) (o : Option Event) →
    greatest_end (es ++ option_to_list o) ≡ later_end (greatest_end es) o
unfolding greatest_end
greatest_push [] None = omega arith
greatest_push [] (Some e) = omega arith
greatest_push (x ∷ es) o = let rest = greatest_push es o in omega (arith, rest)

same_ends : (v w : WatchView) → v.dip ≡ w.dip → v.swell ≡ w.swell → v.interruption ≡ w.interruption →
    (kind : Kind) → end_of_kind v kind ≡ end_of_kind w kind
same_ends v w dip swell interruption Dip = dip
same_ends v w dip swell interruption Swell = swell
same_ends v w dip swell interruption Interruption = interruption

zero_ends : (w : WatchView) → w.dip ≡ 0 → w.swell ≡ 0 → w.interruption ≡ 0 → (kind : Kind) →
    end_of_kind w kind ≡ 0
zero_ends w dip swell interruption Dip = dip
zero_ends w dip swell interruption Swell = swell
zero_ends w dip swell interruption Interruption = interruption

-- a watch with no greatest end has seen nothing where its Poly has
pub watch_starts : (w : WatchView) → HasSeenByPoly w.poly [] → w.dip ≡ 0 → w.swell ≡ 0 → w.interruption ≡ 0 →
    HasSeen w []
watch_starts w seen dip swell interruption = record {
  poly = seen;
  ends = λ kind. zero_ends w dip swell interruption kind
      ∙ sym (none_ended kind w.poly.limits w.poly.channels);
}

-- the Poly took one more window, and the greatest ends went on with the events that it ended
pub watch_more : (old mid new : WatchView) (m : ChannelWindow) (answers : List (Option Event)) →
    Ends old.poly m answers → PolySeesMore old.poly mid.poly m → mid.poly.channels ≡ old.poly.channels →
    mid.poly.limits ≡ old.poly.limits →
    mid.dip ≡ old.dip → mid.swell ≡ old.swell → mid.interruption ≡ old.interruption →
    NotesEnds mid new answers → new.poly ≡ mid.poly → SeesMore old new m
watch_more old mid new m answers ends more channels limits dip swell interruption later same fed seen =
    let after : List ChannelWindow = fed ++ m ∷ [] in
    let end_at : Kind → Limits → ℕ → ℕ =
    λ kind l n. greatest_end (ended_events kind (conditions kind l n after)) in
    record {
      poly = subst (λ p. HasSeenByPoly p after) (sym same) (more fed seen.poly);
      ends = λ kind.
          later kind
          ∙ ap (λ e. later_end e (answer_of kind answers))
          (same_ends mid old dip swell interruption kind ∙ seen.ends kind)
          ∙ sym (greatest_push (ended_events kind (conditions kind old.poly.limits old.poly.channels fed))
          (answer_of kind answers))
          ∙ ap greatest_end (sym (ends fed kind seen.poly))
          ∙ ap (λ l. end_at kind l old.poly.channels) (sym limits)
          ∙ ap (λ n. end_at kind mid.poly.limits n) (sym channels)
          ∙ ap (λ (p : PolyView). end_at kind p.limits p.channels) (sym same);
    }

-- no event, no later end
same_later : (end : ℕ) → end ≡ later_end end None
same_later end = omega arith

notes_none : (w : WatchView) → NotesEnds w w (None ∷ None ∷ None ∷ [])
notes_none w Dip = same_later w.dip
notes_none w Swell = same_later w.swell
notes_none w Interruption = same_later w.interruption

-- the Poly took one more window that ends no event, and the greatest ends stay
pub watch_passes : (old new : WatchView) (m : ChannelWindow) → PolyPasses old.poly new.poly m →
    new.poly.channels ≡ old.poly.channels → new.poly.limits ≡ old.poly.limits →
    new.dip ≡ old.dip → new.swell ≡ old.swell → new.interruption ≡ old.interruption → Passes old new m
watch_passes old new m passed channels limits dip swell interruption = record {
  ends = passed.ends;
  sees = watch_more old new new m (None ∷ None ∷ None ∷ []) passed.ends passed.sees channels limits dip swell
      interruption (notes_none new) refl;
}
