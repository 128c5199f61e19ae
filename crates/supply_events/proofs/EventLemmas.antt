-- Events of all kinds, as windows are fed one after another.
use Rattle.std.proofs.Common.{◌≡◌, ℕ, List, [], ◌∷◌, ◌++◌, Option, option_to_list, refl, sym, ◌∙◌, ap, subst}
use Rattle.std.specs.List.{flat_map}
use Rattle.event_detect.specs.declared.event.Event.{Event}
use Rattle.event_detect.specs.declared.kind.Kind.{Kind}
use Rattle.event_detect.specs.declared.limits.Limits.{Limits}
use Rattle.event_detect.specs.VoltageEvent.{event_from, extents, ended_events, IsLeftOpen}
use Rattle.polyphase.specs.Poly.{HasSeen, PolyView}
use Rattle.polyphase.specs.PolyphaseEvent.{ChannelWindow, EndsAtWindow, all_polyphase_events, conditions, kinds, polyphase_events}
use Rattle.pq_words.specs.First.{first_of, first_between}
use Rattle.pq_words.specs.Successors.{successors}
use Rattle.supply_events.specs.declared.event_lists.EventLists.{EventLists}
use Rattle.supply_events.specs.EventLists.{events_of}

-- no window ends no event
pub none_ended : (kind : Kind) (limits : Limits) (channels : ℕ) →
    ended_events kind (conditions kind limits channels []) ≡ []
unfolding conditions ended_events extents event_from successors first_between first_of
none_ended kind limits channels = refl

-- what one more window ends, under the same limits and channels
pub ends_there : (kind : Kind) (l limits : Limits) (n channels : ℕ) (fed : List ChannelWindow)
    (m window : ChannelWindow) (answer : Option Event) → l ≡ limits → n ≡ channels → m ≡ window
    → EndsAtWindow kind l n fed m answer → EndsAtWindow kind limits channels fed window answer
ends_there kind l limits n channels fed m window answer same_limits same_channels same_window ends =
    subst (λ w. EndsAtWindow kind limits channels fed w answer) same_window
    (subst (λ c. EndsAtWindow kind limits c fed m answer) same_channels
    (subst (λ k. EndsAtWindow kind k n fed m answer) same_limits ends))

-- what windows leave open, under the same limits and channels
pub left_there : (kind : Kind) (at : ℕ) (l limits : Limits) (n channels : ℕ)
    (fed windows : List ChannelWindow) (answer : Option Event) → l ≡ limits → n ≡ channels → fed ≡ windows
    → IsLeftOpen kind at (conditions kind l n fed) answer
    → IsLeftOpen kind at (conditions kind limits channels windows) answer
left_there kind at l limits n channels fed windows answer same_limits same_channels same_windows left =
    subst (λ ms. IsLeftOpen kind at (conditions kind limits channels ms) answer) same_windows
    (subst (λ c. IsLeftOpen kind at (conditions kind limits c fed) answer) same_channels
    (subst (λ k. IsLeftOpen kind at (conditions kind k n fed) answer) same_limits left))

-- the events that have ended, after one window more
pub ended_more : (kind : Kind) (limits : Limits) (channels : ℕ) (fed : List ChannelWindow) (m : ChannelWindow)
    (answer : Option Event) (before after : List Event) → EndsAtWindow kind limits channels fed m answer
    → before ≡ ended_events kind (conditions kind limits channels fed)
    → after ≡ before ++ option_to_list answer
    → after ≡ ended_events kind (conditions kind limits channels (fed ++ m ∷ []))
ended_more kind limits channels fed m answer before after ends so_far pushed =
    pushed ∙ ap (λ xs. xs ++ option_to_list answer) so_far ∙ sym ends

-- with those that are left open they are all
pub with_open : (kind : Kind) (limits : Limits) (channels n : ℕ) (windows : List ChannelWindow)
    (answer : Option Event) (before after : List Event)
    → IsLeftOpen kind n (conditions kind limits channels windows) answer
    → before ≡ ended_events kind (conditions kind limits channels windows)
    → after ≡ before ++ option_to_list answer
    → after ≡ polyphase_events kind limits channels n windows
with_open kind limits channels n windows answer before after left so_far pushed =
    pushed ∙ ap (λ xs. xs ++ option_to_list answer) so_far ∙ sym left

same_for_each : {X A : Type 0} (f g : X → List A) → ((x : X) → f x ≡ g x) → (xs : List X) →
    flat_map f xs ≡ flat_map g xs
same_for_each f g same [] = refl
same_for_each f g same (x ∷ xs) =
    ap (λ ys. ys ++ flat_map f xs) (same x) ∙ ap (λ ys. g x ++ ys) (same_for_each f g same xs)

-- the events of each kind, kind by kind, are those of all kinds
pub all_kinds : (limits : Limits) (channels n : ℕ) (windows : List ChannelWindow) (found : Kind → List Event)
    → ((kind : Kind) → found kind ≡ polyphase_events kind limits channels n windows)
    → flat_map found kinds ≡ all_polyphase_events limits channels n windows
unfolding all_polyphase_events
all_kinds limits channels n windows found same =
    same_for_each found (λ kind. polyphase_events kind limits channels n windows) same kinds

-- ---- how far the windows were fed

-- the machine has seen the windows but those that are left, and the events of each kind that have ended are
-- found
pub record IsFedTo (poly : PolyView) (lists : EventLists) (limits : Limits) (channels : ℕ)
    (whole left fed : List ChannelWindow) : Type 0 where
  pub parts : fed ++ left ≡ whole
  pub channels_kept : poly.channels ≡ channels
  pub limits_kept : poly.limits ≡ limits
  pub seen : HasSeen poly fed
  pub found : (kind : Kind) → events_of lists kind ≡ ended_events kind (conditions kind limits channels fed)

abbrev pub IsFedUpTo : PolyView → EventLists → Limits → ℕ → List ChannelWindow → List ChannelWindow → Type 0
IsFedUpTo poly lists limits channels whole left =
    (fed : List ChannelWindow) × IsFedTo poly lists limits channels whole left fed
