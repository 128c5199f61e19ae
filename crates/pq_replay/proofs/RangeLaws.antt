-- The items that are answered are in range.
use Rattle.std.proofs.Common.{◌≡◌, ℕ, ◌==◌, nat_le, Bool, true, false, cond, List, [], ◌∷◌, slice_get, Option, Some, None, option_and_then, unwrap_or, All, refl, sym, ap, subst}
use Rattle.std.specs.Option.{option_map_or}
use Rattle.std.proofs.lemmas.List.Elements.{All-cons, All-filter, All-nil}
use Rattle.std.proofs.lemmas.Option.{get_or_from_slice_get, slice_get_within}
use Rattle.chain_core.specs.declared.answer.Answer.{Answer}
use Rattle.chain_core.specs.declared.answer.Answer.TheVariants as answer
use Rattle.chain_core.specs.declared.core_event.CoreEvent.{CoreEvent}
use Rattle.chain_core.specs.declared.core_event.CoreEvent.TheVariants as event
use Rattle.chain_core.specs.declared.step.Step.{Step}
use Rattle.chain_core.specs.declared.step.Step.TheVariants as step
use Rattle.chain_core.specs.Core.{Measured, Core, View, answer_of, happens, least, least_lane, mark_after, read_answer, released, stop_answer, unreleased, view_of}
use Rattle.chain_core.specs.Play.{does, takes, takes_turn}
use Rattle.chain_core.proofs.StepLaws.{done, happened}
use Rattle.pq_items.specs.ItemRange.{IsItemInRange}
use Rattle.pq_items.specs.ItemTable.{end_of}
use Rattle.pq_items.specs.declared.item.Item.{Item}
use Rattle.pq_sequence.specs.SequentialResult.{cut}
use Rattle.pq_replay.specs.AnswerLines.{IsAnswerInRange, answers_along, answers_before, is_refusal}
use Rattle.pq_replay.proofs.PlayingLaws.{after_refusal, after_step, along_cons, along_none}

some_is : (x y : Answer × Core) → Some x ≡ Some y → x ≡ y
some_is x y is = ap (λ o. unwrap_or o x) is

-- an item of a cut is an item
in_cut : (mark : ℕ) (items : List Item) (k : ℕ) (x : Item) → All IsItemInRange items →
    slice_get (cut mark items) k ≡ Some x → IsItemInRange x
unfolding cut
in_cut mark items k x h is =
    subst IsItemInRange (get_or_from_slice_get (cut mark items) k x x is)
    (All-filter (λ i. nat_le (end_of i) mark) IsItemInRange items h k x
    (slice_get_within (cut mark items) k x is))

not_item : (b : Bool) (lane word : ℕ) (x : Item) →
    cond b answer.End (answer.Withheld lane word) ≡ answer.Item x → ⊥
not_item true lane word x is = cc
not_item false lane word x is = cc

-- an item that a read gives
read_in_range : (m : Measured) (mark : ℕ) (v : View) → All IsItemInRange m.items →
    IsAnswerInRange (read_answer m mark v)
read_in_range m mark v h i is = at (released m (mark_after mark v.words) v.cursor) refl is
  where
    at : (found : Option Item) → released m (mark_after mark v.words) v.cursor ≡ found →
        option_map_or answer.Item found (unreleased m v.words) ≡ answer.Item i → IsItemInRange i
    at None was is =
        absurd (not_item (least v.words == m.samples) (least_lane v.words) (least v.words) i is)
    at (Some x) was is =
        let e : x ≡ i = cc in
        subst IsItemInRange e (in_cut (mark_after mark v.words) m.items v.cursor x h was)

stop_in_range : (halted : Bool) → IsAnswerInRange (stop_answer halted)
stop_in_range true i is = absurd (let bad : ⊥ = cc in bad)
stop_in_range false i is = absurd (let bad : ⊥ = cc in bad)

try_in_range : (free : Bool) (turn : ℕ) → IsAnswerInRange (cond free answer.Held (answer.Busy turn))
try_in_range true turn i is = absurd (let bad : ⊥ = cc in bad)
try_in_range false turn i is = absurd (let bad : ⊥ = cc in bad)

event_in_range : (m : Measured) (c : Core) (e : CoreEvent) → All IsItemInRange m.items →
    IsAnswerInRange (answer_of m c e)
event_in_range m c (event.LaneStopLoad lane) h = stop_in_range c.phases.is_halted
event_in_range m c (event.LaneTry lane) h = try_in_range (c.phases.turn == 0) c.phases.turn
event_in_range m c (event.Post lane most) h = λ i is. absurd (let bad : ⊥ = cc in bad)
event_in_range m c (event.Raise lane) h = λ i is. absurd (let bad : ⊥ = cc in bad)
event_in_range m c (event.SessionStopLoad session) h = stop_in_range c.phases.is_halted
event_in_range m c (event.SessionTry session) h = try_in_range (c.phases.turn == 0) c.phases.turn
event_in_range m c (event.Load session lane) h = λ i is. absurd (let bad : ⊥ = cc in bad)
event_in_range m c (event.Read session) h = read_in_range m c.numbers.mark (view_of c.numbers session) h
event_in_range m c (event.Split session) h = λ i is. absurd (let bad : ⊥ = cc in bad)
event_in_range m c (event.Halt session) h = λ i is. absurd (let bad : ⊥ = cc in bad)

-- an event that happened
happened_in_range : (m : Measured) (c : Core) (e : CoreEvent) (a : Answer) (new : Core) →
    All IsItemInRange m.items → happens m c e ≡ Some (a, new) → IsAnswerInRange a
happened_in_range m c e a new h is =
    subst IsAnswerInRange (sym (happened m c e a new is).answer) (event_in_range m c e h)

take_in_range : (m : Measured) (c : Core) (lane : ℕ) (a : Answer) (new : Core) →
    All IsItemInRange m.items → takes_turn m c lane ≡ Some (a, new) → IsAnswerInRange a
take_in_range m c lane a new h is = at (happens m c (event.LaneStopLoad lane)) refl is
  where
    tried : (f : Answer × Core) (halted : Bool) → IsAnswerInRange f.0 →
        cond halted (Some f) (happens m f.1 (event.LaneTry lane)) ≡ Some (a, new) → IsAnswerInRange a
    tried f true first is = subst IsAnswerInRange (ap (λ p. p.0) (some_is f (a, new) is)) first
    tried f false first is = happened_in_range m f.1 (event.LaneTry lane) a new h is

    at : (first : Option (Answer × Core)) → happens m c (event.LaneStopLoad lane) ≡ first →
        option_and_then (λ f. cond c.phases.is_halted (Some f) (happens m f.1 (event.LaneTry lane))) first
        ≡ Some (a, new) → IsAnswerInRange a
    at None was is = absurd (let bad : ⊥ = cc in bad)
    at (Some f) was is = tried f c.phases.is_halted
        (happened_in_range m c (event.LaneStopLoad lane) f.0 f.1 h was) is

step_in_range : (m : Measured) (c : Core) (s : Step) (a : Answer) (new : Core) →
    All IsItemInRange m.items → does m c s ≡ Some (a, new) → IsAnswerInRange a
step_in_range m c (step.Take lane) a new h is = take_in_range m c lane a new h is
step_in_range m c (step.Post lane most) a new h is = happened_in_range m c (event.Post lane most) a new h is
step_in_range m c (step.Raise lane) a new h is = happened_in_range m c (event.Raise lane) a new h is
step_in_range m c (step.LoadStop session) a new h is =
    happened_in_range m c (event.SessionStopLoad session) a new h is
step_in_range m c (step.Load session lane) a new h is =
    happened_in_range m c (event.Load session lane) a new h is
step_in_range m c (step.Grab session) a new h is = happened_in_range m c (event.SessionTry session) a new h is
step_in_range m c (step.Read session) a new h is = happened_in_range m c (event.Read session) a new h is
step_in_range m c (step.Split session) a new h is = happened_in_range m c (event.Split session) a new h is
step_in_range m c (step.Halt session) a new h is = happened_in_range m c (event.Halt session) a new h is

-- the answers of steps, or none
abbrev answers_in : Option (List Answer × Core) → List Answer
answers_in None = []
answers_in (Some p) = p.0

abbrev AreInRange : Option (List Answer × Core) → Type 0
AreInRange given =
    (answers : List Answer) (new : Core) → given ≡ Some (answers, new) → All IsAnswerInRange answers

are_in_range : (answers : List Answer) (new : Core) → All IsAnswerInRange answers
    → AreInRange (Some (answers, new))
are_in_range answers new h others last is =
    let e : answers ≡ others = ap answers_in is in subst (λ (xs : List Answer). All IsAnswerInRange xs) e h

before_in_range : (a : Answer) (played : Option (List Answer × Core)) → IsAnswerInRange a
    → AreInRange played →
    AreInRange (answers_before (a ∷ []) played)
before_in_range a None first h = λ others last is. absurd (let bad : ⊥ = cc in bad)
before_in_range a (Some p) first h = are_in_range (a ∷ p.0) p.1
    (All-cons IsAnswerInRange a p.0 first (h p.0 p.1 refl))

-- the answers of steps
pub along_in_range : (m : Measured) (steps : List Step) (c : Core) → All IsItemInRange m.items →
    AreInRange (answers_along m c steps)
along_in_range m [] c h = subst AreInRange (sym (along_none m c))
    (are_in_range [] c (All-nil IsAnswerInRange))
along_in_range m (s ∷ rest) c h = subst AreInRange (sym (along_cons m c s rest))
    (at (λ d. along_in_range m rest d h) (takes m c s) refl)
  where
    further : ((d : Core) → AreInRange (answers_along m d rest)) →
        (f : Answer × Core) (refused : Bool) → IsAnswerInRange f.0
        → AreInRange (after_refusal m rest f refused)
    further ih f true first =
        are_in_range (f.0 ∷ []) f.1 (All-cons IsAnswerInRange f.0 [] first (All-nil IsAnswerInRange))
    further ih f false first = before_in_range f.0 (answers_along m f.1 rest) first (ih f.1)

    at : ((d : Core) → AreInRange (answers_along m d rest)) →
        (given : Option (Answer × Core)) → takes m c s ≡ given → AreInRange (after_step m rest given)
    at ih None was = λ others last is. absurd (let bad : ⊥ = cc in bad)
    at ih (Some f) was =
        further ih f (is_refusal f.0) (step_in_range m c s f.0 f.1 h (done m c s f.0 f.1 was))
