-- Each session is given the items of the result from its cursor on.
use Rattle.std.proofs.Common.{◌≡◌, ℕ, zero, suc, ◌+◌, Bool, true, false, cond, eqb, nat_le, List, [], ◌∷◌, ◌++◌, length, drop, get_or, slice_get, Option, Some, None, option_and_then, unwrap_or, Result, Ok, Err, max, append_assoc, refl, sym, ap, ◌∙◌, subst, arith, add-one}
use Rattle.std.specs.Bool.{then_some}
use Rattle.std.proofs.lemmas.Bool.{eqb-true, eqb-false}
use Rattle.std.specs.Option.{ok_or, option_map, option_map_or}
use Rattle.chain_core.specs.declared.answer.Answer.{Answer}
use Rattle.chain_core.specs.declared.answer.Answer.TheVariants as answer
use Rattle.chain_core.specs.declared.answer.PlayFault.{PlayFault}
use Rattle.chain_core.specs.declared.answer.PlayFault.TheVariants as fault
use Rattle.chain_core.specs.declared.core_event.CoreEvent.TheVariants as event
use Rattle.chain_core.specs.declared.step.Step.{Step}
use Rattle.chain_core.specs.declared.step.Step.TheVariants as step
use Rattle.chain_core.specs.Changed.{changed_at}
use Rattle.chain_core.specs.Core.{Measured, Core, Numbers, View, answer_of, after_read, least, mark_after, numbers_after, read_answer, released, unreleased, view_of, view_loaded, view_read}
use Rattle.chain_core.specs.GivenItems.{IsGivenFrom, SessionsAreGivenTheResult, given, given_by, is_read_of, item_in}
use Rattle.chain_core.specs.Measurement.{EndInOrder}
use Rattle.chain_core.specs.Play.{answers_from, does, event_of, takes}
use Rattle.chain_core.proofs.ChangedLaws.{changed_same, changed_other, get_before}
use Rattle.chain_core.proofs.CutLaws.{cut_item, released_stands}
use Rattle.chain_core.proofs.PlayLaws.{answered, before, one_step, answers_step}
use Rattle.chain_core.proofs.StepLaws.{done, happened, numbers_of_step}
use Rattle.pq_items.specs.declared.item.Item.{Item}

-- after a step the session is there, and was given what lies between its cursors
abbrev pub Gains : Measured → Numbers → ℕ → View → List Item → Type 0
Gains m new session v items =
    (w : View) × (slice_get new.views session ≡ Some w)
    × (items ++ drop w.cursor m.items ≡ drop v.cursor m.items)

-- the item at an index, and those after it
drop_at : (items : List Item) (k : ℕ) (x : Item) → slice_get items k ≡ Some x →
    x ∷ drop (k + 1) items ≡ drop k items
drop_at [] k x is = absurd (let bad : ⊥ = cc in bad)
drop_at (y ∷ items) zero x is =
    let same : y ≡ x = ap (λ o. unwrap_or o y) is in ap (λ z. z ∷ items) (sym same)
drop_at (y ∷ items) (suc k) x is = rw add-one (rw add-one at (drop_at items k x is))

none_in : (b : Bool) (lane word : ℕ) → item_in (cond b answer.End (answer.Withheld lane word)) ≡ []
none_in true lane word = refl
none_in false lane word = refl

-- a read of the session
read_gains : (m : Measured) (mark : ℕ) (v : View) → EndInOrder m.items →
    item_in (read_answer m mark v) ++ drop (view_read m mark v).cursor m.items ≡ drop v.cursor m.items
read_gains m mark v h = at (released m (mark_after mark v.words) v.cursor) refl
  where
    at : (found : Option Item) → released m (mark_after mark v.words) v.cursor ≡ found →
        item_in (option_map_or answer.Item found (unreleased m v.words))
        ++ drop (option_map_or (λ _. v.cursor + 1) found v.cursor) m.items ≡ drop v.cursor m.items
    at None was =
        ap (λ xs. xs ++ drop v.cursor m.items) (none_in (eqb (least v.words) m.samples) _ (least v.words))
    at (Some x) was = drop_at m.items v.cursor x
        (released_stands (slice_get m.items v.cursor) (mark_after mark v.words) x
        (sym (cut_item (mark_after mark v.words) m.items v.cursor h) ∙ was))

-- what a view is after a change of some session's view
pub changed_view : (views : List View) (t session : ℕ) (f : View → View) (v : View) →
    slice_get views session ≡ Some v →
    slice_get (changed_at views t f) session ≡ Some (cond (eqb t session) (f v) v)
changed_view views t session f v is = at (eqb t session) refl
  where
    at : (b : Bool) → eqb t session ≡ b → slice_get (changed_at views t f) session ≡ Some (cond b (f v) v)
    at true same =
        let e : t ≡ session = eqb-true t session same in
        subst (λ k. slice_get (changed_at views t f) k ≡ Some (f v)) e
        (changed_same views t f ∙ ap (λ o. option_map f o)
        (subst (λ k. slice_get views k ≡ Some v) (sym e) is))
    at false other = changed_other views t session f (eqb-false t session other) ∙ is

loaded_gains : (m : Measured) (lane word : ℕ) (v : View) (b : Bool) →
    drop (cond b (view_loaded lane word v) v).cursor m.items ≡ drop v.cursor m.items
loaded_gains m lane word v true = refl
loaded_gains m lane word v false = refl

read_one : (m : Measured) (n : Numbers) (a : Answer) (t session : ℕ) (v : View) (b : Bool) →
    EndInOrder m.items →
    eqb t session ≡ b → slice_get n.views session ≡ Some v → a ≡ read_answer m n.mark (view_of n t) →
    cond b (item_in a) [] ++ drop (cond b (view_read m n.mark v) v).cursor m.items ≡ drop v.cursor m.items
read_one m n a t session v true h same is answer_is =
    let e : t ≡ session = eqb-true t session same in
    let here : view_of n t ≡ v = ap (λ o. unwrap_or o (record { cursor = 0; words = [] }))
    (subst (λ k. slice_get n.views k ≡ Some v) (sym e) is) in
    let given_is : a ≡ read_answer m n.mark v = answer_is ∙ ap (read_answer m n.mark) here in
    ap (λ x. item_in x ++ drop (view_read m n.mark v).cursor m.items) given_is ∙ read_gains m n.mark v h
read_one m n a t session v false h other is answer_is = refl

-- one step
step_gains : (m : Measured) (n : Numbers) (s : Step) (a : Answer) (session : ℕ) (v : View) →
    EndInOrder m.items →
    ((t : ℕ) → s ≡ step.Read t → a ≡ read_answer m n.mark (view_of n t)) →
    slice_get n.views session ≡ Some v →
    Gains m (numbers_after m n (event_of s)) session v (given_by session s a)
step_gains m n (step.Take lane) a session v h r is = (v, is, refl)
step_gains m n (step.Post lane most) a session v h r is = (v, is, refl)
step_gains m n (step.Raise lane) a session v h r is = (v, is, refl)
step_gains m n (step.LoadStop t) a session v h r is = (v, is, refl)
step_gains m n (step.Load t lane) a session v h r is = (
  cond (eqb t session) (view_loaded lane (get_or n.words lane 0) v) v,
  changed_view n.views t session (view_loaded lane (get_or n.words lane 0)) v is,
  loaded_gains m lane (get_or n.words lane 0) v (eqb t session),
)
step_gains m n (step.Grab t) a session v h r is = (v, is, refl)
step_gains m n (step.Read t) a session v h r is = (
  cond (eqb t session) (view_read m n.mark v) v,
  changed_view n.views t session (view_read m n.mark) v is,
  read_one m n a t session v (eqb t session) h refl is (r t refl),
)
step_gains m n (step.Split t) a session v h r is = (
  v,
  get_before n.views
      (view_of n t ∷ []) session v is,
  refl,
)
step_gains m n (step.Halt t) a session v h r is = (v, is, refl)

-- a read is answered so
read_is : (m : Measured) (c : Core) (s : Step) (a : Answer) (new : Core) → does m c s ≡ Some (a, new) →
    (t : ℕ) →
    s ≡ step.Read t → a ≡ read_answer m c.numbers.mark (view_of c.numbers t)
read_is m c s a new is t read =
    (happened m c (event.Read t) a new (subst (λ x. does m c x ≡ Some (a, new)) read is)).answer

-- items given by a step and then by others
joined : (m : Measured) (v w : View) (first later : List Item) →
    first ++ drop w.cursor m.items ≡ drop v.cursor m.items →
    IsGivenFrom m w later → IsGivenFrom m v (first ++ later)
joined m v w first later here (z, rest) =
    (z, append_assoc first later (drop z.cursor m.items) ∙ ap (λ xs. first ++ xs) rest ∙ here)

-- what the steps after a step give
abbrev pub Later : Measured → ℕ → ℕ → List Step → Type 0
Later m index session steps = (new : Core) (w : View) (others : List Answer) →
    slice_get new.numbers.views session ≡ Some w → answers_from m (index + 1) new steps ≡ Ok others →
    IsGivenFrom m w (given session steps others)

answers_in : Result (List Answer) PlayFault → List Answer
answers_in (Ok xs) = xs
answers_in (Err e) = []

answered_all : (xs ys : List Answer) → answered xs ≡ answered ys → xs ≡ ys
unfolding answers_in
answered_all xs ys is = ap answers_in is

after_step : (m : Measured) (c : Core) (index session : ℕ) (v : View) (s : Step) (steps : List Step)
    (answers : List Answer) (a : Answer) (new : Core) (rest : Result (List Answer) PlayFault) →
    EndInOrder m.items → slice_get c.numbers.views session ≡ Some v → Later m index session steps →
    does m c s ≡ Some (a, new) → answers_from m (index + 1) new steps ≡ rest →
    before (a ∷ []) rest ≡ Ok answers → IsGivenFrom m v (given session (s ∷ steps) answers)
after_step m c index session v s steps answers a new (Err e) h is later is_done were run =
    absurd (let bad : ⊥ = cc in bad)
after_step m c index session v s steps answers a new (Ok others) h is later is_done were run =
    let all : a ∷ others ≡ answers = answered_all (a ∷ others) answers run in
    let gains : Gains m new.numbers session v (given_by session s a) =
    subst (λ n. Gains m n session v (given_by session s a)) (sym (numbers_of_step m c s a new is_done))
    (step_gains m c.numbers s a session v h (read_is m c s a new is_done) is) in
    subst (λ xs. IsGivenFrom m v (given session (s ∷ steps) xs)) all
    (joined m v gains.0 (given_by session s a) (given session steps others) gains.2
    (later new gains.0 others gains.1 were))

first_step : (m : Measured) (c : Core) (index session : ℕ) (v : View) (s : Step) (steps : List Step)
    (answers : List Answer) (t : Option (Answer × Core)) → EndInOrder m.items →
    slice_get c.numbers.views session ≡ Some v → Later m index session steps → takes m c s ≡ t →
    one_step m index steps (ok_or t (fault.NotAllowed index)) ≡ Ok answers →
    IsGivenFrom m v (given session (s ∷ steps) answers)
first_step m c index session v s steps answers None h is later was run = absurd (let bad : ⊥ = cc in bad)
first_step m c index session v s steps answers (Some p) h is later was run =
    after_step m c index session v s steps answers p.0 p.1 (answers_from m (index + 1) p.1 steps) h is later
    (done m c s p.0 p.1 was) refl run

-- all steps
pub sessions_are_given : SessionsAreGivenTheResult
sessions_are_given m c index session v [] answers h is run = (v, refl)
sessions_are_given m c index session v (s ∷ steps) answers h is run =
    first_step m c index session v s steps answers (takes m c s) h is
    (λ new w others there were. sessions_are_given m new (index + 1) session w steps others h there were) refl
    (sym (answers_step m index c s steps) ∙ run)
