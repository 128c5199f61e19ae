-- Each read of a list of steps is right.
use Rattle.std.proofs.Common.{◌≡◌, ℕ, zero, suc, ◌+◌, ◌<◌, inl, inr, Bool, true, false, cond, ◌&&◌, nat_lt, eqb, eq-eqb, List, [], ◌∷◌, ◌++◌, length, get_or, slice_get, Contains, Option, Some, None, option_and_then, unwrap_or, Result, Ok, Err, arith, refl, sym, ap, ◌∙◌, subst, length-append}
use Rattle.std.specs.Bool.{⊤}
use Rattle.std.specs.Option.{ok_or, option_map, option_map_or}
use Rattle.std.proofs.lemmas.Bool.{cases_lt, eqb-true, eqb-false}
use Rattle.std.proofs.lemmas.Bool.Decides.{nat_tests}
use Rattle.std.proofs.lemmas.List.{length-replicate}
use Rattle.std.proofs.lemmas.Option.{slice_get_past}
use Rattle.chain_core.specs.declared.answer.Answer.{Answer}
use Rattle.chain_core.specs.declared.answer.Answer.TheVariants as answer
use Rattle.chain_core.specs.declared.answer.PlayFault.{PlayFault}
use Rattle.chain_core.specs.declared.answer.PlayFault.TheVariants as fault
use Rattle.chain_core.specs.declared.core_event.CoreEvent.{CoreEvent}
use Rattle.chain_core.specs.declared.core_event.CoreEvent.TheVariants as event
use Rattle.chain_core.specs.declared.phase.LanePhase.TheVariants as lane_phase
use Rattle.chain_core.specs.declared.phase.SessionPhase.{SessionPhase}
use Rattle.chain_core.specs.declared.phase.SessionPhase.TheVariants as session_phase
use Rattle.chain_core.specs.declared.step.Step.{Step}
use Rattle.chain_core.specs.declared.step.Step.TheVariants as step
use Rattle.chain_core.specs.Changed.{changed_at}
use Rattle.chain_core.specs.Core.{Measured, Core, Numbers, View, core_after, happens, least, least_lane, mark_after, read_answer, released, start_core, start_view, stop_answer, unreleased, view_loaded, view_of, view_read}
use Rattle.chain_core.specs.MeasuredOf.{measured_of}
use Rattle.chain_core.specs.Phases.{Phases, SessionState, after_lane_try, begins_to_look, in_phase, is_holding_session, is_idle_session, is_looked_session, loads_lane, may_load, new_session, session_is, with_lane, with_session, with_turn}
use Rattle.chain_core.specs.Play.{answers_from, does, takes, takes_turn}
use Rattle.chain_core.specs.SoundCore.{IsMeasured, IsReached, ReadsRightly, after, at_start}
use Rattle.chain_core.proofs.ChangedLaws.{changed_length, changed_other, changed_same, get_before, within_stands}
use Rattle.chain_core.proofs.PlayLaws.{answered, answers_step, before, one_step}
use Rattle.chain_core.proofs.ReadLaws.{reads_are_right}
use Rattle.chain_core.proofs.SoundLaws.{cores_are_sound}
use Rattle.chain_core.proofs.StepLaws.{Happened, done, happened}
use Rattle.core_laws.specs.OwnLoad.{AreRightSteps, IsRightRead, IsRightStep, Played, RecordedWithheldByOwnLoads, WithheldByOwnLoads, cursor_after, cursor_of, is_look_of, since_look}
use Rattle.core_laws.proofs.LeastLaneLaws.{each_loaded, least_lane_has}
use Rattle.core_laws.proofs.MeasuredLaws.{recordings_are_measured}
use Rattle.core_laws.proofs.SessionLaws.{SessionKept, grab_kept, has_looked, holding_is, idle_kept, kept_on, load_kept, look_kept, read_cursor, read_other}
use Rattle.pq_items.specs.declared.item.Item.{Item}
use Rattle.pq_sequence.specs.SequentialResult.{end_at}

-- ---- a session's state and its view, which are both there or neither is

Pair : (SessionState → View → Type 0) → Option SessionState → Option View → Type 0
Pair P None None = ⊤
Pair P None (Some v) = ⊥
Pair P (Some e) None = ⊥
Pair P (Some e) (Some v) = P e v

pair_mapped : (P Q : SessionState → View → Type 0) (f : SessionState → SessionState) (g : View → View)
    (o : Option SessionState) (q : Option View) →
    ((e : SessionState) (v : View) → o ≡ Some e → q ≡ Some v → P e v → Q (f e) (g v)) → Pair P o q →
    Pair Q (option_map f o) (option_map g q)
unfolding Pair
pair_mapped P Q f g None None each h = tt
pair_mapped P Q f g None (Some v) each h = h
pair_mapped P Q f g (Some e) None each h = h
pair_mapped P Q f g (Some e) (Some v) each h = each e v refl refl h

mapped_same : {X : Type 0} (o : Option X) → option_map (λ x. x) o ≡ o
mapped_same None = refl
mapped_same (Some x) = refl

-- what stands at an index of a changed list
changed_get : {X : Type 0} (xs : List X) (t s : ℕ) (f : X → X) →
    slice_get (changed_at xs t f) s ≡ option_map (λ x. cond (eqb t s) (f x) x) (slice_get xs s)
changed_get {X} xs t s f = at (eqb t s) refl
  where
    at : (b : Bool) → eqb t s ≡ b →
        slice_get (changed_at xs t f) s ≡ option_map (λ x. cond b (f x) x) (slice_get xs s)
    at true same =
        subst (λ k. slice_get (changed_at xs t f) k ≡ option_map f (slice_get xs k)) (eqb-true t s same)
        (changed_same xs t f)
    at false differs =
        changed_other xs t s f (eqb-false t s differs) ∙ sym (mapped_same (slice_get xs s))

-- where both lists are changed at one index, or the first alone
pair_changed : (P Q : SessionState → View → Type 0) (t s : ℕ) (f : SessionState → SessionState)
    (g : View → View) (es : List SessionState) (vs : List View) →
    ((e : SessionState) (v : View) → slice_get es s ≡ Some e → slice_get vs s ≡ Some v → P e v →
    Q (cond (eqb t s) (f e) e) (cond (eqb t s) (g v) v)) → Pair P (slice_get es s) (slice_get vs s) →
    Pair Q (slice_get (changed_at es t f) s) (slice_get (changed_at vs t g) s)
pair_changed P Q t s f g es vs each h =
    subst (λ o. Pair Q o (slice_get (changed_at vs t g) s)) (sym (changed_get es t s f))
    (subst (λ q. Pair Q (option_map (λ x. cond (eqb t s) (f x) x) (slice_get es s)) q)
    (sym (changed_get vs t s g))
    (pair_mapped P Q (λ x. cond (eqb t s) (f x) x) (λ x. cond (eqb t s) (g x) x) (slice_get es s)
    (slice_get vs s) each h))

state_changed : (P Q : SessionState → View → Type 0) (t s : ℕ) (f : SessionState → SessionState)
    (es : List SessionState) (vs : List View) →
    ((e : SessionState) (v : View) → slice_get es s ≡ Some e → slice_get vs s ≡ Some v → P e v →
    Q (cond (eqb t s) (f e) e) v) → Pair P (slice_get es s) (slice_get vs s) →
    Pair Q (slice_get (changed_at es t f) s) (slice_get vs s)
state_changed P Q t s f es vs each h =
    subst (λ o. Pair Q o (slice_get vs s)) (sym (changed_get es t s f))
    (subst (λ q. Pair Q (option_map (λ x. cond (eqb t s) (f x) x) (slice_get es s)) q)
    (mapped_same (slice_get vs s))
    (pair_mapped P Q (λ x. cond (eqb t s) (f x) x) (λ x. x) (slice_get es s) (slice_get vs s) each h))

pair_same : (P Q : SessionState → View → Type 0) (o : Option SessionState) (q : Option View) →
    ((e : SessionState) (v : View) → o ≡ Some e → q ≡ Some v → P e v → Q e v) → Pair P o q → Pair Q o q
unfolding Pair
pair_same P Q None None each h = tt
pair_same P Q None (Some v) each h = h
pair_same P Q (Some e) None each h = h
pair_same P Q (Some e) (Some v) each h = each e v refl refl h

-- ---- what is kept

abbrev Kept : ℕ → Played → Phases → Numbers → Type 0
Kept k played p n = (s : ℕ) → Pair (SessionKept k played s) (slice_get p.sessions s) (slice_get n.views s)

abbrev LanesKept : ℕ → Phases → Type 0
LanesKept k p = length p.lanes ≡ k

-- a state in a phase that a step needs
allowed_at : (test : SessionPhase → Bool) (p : Phases) (t s : ℕ) (e : SessionState) →
    session_is test p t ≡ true → eqb t s ≡ true → slice_get p.sessions s ≡ Some e → test e.phase ≡ true
allowed_at test p t s e allowed same is =
    let there : slice_get p.sessions t ≡ Some e =
    subst (λ k. slice_get p.sessions k ≡ Some e) (sym (eqb-true t s same)) is in
    sym (ap (λ o. option_map_or (λ (x : SessionState). test x.phase) o false) there) ∙ allowed

-- a step that changes no session
same_kept : (k : ℕ) (played : Played) (p : Phases) (n : Numbers) (x : Step) (a : Answer) →
    ((s : ℕ) → is_look_of s x ≡ false) →
    ((s : ℕ) → cursor_after (cursor_of played) x a s ≡ cursor_of played s) → Kept k played p n →
    Kept k ((x, a) ∷ played) p n
same_kept k played p n x a other same h s =
    pair_same (SessionKept k played s) (SessionKept k ((x, a) ∷ played) s) (slice_get p.sessions s)
    (slice_get n.views s) (λ e v is_e is_v kept. kept_on k played s x a e v (other s) (same s) kept) (h s)

-- a load of the stop word
look_each : (k : ℕ) (played : Played) (p : Phases) (n : Numbers) (t : ℕ) (halted : Bool) →
    session_is is_idle_session p t ≡ true → Kept k played p n →
    Kept k ((step.LoadStop t, stop_answer halted) ∷ played)
    (cond halted p (with_session p t begins_to_look)) n
look_each k played p n t true allowed h s =
    pair_same (SessionKept k played s) (SessionKept k ((step.LoadStop t, answer.Halted) ∷ played) s)
    (slice_get p.sessions s) (slice_get n.views s)
    (λ e v is_e is_v kept. at e v is_e kept (eqb t s) refl) (h s)
  where
    at : (e : SessionState) (v : View) → slice_get p.sessions s ≡ Some e → SessionKept k played s e v →
        (b : Bool) → eqb t s ≡ b → SessionKept k ((step.LoadStop t, answer.Halted) ∷ played) s e v
    at e v is_e kept true mine =
        idle_kept k ((step.LoadStop t, answer.Halted) ∷ played) s e v kept.loaded_each kept.words_each
        kept.cursor (allowed_at is_idle_session p t s e allowed mine is_e)
    at e v is_e kept false other =
        kept_on k played s (step.LoadStop t) answer.Halted e v other refl kept
look_each k played p n t false allowed h s =
    state_changed (SessionKept k played s) (SessionKept k ((step.LoadStop t, answer.Running) ∷ played) s) t s
    begins_to_look p.sessions n.views (λ e v is_e is_v kept. at e v kept (eqb t s) refl) (h s)
  where
    at : (e : SessionState) (v : View) → SessionKept k played s e v → (b : Bool) → eqb t s ≡ b →
        SessionKept k ((step.LoadStop t, answer.Running) ∷ played) s (cond b (begins_to_look e) e) v
    at e v kept true mine =
        subst (λ u. SessionKept k ((step.LoadStop u, answer.Running) ∷ played) s (begins_to_look e) v)
        (sym (eqb-true t s mine)) (look_kept k played s e v kept)
    at e v kept false other =
        kept_on k played s (step.LoadStop t) answer.Running e v other refl kept

-- a load of a lane's word
load_each : (k : ℕ) (played : Played) (p : Phases) (n : Numbers) (t lane word : ℕ) → lane < k →
    session_is may_load p t ≡ true → Kept k played p n →
    (s : ℕ) → Pair (SessionKept k ((step.Load t lane, answer.Loaded word) ∷ played) s)
    (slice_get (changed_at p.sessions t (λ e. loads_lane lane e.phase e.loaded)) s)
    (slice_get (changed_at n.views t (view_loaded lane word)) s)
load_each k played p n t lane word inside allowed h s =
    pair_changed (SessionKept k played s)
    (SessionKept k ((step.Load t lane, answer.Loaded word) ∷ played) s) t s
    (λ e. loads_lane lane e.phase e.loaded) (view_loaded lane word) p.sessions n.views
    (λ e v is_e is_v kept. at e v is_e kept (eqb t s) refl) (h s)
  where
    at : (e : SessionState) (v : View) → slice_get p.sessions s ≡ Some e → SessionKept k played s e v →
        (b : Bool) → eqb t s ≡ b → SessionKept k ((step.Load t lane, answer.Loaded word) ∷ played) s
        (cond b (loads_lane lane e.phase e.loaded) e) (cond b (view_loaded lane word v) v)
    at e v is_e kept true mine =
        subst (λ u. SessionKept k ((step.Load u lane, answer.Loaded word) ∷ played) s
        (loads_lane lane e.phase e.loaded) (view_loaded lane word v)) (sym (eqb-true t s mine))
        (load_kept k played s lane word e v inside kept (allowed_at may_load p t s e allowed mine is_e))
    at e v is_e kept false other =
        kept_on k played s (step.Load t lane) (answer.Loaded word) e v refl refl kept

-- a grab
grab_each : (k : ℕ) (played : Played) (p : Phases) (n : Numbers) (t : ℕ) (a : Answer) (free : Bool) →
    a ≡ cond free answer.Held (answer.Busy p.turn) → session_is is_looked_session p t ≡ true →
    Kept k played p n →
    (s : ℕ) → Pair (SessionKept k ((step.Grab t, a) ∷ played) s)
    (slice_get (changed_at p.sessions t (in_phase (cond free session_phase.Holding session_phase.Idle))) s)
    (slice_get n.views s)
grab_each k played p n t a free is_a allowed h s =
    state_changed (SessionKept k played s) (SessionKept k ((step.Grab t, a) ∷ played) s) t s
    (in_phase (cond free session_phase.Holding session_phase.Idle)) p.sessions n.views
    (λ e v is_e is_v kept. at e v is_e kept (eqb t s) free is_a refl) (h s)
  where
    at : (e : SessionState) (v : View) → slice_get p.sessions s ≡ Some e → SessionKept k played s e v →
        (b free : Bool) → a ≡ cond free answer.Held (answer.Busy p.turn) → eqb t s ≡ b →
        SessionKept k ((step.Grab t, a) ∷ played) s
        (cond b (in_phase (cond free session_phase.Holding session_phase.Idle) e) e) v
    at e v is_e kept true true is_a mine =
        subst (λ x. SessionKept k ((step.Grab t, x) ∷ played) s (in_phase session_phase.Holding e) v)
        (sym is_a)
        (subst (λ u. SessionKept k ((step.Grab u, answer.Held) ∷ played) s
        (in_phase session_phase.Holding e) v)
        (sym (eqb-true t s mine))
        (grab_kept k played s e v (allowed_at is_looked_session p t s e allowed mine is_e) kept))
    at e v is_e kept true false is_a mine =
        idle_kept k ((step.Grab t, a) ∷ played) s (in_phase session_phase.Idle e) v kept.loaded_each
        kept.words_each kept.cursor refl
    at e v is_e kept false free is_a other = kept_on k played s (step.Grab t) a e v refl refl kept

-- a read
read_each : (m : Measured) (k : ℕ) (played : Played) (p : Phases) (n : Numbers) (t : ℕ) (a : Answer) →
    a ≡ read_answer m n.mark (view_of n t) → Kept k played p n →
    (s : ℕ) → Pair (SessionKept k ((step.Read t, a) ∷ played) s)
    (slice_get (changed_at p.sessions t (in_phase session_phase.Idle)) s)
    (slice_get (changed_at n.views t (view_read m n.mark)) s)
read_each m k played p n t a is_a h s =
    pair_changed (SessionKept k played s) (SessionKept k ((step.Read t, a) ∷ played) s) t s
    (in_phase session_phase.Idle) (view_read m n.mark) p.sessions n.views
    (λ e v is_e is_v kept. at e v is_v kept (eqb t s) refl) (h s)
  where
    at : (e : SessionState) (v : View) → slice_get n.views s ≡ Some v → SessionKept k played s e v →
        (b : Bool) → eqb t s ≡ b → SessionKept k ((step.Read t, a) ∷ played) s
        (cond b (in_phase session_phase.Idle e) e) (cond b (view_read m n.mark v) v)
    at e v is_v kept true mine =
        let same : t ≡ s = eqb-true t s mine in
        let here : view_of n t ≡ v = ap (λ o. unwrap_or o (record { cursor = 0; words = [] }))
        (subst (λ i. slice_get n.views i ≡ Some v) (sym same) is_v) in
        let is : a ≡ read_answer m n.mark v = is_a ∙ ap (read_answer m n.mark) here in
        let moved : (view_read m n.mark v).cursor ≡ cursor_of ((step.Read t, a) ∷ played) s =
        read_cursor m n.mark v played s kept.cursor
        ∙ ap (λ x. cursor_after (cursor_of played) (step.Read s) x s) (sym is)
        ∙ ap (λ i. cursor_after (cursor_of played) (step.Read i) a s) (sym same) in
        idle_kept k ((step.Read t, a) ∷ played) s (in_phase session_phase.Idle e) (view_read m n.mark v)
        kept.loaded_each kept.words_each moved refl
    at e v is_v kept false other =
        kept_on k played s (step.Read t) a e v refl
        (ap (λ x. cursor_after (cursor_of played) (step.Read t) x s) is_a
        ∙ read_other m n.mark (view_of n t) played t s other) kept

-- ---- a split

-- what stands in a list with one more
pushed : {X : Type 0} (xs : List X) (y : X) → slice_get (xs ++ y ∷ []) (length xs) ≡ Some y
pushed [] y = refl
pushed (x ∷ xs) y = pushed xs y

past : {X : Type 0} (xs : List X) (y : X) (s : ℕ) → length xs < s → slice_get (xs ++ y ∷ []) s ≡ None
past xs y s more =
    let count : length (xs ++ y ∷ []) ≡ length xs + 1 = length-append xs (y ∷ []) in
    slice_get_past (xs ++ y ∷ []) s (omega (arith, count, more))

-- both are there
pair_there : (P Q : SessionState → View → Type 0) (o p : Option SessionState) (q w : Option View)
    (e : SessionState) (v : View) → o ≡ Some e → q ≡ Some v → p ≡ Some e → w ≡ Some v →
    (P e v → Q e v) → Pair P o q → Pair Q p w
unfolding Pair
pair_there P Q o p q w e v is_o is_q is_p is_w each h =
    let here : P e v = subst (λ x. Pair P (Some e) x) is_q (subst (λ x. Pair P x q) is_o h) in
    subst (λ x. Pair Q x w) (sym is_p) (subst (λ x. Pair Q (Some e) x) (sym is_w) (each here))

pair_made : (Q : SessionState → View → Type 0) (p : Option SessionState) (w : Option View)
    (e : SessionState) (v : View) → p ≡ Some e → w ≡ Some v → Q e v → Pair Q p w
unfolding Pair
pair_made Q p w e v is_p is_w h =
    subst (λ x. Pair Q x w) (sym is_p) (subst (λ x. Pair Q (Some e) x) (sym is_w) h)

pair_none : (Q : SessionState → View → Type 0) (p : Option SessionState) (w : Option View) →
    p ≡ None → w ≡ None → Pair Q p w
unfolding Pair
pair_none Q p w is_p is_w =
    subst (λ x. Pair Q x w) (sym is_p) (subst (λ x. Pair Q None x) (sym is_w) tt)

-- what is known of a session that is there
abbrev Known : ℕ → Played → Phases → Numbers → ℕ → (SessionState → Type 0) → Type 0
Known k played p n t What =
    (e : SessionState) × (v : View) × (slice_get p.sessions t ≡ Some e) × (slice_get n.views t ≡ Some v)
    × SessionKept k played t e v × What e

known : (k : ℕ) (played : Played) (p : Phases) (n : Numbers) (test : SessionPhase → Bool) (t : ℕ) →
    session_is test p t ≡ true → Kept k played p n →
    Known k played p n t (λ e. test e.phase ≡ true)
unfolding Pair
known k played p n test t allowed h =
    at (slice_get p.sessions t) (slice_get n.views t) refl refl allowed (h t)
  where
    at : (o : Option SessionState) (q : Option View) → slice_get p.sessions t ≡ o → slice_get n.views t ≡ q →
        option_map_or (λ (x : SessionState). test x.phase) o false ≡ true →
        Pair (SessionKept k played t) o q → Known k played p n t (λ e. test e.phase ≡ true)
    at None q is_o is_q passes kept = absurd (let bad : ⊥ = cc in bad)
    at (Some e) None is_o is_q passes kept = absurd kept
    at (Some e) (Some v) is_o is_q passes kept = (e, v, is_o, is_q, kept, passes)

split_each : (k : ℕ) (played : Played) (p : Phases) (n : Numbers) (t : ℕ) →
    length n.views ≡ length p.sessions → length p.lanes ≡ k → session_is is_idle_session p t ≡ true →
    Kept k played p n →
    (s : ℕ) → Pair (SessionKept k ((step.Split t, answer.Split (length p.sessions)) ∷ played) s)
    (slice_get (p.sessions ++ new_session (length p.lanes) ∷ []) s)
    (slice_get (n.views ++ view_of n t ∷ []) s)
split_each k played p n t even lanes allowed h s =
    elim (cases_lt s (length p.sessions)) [
      | inl less ↦ old less
      | inr more ↦ elim (cases_lt (length p.sessions) s) [
        | inl beyond ↦ pair_none Q _ _ (past p.sessions (new_session (length p.lanes)) s beyond)
            (past n.views (view_of n t) s (omega (arith, beyond, even)))
        | inr up_to ↦ new (omega (arith, more, up_to))
      ]
    ]
  where
    now : Step × Answer
    now = (step.Split t, answer.Split (length p.sessions))

    Q : SessionState → View → Type 0
    Q = SessionKept k (now ∷ played) s

    old : s < length p.sessions → Pair Q (slice_get (p.sessions ++ new_session (length p.lanes) ∷ []) s)
        (slice_get (n.views ++ view_of n t ∷ []) s)
    old less =
        let e = within_stands p.sessions s less in
        let v = within_stands n.views s (omega (arith, less, even)) in
        let other : eqb (length p.sessions) s ≡ false = not_same (length p.sessions) s less in
        pair_there (SessionKept k played s) Q (slice_get p.sessions s) _ (slice_get n.views s) _ e.0 v.0 e.1
        v.1 (get_before p.sessions (new_session (length p.lanes) ∷ []) s e.0 e.1)
        (get_before n.views (view_of n t ∷ []) s v.0 v.1)
        (λ kept. kept_on k played s (step.Split t) (answer.Split (length p.sessions)) e.0 v.0 refl
        (ap (λ b. cond b (cursor_of played t) (cursor_of played s)) other) kept) (h s)
      where
        not_same : (a b : ℕ) → b < a → eqb a b ≡ false
        not_same a b less = grind (arith, less)

    new : s ≡ length p.sessions → Pair Q (slice_get (p.sessions ++ new_session (length p.lanes) ∷ []) s)
        (slice_get (n.views ++ view_of n t ∷ []) s)
    new is =
        let parent = known k played p n is_idle_session t allowed h in
        let kept = parent.4 in
        let here : view_of n t ≡ parent.1 =
        ap (λ o. unwrap_or o (record { cursor = 0; words = [] })) parent.3 in
        let last : eqb (length p.sessions) s ≡ true = eq-eqb (length p.sessions) s (sym is) in
        let cursor : (view_of n t).cursor ≡ cursor_of (now ∷ played) s =
        ap (λ v. v.cursor) here ∙ kept.cursor
        ∙ sym (ap (λ b. cond b (cursor_of played t) (cursor_of played s)) last) in
        let words : length (view_of n t).words ≡ k = ap (λ v. length v.words) here ∙ kept.words_each in
        pair_made Q _ _ (new_session (length p.lanes)) (view_of n t)
        (subst (λ i. slice_get (p.sessions ++ new_session (length p.lanes) ∷ []) i
        ≡ Some (new_session (length p.lanes))) (sym is) (pushed p.sessions (new_session (length p.lanes))))
        (subst (λ i. slice_get (n.views ++ view_of n t ∷ []) i ≡ Some (view_of n t)) (even ∙ sym is)
        (pushed n.views (view_of n t)))
        (idle_kept k (now ∷ played) s (new_session (length p.lanes)) (view_of n t)
        (length-replicate (length p.lanes) false ∙ lanes) words cursor refl)

-- ---- a take

record TakeKept (m : Measured) (c new : Core) : Type 0 where
  sessions : new.phases.sessions ≡ c.phases.sessions
  lanes : length new.phases.lanes ≡ length c.phases.lanes
  numbers : new.numbers ≡ c.numbers
  reached : IsReached m c → IsReached m new

event_reached : (m : Measured) (c : Core) (e : CoreEvent) (a : Answer) (new : Core) →
    happens m c e ≡ Some (a, new) → IsReached m c → IsReached m new
event_reached m c e a new is reached = after c new reached (inl (e, a, is))

try_lanes : (p : Phases) (lane : ℕ) →
    ((after_lane_try p lane).sessions ≡ p.sessions)
    × (length (after_lane_try p lane).lanes ≡ length p.lanes)
try_lanes p lane = at (eqb p.turn 0)
  where
    tried : Bool → Phases
    tried b = cond b (with_turn (with_lane p lane lane_phase.Holding) (lane + 1)) p

    at : (b : Bool) → ((tried b).sessions ≡ p.sessions) × (length (tried b).lanes ≡ length p.lanes)
    at true = (refl, changed_length p.lanes lane (λ _. lane_phase.Holding))
    at false = (refl, refl)

some_is : {X : Type 0} (x y : X) → Some x ≡ Some y → x ≡ y
some_is x y is = ap (λ o. unwrap_or o x) is

then_tries : (m : Measured) (c : Core) (lane : ℕ) (a : Answer) (new : Core) (halted : Bool)
    (first : Answer × Core) → happens m c (event.LaneStopLoad lane) ≡ Some first →
    cond halted (Some first) (happens m first.1 (event.LaneTry lane)) ≡ Some (a, new) → TakeKept m c new
then_tries m c lane a new true first was is =
    let core = (happened m c (event.LaneStopLoad lane) first.0 first.1 was).core in
    let same : first.1 ≡ new = ap (λ p. p.1) (some_is {X = Answer × Core} first (a, new) is) in
    let reached = event_reached m c (event.LaneStopLoad lane) first.0 first.1 was in
    subst (TakeKept m c) same (record {
      sessions = ap (λ n. n.phases.sessions) core;
      lanes = ap (λ n. length n.phases.lanes) core;
      numbers = ap (λ n. n.numbers) core;
      reached = reached;
    })
then_tries m c lane a new false first was is =
    let core = (happened m c (event.LaneStopLoad lane) first.0 first.1 was).core in
    let next = (happened m first.1 (event.LaneTry lane) a new is).core in
    let tried = try_lanes first.1.phases lane in
    record {
      sessions = ap (λ n. n.phases.sessions) next ∙ tried.0 ∙ ap (λ n. n.phases.sessions) core;
      lanes = ap (λ n. length n.phases.lanes) next ∙ tried.1 ∙ ap (λ n. length n.phases.lanes) core;
      numbers = ap (λ n. n.numbers) next ∙ ap (λ n. n.numbers) core;
      reached = λ before.
          event_reached m first.1 (event.LaneTry lane) a new is
          (event_reached m c (event.LaneStopLoad lane) first.0 first.1 was before);
    }

take_kept : (m : Measured) (c : Core) (lane : ℕ) (a : Answer) (new : Core) →
    takes_turn m c lane ≡ Some (a, new) → TakeKept m c new
take_kept m c lane a new is = at (happens m c (event.LaneStopLoad lane)) refl is
  where
    at : (first : Option (Answer × Core)) → happens m c (event.LaneStopLoad lane) ≡ first →
        option_and_then (λ f. cond c.phases.is_halted (Some f) (happens m f.1 (event.LaneTry lane))) first
        ≡ Some (a, new) → TakeKept m c new
    at None was is = absurd (let bad : ⊥ = cc in bad)
    at (Some f) was is = then_tries m c lane a new c.phases.is_halted f was is

-- ---- one step

record CoreKept (m : Measured) (c : Core) (played : Played) : Type 0 where
  reached : IsReached m c
  lanes : length c.phases.lanes ≡ length m.keys
  each : Kept (length m.keys) played c.phases c.numbers

-- what an event leaves
event_kept : (m : Measured) (c : Core) (e : CoreEvent) (a : Answer) (new : Core) (x : Step)
    (played : Played) →
    CoreKept m c played → happens m c e ≡ Some (a, new) →
    (Happened m c e a new → (length (core_after m c e).phases.lanes ≡ length c.phases.lanes)
    × Kept (length m.keys) ((x, a) ∷ played) (core_after m c e).phases (core_after m c e).numbers) →
    CoreKept m new ((x, a) ∷ played)
event_kept m c e a new x played h is makes =
    let hap = happened m c e a new is in
    let made = makes hap in
    record {
      reached = event_reached m c e a new is h.reached;
      lanes = ap (λ n. length n.phases.lanes) hap.core ∙ made.0 ∙ h.lanes;
      each = subst (λ n. Kept (length m.keys) ((x, a) ∷ played) n.phases n.numbers) (sym hap.core) made.1;
    }

-- both of two tests
first_of_two : (a b : Bool) → (a && b) ≡ true → a ≡ true
first_of_two true b is = refl
first_of_two false b is = is

second_of_two : (a b : Bool) → (a && b) ≡ true → b ≡ true
second_of_two true b is = is
second_of_two false b is = absurd (let bad : ⊥ = cc in bad)

is_less : (a b : ℕ) → nat_lt a b ≡ true → a < b
is_less a b is = grind (arith, nat_tests, is)

module _ (m : Measured) (c new : Core) (played : Played) (a : Answer) (measured : IsMeasured m)
    (h : CoreKept m c played) where
  abbrev k : ℕ
  k = length m.keys

  look_step : (t : ℕ) → does m c (step.LoadStop t) ≡ Some (a, new) →
      CoreKept m new ((step.LoadStop t, a) ∷ played)
  look_step t is = event_kept m c (event.SessionStopLoad t) a new (step.LoadStop t) played h is (λ hap.
      let each = look_each k played c.phases c.numbers t c.phases.is_halted hap.allowed h.each in (
        at c.phases.is_halted,
        subst (λ x. Kept k ((step.LoadStop t, x) ∷ played)
            (cond c.phases.is_halted c.phases (with_session c.phases t begins_to_look)) c.numbers)
            (sym hap.answer) each,
      ))
    where
      at : (b : Bool) → length (cond b c.phases (with_session c.phases t begins_to_look)).lanes
          ≡ length c.phases.lanes
      at true = refl
      at false = refl

  load_step : (t lane : ℕ) → does m c (step.Load t lane) ≡ Some (a, new) →
      CoreKept m new ((step.Load t lane, a) ∷ played)
  load_step t lane is = event_kept m c (event.Load t lane) a new (step.Load t lane) played h is (λ hap.
      let may = first_of_two (session_is may_load c.phases t)
      (nat_lt lane (length c.phases.lanes)) hap.allowed in
      let there = is_less lane (length c.phases.lanes)
      (second_of_two (session_is may_load c.phases t) (nat_lt lane (length c.phases.lanes)) hap.allowed) in
      let word = get_or c.numbers.words lane 0 in
      let each =
      load_each k played c.phases c.numbers t lane word (omega (arith, there, h.lanes)) may h.each in (
        refl,
        λ s. subst (λ x. Pair (SessionKept k ((step.Load t lane, x) ∷ played) s)
            (slice_get (changed_at c.phases.sessions t (λ e. loads_lane lane e.phase e.loaded)) s)
            (slice_get (changed_at c.numbers.views t (view_loaded lane word)) s)) (sym hap.answer) (each s),
      ))

  grab_step : (t : ℕ) → does m c (step.Grab t) ≡ Some (a, new) → CoreKept m new ((step.Grab t, a) ∷ played)
  grab_step t is = event_kept m c (event.SessionTry t) a new (step.Grab t) played h is
      (λ hap. at (eqb c.phases.turn 0) hap.answer hap.allowed)
    where
      tried : Bool → Phases
      tried b = cond b (with_turn (with_session c.phases t (in_phase session_phase.Holding))
          (length c.phases.lanes + 1)) (with_session c.phases t (in_phase session_phase.Idle))

      at : (b : Bool) → a ≡ cond b answer.Held (answer.Busy c.phases.turn) →
          session_is is_looked_session c.phases t ≡ true →
          (length (tried b).lanes ≡ length c.phases.lanes)
          × Kept k ((step.Grab t, a) ∷ played) (tried b) c.numbers
      at true is_a allowed = (refl, grab_each k played c.phases c.numbers t a true is_a allowed h.each)
      at false is_a allowed = (refl, grab_each k played c.phases c.numbers t a false is_a allowed h.each)

  read_step : (t : ℕ) → does m c (step.Read t) ≡ Some (a, new) → CoreKept m new ((step.Read t, a) ∷ played)
  read_step t is = event_kept m c (event.Read t) a new (step.Read t) played h is (λ hap.
      (refl, read_each m k played c.phases c.numbers t a hap.answer h.each))

  split_step : (t : ℕ) → does m c (step.Split t) ≡ Some (a, new) → CoreKept m new ((step.Split t, a) ∷ played)
  split_step t is = event_kept m c (event.Split t) a new (step.Split t) played h is (λ hap.
      let even = (cores_are_sound m c measured h.reached).sessions in
      let each = split_each k played c.phases c.numbers t even h.lanes hap.allowed h.each in (
        refl,
        λ s. subst (λ x. Pair (SessionKept k ((step.Split t, x) ∷ played) s)
            (slice_get (c.phases.sessions ++ new_session (length c.phases.lanes) ∷ []) s)
            (slice_get (c.numbers.views ++ view_of c.numbers t ∷ []) s)) (sym hap.answer) (each s),
      ))

  take_step : (lane : ℕ) → does m c (step.Take lane) ≡ Some (a, new) →
      CoreKept m new ((step.Take lane, a) ∷ played)
  take_step lane is =
      let took = take_kept m c lane a new is in
      let each = same_kept k played c.phases c.numbers (step.Take lane) a (λ s. refl) (λ s. refl) h.each in
      record {
        reached = took.reached h.reached;
        lanes = took.lanes ∙ h.lanes;
        each = λ s.
            subst (λ es. Pair (SessionKept k ((step.Take lane, a) ∷ played) s) (slice_get es s)
            (slice_get new.numbers.views s)) (sym took.sessions)
            (subst (λ n. Pair (SessionKept k ((step.Take lane, a) ∷ played) s)
            (slice_get c.phases.sessions s) (slice_get n.views s)) (sym took.numbers) (each s));
      }

  step_kept : (x : Step) → does m c x ≡ Some (a, new) → CoreKept m new ((x, a) ∷ played)
  step_kept (step.Take lane) is = take_step lane is
  step_kept (step.Post lane most) is =
      event_kept m c (event.Post lane most) a new (step.Post lane most) played h is
      (λ hap. (
        changed_length c.phases.lanes lane (λ _. lane_phase.Posted),
        same_kept k played c.phases c.numbers (step.Post lane most) a (λ s. refl) (λ s. refl) h.each,
      ))
  step_kept (step.Raise lane) is = event_kept m c (event.Raise lane) a new (step.Raise lane) played h is
      (λ hap. (
        changed_length c.phases.lanes lane (λ _. lane_phase.Idle),
        same_kept k played c.phases c.numbers (step.Raise lane) a (λ s. refl) (λ s. refl) h.each,
      ))
  step_kept (step.LoadStop t) is = look_step t is
  step_kept (step.Load t lane) is = load_step t lane is
  step_kept (step.Grab t) is = grab_step t is
  step_kept (step.Read t) is = read_step t is
  step_kept (step.Split t) is = split_step t is
  step_kept (step.Halt t) is = event_kept m c (event.Halt t) a new (step.Halt t) played h is
      (λ hap. (refl, same_kept k played c.phases c.numbers (step.Halt t) a (λ s. refl) (λ s. refl) h.each))

  -- ---- a read

  read_right : (t : ℕ) → does m c (step.Read t) ≡ Some (a, new) → IsRightRead m played t a
  read_right t is =
      let hap = happened m c (event.Read t) a new is in
      at (known k played c.phases c.numbers is_holding_session t hap.allowed h.each) hap.answer
    where
      at : Known k played c.phases c.numbers t (λ e. is_holding_session e.phase ≡ true) →
          a ≡ read_answer m c.numbers.mark (view_of c.numbers t) → IsRightRead m played t a
      at (e, v, is_e, is_v, kept, holds) answers =
          let here : view_of c.numbers t ≡ v =
          ap (λ o. unwrap_or o (record { cursor = 0; words = [] })) is_v in
          let is_a : a ≡ read_answer m c.numbers.mark v =
          answers ∙ ap (read_answer m c.numbers.mark) here in
          subst (IsRightRead m played t) (sym is_a)
          (told v (reads_are_right m c t v measured h.reached is_v) e kept (holding_is e.phase holds)
          (released m (mark_after c.numbers.mark v.words) v.cursor) (eqb (least v.words) m.samples) refl refl)
        where
          told : (v : View) → ReadsRightly m c.numbers v → (e : SessionState) → SessionKept k played t e v →
              (is_idle_session e.phase ≡ false) × (has_looked e.phase ≡ true) →
              (found : Option Item) (b : Bool) →
              released m (mark_after c.numbers.mark v.words) v.cursor ≡ found →
              eqb (least v.words) m.samples ≡ b →
              IsRightRead m played t (option_map_or answer.Item found
              (cond b answer.End (answer.Withheld (least_lane v.words) (least v.words))))
          told v right e kept looked (Some x) b was ends =
              let got : read_answer m c.numbers.mark v ≡ answer.Item x =
              ap (λ f. option_map_or answer.Item f (unreleased m v.words)) was in
              subst (λ i. slice_get m.items i ≡ Some x) kept.cursor (right.given x got)
          told v right e kept looked None true was ends =
              let got : read_answer m c.numbers.mark v ≡ answer.End =
              ap (λ f. option_map_or answer.Item f (unreleased m v.words)) was
              ∙ ap (λ b. cond b answer.End (answer.Withheld (least_lane v.words) (least v.words))) ends in
              sym kept.cursor ∙ (right.ended got).0
          told v right e kept looked None false was ends =
              let lane = least_lane v.words in
              let word = least v.words in
              let got : read_answer m c.numbers.mark v ≡ answer.Withheld lane word =
              ap (λ f. option_map_or answer.Item f (unreleased m v.words)) was
              ∙ ap (λ b. cond b answer.End (answer.Withheld lane word)) ends in
              let all = kept.all looked.1 in
              let least_one = least_lane_has v.words (omega (arith, all.0, kept.words_each)) in
              let there = each_loaded e.loaded lane all.1
              (omega (arith, least_one.0, kept.words_each, kept.loaded_each)) in
              record {
                looked = kept.looks looked.0;
                loaded = subst (λ w. Contains (since_look t played) (step.Load t lane, answer.Loaded w))
                    least_one.1 (kept.loads looked.0 lane there);
                below = subst (λ i. word < end_at m.items m.samples i) kept.cursor
                    (right.withheld lane word got).2;
              }

  step_right : (x : Step) → does m c x ≡ Some (a, new) → IsRightStep m played x a
  step_right (step.Take lane) is = tt
  step_right (step.Post lane most) is = tt
  step_right (step.Raise lane) is = tt
  step_right (step.LoadStop t) is = tt
  step_right (step.Load t lane) is = tt
  step_right (step.Grab t) is = tt
  step_right (step.Read t) is = read_right t is
  step_right (step.Split t) is = tt
  step_right (step.Halt t) is = tt

-- ---- all steps

-- at the start
start_kept : (m : Measured) → CoreKept m (start_core (length m.keys)) []
unfolding Pair
start_kept m = record {
  reached = at_start;
  lanes = length-replicate (length m.keys) lane_phase.Idle;
  each = λ s. at s;
}
  where
    k : ℕ
    k = length m.keys

    at : (s : ℕ) → Pair (SessionKept k [] s) (slice_get (new_session k ∷ []) s)
        (slice_get (start_view k ∷ []) s)
    at zero =
        idle_kept k [] 0 (new_session k) (start_view k) (length-replicate k false) (length-replicate k 0) refl
        refl
    at (suc s) = tt

-- what the steps after a step give
abbrev Later : Measured → ℕ → List Step → Type 0
Later m index steps = (new : Core) (played : Played) (others : List Answer) → CoreKept m new played →
    answers_from m (index + 1) new steps ≡ Ok others → AreRightSteps m played steps others

answers_in : Result (List Answer) PlayFault → List Answer
answers_in (Ok xs) = xs
answers_in (Err e) = []

answered_all : (xs ys : List Answer) → answered xs ≡ answered ys → xs ≡ ys
unfolding answers_in
answered_all xs ys is = ap answers_in is

after_step : (m : Measured) (c : Core) (index : ℕ) (played : Played) (s : Step) (steps : List Step)
    (answers : List Answer) (a : Answer) (new : Core) (rest : Result (List Answer) PlayFault) →
    IsMeasured m → CoreKept m c played → Later m index steps → does m c s ≡ Some (a, new) →
    answers_from m (index + 1) new steps ≡ rest → before (a ∷ []) rest ≡ Ok answers →
    AreRightSteps m played (s ∷ steps) answers
after_step m c index played s steps answers a new (Err e) measured h later is_done were run =
    absurd (let bad : ⊥ = cc in bad)
after_step m c index played s steps answers a new (Ok others) measured h later is_done were run =
    subst (AreRightSteps m played (s ∷ steps)) (answered_all (a ∷ others) answers run) (
      step_right m c new played a measured h s is_done,
      later new ((s, a) ∷ played) others (step_kept m c new played a measured h s is_done) were,
    )

first_step : (m : Measured) (c : Core) (index : ℕ) (played : Played) (s : Step) (steps : List Step)
    (answers : List Answer) (t : Option (Answer × Core)) → IsMeasured m → CoreKept m c played →
    Later m index steps → takes m c s ≡ t →
    one_step m index steps (ok_or t (fault.NotAllowed index)) ≡ Ok answers →
    AreRightSteps m played (s ∷ steps) answers
first_step m c index played s steps answers None measured h later was run =
    absurd (let bad : ⊥ = cc in bad)
first_step m c index played s steps answers (Some p) measured h later was run =
    after_step m c index played s steps answers p.0 p.1 (answers_from m (index + 1) p.1 steps) measured h
    later (done m c s p.0 p.1 was) refl run

all_right : (m : Measured) (c : Core) (index : ℕ) (played : Played) (steps : List Step)
    (answers : List Answer) → IsMeasured m → CoreKept m c played →
    answers_from m index c steps ≡ Ok answers → AreRightSteps m played steps answers
all_right m c index played [] answers measured h run = tt
all_right m c index played (s ∷ steps) answers measured h run =
    first_step m c index played s steps answers (takes m c s) measured h
    (λ new then others kept were. all_right m new (index + 1) then steps others measured kept were) refl
    (sym (answers_step m index c s steps) ∙ run)

-- each read of a list of steps is right
pub withheld_by_own_loads : WithheldByOwnLoads
withheld_by_own_loads m steps answers measured run =
    all_right m (start_core (length m.keys)) 0 [] steps answers measured (start_kept m) run

pub recorded_withheld_by_own_loads : RecordedWithheldByOwnLoads
recorded_withheld_by_own_loads r limits steps answers is run =
    withheld_by_own_loads (measured_of r limits) steps answers (recordings_are_measured r limits is) run
