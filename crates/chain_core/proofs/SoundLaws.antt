-- What every core keeps that events reach.
use Rattle.std.proofs.Common.{◌≡◌, ℕ, zero, suc, ◌+◌, ◌-◌, ◌<◌, ◌≤◌, ◌⊎◌, inl, inr, min, max, Bool, true, false, cond, ◌&&◌, eqb, List, [], ◌∷◌, ◌++◌, length, replicate, get_or, slice_get, slice_index, Option, Some, None, option_and_then, unwrap_or, arith, refl, sym, ap, ◌∙◌, subst, length-append}
use Rattle.std.specs.Option.{option_map_or}
use Rattle.chain_core.specs.declared.answer.Answer.{Answer}
use Rattle.chain_core.specs.declared.core_event.CoreEvent.{CoreEvent}
use Rattle.chain_core.specs.declared.core_event.CoreEvent.TheVariants as event
use Rattle.chain_core.specs.declared.phase.LanePhase.TheVariants as lane_phase
use Rattle.chain_core.specs.declared.phase.SessionPhase.TheVariants as session_phase
use Rattle.chain_core.specs.Changed.{changed_at}
use Rattle.chain_core.specs.Core.{Measured, Core, Numbers, View, after_load, after_post, after_raise, after_read, after_split, count_after, happens, keys_of, least, mark_after, numbers_after, posted, raised, reach_of, released, start_core, start_view, view_loaded, view_of, view_read}
use Rattle.chain_core.specs.Phases.{Phases, SessionState, begins_to_look, in_phase, is_allowed, is_idle_session, loads_lane, new_session, phases_after, session_is, with_lane, with_session, with_turn}
use Rattle.chain_core.specs.SoundCore.{CoresAreSound, Follows, IsMeasured, IsReached, at_start, after, IsSound, ReadsWithoutMemory}
use Rattle.chain_core.proofs.ChangedLaws.{changed_length, changed_number, changed_was, get_after, none_later, stands_within, within_stands}
use Rattle.chain_core.proofs.CutLaws.{cut_item, released_stands}
use Rattle.chain_core.proofs.LeastLaws.{least_at}
use Rattle.chain_core.proofs.StepLaws.{happened}
use Rattle.pq_items.specs.declared.item.Item.{Item}

le_trans : (a b c : ℕ) → a ≤ b → b ≤ c → a ≤ c
le_trans a b c h g = omega arith

-- a reach rises with the count
reach_at : (m : Measured) (lane i j : ℕ) → IsMeasured m → i ≤ j → (a b : Option ℕ) →
    slice_get (keys_of m lane) i ≡ a →
    slice_get (keys_of m lane) j ≡ b →
    option_map_or (λ key. key - 1) a m.samples ≤ option_map_or (λ key. key - 1) b m.samples
reach_at m lane i j h le (Some a) (Some b) at_i at_j = let more = h.rising lane i j a b le at_i at_j in
    omega (arith, more)
reach_at m lane i j h le (Some a) None at_i at_j = let more = h.within lane i a at_i in omega (arith, more)
reach_at m lane i j h le None (Some b) at_i at_j =
    absurd (let none = none_later (keys_of m lane) i j le at_i in let bad : ⊥ = cc in bad)
reach_at m lane i j h le None None at_i at_j = omega arith

reach_rises : (m : Measured) (lane i j : ℕ) → IsMeasured m → i ≤ j → reach_of m lane i ≤ reach_of m lane j
reach_rises m lane i j h le =
    reach_at m lane i j h le (slice_get (keys_of m lane) i) (slice_get (keys_of m lane) j) refl refl

-- a post
post_raises : (m : Measured) (n : Numbers) (lane most other : ℕ) → IsMeasured m →
    raised m n other ≤ raised m (after_post m n lane most) other
post_raises m n lane most other h =
    elim (changed_number n.counts lane other (λ _. count_after m n lane most)) [
      | inl same ↦ subst (λ k. reach_of m other (get_or n.counts other 0) ≤ reach_of m other k) (sym same)
          (omega arith)
      | inr more ↦ subst (λ k. reach_of m other (get_or n.counts other 0) ≤ reach_of m other k) (sym more.1)
          (subst (λ k. reach_of m other (get_or n.counts k 0) ≤ reach_of m other
          (count_after m n lane most)) more.0
          (reach_rises m other (get_or n.counts lane 0) (count_after m n lane most) h (omega arith)))
    ]

post_sound : (m : Measured) (n : Numbers) (sessions lane most : ℕ) → IsMeasured m → IsSound m n sessions →
    IsSound m (after_post m n lane most) sessions
post_sound m n sessions lane most h s = record {
  words = λ other. le_trans _ _ _ (s.words other) (post_raises m n lane most other h);
  read = s.read;
  mark = λ other inside. le_trans _ _ _ (s.mark other inside) (post_raises m n lane most other h);
  cursors = s.cursors;
  lanes = s.lanes;
  sessions = s.sessions;
}

-- a raise
word_raised : (m : Measured) (n : Numbers) (lane other : ℕ) → (w : ℕ) → w ≤ get_or n.words other 0 →
    w ≤ raised m n other → w
    ≤ get_or (after_raise m n lane).words other 0
word_raised m n lane other w low reach =
    elim (changed_number n.words lane other (λ _. raised m n lane)) [
      | inl same ↦ subst (λ k. w ≤ k) (sym same) low
      | inr made ↦ subst (λ k. w ≤ k) (sym made.1) (subst (λ k. w ≤ raised m n k) (sym made.0) reach)
    ]

raise_sound : (m : Measured) (n : Numbers) (sessions lane : ℕ) → IsSound m n sessions →
    IsSound m (after_raise m n lane) sessions
raise_sound m n sessions lane s = record {
  words = λ other. elim (changed_number n.words lane other (λ _. raised m n lane)) [
    | inl same ↦ subst (λ k. k ≤ raised m n other) (sym same) (s.words other)
    | inr made ↦ subst (λ k. k ≤ raised m n other) (sym made.1) (subst
        (λ k. raised m n lane ≤ raised m n k) made.0 (omega arith))
  ];
  read = λ session other v is. word_raised m n lane other (get_or v.words other 0) (s.read session other v is)
      (le_trans _ _ _ (s.read session other v is) (s.words other));
  mark = λ other inside. s.mark other (subst (λ k. other < k) (changed_length n.words lane
      (λ _. raised m n lane)) inside);
  cursors = s.cursors;
  lanes = λ session v is. s.lanes session v is ∙ sym (changed_length n.words lane (λ _. raised m n lane));
  sessions = s.sessions;
}

-- a load
loaded_low : (lane word other : ℕ) (v : View) (w : ℕ) → get_or v.words other 0 ≤ w → (lane ≡ other →
    word ≤ w) →
    get_or (view_loaded lane word v).words other 0 ≤ w
loaded_low lane word other v w low new =
    elim (changed_number v.words lane other (λ _. word)) [
      | inl same ↦ subst (λ k. k ≤ w) (sym same) low
      | inr made ↦ subst (λ k. k ≤ w) (sym made.1) (new made.0)
    ]

load_sound : (m : Measured) (n : Numbers) (sessions t lane : ℕ) → IsSound m n sessions →
    IsSound m (after_load n t lane) sessions
load_sound m n sessions t lane s =
    let word = get_or n.words lane 0 in
    let was = λ (session : ℕ) (v : View) (is : slice_get (after_load n t lane).views session ≡ Some v).
    changed_was n.views t session (view_loaded lane word) v is in
    record {
      words = s.words;
      read = λ session other v is. elim (was session v is) [
        | inl there ↦ s.read session other v there
        | inr made ↦ subst (λ (w : View). get_or w.words other 0 ≤ get_or n.words other 0) made.3
            (loaded_low lane word other made.0 (get_or n.words other 0) (s.read session other made.0 made.2)
            (λ same. subst (λ k. word ≤ get_or n.words k 0) same (omega arith)))
      ];
      mark = s.mark;
      cursors = λ session v is. elim (was session v is) [
        | inl there ↦ s.cursors session v there
        | inr made ↦ subst (λ (w : View). w.cursor ≤ length m.items) made.3 (s.cursors session made.0 made.2)
      ];
      lanes = λ session v is. elim (was session v is) [
        | inl there ↦ s.lanes session v there
        | inr made ↦ subst (λ (w : View). length w.words ≡ length n.words) made.3
            (changed_length made.0.words lane (λ _. word) ∙ s.lanes session made.0 made.2)
      ];
      sessions = changed_length n.views t (view_loaded lane word) ∙ s.sessions;
    }

-- the mark of a read stays below every reach
mark_low : (m : Measured) (n : Numbers) (sessions lane : ℕ) → IsSound m n sessions →
    lane < length n.words → (found : Option View) →
    (t : ℕ) → slice_get n.views t ≡ found →
    mark_after n.mark (unwrap_or found (record { cursor = 0; words = [] })).words ≤ raised m n lane
mark_low m n sessions lane s inside None t is = let old = s.mark lane inside in omega (arith, old)
mark_low m n sessions lane s inside (Some v) t is =
    let old = s.mark lane inside in
    let there : lane < length v.words = subst (λ k. lane < k) (sym (s.lanes t v is)) inside in
    let low = least_at v.words lane there in
    let read = s.read t lane v is in
    let reach = s.words lane in
    omega (arith, old, low, read, reach)

-- a read
cursor_low : (m : Measured) (mark : ℕ) (v : View) → IsMeasured m → v.cursor ≤ length m.items →
    (view_read m mark v).cursor ≤ length m.items
cursor_low m mark v h low = at (released m (mark_after mark v.words) v.cursor) refl
  where
    at : (found : Option Item) → released m (mark_after mark v.words) v.cursor ≡ found →
        option_map_or (λ _. v.cursor + 1) found v.cursor ≤ length m.items
    at None was = low
    at (Some x) was =
        let inside = stands_within m.items v.cursor x
        (released_stands (slice_get m.items v.cursor) (mark_after mark v.words) x
        (sym (cut_item (mark_after mark v.words) m.items v.cursor h.in_order) ∙ was)) in omega (arith, inside)

read_sound : (m : Measured) (n : Numbers) (sessions t : ℕ) → IsMeasured m → IsSound m n sessions →
    IsSound m (after_read m n t) sessions
read_sound m n sessions t h s =
    let was = λ (session : ℕ) (v : View) (is : slice_get (after_read m n t).views session ≡ Some v).
    changed_was n.views t session (view_read m n.mark) v is in
    record {
      words = s.words;
      read = λ session other v is. elim (was session v is) [
        | inl there ↦ s.read session other v there
        | inr made ↦ subst (λ (w : View). get_or w.words other 0 ≤ get_or n.words other 0) made.3
            (s.read session other made.0 made.2)
      ];
      mark = λ lane inside. mark_low m n sessions lane s inside (slice_get n.views t) t refl;
      cursors = λ session v is. elim (was session v is) [
        | inl there ↦ s.cursors session v there
        | inr made ↦ subst (λ (w : View). w.cursor ≤ length m.items) made.3
            (cursor_low m n.mark made.0 h (s.cursors session made.0 made.2))
      ];
      lanes = λ session v is. elim (was session v is) [
        | inl there ↦ s.lanes session v there
        | inr made ↦ subst (λ (w : View). length w.words ≡ length n.words) made.3
            (s.lanes session made.0 made.2)
      ];
      sessions = changed_length n.views t (view_read m n.mark) ∙ s.sessions;
    }

-- a split of a session that is there
view_is : (n : Numbers) (t : ℕ) (v : View) → slice_get n.views t ≡ Some v → view_of n t ≡ v
view_is n t v is = ap (λ o. unwrap_or o (record { cursor = 0; words = [] })) is

split_sound : (m : Measured) (n : Numbers) (sessions t : ℕ) (v : View) → slice_get n.views t ≡ Some v →
    IsSound m n sessions → IsSound m (after_split n t) (sessions + 1)
split_sound m n sessions t v is s =
    let same = view_is n t v is in
    let was = λ (session : ℕ) (w : View) (at : slice_get (after_split n t).views session ≡ Some w).
    get_after n.views (view_of n t) session w at in
    record {
      words = s.words;
      read = λ session lane w at. elim (was session w at) [
        | inl there ↦ s.read session lane w there
        | inr new ↦ subst (λ (u : View). get_or u.words lane 0 ≤ get_or n.words lane 0) (sym same ∙ new)
            (s.read t lane v is)
      ];
      mark = s.mark;
      cursors = λ session w at. elim (was session w at) [
        | inl there ↦ s.cursors session w there
        | inr new ↦ subst (λ (u : View). u.cursor ≤ length m.items) (sym same ∙ new) (s.cursors t v is)
      ];
      lanes = λ session w at. elim (was session w at) [
        | inl there ↦ s.lanes session w there
        | inr new ↦ subst (λ (u : View). length u.words ≡ length n.words) (sym same ∙ new) (s.lanes t v is)
      ];
      sessions = length-append n.views (view_of n t ∷ []) ∙ ap (λ k. k + 1) s.sessions;
    }

-- how many sessions there are after an event
abbrev sessions_after : ℕ → CoreEvent → ℕ
sessions_after count (event.Split t) = count + 1
sessions_after count e = count

sessions_counted : (p : Phases) (e : CoreEvent) →
    length (phases_after p e).sessions ≡ sessions_after (length p.sessions) e
sessions_counted p (event.LaneStopLoad lane) = refl
sessions_counted p (event.LaneTry lane) = at (eqb p.turn 0)
  where
    at : (b : Bool) → length (cond b (with_turn (with_lane p lane lane_phase.Holding) (lane + 1)) p).sessions
        ≡ length p.sessions
    at true = refl
    at false = refl
sessions_counted p (event.Post lane most) = refl
sessions_counted p (event.Raise lane) = refl
sessions_counted p (event.SessionStopLoad t) = at p.is_halted
  where
    at : (b : Bool) → length (cond b p (with_session p t begins_to_look)).sessions ≡ length p.sessions
    at true = refl
    at false = changed_length p.sessions t begins_to_look
sessions_counted p (event.SessionTry t) = at (eqb p.turn 0)
  where
    at : (b : Bool) → length (cond b
        (with_turn (with_session p t (in_phase session_phase.Holding)) (length p.lanes + 1))
        (with_session p t (in_phase session_phase.Idle))).sessions ≡ length p.sessions
    at true = changed_length p.sessions t (in_phase session_phase.Holding)
    at false = changed_length p.sessions t (in_phase session_phase.Idle)
sessions_counted p (event.Load t lane) = changed_length p.sessions t (λ s. loads_lane lane s.phase s.loaded)
sessions_counted p (event.Read t) = changed_length p.sessions t (in_phase session_phase.Idle)
sessions_counted p (event.Split t) = length-append p.sessions (new_session (length p.lanes) ∷ [])
sessions_counted p (event.Halt t) = refl

-- a session of the phases has a view
has_view : (m : Measured) (n : Numbers) (p : Phases) (t : ℕ) → IsSound m n (length p.sessions) →
    session_is is_idle_session p t ≡ true → (v : View) × (slice_get n.views t ≡ Some v)
has_view m n p t s idle = at (slice_get p.sessions t) refl idle
  where
    at : (found : Option SessionState) → slice_get p.sessions t ≡ found →
        option_map_or (λ x. is_idle_session x.phase) found false ≡ true → (v : View)
        × (slice_get n.views t ≡ Some v)
    at None was is = absurd (let bad : ⊥ = cc in bad)
    at (Some x) was is = within_stands n.views t
        (subst (λ k. t < k) (sym s.sessions) (stands_within p.sessions t x was))

numbers_sound : (m : Measured) (n : Numbers) (p : Phases) (e : CoreEvent) → IsMeasured m →
    is_allowed p e ≡ true →
    IsSound m n (length p.sessions) → IsSound m (numbers_after m n e) (sessions_after (length p.sessions) e)
numbers_sound m n p (event.LaneStopLoad lane) h allowed s = s
numbers_sound m n p (event.LaneTry lane) h allowed s = s
numbers_sound m n p (event.Post lane most) h allowed s = post_sound m n (length p.sessions) lane most h s
numbers_sound m n p (event.Raise lane) h allowed s = raise_sound m n (length p.sessions) lane s
numbers_sound m n p (event.SessionStopLoad t) h allowed s = s
numbers_sound m n p (event.SessionTry t) h allowed s = s
numbers_sound m n p (event.Load t lane) h allowed s = load_sound m n (length p.sessions) t lane s
numbers_sound m n p (event.Read t) h allowed s = read_sound m n (length p.sessions) t h s
numbers_sound m n p (event.Split t) h allowed s =
    let there = has_view m n p t s allowed in split_sound m n (length p.sessions) t there.0 there.1 s
numbers_sound m n p (event.Halt t) h allowed s = s

-- one event of running threads
event_sound : (m : Measured) (old new : Core) (e : CoreEvent) (a : Answer) → IsMeasured m →
    IsSound m old.numbers (length old.phases.sessions) → happens m old e ≡ Some (a, new) →
    IsSound m new.numbers (length new.phases.sessions)
event_sound m old new e a h s is =
    let was = happened m old e a new is in
    subst (λ (c : Core). IsSound m c.numbers (length c.phases.sessions)) (sym was.core)
    (subst (λ k. IsSound m (numbers_after m old.numbers e) k) (sym (sessions_counted old.phases e))
    (numbers_sound m old.numbers old.phases e h was.allowed s))

marked : (m : Measured) (n : Numbers) (sessions t mark : ℕ) → mark ≤ mark_after n.mark (view_of n t).words →
    IsSound m n sessions → IsSound m (record n { mark = mark }) sessions
marked m n sessions t mark low s = record {
  words = s.words;
  read = s.read;
  mark = λ lane inside. le_trans _ _ _ low (mark_low m n sessions lane s inside (slice_get n.views t) t refl);
  cursors = s.cursors;
  lanes = s.lanes;
  sessions = s.sessions;
}

unread_sound : (m : Measured) (old new : Core) (t : ℕ) → IsSound m old.numbers (length old.phases.sessions) →
    ReadsWithoutMemory old t new → IsSound m new.numbers (length new.phases.sessions)
unread_sound m old new t s h =
    subst (λ (n : Numbers). IsSound m n (length new.phases.sessions)) (sym h.numbers)
    (subst (λ k. IsSound m (record old.numbers { mark = new.numbers.mark }) k)
    (sym (ap (λ (p : Phases). length p.sessions) h.phases ∙ sessions_counted old.phases (event.Read t)))
    (marked m old.numbers (length old.phases.sessions) t new.numbers.mark h.mark_to s))

-- at the start
zero_at : (lanes k : ℕ) → slice_index (replicate lanes 0) k ≡ 0
zero_at zero k = refl
zero_at (suc lanes) zero = refl
zero_at (suc lanes) (suc k) = zero_at lanes k

one_view : (lanes session : ℕ) (v : View) → slice_get (start_view lanes ∷ []) session ≡ Some v →
    start_view lanes ≡ v
one_view lanes zero v is = ap (λ o. unwrap_or o (start_view lanes)) is
one_view lanes (suc session) v is = absurd (let bad : ⊥ = cc in bad)

start_sound : (m : Measured) (lanes : ℕ) → IsSound m (start_core lanes).numbers 1
start_sound m lanes = record {
  words = λ lane. subst (λ k. k ≤ raised m (start_core lanes).numbers lane) (sym (zero_at lanes lane))
      (omega arith);
  read = λ session lane v is. subst (λ (u : View). get_or u.words lane 0 ≤ get_or (replicate lanes 0) lane 0)
      (one_view lanes session v is) (omega arith);
  mark = λ lane inside. omega arith;
  cursors = λ session v is. subst (λ (u : View). u.cursor ≤ length m.items) (one_view lanes session v is)
      (omega arith);
  lanes = λ session v is. subst (λ (u : View). length u.words ≡ length (start_core lanes).numbers.words)
      (one_view lanes session v is) refl;
  sessions = refl;
}

pub cores_are_sound : CoresAreSound
cores_are_sound m c h at_start = start_sound m (length m.keys)
cores_are_sound m c h (after old new reached next) =
    let s = cores_are_sound m old h reached in
    elim next [
      | inl e ↦ event_sound m old new e.0 e.1 h s e.2
      | inr r ↦ unread_sound m old new r.0 s r.1
    ]
