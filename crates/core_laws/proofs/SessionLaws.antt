-- What is kept of one session, from step to step: its cursor is that of what was played, and the words that
-- it has read since its last load of the stop word are those that its own loads gave.
use Rattle.std.proofs.Common.{◌≡◌, ℕ, zero, suc, ◌+◌, ◌<◌, inl, inr, Bool, true, false, cond, eqb, eq-eqb, List, [], ◌∷◌, length, replicate, get_or, slice_get, Contains, Option, Some, None, arith, refl, sym, ap, ◌∙◌, subst}
use Rattle.std.specs.List.{list_all}
use Rattle.std.specs.Option.{option_map, option_map_or}
use Rattle.std.proofs.lemmas.Bool.{eqb-true, eqb-false}
use Rattle.std.proofs.lemmas.List.{length-replicate}
use Rattle.std.proofs.lemmas.Option.{get_or_from_slice_get}
use Rattle.chain_core.specs.declared.answer.Answer.{Answer}
use Rattle.chain_core.specs.declared.answer.Answer.TheVariants as answer
use Rattle.chain_core.specs.declared.phase.SessionPhase.{SessionPhase}
use Rattle.chain_core.specs.declared.phase.SessionPhase.TheVariants as session_phase
use Rattle.chain_core.specs.declared.step.Step.{Step}
use Rattle.chain_core.specs.declared.step.Step.TheVariants as step
use Rattle.chain_core.specs.Changed.{changed_at}
use Rattle.chain_core.specs.Core.{Measured, View, least, least_lane, mark_after, read_answer, released, view_loaded, view_read}
use Rattle.chain_core.specs.Phases.{SessionState, begins_to_look, in_phase, is_holding_session, is_idle_session, is_looked_session, loads_lane, may_load}
use Rattle.chain_core.proofs.ChangedLaws.{changed_length, changed_number, changed_other, changed_same, within_stands}
use Rattle.core_laws.specs.OwnLoad.{Played, cursor_after, cursor_of, is_look_of, look_answer, since_look}
use Rattle.pq_items.specs.declared.item.Item.{Item}

-- a session that has looked, and may hold the turn
abbrev pub has_looked : SessionPhase → Bool
has_looked session_phase.Looked = true
has_looked session_phase.Holding = true
has_looked _ = false

pub record SessionKept (k : ℕ) (played : Played) (s : ℕ) (e : SessionState) (v : View) : Type 0 where
  pub loaded_each : length e.loaded ≡ k
  pub words_each : length v.words ≡ k
  pub cursor : v.cursor ≡ cursor_of played s
  pub looks : is_idle_session e.phase ≡ false → look_answer s played ≡ Some answer.Running
  pub loads : is_idle_session e.phase ≡ false → (lane : ℕ) → slice_get e.loaded lane ≡ Some true →
      Contains (since_look s played) (step.Load s lane, answer.Loaded (get_or v.words lane 0))
  pub all : has_looked e.phase ≡ true → (0 < k) × (list_all (λ b. b) e.loaded ≡ true)

-- ---- phases

not_both : (b : Bool) → b ≡ true → b ≡ false → ⊥
not_both b is not_so = cc

idle_not_looked : (p : SessionPhase) → is_idle_session p ≡ true → has_looked p ≡ true → ⊥
idle_not_looked session_phase.Idle idle looked = cc
idle_not_looked session_phase.Looking idle looked = cc
idle_not_looked session_phase.Looked idle looked = cc
idle_not_looked session_phase.Holding idle looked = cc

pub looked_is : (p : SessionPhase) → is_looked_session p ≡ true →
    (is_idle_session p ≡ false) × (has_looked p ≡ true)
looked_is session_phase.Idle is = absurd (let bad : ⊥ = cc in bad)
looked_is session_phase.Looking is = absurd (let bad : ⊥ = cc in bad)
looked_is session_phase.Looked is = (refl, refl)
looked_is session_phase.Holding is = absurd (let bad : ⊥ = cc in bad)

pub holding_is : (p : SessionPhase) → is_holding_session p ≡ true →
    (is_idle_session p ≡ false) × (has_looked p ≡ true)
holding_is session_phase.Idle is = absurd (let bad : ⊥ = cc in bad)
holding_is session_phase.Looking is = absurd (let bad : ⊥ = cc in bad)
holding_is session_phase.Looked is = absurd (let bad : ⊥ = cc in bad)
holding_is session_phase.Holding is = (refl, refl)

-- ---- what was played

later_in : (p q : Step × Answer) (played : Played) → Contains played q → Contains (p ∷ played) q
later_in p q played c = (suc c.0, omega (arith, c.1), c.2)

-- an idle session
pub idle_kept : (k : ℕ) (played : Played) (s : ℕ) (e : SessionState) (v : View) → length e.loaded ≡ k →
    length v.words ≡ k → v.cursor ≡ cursor_of played s → is_idle_session e.phase ≡ true →
    SessionKept k played s e v
idle_kept k played s e v loaded words cursor idle = record {
  loaded_each = loaded;
  words_each = words;
  cursor = cursor;
  looks = λ busy. absurd (not_both (is_idle_session e.phase) idle busy);
  loads = λ busy lane there. absurd (not_both (is_idle_session e.phase) idle busy);
  all = λ looked. absurd (idle_not_looked e.phase idle looked);
}

-- a step that is no load of the stop word by the session, and leaves its cursor
pub kept_on : (k : ℕ) (played : Played) (s : ℕ) (x : Step) (a : Answer) (e : SessionState) (v : View) →
    is_look_of s x ≡ false → cursor_after (cursor_of played) x a s ≡ cursor_of played s →
    SessionKept k played s e v → SessionKept k ((x, a) ∷ played) s e v
kept_on k played s x a e v other same h = record {
  loaded_each = h.loaded_each;
  words_each = h.words_each;
  cursor = h.cursor ∙ sym same;
  looks = λ busy. subst (λ b. cond b (Some a) (look_answer s played) ≡ Some answer.Running) (sym other)
      (h.looks busy);
  loads = λ busy lane there.
      let q : Step × Answer = (step.Load s lane, answer.Loaded (get_or v.words lane 0)) in
      subst (λ (b : Bool). Contains (cond b [] ((x, a) ∷ since_look s played)) q) (sym other)
      (later_in (x, a) q (since_look s played) (h.loads busy lane there));
  all = h.all;
}

-- ---- a load of the stop word that finds the core running

none_loaded : (n lane : ℕ) → slice_get (replicate n false) lane ≡ Some true → ⊥
none_loaded zero lane is = cc
none_loaded (suc n) zero is = cc
none_loaded (suc n) (suc lane) is = none_loaded n lane is

pub look_kept : (k : ℕ) (played : Played) (s : ℕ) (e : SessionState) (v : View) → SessionKept k played s e v →
    SessionKept k ((step.LoadStop s, answer.Running) ∷ played) s (begins_to_look e) v
look_kept k played s e v h = record {
  loaded_each = length-replicate (length e.loaded) false ∙ h.loaded_each;
  words_each = h.words_each;
  cursor = h.cursor;
  looks = λ busy. ap (λ b. cond b (Some answer.Running) (look_answer s played)) (eq-eqb s s refl);
  loads = λ busy lane there. absurd (none_loaded (length e.loaded) lane there);
  all = λ looked. absurd (let bad : ⊥ = cc in bad);
}

-- ---- a load of a lane's word

looked_all : (b : Bool) → has_looked (cond b session_phase.Looked session_phase.Looking) ≡ true → b ≡ true
looked_all true is = refl
looked_all false is = absurd (let bad : ⊥ = cc in bad)

-- the word of a lane that is loaded
word_loaded : (words : List ℕ) (lane word : ℕ) → lane < length words →
    get_or (changed_at words lane (λ _. word)) lane 0 ≡ word
word_loaded words lane word inside =
    let there = within_stands words lane inside in
    get_or_from_slice_get (changed_at words lane (λ _. word)) lane word 0
    (changed_same words lane (λ _. word) ∙ ap (option_map (λ _. word)) there.1)

-- that of another
word_other : (words : List ℕ) (lane other word : ℕ) → (lane ≡ other → ⊥) →
    get_or (changed_at words lane (λ _. word)) other 0 ≡ get_or words other 0
word_other words lane other word ne = elim (changed_number words lane other (λ _. word)) [
  | inl same ↦ same
  | inr made ↦ absurd (ne made.0)
]

module _ (k : ℕ) (played : Played) (s lane word : ℕ) (e : SessionState) (v : View) (inside : lane < k)
    (h : SessionKept k played s e v) where
  abbrev loads_now : Step × Answer
  loads_now = (step.Load s lane, answer.Loaded word)

  abbrev words_now : List ℕ
  words_now = changed_at v.words lane (λ _. word)

  abbrev loaded_now : List Bool
  loaded_now = changed_at e.loaded lane (λ _. true)

  -- each lane that is loaded now has its word from a load of the session's own
  loads_then : is_idle_session e.phase ≡ false → (other : ℕ) → slice_get loaded_now other ≡ Some true →
      Contains (loads_now ∷ since_look s played) (step.Load s other, answer.Loaded (get_or words_now other 0))
  loads_then busy other there = at (eqb lane other) refl
    where
      at : (b : Bool) → eqb lane other ≡ b →
          Contains (loads_now ∷ since_look s played)
          (step.Load s other, answer.Loaded (get_or words_now other 0))
      at true same =
          let e_lane : lane ≡ other = eqb-true lane other same in
          let within : lane < length v.words = omega (arith, inside, h.words_each) in
          let is : word ≡ get_or words_now other 0 =
          sym (word_loaded v.words lane word within) ∙ ap (λ l. get_or words_now l 0) e_lane in (
            0,
            omega arith,
            ap (λ l. (step.Load s l, answer.Loaded word)) e_lane
                ∙ ap (λ w. (step.Load s other, answer.Loaded w)) is,
          )
      at false differs =
          let ne = eqb-false lane other differs in
          let was : slice_get e.loaded other ≡ Some true =
          sym (changed_other e.loaded lane other (λ _. true) ne) ∙ there in
          let is : get_or words_now other 0 ≡ get_or v.words other 0 =
          word_other v.words lane other word ne in
          subst (λ w. Contains (loads_now ∷ since_look s played) (step.Load s other, answer.Loaded w))
          (sym is)
          (later_in loads_now (step.Load s other, answer.Loaded (get_or v.words other 0))
          (since_look s played) (h.loads busy other was))

  load_at : (p : SessionPhase) → e.phase ≡ p → may_load p ≡ true →
      SessionKept k (loads_now ∷ played) s (loads_lane lane p e.loaded) (view_loaded lane word v)
  load_at session_phase.Idle is may =
      idle_kept k (loads_now ∷ played) s (record { phase = session_phase.Idle; loaded = e.loaded })
      (view_loaded lane word v) h.loaded_each (changed_length v.words lane (λ _. word) ∙ h.words_each)
      h.cursor refl
  load_at session_phase.Looking is may =
      let busy : is_idle_session e.phase ≡ false = ap is_idle_session is in
      record {
        loaded_each = changed_length e.loaded lane (λ _. true) ∙ h.loaded_each;
        words_each = changed_length v.words lane (λ _. word) ∙ h.words_each;
        cursor = h.cursor;
        looks = λ _. h.looks busy;
        loads = λ _ other there. loads_then busy other there;
        all = λ looked. (omega (arith, inside), looked_all (list_all (λ b. b) loaded_now) looked);
      }
  load_at session_phase.Looked is may = absurd (let bad : ⊥ = cc in bad)
  load_at session_phase.Holding is may = absurd (let bad : ⊥ = cc in bad)

  pub load_kept : may_load e.phase ≡ true →
      SessionKept k (loads_now ∷ played) s (loads_lane lane e.phase e.loaded) (view_loaded lane word v)
  load_kept may = load_at e.phase refl may

-- ---- a grab that takes the turn

pub grab_kept : (k : ℕ) (played : Played) (s : ℕ) (e : SessionState) (v : View) →
    is_looked_session e.phase ≡ true → SessionKept k played s e v →
    SessionKept k ((step.Grab s, answer.Held) ∷ played) s (in_phase session_phase.Holding e) v
grab_kept k played s e v is h =
    let looked = looked_is e.phase is in
    record {
      loaded_each = h.loaded_each;
      words_each = h.words_each;
      cursor = h.cursor;
      looks = λ busy. h.looks looked.0;
      loads = λ busy lane there.
          let q : Step × Answer = (step.Load s lane, answer.Loaded (get_or v.words lane 0)) in
          later_in (step.Grab s, answer.Held) q (since_look s played) (h.loads looked.0 lane there);
      all = λ _. h.all looked.1;
    }

-- ---- a read

-- of the session
pub read_cursor : (m : Measured) (mark : ℕ) (v : View) (played : Played) (s : ℕ) →
    v.cursor ≡ cursor_of played s →
    (view_read m mark v).cursor ≡ cursor_after (cursor_of played) (step.Read s) (read_answer m mark v) s
read_cursor m mark v played s is =
    at (released m (mark_after mark v.words) v.cursor) (eqb (least v.words) m.samples)
  where
    at : (found : Option Item) (b : Bool) → option_map_or (λ _. v.cursor + 1) found v.cursor
        ≡ cursor_after (cursor_of played) (step.Read s)
        (option_map_or answer.Item found (cond b answer.End
        (answer.Withheld (least_lane v.words) (least v.words)))) s
    at None true = is
    at None false = is
    at (Some x) b =
        ap (λ c. c + 1) is
        ∙ sym (ap (λ b. cond b (cursor_of played s + 1) (cursor_of played s)) (eq-eqb s s refl))

-- of another session
pub read_other : (m : Measured) (mark : ℕ) (v : View) (played : Played) (t s : ℕ) → eqb t s ≡ false →
    cursor_after (cursor_of played) (step.Read t) (read_answer m mark v) s ≡ cursor_of played s
read_other m mark v played t s differs =
    at (released m (mark_after mark v.words) v.cursor) (eqb (least v.words) m.samples)
  where
    at : (found : Option Item) (b : Bool) → cursor_after (cursor_of played) (step.Read t)
        (option_map_or answer.Item found (cond b answer.End
        (answer.Withheld (least_lane v.words) (least v.words)))) s ≡ cursor_of played s
    at None true = refl
    at None false = refl
    at (Some x) b = ap (λ b. cond b (cursor_of played s + 1) (cursor_of played s)) differs
