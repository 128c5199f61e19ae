-- A try on the turn, and the turn given back, keep the rule.
use Rattle.std.proofs.Common.{◌≡◌, ◌≢◌, ℕ, ◌+◌, ◌<◌, ◌≤◌, List, [], ◌∷◌, get_or, set, Option, Some, None, Bool, eqb, eq-eqb, ne_eqb, sym, refl, ap, ◌∙◌, subst, arith, length-set, get_or-set_other, get_or-set_same}
use mathlib.Core.Logic.{dite}
use mathlib.Core.Option.{none, some}
use native.Mathlib.Decide.{ℕ_discrete}
use lib.ListN.{get_elem?}
use lib.Seq.{set-get_or}
use prog.Atomic.{either}
use Rattle.atomic_table.specs.Table.{State, step, keeps, takes, gives, rest, stepped, Allows}
use Rattle.atomic_table.proofs.Lists.{set_here}
use Rattle.progress_words.specs.declared.answer.Take.TheVariants.{Held, Busy}
use Rattle.progress_words.specs.declared.pass_view.LaneView.{LaneView}
use Rattle.progress_words.specs.declared.pass_view.PassView.{PassView}
use Rattle.progress_words.specs.declared.pass_view.ReaderView.{ReaderView}
use Rattle.progress_words.specs.declared.pass_view.Role.{Role}
use Rattle.progress_words.specs.declared.pass_view.Role.TheVariants.{Raises, Reads}
use Rattle.progress_words.specs.PassView.{after_try, after_give}
use Rattle.progress_words.specs.Rule.{MeetsRule}
use Rattle.progress_words.specs.Seat.{number_of}
use Rattle.progress_words.specs.Step.{Pass, TriesTurn, GivesTurn, role_after_give}
use Rattle.progress_words.specs.Turn.{Covers, MayGive}
use Rattle.progress_words.proofs.Keeps.{quiet_keeps, turn_keeps}
use Rattle.progress_words.proofs.Lists.{inside, none_some, some_some}
use Rattle.progress_words.proofs.Parts.{moved, Steps, same_role}
use Rattle.progress_words.proofs.Roles.{give_kind, give_reader, lane_fact, lane_reads}
use Rattle.progress_words.proofs.StopParts.{stop_stays}
use Rattle.progress_words.proofs.Views.{each_set}

number_pos : (n : ℕ) (role : Role) → 0 < number_of n role
number_pos n (Raises p) = omega arith
number_pos n (Reads p) = omega arith

abbrev first_slot : {V : Type 0} → V → List (ℕ × Option V) → V
first_slot d [] = d
first_slot d ((k, None) ∷ xs) = d
first_slot d ((k, Some u) ∷ xs) = u

module _ {V N : Type 0} (n : ℕ) (reach : V → ℕ → ℕ) (name : V → N) (opening : V) where
  -- the value at home covers what a pass knows
  covers : (s : State (Option V) (PassView V N)) (r : MeetsRule n reach name opening s) (id : ℕ)
      (v : PassView V N)
      → get_elem? s.views id ≡ some v → Covers reach v.role r.standing.value
  covers s r id v at = record {
    own = λ p is. sym (r.reaches.given id v at p is);
    word = λ p is. let its = r.lanes.one_pass id v at p is in let below = its.0 in let few = r.lanes.most in
        let a = r.lanes.words id v at p is in let b = r.reaches.words p.lane (omega arith) in omega arith;
    reads = λ p is k l. let long = r.shape.reads id v at p is in
        let a = r.reaches.reads id v at p is k (omega arith) in
        let b = r.reaches.words k (omega arith) in omega arith;
  }

  -- the try finds the turn free: the pass holds the value from then on
  takes_turn : (s : State (Option V) (PassView V N)) (r : MeetsRule n reach name opening s) (id : ℕ)
      (v : PassView V N) (new : ℕ) → get_elem? s.views id ≡ some v → new ≡ number_of n v.role
      → get_or s.words n 0 ≡ 0
      → MeetsRule n reach name opening (moved s (set s.words n new) (set s.homes 0 none) id
      (after_try (Held r.standing.value) v))
  takes_turn s r id v new at is hit = let t = r.standing in let u : V = t.value in
      let w : PassView V N = after_try (Held u) v in let ws : List ℕ = set s.words n new in
      let wide = r.shape.words in let pos = number_pos n v.role in
      let turned : get_or ws n 0 ≡ new = get_or-set_same s.words n new 0 (omega arith) in
      let else = λ (j : ℕ) (e : j ≢ n). sym (get_or-set_other s.words n j new 0 e) in
      let steps = same_role n reach name opening s r id v w ws at (refl, refl) refl (length-set s.words n new)
      (λ k l. else k (λ e. omega arith)) in
      let stop = stop_stays n reach name opening s t id v w ws at r.stop
      (else (n + 1) (λ e. omega arith)) refl
      (λ e. r.stop.found id v at e) in
      turn_keeps n reach name opening s r id v w ws (set s.homes 0 none) u id steps
      (length-set s.homes 0 none) stop
      record {
        taken = λ _ _ _ _ _. omega arith;
        one = each_set s.views id w (λ seat d. (z : V) → d.held_value ≡ Some z → seat ≡ id)
            (λ j d _ a z e. let b = r.turn.taken j d a z e in absurd (omega arith)) (λ _ _. refl);
        same = each_set s.views id w (λ _ d. (z : V) → d.held_value ≡ Some z → z ≡ u)
            (λ j d _ a z e. r.turn.same j d a z e) (λ z e. some_some u z e);
        holder = λ _. record {
          view = w;
          at = set_here s.views id w (inside s.views id v at);
          holds = refl;
          numbered = turned ∙ is;
        };
      }
      (λ z. absurd (omega arith))

  pub tries : (slots id : ℕ) (me : Pass V N) (k new : ℕ) → k ≡ n → new ≡ number_of n me.0.role
      → Allows (MeetsRule n reach name opening) slots id me k (λ x. either (eqb x 0) new x)
      (TriesTurn reach name (step slots k 0 new none) me)
  tries slots id me k new here is =
      let Fits : ℕ → Type 0 = λ j. Allows (MeetsRule n reach name opening) slots id me j
      (λ x. either (eqb x 0) new x)
      (TriesTurn reach name (step slots j 0 new none) me) in
      subst Fits (sym here)
      (λ s r _ at _. let x : ℕ = get_or s.words n 0 in let t = r.standing in dite (ℕ_discrete x 0)
      (λ hit. let w : PassView V N = after_try (Held t.value) me.0 in
      let After : Bool → Type 0 = λ b. MeetsRule n reach name opening
      (stepped s n (either b new x) id me.1 w (takes 0 (Some t.value))) in (
        w,
        takes 0 (Some t.value),
        r.value hit,
        subst After (sym (eq-eqb x 0 hit)) (takes_turn s r id me.0 new at is hit),
        (
          (λ _. (
            t.value,
            refl,
            r.one_name.value
                ∙ sym (r.one_name.passes id me.0 at),
            covers s r id me.0 at,
          )),
          λ miss. absurd (miss hit),
        ),
      ))
      (λ miss. let w : PassView V N = after_try (Busy x) me.0 in
      let After : Bool → Type 0 = λ b. MeetsRule n reach name opening
      (stepped s n (either b new x) id me.1 w keeps) in
      let Words : List ℕ → Type 0 = λ ws. MeetsRule n reach name opening (moved s ws s.homes id w) in
      let steps = same_role n reach name opening s r id me.0 w s.words at (refl, refl) refl refl
      (λ _ _. refl) in
      let stop = stop_stays n reach name opening s t id me.0 w s.words at r.stop refl refl
      (λ e. r.stop.found id me.0 at e) in (
        w,
        keeps,
        tt,
        subst After (sym (ne_eqb x 0 miss)) (subst Words (sym (set-get_or s.words n 0))
            (quiet_keeps n reach name opening s r id me.0 w s.words steps refl refl stop)),
        ((λ hit. absurd (miss hit)), λ _. refl),
      )))

  -- what a pass gives back is known of its role as before, but for the reach that a lane gave
  gives_steps : (s : State (Option V) (PassView V N)) (r : MeetsRule n reach name opening s) (id : ℕ)
      (v : PassView V N) (u : V) → get_elem? s.views id ≡ some v → (may : MayGive reach name n u v)
      → may.taken ≡ r.standing.value
      → Steps n reach name opening s r.standing id v
      (record (after_give u v) { role = role_after_give reach u v.role })
      (set s.words n 0) u
  gives_steps s r id v u at may own = let t = r.standing in let few = r.lanes.most in
      let role : Role = role_after_give reach u v.role in
      let else = λ (j : ℕ) (l : j < n). sym (get_or-set_other s.words n j 0 0 (λ e. omega arith)) in
      let taken = λ (j : ℕ). ap (λ (z : V). reach z j) own in
      let others = λ (j : ℕ) (l : j < n) (away : (p : LaneView) → v.role ≡ Raises p → p.lane ≢ j).
      sym (may.others j l away ∙ taken j) in record {
        at = at;
        same_name = refl;
        same_opening = refl;
        value_name = may.same_name ∙ ap name own;
        kind = give_kind reach u v.role;
        wide = length-set s.words n 0;
        rises = λ j l. let a = else j l in omega arith;
        others = λ j a _. else j (omega arith);
        others_reach = λ j a away. others j (omega arith)
            (λ p is e. away (ap t.seat_of (sym e) ∙ (r.lanes.one_pass id v at p is).1));
        rest = λ j a l. else j l;
        rest_reach = λ j a l. others j l
            (λ p is e. let its = r.lanes.one_pass id v at p is in let below = its.0 in omega arith);
        within = λ j l. let a = r.reaches.words j l in let b = else j l in let c = may.rises j l in
            let d = taken j in omega arith;
        word = word v.role refl;
        given = given v.role;
        reads = reads v.role refl;
      }
    where
      word : (role : Role) → v.role ≡ role → (q : LaneView) → role_after_give reach u role ≡ Raises q
          → q.word ≡ get_or (set s.words n 0) q.lane 0
      word (Raises p) is q e = let its = r.lanes.one_pass id v at p is in let below = its.0 in
          let few = r.lanes.most in let Word : LaneView → Type 0 =
          λ b. b.word ≡ get_or (set s.words n 0) b.lane 0 in
          lane_fact Word (record p { reach_given = reach u p.lane }) q e (r.lanes.words id v at p is
          ∙ sym (get_or-set_other s.words n p.lane 0 0 (λ z. omega arith)))
      word (Reads p) is q e = absurd (lane_reads q p (sym e))

      given : (role : Role) (q : LaneView) → role_after_give reach u role ≡ Raises q
          → q.reach_given ≡ reach u q.lane
      given (Raises p) q e = let Given : LaneView → Type 0 = λ b. b.reach_given ≡ reach u b.lane in
          lane_fact Given (record p { reach_given = reach u p.lane }) q e refl
      given (Reads p) q e = absurd (lane_reads q p (sym e))

      reads : (role : Role) → v.role ≡ role → (q : ReaderView) → role_after_give reach u role ≡ Reads q
          → (k : ℕ) → k < n → get_or q.words_read k 0 ≤ get_or (set s.words n 0) k 0
      reads (Raises p) is q e = absurd (lane_reads _ q e)
      reads (Reads p) is q e = λ k l. let a = r.reaches.reads id v at q (is ∙ e) k l in
          let b = get_or-set_other s.words n k 0 0 (λ z. omega arith) in omega arith

  pub gives_back : (slots id : ℕ) (me : Pass V N) (k : ℕ) (u : V) → k ≡ n → me.1 ≡ (0, Some u) ∷ []
      → MayGive reach name n u me.0
      → Allows (MeetsRule n reach name opening) slots id me k (λ _. 0)
      (λ _. GivesTurn reach (step slots k 0 0 none) me 0)
  gives_back slots id me k u here carried may =
      let Fits : ℕ → Type 0 = λ j. Allows (MeetsRule n reach name opening) slots id me j (λ _. 0)
      (λ _. GivesTurn reach (step slots j 0 0 none) me 0) in
      subst Fits (sym here)
      (λ s r _ at _. let t = r.standing in let v = me.0 in let ws : List ℕ = set s.words n 0 in
      let w : PassView V N = record (after_give u v) { role = role_after_give reach u v.role } in
      let homes = set s.homes 0 (some (Some u)) in let wide = r.shape.words in let deep = r.shape.slots in
      let own = r.turn.same id v at may.taken may.holds in
      let seat = r.turn.one id v at may.taken may.holds in
      let turned : get_or ws n 0 ≡ 0 = get_or-set_same s.words n 0 0 (omega arith) in
      let stop = stop_stays n reach name opening s t id v w ws at r.stop
      (sym (get_or-set_other s.words n (n + 1) 0 0 (λ e. omega arith)))
      (ap (λ (p : ReaderView). p.wrote_stop) (give_reader reach u v.role)) (λ e. r.stop.found id v at e) in
      let none_holds = each_set s.views id w (λ _ d. (z : V) → d.held_value ≡ Some z → ⊥)
      (λ j d other a z e. other (r.turn.one j d a z e ∙ sym seat)) (λ z e. none_some z e) in
      let After : List (ℕ × Option V) → Type 0 =
      λ slots. MeetsRule n reach name opening (stepped s n 0 id slots w gives) in (
        w,
        gives,
        tt,
        subst After (sym carried) (turn_keeps n reach name opening s r id v w ws homes u id
            (gives_steps s r id v u at may own) (length-set s.homes 0 (some (Some u))) stop
            record {
              taken = λ j d a z e. absurd (none_holds j d a z e);
              one = λ j d a z e. absurd (none_holds j d a z e);
              same = λ j d a z e. absurd (none_holds j d a z e);
              holder = λ z. absurd (omega arith);
            }
            (λ _. set_here s.homes 0 (some (Some u)) (omega arith))),
        λ z e. let same : u ≡ z = ap (first_slot u) (sym carried ∙ e) in
            λ i. (
              record (after_give (same i) v) { role = role_after_give reach (same i) v.role },
              rest
                  (carried i),
            ),
      ))
