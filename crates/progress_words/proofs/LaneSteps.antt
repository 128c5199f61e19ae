-- The load and the raise of a lane's word keep the rule.
use Rattle.std.proofs.Common.{◌≡◌, ◌≢◌, ℕ, ◌+◌, ◌<◌, ◌≤◌, List, get_or, set, sym, refl, ap, ◌∙◌, subst, arith, length-set, get_or-set_other, get_or-set_same}
use mathlib.Core.Logic.{dite}
use mathlib.Core.Option.{none}
use native.Mathlib.Decide.{ℕ_discrete}
use lib.Seq.{set-get_or}
use Rattle.atomic_table.specs.Table.{step, keeps, Allows}
use Rattle.progress_words.specs.declared.pass_view.LaneView.{LaneView}
use Rattle.progress_words.specs.declared.pass_view.PassView.{PassView}
use Rattle.progress_words.specs.declared.pass_view.ReaderView.{ReaderView}
use Rattle.progress_words.specs.declared.pass_view.Role.{Role}
use Rattle.progress_words.specs.declared.pass_view.Role.TheVariants.{Raises, Reads}
use Rattle.progress_words.specs.PassView.{lane_part, reader_part, with_load, after_load, after_raise}
use Rattle.progress_words.specs.Rule.{MeetsRule}
use Rattle.progress_words.specs.Step.{Pass, LoadsWord, RaisesWord}
use Rattle.progress_words.proofs.Keeps.{quiet_keeps}
use Rattle.progress_words.proofs.Parts.{moved, Steps, beside_lanes}
use Rattle.progress_words.proofs.Roles.{KeepsKind, lane_reads, reader_fact, lane_fact}
use Rattle.progress_words.proofs.StopParts.{stop_stays}

module _ {V N : Type 0} (n : ℕ) (reach : V → ℕ → ℕ) (name : V → N) (opening : V) where
  pub loads : (slots id : ℕ) (me : Pass V N) (k : ℕ) → me.0.role ≡ Reads (reader_part me.0.role) → k < n
      → Allows (MeetsRule n reach name opening) slots id me k (λ x. x) (LoadsWord (step slots k 0 0 none) me)
  loads slots id me k is l s r _ at _ =
      let x : ℕ = get_or s.words k 0 in let p : ReaderView = reader_part me.0.role in
      let q : ReaderView = with_load k x p in let w : PassView V N = after_load k x me.0 in
      let long = r.shape.reads id me.0 at p is in
      let Kind : Role → Type 0 = λ role. KeepsKind role (Reads q) in
      let Read : ReaderView → Type 0 = λ b. (j : ℕ) → j < n → get_or b.words_read j 0 ≤ get_or s.words j 0 in
      let mine : Read q = λ j a. dite (ℕ_discrete j k)
      (λ e. let here = get_or-set_same p.words_read k x 0 (omega arith) in
      let t : get_or (set p.words_read k x) j 0 ≡ get_or s.words j 0 =
      ap (λ (z : ℕ). get_or (set p.words_read k x) z 0) e
      ∙ (here ∙ ap (λ (z : ℕ). get_or s.words z 0) (sym e)) in
      omega arith)
      (λ e. let t = get_or-set_other p.words_read k j x 0 e in
      let b = r.reaches.reads id me.0 at p is j a in omega arith) in
      let steps = beside_lanes n reach name opening s r id me.0 w s.words at (refl, refl)
      (subst Kind (sym is) record {
        made = refl;
        splits = refl;
        reads = length-set p.words_read k x;
        loads = length-set p.loads k (get_or p.loads k 0 + 1);
      })
      refl (λ _ _. refl) (λ q' e. absurd (lane_reads q' q (sym e))) (λ q' e. reader_fact Read q q' e mine) in
      let stop = stop_stays n reach name opening s r.standing id me.0 w s.words at r.stop refl refl
      (λ e. r.stop.found id me.0 at e) in
      let After : List ℕ → Type 0 = λ ws. MeetsRule n reach name opening (moved s ws s.homes id w) in (
        w,
        keeps,
        tt,
        subst After (sym (set-get_or s.words k 0))
            (quiet_keeps n reach name opening s r id me.0 w s.words steps refl refl stop),
        (refl, r.reaches.reads id me.0 at p is k l),
      )

  pub raises : (slots id : ℕ) (me : Pass V N) (k new : ℕ) → me.0.role ≡ Raises (lane_part me.0.role)
      → (lane_part me.0.role).lane ≡ k → k < n → (lane_part me.0.role).word ≤ new
      → new ≤ (lane_part me.0.role).reach_given
      → Allows (MeetsRule n reach name opening) slots id me k (λ _. new)
      (λ _. RaisesWord (step slots k new 0 none) me new)
  raises slots id me k new is here l up low s r _ at _ =
      let p : LaneView = lane_part me.0.role in let q : LaneView = record p { word = new } in
      let w : PassView V N = after_raise new me.0 in let ws : List ℕ = set s.words k new in
      let t = r.standing in let wide = r.shape.words in let its = r.lanes.one_pass id me.0 at p is in
      let few = r.lanes.most in let below = its.0 in
      let at_k : get_or ws k 0 ≡ new = get_or-set_same s.words k new 0 (omega arith) in
      let was : p.word ≡ get_or s.words k 0 =
      r.lanes.words id me.0 at p is ∙ ap (λ (z : ℕ). get_or s.words z 0) here in
      let given : p.reach_given ≡ reach t.value k =
      r.reaches.given id me.0 at p is ∙ ap (reach t.value) here in
      let else = λ (j : ℕ) (e : j ≢ k). sym (get_or-set_other s.words k j new 0 e) in
      let Kind : Role → Type 0 = λ role. KeepsKind role (Raises q) in
      let Word : LaneView → Type 0 = λ b. b.word ≡ get_or ws b.lane 0 in
      let Given : LaneView → Type 0 = λ b. b.reach_given ≡ reach t.value b.lane in
      let steps : Steps n reach name opening s t id me.0 w ws t.value = record {
        at = at;
        same_name = refl;
        same_opening = refl;
        value_name = refl;
        kind = subst Kind (sym is) refl;
        wide = length-set s.words k new;
        rises = λ j a. dite (ℕ_discrete j k)
            (λ e. let b = ap (λ (z : ℕ). get_or ws z 0) e in let c = ap (λ (z : ℕ). get_or s.words z 0) e in
            omega arith)
            (λ e. let b = else j e in omega arith);
        others = λ j a away. else j (λ e. away (ap t.seat_of (e ∙ sym here) ∙ its.1));
        others_reach = λ _ _ _. refl;
        rest = λ j a _. else j (λ e. omega arith);
        rest_reach = λ _ _ _. refl;
        within = λ j a. dite (ℕ_discrete j k)
            (λ e. let b = ap (λ (z : ℕ). get_or ws z 0) e in let c = ap (reach t.value) e in omega arith)
            (λ e. let b = else j e in let c = r.reaches.words j a in omega arith);
        word = λ q' e. lane_fact Word q q' e (sym (ap (λ (z : ℕ). get_or ws z 0) here ∙ at_k));
        given = λ q' e. lane_fact Given q q' e (r.reaches.given id me.0 at p is);
        reads = λ q' e. absurd (lane_reads q q' e);
      } in
      let stop = stop_stays n reach name opening s t id me.0 w ws at r.stop (else (n + 1) (λ e. omega arith))
      (ap (λ (role : Role). (reader_part role).wrote_stop) (sym is)) (λ e. r.stop.found id me.0 at e) in (
        w,
        keeps,
        tt,
        quiet_keeps n reach name opening s r id me.0 w ws steps refl (sym (else n (λ e. omega arith))) stop,
        refl,
      )
