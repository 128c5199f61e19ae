-- The stop word written, and its load, keep the rule.
use Rattle.std.proofs.Common.{◌≡◌, ℕ, ◌+◌, ◌<◌, ◌≤◌, List, get_or, set, Option, true, false, sym, refl, ap, ◌∙◌, subst, arith, length-set, get_or-set_other, get_or-set_same}
use mathlib.Core.Logic.{dite}
use mathlib.Core.Option.{none, some, some-injective}
use native.Mathlib.Decide.{ℕ_discrete}
use lib.ListN.{get_elem?}
use lib.Seq.{set-get_or}
use Rattle.atomic_table.specs.Table.{State, step, keeps, Allows}
use Rattle.atomic_table.proofs.Lists.{set_here}
use Rattle.progress_words.specs.declared.pass_view.PassView.{PassView}
use Rattle.progress_words.specs.declared.pass_view.ReaderView.{ReaderView}
use Rattle.progress_words.specs.declared.pass_view.Role.{Role}
use Rattle.progress_words.specs.declared.pass_view.Role.TheVariants.{Reads}
use Rattle.progress_words.specs.PassView.{reader_part, after_stop, after_stop_load}
use Rattle.progress_words.specs.Rule.{MeetsRule}
use Rattle.progress_words.specs.Step.{Pass, WritesStop, LoadsStop}
use Rattle.progress_words.proofs.Keeps.{quiet_keeps}
use Rattle.progress_words.proofs.Lists.{inside}
use Rattle.progress_words.proofs.Parts.{moved, beside_lanes, same_role}
use Rattle.progress_words.proofs.Roles.{KeepsKind, lane_reads, reader_fact}
use Rattle.progress_words.proofs.StopParts.{StopGoes, stop_stays}

false_true : false ≡ true → ⊥
false_true e = cc

module _ {V N : Type 0} (n : ℕ) (reach : V → ℕ → ℕ) (name : V → N) (opening : V) where
  pub writes_stop : (slots id : ℕ) (me : Pass V N) (k : ℕ) → me.0.role ≡ Reads (reader_part me.0.role)
      → k ≡ n + 1
      → Allows (MeetsRule n reach name opening) slots id me k (λ _. 1)
      (λ _. WritesStop (step slots k 1 0 none) me 1)
  writes_stop slots id me k is here =
      let Fits : ℕ → Type 0 = λ j. Allows (MeetsRule n reach name opening) slots id me j (λ _. 1)
      (λ _. WritesStop (step slots j 1 0 none) me 1) in
      subst Fits (sym here) (λ s r _ at _. let p : ReaderView = reader_part me.0.role in
      let q : ReaderView = record p { wrote_stop = true } in let w : PassView V N = after_stop me.0 in
      let ws : List ℕ = set s.words (n + 1) 1 in let wide = r.shape.words in
      let now : get_or ws (n + 1) 0 ≡ 1 = get_or-set_same s.words (n + 1) 1 0 (omega arith) in
      let else = λ (j : ℕ) (l : j < n + 1). sym (get_or-set_other s.words (n + 1) j 1 0 (λ e. omega arith)) in
      let Kind : Role → Type 0 = λ role. KeepsKind role (Reads q) in
      let Read : ReaderView → Type 0 = λ b. (j : ℕ) → j < n → get_or b.words_read j 0 ≤ get_or s.words j 0 in
      let steps = beside_lanes n reach name opening s r id me.0 w ws at (refl, refl)
      (subst Kind (sym is) record { made = refl; splits = refl; reads = refl; loads = refl })
      (length-set s.words (n + 1) 1) (λ j a. else j (omega arith))
      (λ q' e. absurd (lane_reads q' q (sym e)))
      (λ q' e. reader_fact Read q q' e (r.reaches.reads id me.0 at p is)) in
      let stop : StopGoes n reach name opening s r.standing id me.0 w ws = record {
        bit = omega arith;
        rises = λ _. now;
        found = λ _. now;
        wrote = λ _ _ _. now;
        writer = λ _. record {
          seat = id;
          view = w;
          part = q;
          at = set_here s.views id w (inside s.views id me.0 at);
          reads = refl;
          wrote = refl;
        };
      } in (
        w,
        keeps,
        tt,
        quiet_keeps n reach name opening s r id me.0 w ws steps refl (sym (else n (omega arith))) stop,
        refl,
      ))

  -- the one reader has not written the stop word, so it is 0
  unwritten : (s : State (Option V) (PassView V N)) (r : MeetsRule n reach name opening s) (id : ℕ)
      (v : PassView V N) (p : ReaderView) → get_elem? s.views id ≡ some v → v.role ≡ Reads p → p.splits ≡ 0
      → p.wrote_stop ≡ false → get_or s.words (n + 1) 0 ≡ 0
  unwritten s r id v p at is alone unset = dite (ℕ_discrete (get_or s.words (n + 1) 0) 0) (λ e. e)
      (λ e. let x = r.stop.writer (omega arith) in
      let same : x.seat ≡ id = r.sole_reader id v at p is alone x.seat x.view x.at x.part x.reads in
      let view : x.view ≡ v = some-injective x.view v (sym x.at ∙ (ap (get_elem? s.views) same ∙ at)) in
      let role : Reads x.part ≡ Reads p = sym x.reads ∙ (ap (λ (d : PassView V N). d.role) view ∙ is) in
      let Wrote : ReaderView → Type 0 = λ b. b.wrote_stop ≡ true in
      absurd (false_true (sym unset ∙ reader_fact Wrote x.part p role x.wrote)))

  pub loads_stop : (slots id : ℕ) (me : Pass V N) (k : ℕ) → k ≡ n + 1
      → Allows (MeetsRule n reach name opening) slots id me k (λ x. x) (LoadsStop (step slots k 0 0 none) me)
  loads_stop slots id me k here =
      let Fits : ℕ → Type 0 = λ j. Allows (MeetsRule n reach name opening) slots id me j (λ x. x)
      (LoadsStop (step slots j 0 0 none) me) in
      subst Fits (sym here) (λ s r _ at _. let x : ℕ = get_or s.words (n + 1) 0 in
      let w : PassView V N = after_stop_load x me.0 in
      let steps = same_role n reach name opening s r id me.0 w s.words at (refl, refl) refl refl
      (λ _ _. refl) in
      let stop = stop_stays n reach name opening s r.standing id me.0 w s.words at r.stop refl refl
      (λ e. e) in
      let After : List ℕ → Type 0 = λ ws. MeetsRule n reach name opening (moved s ws s.homes id w) in (
        w,
        keeps,
        tt,
        subst After (sym (set-get_or s.words (n + 1) 0))
            (quiet_keeps n reach name opening s r id me.0 w s.words steps refl refl stop),
        (
          refl,
          record {
            bit = r.stop.bit;
            again = r.stop.found id me.0 at;
            wrote = r.stop.wrote id me.0 at;
            alone = λ p is a. unwritten s r id me.0 p at is a.0 a.1;
          },
        ),
      ))
