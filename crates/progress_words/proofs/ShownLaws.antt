-- What a table shows that meets the rule.
use Rattle.std.proofs.Common.{◌≡◌, ℕ, ◌+◌, get_or, Option, Some, None, Bool, true, false, sym, refl, ap, ◌∙◌, arith}
use mathlib.Core.Logic.{dite}
use mathlib.Core.Option.{some, some-injective}
use native.Mathlib.Decide.{ℕ_discrete}
use lib.ListN.{get_elem?}
use Rattle.atomic_table.specs.Table.{State}
use Rattle.progress_words.specs.declared.pass_view.PassView.{PassView}
use Rattle.progress_words.specs.Rule.{MeetsRule}
use Rattle.progress_words.specs.Seat.{number_of, EachPass, EachReader}
use Rattle.progress_words.specs.Shown.{Shows, ShowsWords}
use Rattle.progress_words.proofs.Lists.{none_some}
use Rattle.progress_words.proofs.SplitParts.{false_true}

holds_none : {V : Type 0} (o : Option V) → ((u : V) → o ≡ Some u → ⊥) → o ≡ None
holds_none None never = refl
holds_none (Some u) never = absurd (never u refl)

is_false : (b : Bool) → (b ≡ true → ⊥) → b ≡ false
is_false false never = refl
is_false true never = absurd (never refl)

module _ {V N : Type 0} (n : ℕ) (reach : V → ℕ → ℕ) (name : V → N) (opening : V)
    (s : State (Option V) (PassView V N)) (r : MeetsRule n reach name opening s) where
  -- a pass that holds has the number of the turn word
  holds_number : (seat : ℕ) (v : PassView V N) → get_elem? s.views seat ≡ some v → (u : V)
      → v.held_value ≡ Some u
      → get_or s.words n 0 ≡ number_of n v.role
  holds_number seat v at u held = let x = r.turn.holder (r.turn.taken seat v at u held) in
      let is : x.view ≡ v = some-injective x.view v (sym x.at
      ∙ (ap (get_elem? s.views) (sym (r.turn.one seat v at u held)) ∙ at)) in
      x.numbered ∙ ap (λ (d : PassView V N). number_of n d.role) is

  -- a turn that is free is held by none, and one that none holds is free
  free : get_or s.words n 0 ≡ 0 → EachPass s.views (λ _ v. v.held_value ≡ None)
  free zero seat v at = holds_none v.held_value
      (λ u held. let taken = r.turn.taken seat v at u held in omega arith)

  none_holds : EachPass s.views (λ _ v. v.held_value ≡ None) → get_or s.words n 0 ≡ 0
  none_holds none = dite (ℕ_discrete (get_or s.words n 0) 0) (λ e. e)
      (λ e. let x = r.turn.holder (omega arith) in
      absurd (none_some r.standing.value (sym (none r.standing.holder x.view x.at) ∙ x.holds)))

  -- the stop word is 0 where no reader wrote it, and there alone
  unwritten : get_or s.words (n + 1) 0 ≡ 0 → EachReader s.views (λ _ p. p.wrote_stop ≡ false)
  unwritten zero seat v at p is =
      is_false p.wrote_stop (λ wrote. let one = r.stop.wrote seat v at p is wrote in omega arith)

  none_wrote : EachReader s.views (λ _ p. p.wrote_stop ≡ false) → get_or s.words (n + 1) 0 ≡ 0
  none_wrote none = dite (ℕ_discrete (get_or s.words (n + 1) 0) 0) (λ e. e)
      (λ e. let x = r.stop.writer (omega arith) in
      absurd (false_true (sym (none x.seat x.view x.at x.part x.reads) ∙ x.wrote)))

  pub shown : Shows n reach name s
  shown = record {
    value = r.standing.value;
    names = λ seat v at. r.one_name.passes seat v at ∙ sym r.one_name.value;
    words = r.reaches.words;
    raised = λ seat v at p is. let its = r.lanes.one_pass seat v at p is in let below = its.0 in
        let few = r.lanes.most in let word = r.lanes.words seat v at p is in
        let given = r.reaches.given seat v at p is in let within = r.reaches.words p.lane (omega arith) in
        (word, omega arith);
    reads = r.reaches.reads;
    at_home = r.value;
    out = r.turn.same;
    turn = holds_number;
    free = (free, none_holds);
    one = λ seat v at u held other w there away. holds_none w.held_value (λ z e.
        away (r.turn.one other w there z e ∙ sym (r.turn.one seat v at u held)));
    bit = r.stop.bit;
    stop = (unwritten, none_wrote);
  }

pub shows : {V N : Type 0} (reach : V → ℕ → ℕ) (name : V → N) → ShowsWords reach name
shows reach name n opening s r = shown n reach name opening s r
