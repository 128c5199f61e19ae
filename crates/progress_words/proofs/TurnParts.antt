-- What a step of one pass keeps of the parts on the turn and the value, where it leaves the turn word.
use Rattle.std.proofs.Common.{◌≡◌, ℕ, ◌<◌, List, get_or, set, Option, Some, sym, ap, ◌∙◌, subst, arith}
use mathlib.Core.Logic.{dite}
use mathlib.Core.Option.{some, some-injective}
use native.Mathlib.Decide.{ℕ_discrete}
use lib.ListN.{get_elem?}
use Rattle.atomic_table.specs.Table.{State}
use Rattle.atomic_table.proofs.Lists.{set_here, set_else}
use Rattle.progress_words.specs.declared.pass_view.PassView.{PassView}
use Rattle.progress_words.specs.Rule.{HasTurn, HasValue}
use Rattle.progress_words.specs.Seat.{number_of, IsSeatOfHolder, Standing}
use Rattle.progress_words.proofs.Lists.{inside}
use Rattle.progress_words.proofs.Roles.{KeepsKind, same_number}
use Rattle.progress_words.proofs.Parts.{moved}
use Rattle.progress_words.proofs.Views.{each_set}

module _ {V N : Type 0} where
  -- the holder stays the holder, where the pass id keeps its kind and what it holds
  pub holder_stays : (views : List (PassView V N)) (id : ℕ) (v w : PassView V N) → get_elem? views id ≡ some v
      → KeepsKind v.role w.role → w.held_value ≡ v.held_value → (n seat : ℕ) (u : V) (number : ℕ)
      → IsSeatOfHolder views n seat u number → IsSeatOfHolder (set views id w) n seat u number
  holder_stays views id v w at kind held n seat u number x = dite (ℕ_discrete seat id)
      (λ e. let is : x.view ≡ v = some-injective x.view v (sym x.at ∙ (ap (get_elem? views) e ∙ at)) in
      record {
        view = w;
        at = ap (get_elem? (set views id w)) e ∙ set_here views id w (inside views id v at);
        holds = held ∙ (ap (λ (d : PassView V N). d.held_value) (sym is) ∙ x.holds);
        numbered = x.numbered ∙ (ap (λ (d : PassView V N). number_of n d.role) is
            ∙ sym (same_number n v.role w.role kind));
      })
      (λ e. record {
        view = x.view;
        at = set_else views id seat w e ∙ x.at;
        holds = x.holds;
        numbered = x.numbered;
      })

module _ {V N : Type 0} (n : ℕ) (reach : V → ℕ → ℕ) (name : V → N) (opening : V)
    (s : State (Option V) (PassView V N)) (t : Standing V) (id : ℕ) (v w : PassView V N) (ws : List ℕ)
    (at : get_elem? s.views id ≡ some v) (turn : get_or ws n 0 ≡ get_or s.words n 0) where
  pub turn_stays : KeepsKind v.role w.role → w.held_value ≡ v.held_value → HasTurn n reach name opening s t
      → HasTurn n reach name opening (moved s ws s.homes id w) t
  turn_stays kind held h = record {
    taken = each_set s.views id w (λ _ d. (u : V) → d.held_value ≡ Some u → 0 < get_or ws n 0)
        (λ j d _ at u e. let a = h.taken j d at u e in omega arith)
        (λ u e. let a = h.taken id v at u (sym held ∙ e) in omega arith);
    one = each_set s.views id w (λ seat d. (u : V) → d.held_value ≡ Some u → seat ≡ t.holder)
        (λ j d _ at. h.one j d at) (λ u e. h.one id v at u (sym held ∙ e));
    same = each_set s.views id w (λ _ d. (u : V) → d.held_value ≡ Some u → u ≡ t.value)
        (λ j d _ at. h.same j d at) (λ u e. h.same id v at u (sym held ∙ e));
    holder = λ z. let a : 0 < get_or s.words n 0 = omega arith in
        let Seat : ℕ → Type 0 = IsSeatOfHolder (set s.views id w) n t.holder t.value in
        subst Seat (sym turn) (holder_stays s.views id v w at kind held n t.holder t.value _ (h.holder a));
  }

  pub value_stays : HasValue n reach name opening s t
      → HasValue n reach name opening (moved s ws s.homes id w) t
  value_stays h z = h (sym turn ∙ z)
