-- What holds of each view, where one view is changed and where one more comes in.
use Rattle.std.proofs.Common.{◌≡◌, ◌≢◌, ℕ, List, [], ◌∷◌, ◌++◌, length, set, sym, subst, ⊎_elim, length-set, ◌∙◌}
use mathlib.Core.Option.{some}
use lib.ListN.{get_elem?}
use Rattle.atomic_table.proofs.Lists.{at_set}
use Rattle.progress_words.specs.declared.pass_view.LaneView.{LaneView}
use Rattle.progress_words.specs.declared.pass_view.PassView.{PassView}
use Rattle.progress_words.specs.declared.pass_view.ReaderView.{ReaderView}
use Rattle.progress_words.specs.declared.pass_view.Role.TheVariants.{Raises, Reads}
use Rattle.progress_words.specs.Seat.{EachPass, EachLane, EachReader}
use Rattle.progress_words.proofs.Lists.{at_end}

module _ {V N : Type 0} (views : List (PassView V N)) where
  -- the view of the pass id becomes w
  pub each_set : (id : ℕ) (w : PassView V N) (Fact : ℕ → PassView V N → Type 0)
      → ((j : ℕ) (v : PassView V N) → j ≢ id → get_elem? views j ≡ some v → Fact j v) → Fact id w
      → EachPass (set views id w) Fact
  each_set id w Fact others mine j d e =
      ⊎_elim (λ (h : (j ≡ id) × (w ≡ d)).
      subst (λ (x : ℕ × PassView V N). Fact x.0 x.1) (λ i. (sym h.0 i, h.1 i)) mine)
      (λ (h : (j ≢ id) × (get_elem? views j ≡ some d)). others j d h.0 h.1) (at_set views id j w d e)

  pub each_lane_set : (id : ℕ) (w : PassView V N) (Fact : ℕ → LaneView → Type 0)
      → ((j : ℕ) (v : PassView V N) → j ≢ id → get_elem? views j ≡ some v
      → (p : LaneView) → v.role ≡ Raises p → Fact j p)
      → ((p : LaneView) → w.role ≡ Raises p → Fact id p) → EachLane (set views id w) Fact
  each_lane_set id w Fact = each_set id w (λ j v. (p : LaneView) → v.role ≡ Raises p → Fact j p)

  pub each_reader_set : (id : ℕ) (w : PassView V N) (Fact : ℕ → ReaderView → Type 0)
      → ((j : ℕ) (v : PassView V N) → j ≢ id → get_elem? views j ≡ some v
      → (p : ReaderView) → v.role ≡ Reads p → Fact j p)
      → ((p : ReaderView) → w.role ≡ Reads p → Fact id p) → EachReader (set views id w) Fact
  each_reader_set id w Fact = each_set id w (λ j v. (p : ReaderView) → v.role ≡ Reads p → Fact j p)

  -- the view of the pass id becomes w, and a new pass has u
  pub each_split : (id : ℕ) (w u : PassView V N) (Fact : ℕ → PassView V N → Type 0)
      → ((j : ℕ) (v : PassView V N) → j ≢ id → get_elem? views j ≡ some v → Fact j v) → Fact id w
      → Fact (length views) u → EachPass (set views id w ++ u ∷ []) Fact
  each_split id w u Fact others mine new j d e =
      ⊎_elim (λ (h : get_elem? (set views id w) j ≡ some d). each_set id w Fact others mine j d h)
      (λ (h : (j ≡ length (set views id w)) × (u ≡ d)). subst (λ (x : ℕ × PassView V N). Fact x.0 x.1)
      (λ i. (sym (h.0 ∙ length-set views id w) i, h.1 i)) new)
      (at_end (set views id w) u d j e)

  pub each_lane_split : (id : ℕ) (w u : PassView V N) (Fact : ℕ → LaneView → Type 0)
      → ((j : ℕ) (v : PassView V N) → j ≢ id → get_elem? views j ≡ some v
      → (p : LaneView) → v.role ≡ Raises p → Fact j p)
      → ((p : LaneView) → w.role ≡ Raises p → Fact id p)
      → ((p : LaneView) → u.role ≡ Raises p → Fact (length views) p)
      → EachLane (set views id w ++ u ∷ []) Fact
  each_lane_split id w u Fact = each_split id w u (λ j v. (p : LaneView) → v.role ≡ Raises p → Fact j p)

  pub each_reader_split : (id : ℕ) (w u : PassView V N) (Fact : ℕ → ReaderView → Type 0)
      → ((j : ℕ) (v : PassView V N) → j ≢ id → get_elem? views j ≡ some v
      → (p : ReaderView) → v.role ≡ Reads p → Fact j p)
      → ((p : ReaderView) → w.role ≡ Reads p → Fact id p)
      → ((p : ReaderView) → u.role ≡ Reads p → Fact (length views) p)
      → EachReader (set views id w ++ u ∷ []) Fact
  each_reader_split id w u Fact = each_split id w u (λ j v. (p : ReaderView) → v.role ≡ Reads p → Fact j p)
