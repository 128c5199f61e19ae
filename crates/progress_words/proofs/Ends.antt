-- The table as it is laid meets the rule, and a table that is closed with a free turn has the value at home.
use Rattle.std.proofs.Common.{◌≡◌, ◌≢◌, ℕ, ◌+◌, ◌<◌, ◌≤◌, List, [], ◌∷◌, length, get_or, Option, Some, true, replicate, sym, refl, ap, ◌∙◌, subst, arith}
use mathlib.Core.Option.{some}
use lib.ListN.{get_elem?, length-replicate}
use Rattle.atomic_table.specs.Table.{State, opening, Final}
use Rattle.progress_words.specs.declared.pass_view.PassView.{PassView}
use Rattle.progress_words.specs.declared.pass_view.ReaderView.{ReaderView}
use Rattle.progress_words.specs.declared.pass_view.Role.{Role}
use Rattle.progress_words.specs.declared.pass_view.Role.TheVariants.{Raises, Reads}
use Rattle.progress_words.specs.PassView.{first_view, fresh_reader}
use Rattle.progress_words.specs.Rule.{MeetsRule}
use Rattle.progress_words.specs.Seat.{EachPass, EachReader, number_of}
use Rattle.progress_words.specs.Words.{IsNumber}
use Rattle.progress_words.proofs.Lists.{get_or-at, get_or-zeros, none_some, only_at}
use Rattle.progress_words.proofs.Roles.{lane_reads, reader_fact}
use Rattle.progress_words.proofs.SplitParts.{false_true}

module _ {V N : Type 0} (n : ℕ) (reach : V → ℕ → ℕ) (name : V → N) (first : V) where
  -- what holds of the first pass holds of each, where it is the only one
  each_first : (v : PassView V N) (Fact : ℕ → PassView V N → Type 0) → Fact 0 v → EachPass (v ∷ []) Fact
  each_first v Fact fact j d e = let t = only_at v d j e in
      subst (λ (x : ℕ × PassView V N). Fact x.0 x.1) (λ i. (sym t.0 i, t.1 i)) fact

  pub starts : (words : List ℕ) → words ≡ replicate (n + 2) 0
      → MeetsRule n reach name first (opening words (Some first ∷ []) (first_view n name first))
  starts words is =
      let v : PassView V N = first_view n name first in let p : ReaderView = fresh_reader n 0 in
      let Start : List ℕ → Type 0 = λ ws. MeetsRule n reach name first (opening ws (Some first ∷ []) v) in
      let zero = get_or-zeros (n + 2) in
      let Reader : (ReaderView → Type 0) → Type 0 = λ Fact. EachReader (v ∷ []) (λ _ b. Fact b) in
      let reader = λ (Fact : ReaderView → Type 0) (fact : Fact p).
      each_first v (λ _ d. (b : ReaderView) → d.role ≡ Reads b → Fact b)
      (λ b e. reader_fact Fact p b e fact) in
      subst Start (sym is) record {
        standing = record { lanes_made = 0; seat_of = λ _. 0; value = first; holder = 0 };
        shape = record {
          words = length-replicate (n + 2) 0;
          slots = refl;
          reads = reader (λ b. length b.words_read ≡ n) (length-replicate n 0);
          loads = reader (λ b. length b.loads ≡ n) (length-replicate n 0);
        };
        one_name = record {
          value = refl;
          passes = each_first v (λ _ d. d.name ≡ name first) refl;
          openings = each_first v (λ _ d. d.opening ≡ first) refl;
        };
        lanes = record {
          most = omega arith;
          counted = reader (λ b. b.lanes_made ≡ 0) refl;
          has_pass = λ _ l. absurd (omega arith);
          one_pass = each_first v (λ seat d. (b : _) → d.role ≡ Raises b → (b.lane < 0) × (0 ≡ seat))
              (λ b e. absurd (lane_reads b p (sym e)));
          words = each_first v
              (λ _ d. (b : _) → d.role ≡ Raises b → b.word ≡ get_or (replicate (n + 2) 0) b.lane 0)
              (λ b e. absurd (lane_reads b p (sym e)));
          zero = λ k _ _. zero k;
          same = λ _ _ _. refl;
        };
        reaches = record {
          reads = reader (λ b. (k : ℕ) → k < n → get_or b.words_read k 0 ≤ get_or (replicate (n + 2) 0) k 0)
              (λ k _. let a = get_or-zeros n k in let b = zero k in omega arith);
          words = λ k _. let a = zero k in omega arith;
          given = each_first v (λ _ d. (b : _) → d.role ≡ Raises b → b.reach_given ≡ reach first b.lane)
              (λ b e. absurd (lane_reads b p (sym e)));
        };
        turn = record {
          taken = each_first v (λ _ d. (u : V) → d.held_value ≡ Some u → 0 < get_or (replicate (n + 2) 0) n 0)
              (λ u e. absurd (none_some u e));
          one = each_first v (λ seat d. (u : V) → d.held_value ≡ Some u → seat ≡ 0) (λ _ _. refl);
          same = each_first v (λ _ d. (u : V) → d.held_value ≡ Some u → u ≡ first)
              (λ u e. absurd (none_some u e));
          holder = λ z. let a = zero n in absurd (omega arith);
        };
        stop = record {
          bit = let a = zero (n + 1) in omega arith;
          found = each_first v (λ _ d. d.stop_found ≡ 1 → get_or (replicate (n + 2) 0) (n + 1) 0 ≡ 1)
              (λ e. absurd (omega arith));
          wrote = reader (λ b. b.wrote_stop ≡ true → get_or (replicate (n + 2) 0) (n + 1) 0 ≡ 1)
              (λ e. absurd (false_true e));
          writer = λ z. let a = zero (n + 1) in absurd (omega arith);
        };
        sole_reader = each_first v (λ seat d. (b : ReaderView) → d.role ≡ Reads b → b.splits ≡ 0
            → EachReader (v ∷ []) (λ other _. other ≡ seat)) (λ _ _ _ j d e _ _. (only_at v d j e).0);
        value = λ _. refl;
      }

  pub closes : (ws : List ℕ) (xs : List (Option V)) → Final (MeetsRule n reach name first) ws xs
      → (k turn : ℕ)
      → k ≡ n → turn ≡ 0 → get_elem? ws k ≡ some turn
      → (u : V) × (get_elem? xs 0 ≡ some (Some u)) × (name u ≡ name first)
  closes ws xs f k turn here free e = let r = f.1 in let t = r.standing in (
    t.value,
    f.4 0 (Some t.value) (r.value (ap (λ l. get_or l n 0) f.2
        ∙ (ap (λ j. get_or ws j 0) (sym here) ∙ (get_or-at ws k turn 0 e ∙ free)))),
    r.one_name.value,
  )

  -- the number of a pass is at most a reader's
  number_most : (s : State (Option V) (PassView V N)) (r : MeetsRule n reach name first s) (id : ℕ)
      (v : PassView V N) → get_elem? s.views id ≡ some v → (role : Role) → v.role ≡ role
      → number_of n role ≤ n + 1
  number_most s r id v at (Raises p) is = let its = r.lanes.one_pass id v at p is in let below = its.0 in
      let few = r.lanes.most in omega arith
  number_most s r id v at (Reads p) is = omega arith

  pub stays_held : (ws : List ℕ) (xs : List (Option V)) → Final (MeetsRule n reach name first) ws xs
      → (k turn : ℕ)
      → k ≡ n → turn ≢ 0 → get_elem? ws k ≡ some turn → IsNumber n turn
  stays_held ws xs f k turn here taken e = let s = f.0 in let r = f.1 in
      let is : get_or s.words n 0 ≡ turn = ap (λ l. get_or l n 0) f.2
      ∙ (ap (λ j. get_or ws j 0) (sym here) ∙ get_or-at ws k turn 0 e) in
      let x = r.turn.holder (omega arith) in let number = x.numbered in
      let most = number_most s r r.standing.holder x.view x.at x.view.role refl in (taken, omega arith)
