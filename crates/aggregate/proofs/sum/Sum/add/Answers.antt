use Rattle.std.proofs.Common.{◌≡◌, ◌≢◌, ◌⊎◌, ℕ, ◌+◌, ◌||◌, ◌++◌, ◌∷◌, [], Bool, List, slice_index, arith, subst, inl, inr, sym, ap, ◌∙◌}
use Rattle.aggregate.specs.declared.sum.Sum.TheInside.{Inside}
use Rattle.aggregate.specs.Sum.{HasSummed, IsSum, SumView, part_of}
use Rattle.fixed_rms.specs.Root.{square}
use Rattle.aggregate.proofs.SumLaws.{in_range, summed_more}
use Rattle.aggregate.proofs.sum.Sum.add.Goals as goal
use Rattle.aggregate.proofs.sum.Sum.add.Goals.{then-self-eq0, else-self-eq0}

-- one more square to each sum
pub invariant_of-self : goal.invariant_of-self
invariant_of-self c =
    let i = c.self.inside in
    let now = c.if-self-eq0.self-inside in
    let same : (now.count ≡ i.count) × (now.squares ≡ i.squares) = elim c.if-self-eq0.branch [
      | then-self-eq0 w ↦
          (ap (λ (i : Inside). i.count) w.self-inside-is, ap (λ (i : Inside). i.squares) w.self-inside-is)
      | else-self-eq0 w ↦
          (ap (λ (i : Inside). i.count) w.self-inside-is, ap (λ (i : Inside). i.squares) w.self-inside-is)
    ] in
    let room = c.requires.room in
    let view : c.args.self.now.count ≡ i.count = ap (λ (s : SumView). s.count) (sym c.self.view_is) in
    subst (λ n. IsSum (n + 1) c.add_squares.new.squares) (sym same.0)
    (in_range i.count i.squares c.add_squares.new.squares c.args.values.now (omega (arith, view, room))
    c.self.invariant c.requires.quiet (c.self.told ∙ sym c.add_squares.array_long)
    (λ k. c.add_squares.ensures k
    ∙ ap (λ (xs : List ℕ). slice_index xs k + square (slice_index c.args.values.now k)) same.1))

-- whatever it was the sum of
pub returns-clause-value : goal.returns-clause-value
returns-clause-value c = λ parts h.
    let i = c.self.inside in
    let now = c.if-self-eq0.self-inside in
    let part = part_of c.args.span c.args.values.now c.args.flagged in
    let old : SumView = record {
      start = i.start;
      end = i.end;
      count = i.count;
      flagged = i.flagged;
      squares = i.squares;
    } in
    let same : (now.count ≡ i.count) × (now.flagged ≡ i.flagged) × (now.squares ≡ i.squares) =
    elim c.if-self-eq0.branch [
      | then-self-eq0 w ↦ (
        ap (λ (i : Inside). i.count) w.self-inside-is,
        ap (λ (i : Inside). i.flagged) w.self-inside-is,
        ap (λ (i : Inside). i.squares) w.self-inside-is,
      )
      | else-self-eq0 w ↦ (
        ap (λ (i : Inside). i.count) w.self-inside-is,
        ap (λ (i : Inside). i.flagged) w.self-inside-is,
        ap (λ (i : Inside). i.squares) w.self-inside-is,
      )
    ] in
    let begun : ((i.count ≡ 0) × (now.start ≡ c.args.span.start)) ⊎ ((i.count ≢ 0) × (now.start ≡ i.start)) =
    elim c.if-self-eq0.branch [
      | then-self-eq0 w ↦ inl (w.if-self-eq0.true, ap (λ (i : Inside). i.start) w.self-inside-is)
      | else-self-eq0 w ↦ inr (w.if-self-eq0.false, ap (λ (i : Inside). i.start) w.self-inside-is)
    ] in
    let before : HasSummed old parts = subst (λ (s : SumView). HasSummed s parts) (sym c.self.view_is) h in
    subst (λ n. HasSummed (record {
      start = now.start;
      end = c.args.span.end;
      count = n + 1;
      flagged = now.flagged || c.args.flagged;
      squares = c.add_squares.new.squares;
    }) (parts ++ part ∷ [])) (sym same.0)
    (summed_more old now.start (now.flagged || c.args.flagged) c.add_squares.new.squares parts part before
    begun
    (ap (λ (b : Bool). b || c.args.flagged) same.1)
    (λ k. c.add_squares.ensures k
    ∙ ap (λ (xs : List ℕ). slice_index xs k + square (slice_index c.args.values.now k)) same.2))
