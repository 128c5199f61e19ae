use Rattle.std.proofs.Common.{◌≡◌, ℕ, ◌/◌, ◌<◌, ◌≤◌, true, false, cond, nat_lt, arith, slice_index, set, length-set, get_or, inl, inr, sym, ap, ◌∙◌}
use Rattle.std.proofs.lemmas.Bool.Decides.{nat_tests}
use Rattle.std.proofs.lemmas.Bool.{cases_lt}
use Rattle.std.proofs.lemmas.List.{get_or-set_same, get_or-set_other}
use Rattle.std.proofs.lemmas.List.Elements.{All-set}
use Rattle.fixed_rms.specs.Root.{isqrt}
use Rattle.pq_words.specs.declared.limits.TheConstants.{MOST_MICROVOLTS}
use Rattle.aggregate.proofs.SumLaws.{sixteen}
use Rattle.aggregate.proofs.sum.roots.Goals as goal

-- one more root
pub loop-channel-preserved : goal.loop-channel-preserved
loop-channel-preserved c =
    let before = c.loop-channel.invariant in
    let values = c.loop-channel.values in
    let i = c.loop-channel.channel in
    let v = c.isqrt.result in
    let long = before.long in
    let inside : i < 16 = omega arith in
    record {
      long = omega (arith, length-set {A = ℕ});
      done = λ k below. elim (cases_lt k i) [
        | inl less ↦
            get_or-set_other values i k v 0 (λ e. absurd (omega (arith, e, less))) ∙ before.done k less
        | inr past ↦
            let here : k ≡ i = omega (arith, past, below) in
            ap (λ j. get_or (set values i v) j 0) here
            ∙ get_or-set_same values i v 0 (omega (arith, inside, long))
            ∙ c.isqrt.ensures.value
            ∙ ap (λ n. isqrt (slice_index c.args.squares.now i / n)) c.from.ensures
            ∙ ap (λ j. isqrt (slice_index c.args.squares.now j / c.args.count)) (sym here)
      ];
      left = λ k from.
          get_or-set_other values i k v 0 (λ e. absurd (omega (arith, e, from)))
          ∙ before.left k (omega (arith, from));
      quiet = All-set (λ value. value ≤ MOST_MICROVOLTS) values i v c.isqrt.ensures.within before.quiet;
    }

-- those of all channels, and 0 past them
pub returns-clause-value : goal.returns-clause-value
returns-clause-value c =
    let after = c.loop-channel.invariant in
    let channels = c.args.channels in
    let root : ℕ → ℕ = λ k. isqrt (slice_index c.args.squares.now k / c.args.count) in
    sixteen (λ k. cond (nat_lt k channels) (root k) 0) c.loop-channel.values after.long
    (λ k inside. elim (cases_lt k channels) [
      | inl less ↦
          let yes : nat_lt k channels ≡ true = grind (arith, nat_tests, less) in
          after.done k (omega (arith, less)) ∙ ap (λ b. cond b (root k) 0) (sym yes)
      | inr past ↦
          let no : nat_lt k channels ≡ false = grind (arith, nat_tests, past) in
          after.left k (omega (arith, past)) ∙ ap (λ b. cond b (root k) 0) (sym no)
    ])

pub returns-clause-quiet : goal.returns-clause-quiet
returns-clause-quiet c = c.loop-channel.invariant.quiet
