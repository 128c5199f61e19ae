use Rattle.std.proofs.Common.{◌∙◌, ap, subst}
use Rattle.fixed_rms.specs.Root.{IsGreatestRoot, isqrt, rms}
use Rattle.fixed_rms.proofs.mean_root.rms.Goals as goal

-- the root of the mean square
pub returns-clause-value : goal.returns-clause-value
unfolding rms
returns-clause-value c = c.isqrt.ensures.value ∙ ap isqrt c.mean_square.ensures.value

-- which is the greatest
pub returns-clause-greatest : goal.returns-clause-greatest
returns-clause-greatest c =
    subst (λ x. IsGreatestRoot x c.isqrt.result) c.mean_square.ensures.value c.isqrt.ensures.greatest
