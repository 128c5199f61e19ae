use Rattle.std.proofs.Common.{◌≡◌, ◌<◌, ℕ, List, All, true, false, Some, ◌∙◌, ap, subst, sym, arith}
use Rattle.freq10s.specs.Cycles.{boundaries_from, cycles_more, is_next}
use Rattle.freq10s.specs.Frequency.{boundaries_within}
use Rattle.pq_words.specs.declared.limits.TheConstants.{MOST_SAMPLES}
use Rattle.zero_cross.specs.Boundary.{AreBoundaries}
use Rattle.freq10s.proofs.CycleLaws.{after_first, before_fewer, cycles_step, ends_at, ends_before, fewer_boundaries, from_all, from_same, last_is, within_more, within_same}
use Rattle.freq10s.proofs.cycles.CycleBoundaries.pass.Goals as goal

-- a boundary in the interval is the last so far
pub loop-boundary-preserved-then-boundary-low : goal.loop-boundary-preserved-then-boundary-low
loop-boundary-preserved-then-boundary-low c =
    let low = c.args.low in
    let high = c.args.high in
    let cycles = c.loop-boundary.cycles in
    let k = c.in-Some.boundary in
    let later = c.next_below.new.self in
    let splits = c.in-Some.ensures.0 in
    let are = subst (λ (ks : List ℕ). AreBoundaries ks MOST_SAMPLES) splits
    c.loop-boundary.invariant.boundaries in
    let last : c.with_boundary.result.last ≡ k = ap (λ w. w.last) c.with_boundary.ensures.value
    ∙ last_is cycles k in
    record {
      value = ap (λ w. cycles_more (Some w) (boundaries_within later low high)) c.with_boundary.ensures.value
          ∙ sym (cycles_step cycles k (boundaries_within later low high))
          ∙ sym (ap (cycles_more cycles) (within_more low high k later (omega arith)
          (omega (arith, c.in-Some.ensures.1))))
          ∙ sym (ap (λ ks. cycles_more cycles (boundaries_within ks low high)) splits)
          ∙ c.loop-boundary.invariant.value;
      left = sym (from_same high k later c.in-Some.ensures.1) ∙ sym (ap (boundaries_from high) splits)
          ∙ c.loop-boundary.invariant.left;
      boundaries = fewer_boundaries k later MOST_SAMPLES are;
      rising = c.with_boundary.ensures.rising;
      within = let inside : k < MOST_SAMPLES = are.below 0 k (omega arith) in omega (arith, last, inside);
      before = subst (λ m. All (λ q. m < q) later) (sym last) (after_first k later MOST_SAMPLES are);
    }

-- one before it counts for nothing
pub loop-boundary-preserved : goal.loop-boundary-preserved
loop-boundary-preserved c =
    let low = c.args.low in
    let high = c.args.high in
    let cycles = c.loop-boundary.cycles in
    let k = c.in-Some.boundary in
    let later = c.next_below.new.self in
    let splits = c.in-Some.ensures.0 in
    let are = subst (λ (ks : List ℕ). AreBoundaries ks MOST_SAMPLES) splits
    c.loop-boundary.invariant.boundaries in
    record {
      value = sym (ap (cycles_more cycles) (within_same low high k later (omega arith)))
          ∙ sym (ap (λ ks. cycles_more cycles (boundaries_within ks low high)) splits)
          ∙ c.loop-boundary.invariant.value;
      left = sym (from_same high k later c.in-Some.ensures.1) ∙ sym (ap (boundaries_from high) splits)
          ∙ c.loop-boundary.invariant.left;
      boundaries = fewer_boundaries k later MOST_SAMPLES are;
      rising = c.loop-boundary.invariant.rising;
      within = c.loop-boundary.invariant.within;
      before = before_fewer cycles k later c.loop-boundary.self splits c.loop-boundary.invariant.before;
    }

-- the boundary at the end is the last
pub returns-then-is_next-clause-value : goal.returns-then-is_next-clause-value
returns-then-is_next-clause-value c =
    let same = c.in_default.ensures.0 in
    let is : is_next c.args.high c.loop-boundary.self ≡ true =
    sym (ap (is_next c.args.high) same) ∙ sym c.is_next.ensures ∙ c.if-is_next.true in
    ap Some c.with_boundary-then-is_next.ensures.value
    ∙ sym (ends_at c.loop-boundary.cycles c.args.low c.args.high MOST_SAMPLES c.loop-boundary.self
    c.requires.order is c.loop-boundary.invariant.boundaries)
    ∙ c.loop-boundary.invariant.value

-- it is left, and so are those after it
pub returns-then-is_next-clause-left : goal.returns-then-is_next-clause-left
returns-then-is_next-clause-left c =
    c.in_default.ensures.0
    ∙ sym (from_all c.args.high MOST_SAMPLES c.loop-boundary.self c.in_default.ensures.1
    c.loop-boundary.invariant.boundaries)
    ∙ c.loop-boundary.invariant.left

-- no boundary lies at the end
pub returns-else-is_next-clause-value : goal.returns-else-is_next-clause-value
returns-else-is_next-clause-value c =
    let same = c.in_default.ensures.0 in
    let is : is_next c.args.high c.loop-boundary.self ≡ false =
    sym (ap (is_next c.args.high) same) ∙ sym c.is_next.ensures ∙ c.if-is_next.false in
    sym (ends_before c.loop-boundary.cycles c.args.low c.args.high MOST_SAMPLES c.loop-boundary.self is
    c.in_default.ensures.1 c.loop-boundary.invariant.boundaries)
    ∙ c.loop-boundary.invariant.value

-- those after it are left
pub returns-else-is_next-clause-left : goal.returns-else-is_next-clause-left
returns-else-is_next-clause-left c =
    c.in_default.ensures.0
    ∙ sym (from_all c.args.high MOST_SAMPLES c.loop-boundary.self c.in_default.ensures.1
    c.loop-boundary.invariant.boundaries)
    ∙ c.loop-boundary.invariant.left
