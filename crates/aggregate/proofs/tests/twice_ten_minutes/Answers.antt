-- Both basic intervals are in order: the place of the second tick lies between their starts.
use Rattle.std.proofs.Common.{◌≡◌, ℕ, zero, suc, ◌+◌, ◌≤◌, true, false, List, [], ◌∷◌, pos, Some, None, slice_get, refl, sym, ◌∙◌, ap, subst, arith, lit<, lit≤}
use Rattle.std.proofs.lemmas.List.Elements.{All-cons, All-nil}
use Rattle.aggregate.specs.Aggregation.{Basic}
use Rattle.aggregate.specs.Aggregator.{AggregatorView, HasSetting, IsFed, KeepsSetting}
use Rattle.aggregate.specs.BasicOrder.{AreBasics, AreQuiet, Follows, HasTickBetween, IsBasic, basic_of}
use Rattle.pq_time.specs.declared.clock.Clock.{Clock}
use Rattle.pq_time.specs.Time.{time_of}
use Rattle.pq_time.specs.Tick.{moment_of, tick_place, ticks}
use Rattle.pq_time.proofs.PlaceLaws.{place_by_neighbour}
use Rattle.pq_words.specs.declared.limits.TheConstants.{MOST_MICROVOLTS}
use Rattle.pq_words.specs.Steps.{steps_from}
use Rattle.aggregate.proofs.tests.twice_ten_minutes.Goals as goal

abbrev clock : Clock
clock = record { t0 = pos 0; rate = 800_000_000 }

abbrev first : Basic
first = basic_of true (record { start = 0; end = 480_000 }) (229_805_362 ∷ []) false

abbrev second : Basic
second = basic_of true (record { start = 480_000; end = 960_000 }) (211_869_380 ∷ []) true

quiet : (v : ℕ) → v ≤ MOST_MICROVOLTS → AreQuiet (v ∷ [])
quiet v h = All-cons (λ v. v ≤ MOST_MICROVOLTS) v [] h (All-nil (λ v. v ≤ MOST_MICROVOLTS))

first_is : IsBasic 960_000 1 first
first_is = record { some = lit< tt; within = lit≤ tt; long = refl; quiet = quiet 229_805_362 (lit≤ tt) }

second_is : IsBasic 960_000 1 second
second_is = record { some = lit< tt; within = lit≤ tt; long = refl; quiet = quiet 211_869_380 (lit≤ tt) }

place : tick_place clock 960_000 (pos 600) ≡ 480_000
unfolding time_of
place = place_by_neighbour clock (moment_of (pos 600)) 960_000 479_999 (lit< tt) refl refl

between : HasTickBetween clock 960_000 0 480_000
unfolding ticks time_of steps_from
between = (
  pos 600,
  (1, lit< tt, refl),
  omega (arith, place),
  omega (arith, place),
)

follows : Follows clock 960_000 first second
follows = record {
  starts = lit< tt;
  ends = lit< tt;
  joined = λ e. absurd (let bad : ⊥ = cc in bad);
  front = (λ is. between, λ h. refl);
}

past : (x : Basic) (i : ℕ) → slice_get (x ∷ []) (i + 1) ≡ None
past x i = let e : i + 1 ≡ suc i = omega arith in ap (slice_get (x ∷ [])) e

one : AreBasics clock 960_000 1 (first ∷ [])
one = record {
  first = refl;
  each = All-cons (IsBasic 960_000 1) first [] first_is (All-nil (IsBasic 960_000 1));
  follow = λ i a b here next. absurd (let e = past first i in let bad : ⊥ = cc in bad);
}

two : AreBasics clock 960_000 1 (first ∷ second ∷ [])
two = record {
  first = refl;
  each = All-cons (IsBasic 960_000 1) first (second ∷ []) first_is
      (All-cons (IsBasic 960_000 1) second [] second_is (All-nil (IsBasic 960_000 1)));
  follow = λ i a b here next. at i a b here next;
}
  where
    at : (i : ℕ) (a b : Basic) → slice_get (first ∷ second ∷ []) i ≡ Some a
        → slice_get (first ∷ second ∷ []) (i + 1) ≡ Some b → Follows clock 960_000 a b
    at zero a b here next =
        let x : first ≡ a = cc in
        let y : second ≡ b = cc in
        subst (λ b. Follows clock 960_000 a b) y (subst (λ a. Follows clock 960_000 a second) x follows)
    at (suc i) a b here next =
        let e : suc i + 1 ≡ suc (i + 1) = omega arith in
        let more : slice_get (first ∷ second ∷ []) (suc i + 1) ≡ None =
        ap (slice_get (first ∷ second ∷ [])) e ∙ past second i in
        absurd (let bad : ⊥ = cc in bad)

fed : (a : AggregatorView) (basics : List Basic) → HasSetting a clock 960_000 1
    → AreBasics clock 960_000 1 basics → IsFed a basics
fed a basics is are =
    subst (λ channels. AreBasics a.clock a.samples channels basics) (sym is.channels_are)
    (subst (λ n. AreBasics a.clock n 1 basics) (sym is.samples_are)
    (subst (λ c. AreBasics c 960_000 1 basics) (sym is.clock_is) are))

kept : (old new : AggregatorView) → HasSetting old clock 960_000 1 → KeepsSetting old new
    → HasSetting new clock 960_000 1
kept old new is same = record {
  clock_is = same.same_clock ∙ is.clock_is;
  samples_are = same.same_samples ∙ is.samples_are;
  channels_are = same.same_channels ∙ is.channels_are;
}

pub step-first-requires : goal.step-first-requires
step-first-requires g c = (
  [],
  c.new-aggregator.ensures.value,
  fed c.new-aggregator.result (first ∷ []) c.new-aggregator.ensures.setting one,
)

pub step-second-requires : goal.step-second-requires
step-second-requires g c =
    let a = c.new-aggregator.result in
    let setting = c.new-aggregator.ensures.setting in
    let seen = c.step-first.ensures.seen [] c.new-aggregator.ensures.value
    (fed a (first ∷ []) setting one) in (
      first ∷ [],
      seen,
      fed c.step-first.new.self (first ∷ second ∷ [])
          (kept a c.step-first.new.self setting c.step-first.ensures.same) two,
    )
