-- What an aggregator gives over a whole list: its intervals of each length.
use Rattle.std.specs.Prelude.{◌≡◌, ℕ, ◌+◌, ◌<◌, List, [], ◌∷◌, ◌++◌, flat_map, length, option_to_list, slice_index_or, take}
use Rattle.aggregate.specs.declared.group.Out.{Out}
use Rattle.aggregate.specs.Aggregation.{Basic, short_groups, ten_groups, two_hour_groups}
use Rattle.aggregate.specs.Aggregator.{AddsGroups, AggregatorView, Completes, HasSeen, IsFed, KeepsSetting, MayFollow, SeesMore}
use Rattle.aggregate.specs.BasicOrder.{AreBasics}
use Rattle.pq_time.specs.declared.clock.Clock.{Clock}

-- an aggregator steps over basic intervals, one after another: an answer at each, and the aggregator after
-- them
abbrev pub StepsOver : AggregatorView → List Basic → List Out → AggregatorView → Type 0
StepsOver a [] [] last = last ≡ a
StepsOver a (b ∷ bs) (out ∷ more) last =
    (next : AggregatorView) × Completes a b out × SeesMore a next b × KeepsSetting a next
    × StepsOver next bs more last
StepsOver a [] (out ∷ more) last = ⊥
StepsOver a (b ∷ bs) [] last = ⊥

-- the answers together are the intervals of each length
pub record AreGroups (clock : Clock) (n channels : ℕ) (basics : List Basic) (outs : List Out) : Type 0 where
  pub short : flat_map (λ o. option_to_list o.short) outs ≡ short_groups channels basics
  pub ten : flat_map (λ o. option_to_list o.ten) outs ≡ ten_groups clock n channels basics
  pub two : flat_map (λ o. option_to_list o.two) outs
      ≡ two_hour_groups clock n channels (ten_groups clock n channels basics)

pub record GivesGroups : Type 0 where
  -- stepped over any list in order, an aggregator that had seen nothing has given the intervals of the list
  pub all : (basics : List Basic) (first last : AggregatorView) (outs : List Out)
      → HasSeen first [] → IsFed first basics → StepsOver first basics outs last
      → AreGroups first.clock first.samples first.channels basics outs
  -- and has then seen the list
  pub seen : (basics : List Basic) (first last : AggregatorView) (outs : List Out)
      → HasSeen first [] → IsFed first basics → StepsOver first basics outs last → HasSeen last basics
  -- in a loop: after the first i of a list in order, the next may follow
  pub follows : (basics : List Basic) (a : AggregatorView) (i : ℕ) (d : Basic) → i < length basics
      → IsFed a basics → HasSeen a (take i basics) → MayFollow a (slice_index_or basics i d)
  -- its answer is what the intervals of the first i + 1 have behind those of the first i
  pub adds : (basics : List Basic) (a : AggregatorView) (i : ℕ) (d : Basic) (out : Out) → i < length basics
      → IsFed a basics → HasSeen a (take i basics) → Completes a (slice_index_or basics i d) out
      → AddsGroups a (take i basics) (take (i + 1) basics) out
  -- and the aggregator has then seen the first i + 1
  pub sees : (basics : List Basic) (a next : AggregatorView) (i : ℕ) (d : Basic) → i < length basics
      → IsFed a basics → HasSeen a (take i basics) → SeesMore a next (slice_index_or basics i d)
      → HasSeen next (take (i + 1) basics)
  -- the first ones of a list in order are in order
  pub earlier : (clock : Clock) (n channels : ℕ) (front rest : List Basic)
      → AreBasics clock n channels (front ++ rest) → AreBasics clock n channels front
  -- no basic intervals make no others
  pub none : (clock : Clock) (n channels : ℕ) → AreGroups clock n channels [] []
