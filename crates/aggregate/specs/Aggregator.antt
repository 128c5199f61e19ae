-- What contracts see of an aggregator, over the basic intervals that it was fed.
use Rattle.std.specs.Prelude.{◌≡◌, ℕ, List, [], ◌∷◌, ◌++◌, Option, option_to_list}
use Rattle.aggregate.specs.declared.group.Group.{Group}
use Rattle.aggregate.specs.declared.group.Out.{Out}
use Rattle.aggregate.specs.Aggregation.{Basic, short_groups, ten_groups, two_hour_groups}
use Rattle.aggregate.specs.BasicOrder.{AreBasics, IsSetting}
use Rattle.aggregate.specs.ShortSums.{ShortView, HasSeen as HasSeenShort}
use Rattle.aggregate.specs.TenSum.{TenView, HasSeen as HasSeenBasics}
use Rattle.aggregate.specs.TwoHourSum.{TwoHourView, HasSeen as HasSeenTens, IsFed as AreFedTens}
use Rattle.pq_time.specs.declared.clock.Clock.{Clock}

-- an aggregator: when the samples are taken, how many there are and of how many channels, and its machines
pub record AggregatorView : Type 0 where
  pub clock : Clock
  pub samples : ℕ
  pub channels : ℕ
  pub short : ShortView
  pub ten : TenView
  pub two : TwoHourView

-- the same of its machines
abbrev pub aggregator_view : ShortView → TenView → TwoHourView → AggregatorView
aggregator_view short ten two = record {
  clock = ten.clock;
  samples = ten.samples;
  channels = ten.channels;
  short = short;
  ten = ten;
  two = two;
}

-- the machines are those of an aggregator: of one setting
pub record IsAggregator (short : ShortView) (ten : TenView) (two : TwoHourView) : Type 0 where
  pub setting : IsSetting ten.clock ten.samples ten.channels
  pub short_channels : short.channels ≡ ten.channels
  pub two_clock : two.clock ≡ ten.clock
  pub two_samples : two.samples ≡ ten.samples
  pub two_channels : two.channels ≡ ten.channels

-- an aggregator has seen these basic intervals
pub record HasSeen (a : AggregatorView) (fed : List Basic) : Type 0 where
  pub of_short : HasSeenShort a.short fed
  pub of_ten : HasSeenBasics a.ten fed
  pub of_two : HasSeenTens a.two (ten_groups a.clock a.samples a.channels fed)

-- a list that an aggregator may be fed
abbrev pub IsFed : AggregatorView → List Basic → Type 0
IsFed a fed = AreBasics a.clock a.samples a.channels fed

-- the basic interval may follow some list that the aggregator has seen
abbrev pub MayFollow : AggregatorView → Basic → Type 0
MayFollow a b = (fed : List Basic) × HasSeen a fed × IsFed a (fed ++ b ∷ [])

-- what the intervals of one list have behind those of another: one of each length, or none
pub record AddsGroups (a : AggregatorView) (before after : List Basic) (out : Out) : Type 0 where
  pub short : short_groups a.channels after ≡ short_groups a.channels before ++ option_to_list out.short
  pub ten : ten_groups a.clock a.samples a.channels after
      ≡ ten_groups a.clock a.samples a.channels before ++ option_to_list out.ten
  pub two : two_hour_groups a.clock a.samples a.channels (ten_groups a.clock a.samples a.channels after)
      ≡ two_hour_groups a.clock a.samples a.channels (ten_groups a.clock a.samples a.channels before)
      ++ option_to_list out.two

-- whatever list the aggregator has seen that the basic interval may follow, these are completed
abbrev pub Completes : AggregatorView → Basic → Out → Type 0
Completes a b out = (fed : List Basic) → HasSeen a fed → IsFed a (fed ++ b ∷ [])
    → AddsGroups a fed (fed ++ b ∷ []) out

-- whatever list the aggregator had seen that the basic interval may follow, it has now seen one more
abbrev pub SeesMore : AggregatorView → AggregatorView → Basic → Type 0
SeesMore old new b = (fed : List Basic) → HasSeen old fed → IsFed old (fed ++ b ∷ [])
    → HasSeen new (fed ++ b ∷ [])

-- the aggregator's clock, number of samples and number of channels are these
pub record HasSetting (a : AggregatorView) (clock : Clock) (n channels : ℕ) : Type 0 where
  pub clock_is : a.clock ≡ clock
  pub samples_are : a.samples ≡ n
  pub channels_are : a.channels ≡ channels

-- the clock, the number of samples and that of channels stay
pub record KeepsSetting (old new : AggregatorView) : Type 0 where
  pub same_clock : new.clock ≡ old.clock
  pub same_samples : new.samples ≡ old.samples
  pub same_channels : new.channels ≡ old.channels

-- the same of the 10-minute interval that a basic interval may complete, for the machine for 2-hour intervals
abbrev pub MayFollowTens : TwoHourView → Option Group → Type 0
MayFollowTens t ten = (fed : List Group) × HasSeenTens t fed × AreFedTens t (fed ++ option_to_list ten)

abbrev pub CompletesTens : TwoHourView → Option Group → Option Group → Type 0
CompletesTens t ten answer = (fed : List Group) → HasSeenTens t fed → AreFedTens t (fed ++ option_to_list ten)
    → two_hour_groups t.clock t.samples t.channels (fed ++ option_to_list ten)
    ≡ two_hour_groups t.clock t.samples t.channels fed ++ option_to_list answer

abbrev pub SeesMoreTens : TwoHourView → TwoHourView → Option Group → Type 0
SeesMoreTens old new ten =
    (fed : List Group) → HasSeenTens old fed → AreFedTens old (fed ++ option_to_list ten)
    → HasSeenTens new (fed ++ option_to_list ten)
