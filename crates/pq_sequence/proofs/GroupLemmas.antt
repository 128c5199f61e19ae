-- What basic intervals make, as they come one after another.
use Rattle.std.proofs.Common.{◌≡◌, ℕ, List, [], ◌++◌, option_to_list, sym, ◌∙◌, ap, subst}
use Rattle.aggregate.specs.declared.group.Out.{Out}
use Rattle.aggregate.specs.Aggregation.{Basic, short_groups, ten_groups, two_hour_groups}
use Rattle.aggregate.specs.Aggregator.{AddsGroups, AggregatorView, HasSetting, IsFed, KeepsSetting}
use Rattle.aggregate.specs.BasicOrder.{AreBasics}
use Rattle.aggregate.proofs.WholeListLaws.{gives_groups}
use Rattle.pq_sequence.specs.declared.groups.Groups.{Groups}
use Rattle.pq_sequence.specs.Measured.{AddsOut, AreEmpty, AreGroupsOf}
use Rattle.pq_time.specs.declared.clock.Clock.{Clock}

-- no basic intervals make no others
pub none_made : (clock : Clock) (n channels : ℕ) (groups : Groups) → AreEmpty groups →
    AreGroupsOf clock n channels [] groups
none_made clock n channels groups empty =
    let none = gives_groups.none clock n channels in
    record {
      short = empty.short ∙ none.short;
      ten = empty.ten ∙ none.ten;
      two = empty.two ∙ none.two;
    }

module _ (clock : Clock) (n channels : ℕ) (a : AggregatorView) (set : HasSetting a clock n channels) where
  -- a list in order may be fed
  pub may_be_fed : (fed : List Basic) → AreBasics clock n channels fed → IsFed a fed
  may_be_fed fed are =
      subst (λ k. AreBasics a.clock a.samples k fed) (sym set.channels_are)
      (subst (λ k. AreBasics a.clock k channels fed) (sym set.samples_are)
      (subst (λ k. AreBasics k n channels fed) (sym set.clock_is) are))

  -- the setting stays
  pub still_set : (next : AggregatorView) → KeepsSetting a next → HasSetting next clock n channels
  still_set next keeps = record {
    clock_is = keeps.same_clock ∙ set.clock_is;
    samples_are = keeps.same_samples ∙ set.samples_are;
    channels_are = keeps.same_channels ∙ set.channels_are;
  }

  shorts_of_setting : (fed : List Basic) → short_groups a.channels fed ≡ short_groups channels fed
  shorts_of_setting fed = ap (λ k. short_groups k fed) set.channels_are

  tens_of_setting : (fed : List Basic) → ten_groups a.clock a.samples a.channels fed
      ≡ ten_groups clock n channels fed
  tens_of_setting fed =
      ap (λ k. ten_groups a.clock a.samples k fed) set.channels_are
      ∙ ap (λ k. ten_groups a.clock k channels fed) set.samples_are
      ∙ ap (λ k. ten_groups k n channels fed) set.clock_is

  two_hours_of_setting : (fed : List Basic) →
      two_hour_groups a.clock a.samples a.channels (ten_groups a.clock a.samples a.channels fed)
      ≡ two_hour_groups clock n channels (ten_groups clock n channels fed)
  two_hours_of_setting fed =
      ap (two_hour_groups a.clock a.samples a.channels) (tens_of_setting fed)
      ∙ ap (λ k. two_hour_groups a.clock a.samples k (ten_groups clock n channels fed)) set.channels_are
      ∙ ap (λ k. two_hour_groups a.clock k channels (ten_groups clock n channels fed)) set.samples_are
      ∙ ap (λ k. two_hour_groups k n channels (ten_groups clock n channels fed)) set.clock_is

  -- and what is completed is added
  pub made_more : (fed more : List Basic) (out : Out) (old new : Groups) → AddsGroups a fed more out →
      AddsOut old new out → AreGroupsOf clock n channels fed old → AreGroupsOf clock n channels more new
  made_more fed more out old new adds added are = record {
    short = added.short ∙ ap (λ gs. gs ++ option_to_list out.short) (are.short ∙ sym (shorts_of_setting fed))
        ∙ sym adds.short ∙ shorts_of_setting more;
    ten = added.ten ∙ ap (λ gs. gs ++ option_to_list out.ten) (are.ten ∙ sym (tens_of_setting fed))
        ∙ sym adds.ten ∙ tens_of_setting more;
    two = added.two ∙ ap (λ gs. gs ++ option_to_list out.two) (are.two ∙ sym (two_hours_of_setting fed))
        ∙ sym adds.two ∙ two_hours_of_setting more;
  }
