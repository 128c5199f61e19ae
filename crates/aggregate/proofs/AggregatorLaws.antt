-- What the machines of an aggregator hold together agrees with what it was fed, and goes on to.
use Rattle.std.proofs.Common.{◌≡◌, ℕ, List, [], ◌∷◌, ◌++◌, Option, Some, None, option_to_list, refl, sym, ◌∙◌, ap, subst}
use Rattle.std.proofs.lemmas.List.{append-nil}
use Rattle.std.proofs.lemmas.List.Elements.{All-pop}
use Rattle.aggregate.specs.declared.group.Group.{Group}
use Rattle.aggregate.specs.declared.group.Out.{Out}
use Rattle.aggregate.specs.Aggregation.{Basic, short_groups, ten_groups, two_hour_groups}
use Rattle.aggregate.specs.Aggregator.{Completes, CompletesTens, IsAggregator, MayFollow, MayFollowTens, SeesMore, SeesMoreTens, aggregator_view}
use Rattle.aggregate.specs.BasicOrder.{AreBasics, IsBasic}
use Rattle.aggregate.specs.ShortSums.{ShortView, Completes as CompletesShort, SeesMore as SeesMoreShort}
use Rattle.aggregate.specs.TenSum.{TenView, Completes as CompletesTen, HasSeen as HasSeenBasics, KeepsSetting as KeepsSettingOfBasics, SeesMore as SeesMoreBasics}
use Rattle.aggregate.specs.TwoHourSum.{AreTens, TwoHourView, HasSeen as HasSeenTens}
use Rattle.aggregate.proofs.TensLaws.{tens_in_order}
use Rattle.pq_time.specs.declared.clock.Clock.{Clock}

-- ---- a ten-minute interval, or none

pub none_completes : (t : TwoHourView) → CompletesTens t None None
none_completes t fed seen is =
    ap (two_hour_groups t.clock t.samples t.channels) (append-nil fed)
    ∙ sym (append-nil (two_hour_groups t.clock t.samples t.channels fed))

pub none_sees : (t : TwoHourView) → SeesMoreTens t t None
none_sees t fed seen is = subst (HasSeenTens t) (sym (append-nil fed)) seen

-- ---- the basic interval that may follow

pub last_basic : (clock : Clock) (n channels : ℕ) (fed : List Basic) (b : Basic)
    → AreBasics clock n channels (fed ++ b ∷ []) → IsBasic n channels b
last_basic clock n channels fed b are =
    (All-pop (IsBasic n channels) (fed ++ b ∷ []) fed (Some b) refl are.each).1

-- the 10-minute intervals that the machine for two hours is fed
fed_tens : (short : ShortView) (ten : TenView) (two : TwoHourView) (fed : List Basic) (b : Basic)
    (answer : Option Group) → IsAggregator short ten two → CompletesTen ten b answer → HasSeenBasics ten fed
    → AreBasics ten.clock ten.samples ten.channels (fed ++ b ∷ [])
    → AreTens two.clock two.samples
    (ten_groups ten.clock ten.samples ten.channels fed ++ option_to_list answer)
fed_tens short ten two fed b answer is completes seen are =
    let tens = ten_groups ten.clock ten.samples ten.channels fed ++ option_to_list answer in
    let order : AreTens ten.clock ten.samples tens =
    subst (AreTens ten.clock ten.samples) (completes fed seen are)
    (tens_in_order ten.clock ten.samples ten.channels (fed ++ b ∷ []) are) in
    subst (λ n. AreTens two.clock n tens) (sym is.two_samples)
    (subst (λ c. AreTens c ten.samples tens) (sym is.two_clock) order)

pub tens_may_follow : (short : ShortView) (ten : TenView) (two : TwoHourView) (b : Basic)
    (answer : Option Group) → IsAggregator short ten two → CompletesTen ten b answer
    → MayFollow (aggregator_view short ten two) b → MayFollowTens two answer
tens_may_follow short ten two b answer is completes may =
    let fed = may.0 in
    let seen = may.1 in (
      ten_groups ten.clock ten.samples ten.channels fed,
      seen.of_two,
      fed_tens short ten two fed b answer is completes seen.of_ten may.2,
    )

-- ---- one more basic interval

pub all_complete : (short : ShortView) (ten : TenView) (two : TwoHourView) (b : Basic) (out : Out)
    → IsAggregator short ten two → CompletesShort short b out.short → CompletesTen ten b out.ten
    → CompletesTens two out.ten out.two → Completes (aggregator_view short ten two) b out
all_complete short ten two b out is by_short by_ten by_two fed seen are =
    let tens = ten_groups ten.clock ten.samples ten.channels fed in
    let more = by_ten fed seen.of_ten are in
    let fits = fed_tens short ten two fed b out.ten is by_ten seen.of_ten are in
    let hours : Clock → ℕ → ℕ → Type 0 = λ clock n channels.
    two_hour_groups clock n channels (tens ++ option_to_list out.ten)
    ≡ two_hour_groups clock n channels tens ++ option_to_list out.two in
    record {
      short = subst (λ channels. short_groups channels (fed ++ b ∷ [])
          ≡ short_groups channels fed ++ option_to_list out.short) is.short_channels
          (by_short fed seen.of_short are.first);
      ten = more;
      two = ap (two_hour_groups ten.clock ten.samples ten.channels) more
          ∙ subst (λ channels. hours ten.clock ten.samples channels) is.two_channels
          (subst (λ n. hours ten.clock n two.channels) is.two_samples
          (subst (λ clock. hours clock two.samples two.channels) is.two_clock
          (by_two tens seen.of_two fits)));
    }

pub all_see : (short short' : ShortView) (ten ten' : TenView) (two two' : TwoHourView) (b : Basic)
    (answer : Option Group)
    → IsAggregator short ten two → SeesMoreShort short short' b → CompletesTen ten b answer
    → SeesMoreBasics ten ten' b → KeepsSettingOfBasics ten ten' → SeesMoreTens two two' answer
    → SeesMore (aggregator_view short ten two) (aggregator_view short' ten' two') b
all_see short short' ten ten' two two' b answer is of_short completes of_ten keeps of_two fed seen are =
    let tens = ten_groups ten.clock ten.samples ten.channels fed in
    let fits = fed_tens short ten two fed b answer is completes seen.of_ten are in
    let P : Clock → ℕ → ℕ → Type 0 = λ clock n channels.
    HasSeenTens two' (ten_groups clock n channels (fed ++ b ∷ [])) in
    record {
      of_short = of_short fed seen.of_short are.first;
      of_ten = of_ten fed seen.of_ten are;
      of_two = subst (λ channels. P ten'.clock ten'.samples channels) (sym keeps.same_channels)
          (subst (λ n. P ten'.clock n ten.channels) (sym keeps.same_samples)
          (subst (λ clock. P clock ten.samples ten.channels) (sym keeps.same_clock)
          (subst (HasSeenTens two') (sym (completes fed seen.of_ten are)) (of_two tens seen.of_two fits))));
    }
