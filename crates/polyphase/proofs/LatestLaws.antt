-- The latest values as they lie in a list with room for more channels.
use Rattle.std.proofs.Common.{◌≡◌, ℕ, ◌<◌, ◌≤◌, zero, suc, cond, ◌+◌, ◌-◌, Bool, true, false, nat_le, nat_lt, nat_eq, List, length, take, set, replicate, get_or, Option, Some, None, refl, sym, ◌∙◌, ap, subst, arith, length-set, length-take}
use Rattle.std.proofs.lemmas.Bool.Decides.{nat_tests}
use Rattle.std.proofs.lemmas.List.{get_or-take}
use Rattle.std.proofs.lemmas.List.Sums.{sum_by-cons}
use Rattle.std.proofs.Math.Seq.{take-set-lt}
use Rattle.std.specs.List.{count_by}
use Rattle.event_detect.specs.declared.kind.Kind.{Kind}
use Rattle.event_detect.specs.declared.kind.Kind.TheVariants.{Dip, Swell, Interruption}
use Rattle.event_detect.specs.declared.limits.Class.{Class}
use Rattle.event_detect.specs.declared.limits.Limits.{Limits}
use Rattle.event_detect.specs.Threshold.{IsInOrder, class_of}
use Rattle.polyphase.specs.declared.counts.Counts.{Counts}
use Rattle.polyphase.specs.Latest.{LatestView, calm, IsAmong, IsCounted, count_of, counts_of, no_counts, no_values, one_if, with_class, with_value}
use Rattle.polyphase.specs.PolyphaseEvent.{begins, ends, is_there_and, value_is_past, value_is_back}
use Rattle.polyphase.proofs.CountLaws.{any_counted, all_counted, there_counted, among_counts, counts_at_first, counts_in_place}

-- the values of so many channels, among those in the list
abbrev pub values_view : Limits → ℕ → List (Option ℕ) → LatestView
values_view limits channels values = record { limits = limits; values = take channels values }

-- they are seen with a value put among them
pub set_view : (limits : Limits) (channels : ℕ) (values : List (Option ℕ)) (position value : ℕ)
    → position < channels
    → values_view limits channels (set values position (Some value))
    ≡ with_value (values_view limits channels values) position value
set_view limits channels values position value inside =
    let made : List (Option ℕ) → LatestView = λ vs. record { limits = limits; values = vs } in
    ap made (take-set-lt channels values position (Some value) inside)

-- the position is below the number of channels
pub below : (position : ℕ) (limits : Limits) (channels : ℕ) (values : List (Option ℕ)) (latest : LatestView)
    → values_view limits channels values ≡ latest → position < length latest.values → position < channels
below position limits channels values latest is less =
    let taken : position < length (take channels values) =
    subst (λ (l : LatestView). position < length l.values) (sym is) less in
    omega (arith, taken, length-take channels values)

-- a test of a kind, by what was found of the kind and of the values
abbrev Test : Type 0
Test = Kind → Limits → List (Option ℕ) → Bool

seen_as : (test : Test) (kind found : Kind) (latest view : LatestView) (b : Bool) → kind ≡ found
    → view ≡ latest
    → b ≡ test found view.limits view.values → b ≡ test kind latest.limits latest.values
seen_as test kind found latest view b kind_is view_is is =
    is
    ∙ ap (λ (l : LatestView). test found l.limits l.values) view_is
    ∙ ap (λ k. test k latest.limits latest.values) (sym kind_is)

length_taken : (channels : ℕ) (values : List (Option ℕ)) → channels ≤ length values
    → length (take channels values) ≡ channels
length_taken channels values room = omega (arith, length-take channels values, room)

-- ---- none yet

none_counted : (t : Class → Bool) (limits : Limits) (n : ℕ) → count_of t limits (replicate n None) ≡ 0
none_counted t limits zero = refl
none_counted t limits (suc n) =
    let p : Option ℕ → Bool = is_there_and (λ v. t (class_of limits v)) in
    sum_by-cons (λ x. cond (p x) 1 0) None (replicate n None) ∙ ap (λ k. 0 + k) (none_counted t limits n)

-- the counts where there is no value
pub no_value_counted : (limits : Limits) (channels : ℕ)
    → no_counts ≡ counts_of limits (replicate channels None)
no_value_counted limits channels =
    let there = none_counted (λ c. true) limits channels in
    let below_dip = none_counted (λ c. c.below_dip) limits channels in
    let clear_dip = none_counted (λ c. c.clear_dip) limits channels in
    let above_swell = none_counted (λ c. c.above_swell) limits channels in
    let clear_swell = none_counted (λ c. c.clear_swell) limits channels in
    let below_interruption = none_counted (λ c. c.below_interruption) limits channels in
    let clear_interruption = none_counted (λ c. c.clear_interruption) limits channels in
    cc (there, below_dip, clear_dip, above_swell, clear_swell, below_interruption, clear_interruption)

-- a value within all thresholds, by the least and the greatest of them
pub calm_is : (limits : Limits) (value : ℕ) → IsInOrder limits → limits.dip_end ≤ value
    → nat_le value limits.swell_end ≡ true → class_of limits value ≡ calm
unfolding class_of
calm_is limits value order low high =
    let below_dip : nat_lt value limits.dip ≡ false = grind (arith, nat_tests, order.dip, low) in
    let clear_dip : nat_le limits.dip_end value ≡ true = grind (arith, nat_tests, low) in
    let above_swell : nat_lt limits.swell value ≡ false = grind (arith, nat_tests, order.swell, high) in
    let below_interruption : nat_lt value limits.interruption ≡ false =
    grind (arith, nat_tests, order.interruption, order.between, order.dip, low) in
    let clear_interruption : nat_le limits.interruption_end value ≡ true =
    grind (arith, nat_tests, order.between, order.dip, low) in
    cc (below_dip, clear_dip, above_swell, high, below_interruption, clear_interruption)

-- ---- one less

abbrev less_class : Counts → Class → Counts
less_class counts class = record {
  there = counts.there - 1;
  below_dip = counts.below_dip - one_if class.below_dip;
  clear_dip = counts.clear_dip - one_if class.clear_dip;
  above_swell = counts.above_swell - one_if class.above_swell;
  clear_swell = counts.clear_swell - one_if class.clear_swell;
  below_interruption = counts.below_interruption - one_if class.below_interruption;
  clear_interruption = counts.clear_interruption - one_if class.clear_interruption;
}

back_to : (n m : ℕ) → n ≤ m → m - n + n ≡ m
back_to n m fits = omega (arith, fits)

less_then_more : (class : Class) (counts : Counts) → IsAmong class counts
    → with_class (less_class counts class) class ≡ counts
less_then_more class counts is =
    let there = back_to 1 counts.there is.there in
    let below_dip = back_to (one_if class.below_dip) counts.below_dip is.below_dip in
    let clear_dip = back_to (one_if class.clear_dip) counts.clear_dip is.clear_dip in
    let above_swell = back_to (one_if class.above_swell) counts.above_swell is.above_swell in
    let clear_swell = back_to (one_if class.clear_swell) counts.clear_swell is.clear_swell in
    let below_interruption =
    back_to (one_if class.below_interruption) counts.below_interruption is.below_interruption in
    let clear_interruption =
    back_to (one_if class.clear_interruption) counts.clear_interruption is.clear_interruption in
    let whole : with_class (less_class counts class) class ≡ record {
      there = counts.there;
      below_dip = counts.below_dip;
      clear_dip = counts.clear_dip;
      above_swell = counts.above_swell;
      clear_swell = counts.clear_swell;
      below_interruption = counts.below_interruption;
      clear_interruption = counts.clear_interruption;
    } = cc (there, below_dip, clear_dip, above_swell, clear_swell, below_interruption, clear_interruption) in
    whole

module _ (limits : Limits) (channels : ℕ) (values : List (Option ℕ)) (counts : Counts)
    (is : IsCounted limits channels values counts) where
  -- ---- where events begin and end

  dips_begin : nat_lt 0 counts.below_dip ≡ begins Dip limits (take channels values)
  unfolding begins
  dips_begin =
      ap (λ (c : Counts). nat_lt 0 c.below_dip) is.counted
      ∙ any_counted (is_there_and (value_is_past Dip limits)) (take channels values)

  swells_begin : nat_lt 0 counts.above_swell ≡ begins Swell limits (take channels values)
  unfolding begins
  swells_begin =
      ap (λ (c : Counts). nat_lt 0 c.above_swell) is.counted
      ∙ any_counted (is_there_and (value_is_past Swell limits)) (take channels values)

  interruptions_begin : nat_eq counts.below_interruption channels ≡ begins Interruption limits
      (take channels values)
  unfolding begins
  interruptions_begin =
      ap (λ (c : Counts). nat_eq c.below_interruption channels) is.counted
      ∙ ap (nat_eq (counts_of limits (take channels values)).below_interruption)
      (sym (length_taken channels values is.room))
      ∙ all_counted (is_there_and (value_is_past Interruption limits)) (take channels values)

  dips_end : nat_eq counts.clear_dip counts.there ≡ ends Dip limits (take channels values)
  unfolding ends
  dips_end =
      ap (λ (c : Counts). nat_eq c.clear_dip c.there) is.counted
      ∙ there_counted (value_is_back Dip limits) (take channels values)

  swells_end : nat_eq counts.clear_swell counts.there ≡ ends Swell limits (take channels values)
  unfolding ends
  swells_end =
      ap (λ (c : Counts). nat_eq c.clear_swell c.there) is.counted
      ∙ there_counted (value_is_back Swell limits) (take channels values)

  interruptions_end : nat_lt 0 counts.clear_interruption ≡ ends Interruption limits (take channels values)
  unfolding ends
  interruptions_end =
      ap (λ (c : Counts). nat_lt 0 c.clear_interruption) is.counted
      ∙ any_counted (is_there_and (value_is_back Interruption limits)) (take channels values)

  module _ (kind : Kind) (latest : LatestView) (view_is : values_view limits channels values ≡ latest) where
    pub dip_begins : kind ≡ Dip → nat_lt 0 counts.below_dip ≡ begins kind latest.limits latest.values
    dip_begins k = seen_as begins kind Dip latest (values_view limits channels values)
        (nat_lt 0 counts.below_dip) k view_is dips_begin

    pub swell_begins : kind ≡ Swell → nat_lt 0 counts.above_swell ≡ begins kind latest.limits latest.values
    swell_begins k = seen_as begins kind Swell latest (values_view limits channels values)
        (nat_lt 0 counts.above_swell) k view_is swells_begin

    pub interruption_begins : kind ≡ Interruption
        → nat_eq counts.below_interruption channels ≡ begins kind latest.limits latest.values
    interruption_begins k = seen_as begins kind Interruption latest (values_view limits channels values)
        (nat_eq counts.below_interruption channels) k view_is interruptions_begin

    pub dip_ends : kind ≡ Dip → nat_eq counts.clear_dip counts.there ≡ ends kind latest.limits latest.values
    dip_ends k = seen_as ends kind Dip latest (values_view limits channels values)
        (nat_eq counts.clear_dip counts.there) k view_is dips_end

    pub swell_ends : kind ≡ Swell
        → nat_eq counts.clear_swell counts.there ≡ ends kind latest.limits latest.values
    swell_ends k = seen_as ends kind Swell latest (values_view limits channels values)
        (nat_eq counts.clear_swell counts.there) k view_is swells_end

    pub interruption_ends : kind ≡ Interruption
        → nat_lt 0 counts.clear_interruption ≡ ends kind latest.limits latest.values
    interruption_ends k = seen_as ends kind Interruption latest (values_view limits channels values)
        (nat_lt 0 counts.clear_interruption) k view_is interruptions_end

  -- ---- a value in place of another

  module _ (position : ℕ) (inside : position < channels) where
    found_in_front : (before : Option ℕ) → get_or values position None ≡ before
        → get_or (take channels values) position None ≡ before
    found_in_front before found = get_or-take channels values position None inside ∙ found

    within_front : position < length (take channels values)
    within_front = omega (arith, length_taken channels values is.room, inside)

    pub among : (b : ℕ) → get_or values position None ≡ Some b → IsAmong (class_of limits b) counts
    among b found =
        subst (IsAmong (class_of limits b)) (sym is.counted)
        (among_counts limits (take channels values) position b within_front (found_in_front (Some b) found))

    set_counted : (v : ℕ) (new : Counts)
        → new ≡ counts_of limits (set (take channels values) position (Some v))
        → IsCounted limits channels (set values position (Some v)) new
    set_counted v new counted = record {
      channels_in_range = is.channels_in_range;
      room = omega (arith, length-set values position (Some v), is.room);
      counted =
          counted ∙ ap (counts_of limits) (sym (take-set-lt channels values position (Some v) inside));
    }

    pub counted_in_place : (v b : ℕ) (left : Counts) → get_or values position None ≡ Some b
        → with_class left (class_of limits b) ≡ counts
        → IsCounted limits channels (set values position (Some v)) (with_class left (class_of limits v))
    counted_in_place v b left found split =
        set_counted v (with_class left (class_of limits v))
        (counts_in_place limits (take channels values) position v b left within_front
        (found_in_front (Some b) found) (split ∙ is.counted))

    pub counted_at_first : (v : ℕ) → get_or values position None ≡ None
        → IsCounted limits channels (set values position (Some v)) (with_class counts (class_of limits v))
    counted_at_first v found =
        set_counted v (with_class counts (class_of limits v))
        (ap (λ c. with_class c (class_of limits v)) is.counted
        ∙ counts_at_first limits (take channels values) position v within_front (found_in_front None found))

    -- a value that stands to the thresholds as the one before it changes no count
    pub counted_alike : (v b : ℕ) → get_or values position None ≡ Some b
        → class_of limits b ≡ class_of limits v
        → IsCounted limits channels (set values position (Some v)) counts
    counted_alike v b found alike =
        let left = less_class counts (class_of limits b) in
        let back : with_class left (class_of limits b) ≡ counts =
        less_then_more (class_of limits b) counts (among b found) in
        subst (IsCounted limits channels (set values position (Some v)))
        (ap (with_class left) (sym alike) ∙ back) (counted_in_place v b left found back)

-- where the counts are the same, events begin alike
pub begin_alike : (limits : Limits) (channels : ℕ) (values later : List (Option ℕ)) (counts : Counts)
    → IsCounted limits channels values counts → IsCounted limits channels later counts
    → (kind : Kind) → begins kind limits (take channels later) ≡ begins kind limits (take channels values)
begin_alike limits channels values later counts is now Dip =
    sym (dips_begin limits channels later counts now) ∙ dips_begin limits channels values counts is
begin_alike limits channels values later counts is now Swell =
    sym (swells_begin limits channels later counts now) ∙ swells_begin limits channels values counts is
begin_alike limits channels values later counts is now Interruption =
    sym (interruptions_begin limits channels later counts now)
    ∙ interruptions_begin limits channels values counts is
