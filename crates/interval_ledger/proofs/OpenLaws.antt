-- At opening nothing is known, and the cut at place 0 is empty.
use Rattle.std.proofs.Common.{◌≡◌, ℕ, ◌<◌, ◌≤◌, ◌==◌, cond, nat_le, List, [], ◌∷◌, ◌++◌, length, map, filter, filter_map, flat_map, find, is_some, not, ℤ, Option, Some, None, refl, sym, ◌∙◌, ap, subst, arith}
use Rattle.std.specs.List.{AllByRecursion, cons_option}
use Rattle.aggregate.specs.declared.group.Group.{Group}
use Rattle.aggregate.specs.Aggregation.{tick_pairs, segment_of, ten_group, ten_groups, short_groups, two_hour_group, two_hour_groups, has_tick, group_of, as_part}
use Rattle.event_detect.specs.declared.event.Event.{Event}
use Rattle.event_detect.specs.declared.kind.Kind.{Kind}
use Rattle.event_detect.specs.declared.kind.Kind.TheVariants.{Dip, Swell, Interruption}
use Rattle.event_detect.specs.declared.limits.Limits.{Limits}
use Rattle.event_detect.specs.VoltageEvent.{event_from, extents, event_over, events, ended_events, IsLeftOpen}
use Rattle.interval_ledger.specs.Added.{nothing}
use Rattle.interval_ledger.specs.Left.{IsLeft}
use Rattle.interval_ledger.specs.Merged.{all_basics, known_events, known_items, known, IsSettled, IsAtMark}
use Rattle.interval_ledger.proofs.FinishLaws.{all_known}
use Rattle.interval_ledger.proofs.ItemLaws.{ends_until}
use Rattle.interval_ledger.proofs.KnownLaws.{known_settled}
use Rattle.interval_ledger.proofs.WindowLaws.{windows_by_position}
use Rattle.lanes.specs.declared.lane_item.LaneItem.TheVariants as item
use Rattle.lanes.specs.Lane.{lane_key, recorded_readings, recorded_runs, value_of}
use Rattle.lanes.proofs.KeyLaws.{frequency_rises, sampler_rises}
use Rattle.lanes.proofs.ReachLaws.{all_past}
use Rattle.polyphase.specs.Poly.{answer_of}
use Rattle.polyphase.specs.PolyphaseEvent.{conditions, kinds, merged_windows}
use Rattle.pq_base.specs.Recorded.{Recorded, IsRecording, sample_count}
use Rattle.pq_items.specs.declared.item.Item.{Item}
use Rattle.pq_items.specs.ItemOrder.{item_cmp}
use Rattle.pq_items.specs.ItemTable.{end_of}
use Rattle.pq_items.proofs.OrderLaws.{item_cmp_total, item_cmp_weak, item_cmp_same}
use Rattle.pq_sequence.specs.MeasuredRecording.{channel_count, clock_of, recorded_windows, tens_of, two_hours_of}
use Rattle.pq_sequence.specs.SequentialResult.{all_items, cut, event_item, event_items, for_each_channel, sequential, short_item, ten_item, two_hour_item}
use Rattle.pq_time.specs.declared.clock.Clock.{Clock}
use Rattle.pq_time.specs.Tick.{ticks}
use Rattle.pq_words.specs.First.{first_between, first_of}
use Rattle.pq_words.specs.Sorted.{in_order}
use Rattle.pq_words.specs.Steps.{numbers_from, steps_from}
use Rattle.pq_words.specs.Successors.{successors}
use Rattle.polyphase.proofs.MovedLaws.{moved_order}
use Rattle.settled_laws.proofs.ListLaws.{all_each, all_mapped, all_unmapped, filter_ordered}
use Rattle.ten_twelve.specs.Run.{runs, marked}

none_mapped : {X Y : Type 0} (f : X → Option Y) → ((x : X) → f x ≡ None) → (xs : List X) →
    filter_map f xs ≡ []
none_mapped f none [] = refl
none_mapped {X} {Y} f none (x ∷ xs) = at (f x) (none x) (none_mapped f none xs)
  where
    at : (o : Option Y) → o ≡ None → filter_map f xs ≡ [] → cons_option o (filter_map f xs) ≡ []
    at None e rest = rest
    at (Some y) e rest = absurd (let bad : ⊥ = cc in bad)

no_shorts : (channels : ℕ) → short_groups channels [] ≡ []
unfolding short_groups runs marked numbers_from
no_shorts channels = refl

no_ten : (clock : Clock) (n channels : ℕ) (tick next : ℤ) → ten_group clock n channels [] tick next ≡ None
unfolding ten_group segment_of first_between first_of
no_ten clock n channels tick next = refl

no_tens : (clock : Clock) (n channels : ℕ) → ten_groups clock n channels [] ≡ []
unfolding ten_groups
no_tens clock n channels =
    none_mapped (λ p. ten_group clock n channels [] p.0 p.1) (λ p. no_ten clock n channels p.0 p.1)
    (tick_pairs clock n 600)

no_two : (channels : ℕ) (tick : ℤ) → two_hour_group channels [] tick ≡ None
unfolding two_hour_group
no_two channels tick =
    let twelve : List ℤ → List Group = filter_map (λ t. find (has_tick t) []) in
    let none : twelve (steps_from tick 600 12) ≡ [] =
    none_mapped (λ t. find (has_tick t) []) (λ t. refl) (steps_from tick 600 12) in
    let made : List Group → Option Group =
    λ gs. cond (length gs == 12) (Some (group_of (Some tick) channels (map as_part gs))) None in
    ap made none

no_two_hours : (clock : Clock) (n channels : ℕ) → two_hour_groups clock n channels [] ≡ []
unfolding two_hour_groups
no_two_hours clock n channels =
    none_mapped (two_hour_group channels []) (no_two channels) (ticks clock n 7200)

no_extents : extents [] ≡ []
unfolding extents event_from first_between first_of successors
no_extents = refl

no_conditions : (kind : Kind) (limits : Limits) (channels : ℕ) → conditions kind limits channels [] ≡ []
unfolding conditions
no_conditions kind limits channels = refl

no_ended : (kind : Kind) → ended_events kind [] ≡ []
unfolding ended_events
no_ended kind = ap (λ es. map (event_over kind 0 []) (filter (λ e. is_some e.last) es)) no_extents

no_events : (kind : Kind) (n : ℕ) → events kind n [] ≡ []
unfolding events
no_events kind n = ap (map (event_over kind n [])) no_extents

no_known : (r : Recorded) (limits : Limits) → known_events r limits [] ≡ []
no_known r limits = each kinds
  where
    one : (kind : Kind) → ended_events kind (conditions kind limits (channel_count r) []) ≡ []
    one kind = ap (ended_events kind) (no_conditions kind limits (channel_count r)) ∙ no_ended kind

    each : (ks : List Kind) →
        flat_map (λ kind. ended_events kind (conditions kind limits (channel_count r) [])) ks ≡ []
    each [] = refl
    each (k ∷ ks) =
        ap (λ es. es ++ flat_map (λ kind. ended_events kind (conditions kind limits (channel_count r) [])) ks)
        (one k)
        ∙ each ks

known_nothing : (r : Recorded) (limits : Limits) → known_items r limits [] [] [] ≡ []
unfolding known_items
known_nothing r limits =
    let shorts : List Group → List Item = for_each_channel r (short_item r) in
    let tens : List Group → List Item = for_each_channel r (ten_item r) in
    let twos : List Group → List Item = for_each_channel r (two_hour_item r) in
    let found = event_items r (known_events r limits []) in
    ap (λ gs. shorts gs ++ tens (tens_of r []) ++ twos (two_hours_of r (tens_of r [])) ++ found)
    (no_shorts (channel_count r))
    ∙ ap (λ gs. tens gs ++ twos (two_hours_of r gs) ++ found)
    (no_tens (clock_of r) (sample_count r) (channel_count r))
    ∙ ap (λ gs. twos gs ++ found) (no_two_hours (clock_of r) (sample_count r) (channel_count r))
    ∙ ap (map (event_item r)) (no_known r limits)

-- an answer of no kind
abbrev no_answers : List (Option Event)
no_answers = None ∷ None ∷ None ∷ []

none_of_kind : (P : Kind → Option Event → Type 0) → ((kind : Kind) → P kind None) → (kind : Kind) →
    P kind (answer_of kind no_answers)
none_of_kind P h Dip = h Dip
none_of_kind P h Swell = h Swell
none_of_kind P h Interruption = h Interruption

module _ (r : Recorded) (limits : Limits) (given : IsRecording r) where
  some_basics : AllByRecursion (λ b. 0 < b.part.end) (all_basics r limits)
  some_basics =
      all_mapped (λ b. 0 < b.part.end) _ (recorded_runs r)
      (all_unmapped (λ i. 0 < lane_key i) (value_of r 0) (recorded_runs r)
      (all_past (sample_count r) 0 0 _ (omega arith) (sampler_rises r given 0)))

  some_readings : AllByRecursion (λ x. 0 < x.end) (recorded_readings r)
  some_readings =
      all_unmapped (λ i. 0 < lane_key i) item.Reading (recorded_readings r)
      (all_past (sample_count r) 0 0 _ (omega arith) (frequency_rises r given))

  -- nothing ends at place 0
  pub settled_at_none : IsSettled r limits nothing 0
  settled_at_none = record {
    windows = all_each (λ x. 0 ≤ x.window.start) (λ x. omega arith) (recorded_windows r);
    basics = some_basics;
    readings = some_readings;
  }

  cut_of : filter (ends_until 0) (all_items r limits) ≡ [] → cut 0 (sequential r limits) ≡ []
  unfolding cut sequential in_order
  cut_of none =
      filter_ordered item_cmp (ends_until 0) item_cmp_weak (all_items r limits) ∙ ap (in_order item_cmp) none

  known_none : known r limits nothing ≡ []
  known_none = known_nothing r limits

  -- where there are samples
  pub opened : 0 < sample_count r → IsAtMark r limits nothing 0 0 [] []
  unfolding in_order
  opened some = record {
    settled = settled_at_none;
    abreast = record {
      windows = tt;
      basics = all_each (λ b. 0 ≤ b.part.end) (λ b. omega arith) (all_basics r limits);
      readings = all_each (λ x. 0 ≤ x.end) (λ x. omega arith) (recorded_readings r);
    };
    is_cut = sym (cut_of (known_settled r limits 0 given nothing some settled_at_none
        ∙ ap (filter (ends_until 0)) known_none));
    is_pending = sym (ap (λ xs. in_order item_cmp (filter (λ i. not (nat_le (end_of i) 0)) xs)) known_none);
  }

  -- and where there are none
  pub opened_at_end : sample_count r ≡ 0 → [] ≡ cut 0 (sequential r limits)
  unfolding cut sequential in_order
  opened_at_end none =
      let n = sample_count r in
      let left : (kind : Kind) →
      IsLeftOpen kind n (conditions kind limits (channel_count r) []) None = λ kind.
      ap (events kind n) (no_conditions kind limits (channel_count r)) ∙ no_events kind n
      ∙ sym (ap (λ cs. ended_events kind cs ++ []) (no_conditions kind limits (channel_count r))
      ∙ ap (λ es. es ++ []) (no_ended kind)) in
      let moved = all_known r limits given nothing no_answers
      (subst (IsSettled r limits nothing) (sym none) settled_at_none)
      (none_of_kind (λ kind. IsLeftOpen kind n (conditions kind limits (channel_count r) [])) left) in
      sym (
      filter_ordered item_cmp (ends_until 0) item_cmp_weak (all_items r limits)
      ∙ ap (λ n. in_order item_cmp (filter (ends_until n) (all_items r limits))) (sym none)
      ∙ moved_order item_cmp item_cmp_total item_cmp_same (filter (ends_until n) (all_items r limits))
      (filter (ends_until n) (known r limits nothing ++ [])) moved
      ∙ ap (λ xs. in_order item_cmp (filter (ends_until n) (xs ++ []))) known_none)

-- nothing is merged of any channel
pub left_at_first : (r : Recorded) → IsRecording r → IsLeft r 0 (λ c. 0)
left_at_first r given = ap merged_windows (windows_by_position r given)
