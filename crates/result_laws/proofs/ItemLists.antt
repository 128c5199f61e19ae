-- The lists of which the items of a recording are joined, kind by kind.
use Rattle.std.proofs.Common.{◌≡◌, ℕ, ◌≤◌, List, ◌++◌, map, Contains, refl, inl, inr, arith}
use Rattle.std.specs.List.{AllByRecursion}
use Rattle.std.proofs.lemmas.List.Sorted.{Contains-permutation, IsPermutation-sym}
use Rattle.aggregate.specs.Aggregation.{Basic, parts_of}
use Rattle.event_detect.specs.declared.event.Event.{Event}
use Rattle.event_detect.specs.declared.kind.Kind.{Kind}
use Rattle.event_detect.specs.declared.kind.Kind.TheVariants.{Dip, Swell, Interruption}
use Rattle.event_detect.specs.declared.limits.Limits.{Limits}
use Rattle.freq10s.specs.declared.reading.Reading.{Reading}
use Rattle.pq_base.specs.Recorded.{Recorded}
use Rattle.pq_items.specs.declared.item.Item.{Item}
use Rattle.pq_items.specs.ItemOrder.{item_cmp}
use Rattle.pq_items.specs.ItemTable.{rank_of}
use Rattle.pq_sequence.specs.MeasuredRecording.{positions, shorts_of, tens_of, two_hours_of}
use Rattle.pq_sequence.specs.SequentialResult.{all_items, basic_item, event_item, event_items, for_each_channel, item_of_kind, items_over, number_of, reading_item, sequential, short_item, ten_item, two_hour_item}
use Rattle.pq_words.proofs.SortedLaws.{in_order_permutes}
use Rattle.result_laws.proofs.PairLaws.{IsIn, all_each, all_flat_map, all_in, all_map, contains_in, in_append, in_append_left, in_append_right, in_contains}

-- an item of the result is one of the items, and each of these is one of the result
pub result_in : (r : Recorded) (limits : Limits) (i : Item) → Contains (sequential r limits) i →
    IsIn i (all_items r limits)
unfolding sequential
result_in r limits i is =
    contains_in i (all_items r limits)
    (Contains-permutation (sequential r limits) (all_items r limits) i
    (IsPermutation-sym (all_items r limits) (sequential r limits)
    (in_order_permutes item_cmp (all_items r limits)))
    is)

pub in_result : (r : Recorded) (limits : Limits) (i : Item) → IsIn i (all_items r limits) →
    Contains (sequential r limits) i
unfolding sequential
in_result r limits i is =
    Contains-permutation (all_items r limits) (sequential r limits) i
    (in_order_permutes item_cmp (all_items r limits))
    (in_contains i (all_items r limits) is)

-- ---- ranks

pub channel_ranks : {X : Type 0} (r : Recorded) (item_of : X → ℕ → Item) (rank : ℕ) →
    ((x : X) (p : ℕ) → rank_of (item_of x p) ≡ rank) → (xs : List X) →
    AllByRecursion (λ i. rank_of i ≡ rank) (for_each_channel r item_of xs)
channel_ranks r item_of rank is xs =
    all_flat_map (λ i. rank_of i ≡ rank) (λ x. map (item_of x) (positions r)) xs
    (all_each (λ x. AllByRecursion (λ i. rank_of i ≡ rank) (map (item_of x) (positions r)))
    (λ x. all_map (λ i. rank_of i ≡ rank) (item_of x) (positions r)
    (all_each (λ p. rank_of (item_of x p) ≡ rank) (is x) (positions r)))
    xs)

event_rank : (kind : Kind) (number : ℕ) (e : Event) → 5 ≤ rank_of (item_of_kind kind number e)
event_rank Dip number e = omega arith
event_rank Swell number e = omega arith
event_rank Interruption number e = omega arith

pub event_ranks : (r : Recorded) (events : List Event) →
    AllByRecursion (λ i. 5 ≤ rank_of i) (event_items r events)
event_ranks r events =
    all_map (λ i. 5 ≤ rank_of i) (event_item r) events
    (all_each (λ e. 5 ≤ rank_of (event_item r e))
    (λ e. event_rank e.kind (number_of r e.channel) e) events)

pub reading_ranks : (events : List Event) (readings : List Reading) →
    AllByRecursion (λ i. rank_of i ≡ 0) (map (reading_item events) readings)
reading_ranks events readings =
    all_map (λ i. rank_of i ≡ 0) (reading_item events) readings
    (all_each (λ g. rank_of (reading_item events g) ≡ 0) (λ g. refl) readings)

-- ---- by rank

module _ (r : Recorded) (events : List Event) (readings : List Reading) (basics : List Basic) where
  -- the 2-hour items are in the list of 2-hour items
  pub of_two_hours : (i : Item) → rank_of i ≡ 4 → IsIn i (items_over r events readings basics) →
      IsIn i (for_each_channel r (two_hour_item r) (two_hours_of r (tens_of r basics)))
  of_two_hours i rank is =
      let tens = tens_of r basics in
      let a = map (reading_item events) readings in
      let b = for_each_channel r (basic_item r) (parts_of basics) in
      let c = for_each_channel r (short_item r) (shorts_of r basics) in
      let d = for_each_channel r (ten_item r) tens in
      let e = for_each_channel r (two_hour_item r) (two_hours_of r tens) in
      let f = event_items r events in
      elim (in_append i (a ++ b ++ c ++ d ++ e) f is) [
        | inr last ↦ let no = all_in (λ i. 5 ≤ rank_of i) i f (event_ranks r events) last in
            absurd (omega (arith, no, rank))
        | inl rest ↦ elim (in_append i (a ++ b ++ c ++ d) e rest) [
          | inr here ↦ here
          | inl more ↦ elim (in_append i (a ++ b ++ c) d more) [
            | inr ten ↦
                let no = all_in (λ i. rank_of i ≡ 3) i d (channel_ranks r (ten_item r) 3 (λ x p. refl) tens)
                ten in
                absurd (omega (arith, no, rank))
            | inl less ↦ elim (in_append i (a ++ b) c less) [
              | inr short ↦
                  let no = all_in (λ i. rank_of i ≡ 2) i c
                  (channel_ranks r (short_item r) 2 (λ x p. refl) (shorts_of r basics)) short in
                  absurd (omega (arith, no, rank))
              | inl first ↦ elim (in_append i a b first) [
                | inr basic ↦
                    let no = all_in (λ i. rank_of i ≡ 1) i b
                    (channel_ranks r (basic_item r) 1 (λ x p. refl) (parts_of basics)) basic in
                    absurd (omega (arith, no, rank))
                | inl reading ↦
                    let no = all_in (λ i. rank_of i ≡ 0) i a (reading_ranks events readings) reading in
                    absurd (omega (arith, no, rank))
              ]
            ]
          ]
        ]
      ]

  -- and the 10-minute items are among all
  pub in_tens : (i : Item) → IsIn i (for_each_channel r (ten_item r) (tens_of r basics)) →
      IsIn i (items_over r events readings basics)
  in_tens i is =
      let tens = tens_of r basics in
      let a = map (reading_item events) readings in
      let b = for_each_channel r (basic_item r) (parts_of basics) in
      let c = for_each_channel r (short_item r) (shorts_of r basics) in
      let d = for_each_channel r (ten_item r) tens in
      let e = for_each_channel r (two_hour_item r) (two_hours_of r tens) in
      let f = event_items r events in
      in_append_left i (a ++ b ++ c ++ d ++ e) f
      (in_append_left i (a ++ b ++ c ++ d) e (in_append_right i (a ++ b ++ c) d is))
