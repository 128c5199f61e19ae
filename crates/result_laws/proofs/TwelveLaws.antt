-- A 2-hour item of a result is made of twelve 10-minute items of it.
use Rattle.std.proofs.Common.{◌≡◌, ℕ, zero, suc, ◌+◌, ◌-◌, ◌<◌, ◌||◌, nat_lt, Bool, true, cond, List, [], ◌∷◌, length, map, Contains, ℤ, pos, ◌+ℤ◌, Some, option_map, unwrap_or, IfSome, slice_get, slice_index, All, refl, sym, ◌∙◌, ap, subst, arith}
use Rattle.std.specs.List.{AllByRecursion, list_any}
use Rattle.std.specs.Option.{option_map_or}
use Rattle.std.proofs.lemmas.Bool.Decides.{nat_tests}
use Rattle.std.proofs.lemmas.List.{length-map}
use Rattle.std.proofs.lemmas.List.Elements.{All-from_recursion}
use Rattle.std.proofs.lemmas.Option.{same_Some}
use Rattle.aggregate.specs.declared.group.Group.{Group}
use Rattle.aggregate.specs.Aggregation.{Basic, as_part, channel_root, first_start, group_of, last_end, ten_groups, two_hour_group, two_hour_groups}
use Rattle.event_detect.specs.declared.event.Event.{Event}
use Rattle.event_detect.specs.declared.limits.Limits.{Limits}
use Rattle.fixed_rms.specs.Root.{root_mean}
use Rattle.pq_base.specs.Recorded.{Recorded, IsRecording, sample_count}
use Rattle.pq_items.specs.declared.item.Item.{Item}
use Rattle.pq_items.specs.declared.item.Item.TheVariants.{TwoHour}
use Rattle.pq_items.specs.ItemTable.{channel_of, start_of, end_of, tick_of, value_of, has_mark}
use Rattle.pq_sequence.specs.MeasuredRecording.{basics_of, clock_of, positions, readings_of, recorded_events, reference_cycles, tens_of, tick_places, two_hours_of}
use Rattle.pq_sequence.specs.SequentialResult.{items_under, number_of, sequential, ten_item, two_hour_item}
use Rattle.pq_time.specs.Tick.{tick_place, ticks}
use Rattle.pq_words.specs.Steps.{numbers_from, numbers_below, steps_from}
use Rattle.result_laws.specs.TwelveTenMinutes.{AreTwelve, HaveNoGap, IsTenMinutes, LastsFrom, TwoHoursHaveTwelve}
use Rattle.result_laws.proofs.BasicRuns.{HasFront, Precedes, recorded_fronts, recorded_precede}
use Rattle.result_laws.proofs.ItemLists.{in_result, in_tens, of_two_hours, result_in}
use Rattle.result_laws.proofs.NumberLaws.{numbers_bound}
use Rattle.result_laws.proofs.PairLaws.{IsIn, Pairwise, all_in, all_map, all_weaker, in_flat_map, in_map, of_filter_map, of_flat_map, of_map}
use Rattle.result_laws.proofs.TwoHourLaws.{AreFound, all_there, no_gaps, two_hours_of_tens}

-- the value of a group by position
root_at : (h : ℕ → ℕ) (low n i : ℕ) → i < n → slice_index (map h (numbers_from low n)) i ≡ h (low + i)
unfolding numbers_from
root_at h low zero i inside = absurd (omega (arith, inside))
root_at h low (suc n) zero inside = let e : low ≡ low + zero = omega arith in ap h e
root_at h low (suc n) (suc i) inside =
    let e : low + 1 + i ≡ low + suc i = omega arith in
    root_at h (low + 1) n i (omega (arith, inside)) ∙ ap h e

of_mapped : {X Y : Type 0} (f : X → Y) (xs : List X) (k : ℕ) (y : Y) → slice_get (map f xs) k ≡ Some y →
    (x : X) × (slice_get xs k ≡ Some x) × (f x ≡ y)
of_mapped f [] k y at = absurd (let bad : ⊥ = cc in bad)
of_mapped f (x ∷ xs) zero y at = (x, refl, same_Some (f x) y at)
of_mapped f (x ∷ xs) (suc k) y at = of_mapped f xs k y at

module _ (r : Recorded) (p : ℕ) where
  -- the items of the channel at the position
  abbrev items : List Group → List Item
  items gs = map (λ g. ten_item r g p) gs

  starts_told : (gs : List Group) (k : ℕ) → k < length gs →
      option_map start_of (slice_get (items gs) k)
      ≡ Some (option_map_or (λ q. q.start) (slice_get (map as_part gs) k) 0)
  starts_told [] k inside = absurd (omega (arith, inside))
  starts_told (g ∷ gs) zero inside = refl
  starts_told (g ∷ gs) (suc k) inside = starts_told gs k (omega (arith, inside))

  ends_told : (gs : List Group) (k : ℕ) → k < length gs →
      option_map end_of (slice_get (items gs) k)
      ≡ Some (option_map_or (λ q. q.end) (slice_get (map as_part gs) k) 0)
  ends_told [] k inside = absurd (omega (arith, inside))
  ends_told (g ∷ gs) zero inside = refl
  ends_told (g ∷ gs) (suc k) inside = ends_told gs k (omega (arith, inside))

  values_told : (gs : List Group) →
      map (λ q. slice_index q.values p) (map as_part gs) ≡ map value_of (items gs)
  values_told [] = refl
  values_told (g ∷ gs) = ap (λ vs. slice_index g.values p ∷ vs) (values_told gs)

  flags_told : (gs : List Group) → list_any (λ q. q.flagged) (map as_part gs) ≡ list_any has_mark (items gs)
  flags_told [] = refl
  flags_told (g ∷ gs) = ap (λ b. g.flagged || b) (flags_told gs)

  kinds_told : (gs : List Group) → AllByRecursion (IsTenMinutes (number_of r p)) (items gs)
  kinds_told [] = tt
  kinds_told (g ∷ gs) = (record { kind = refl; same_channel = refl }, kinds_told gs)

  module _ (channels : ℕ) (bs : List Basic) (precede : Pairwise Precedes bs) where
    ticks_told : (t : ℤ) (gs : List Group) → AreFound (clock_of r) (sample_count r) channels bs precede t gs →
        map tick_of (items gs) ≡ map Some (steps_from t 600 (length gs))
    unfolding steps_from
    ticks_told t [] h = refl
    ticks_told t (g ∷ gs) h =
        let here : unwrap_or g.tick (pos 0) ≡ t = ap (λ o. unwrap_or o (pos 0)) h.0.ten.tick_is in
        ap (λ s. Some s ∷ map tick_of (items gs)) here
        ∙ ap (λ ts. Some t ∷ ts) (ticks_told (t +ℤ pos 600) gs h.1)

    lasting_told : (t : ℤ) (gs : List Group) →
        AreFound (clock_of r) (sample_count r) channels bs precede t gs →
        AllByRecursion (λ ten. IfSome (tick_of ten) (λ s. LastsFrom r s ten)) (items gs)
    lasting_told t [] h = tt
    lasting_told t (g ∷ gs) h =
        let here : unwrap_or g.tick (pos 0) ≡ t = ap (λ o. unwrap_or o (pos 0)) h.0.ten.tick_is in
        let reached = h.0.ten.reaches_next in
        let ends = h.0.ten.ends in
        let lasts : LastsFrom r t (ten_item r g p) = record {
          begins = h.0.ten.begins;
          ends = omega (arith, reached, ends);
        } in
        (subst (λ s. LastsFrom r s (ten_item r g p)) (sym here) lasts, lasting_told (t +ℤ pos 600) gs h.1)

-- the places of ticks have fronts
tick_fronts : (r : Recorded) (events : List Event) → IsRecording r → (u : ℤ) →
    IsIn u (ticks (clock_of r) (sample_count r) 600) →
    HasFront (basics_of r events (reference_cycles r)) (tick_place (clock_of r) (sample_count r) u)
unfolding tick_places
tick_fronts r events is u tick =
    recorded_fronts r events (tick_place (clock_of r) (sample_count r) u) is
    (in_map (tick_place (clock_of r) (sample_count r)) u (ticks (clock_of r) (sample_count r) 600) tick)

module _ (r : Recorded) (limits : Limits) (is : IsRecording r) where
  abbrev measured : List Basic
  measured = basics_of r (recorded_events r limits) (reference_cycles r)

  abbrev channels : ℕ
  channels = length r.numbers

  made_of : (channel : ℕ) (tick : ℤ) (start end value : ℕ) (flagged : Bool) (g : Group) (p : ℕ) →
      p < channels → TwoHour channel tick start end value flagged ≡ two_hour_item r g p → (u : ℤ) →
      two_hour_group channels (tens_of r measured) u ≡ Some g → IsIn p (positions r) →
      (tens : List Item) × AreTwelve r (sequential r limits) channel tick start end value flagged tens
  unfolding group_of items_under
  made_of channel tick start end value flagged g p inside e u two position =
      let precede = recorded_precede r (recorded_events r limits) is in
      let clock = clock_of r in
      let n = sample_count r in
      let made = two_hours_of_tens clock n channels measured precede u g two in
      let gs = made.0 in
      let parts = map as_part gs in
      let twelve = made.1.twelve in
      let found = made.1.found in
      let group = made.1.is in
      let number : channel ≡ number_of r p = ap channel_of e in
      let tick_same : Some tick ≡ Some u =
      ap tick_of e ∙ ap (λ (z : Group). Some (unwrap_or z.tick (pos 0))) (sym group) in
      let tick_is : u ≡ tick = sym (same_Some tick u tick_same) in
      let many : length parts ≡ 12 = length-map gs as_part ∙ twelve in
      let start_is : first_start parts ≡ start = ap (λ (z : Group). z.start) group ∙ sym (ap start_of e) in
      let end_is : last_end parts ≡ end = ap (λ (z : Group). z.end) group ∙ sym (ap end_of e) in
      let last_is : length parts - 1 ≡ 11 = omega (arith, many) in
      let few = is.channels.1 in
      let here : nat_lt p channels ≡ true = lt_is p channels inside in
      let zero_p : 0 + p ≡ p = omega arith in
      let rooted : slice_index (map (channel_root channels parts) (numbers_below 16)) p
      ≡ root_mean (map (λ q. slice_index q.values p) parts) =
      root_at (channel_root channels parts) 0 16 p (omega (arith, inside, few))
      ∙ ap (channel_root channels parts) zero_p
      ∙ ap (λ b. cond b (root_mean (map (λ q. slice_index q.values p) parts)) 0) here in (
        items r p gs,
        record {
          twelve = length-map gs (λ g. ten_item r g p) ∙ twelve;
          there = All-from_recursion (Contains (sequential r limits)) (items r p gs)
              (all_map (Contains (sequential r limits)) (λ g. ten_item r g p) gs
              (all_weaker (λ h. IsIn h (ten_groups clock n channels measured))
              (λ h. Contains (sequential r limits) (ten_item r h p))
              (λ h there. in_result r limits (ten_item r h p)
              (in_tens r (recorded_events r limits) (readings_of r (reference_cycles r)) measured
              (ten_item r h p)
              (in_flat_map (λ x. map (ten_item r x) (positions r)) h (ten_item r h p) (tens_of r measured)
              there
              (in_map (ten_item r h) p (positions r) position))))
              gs (all_there clock n channels measured precede u gs found)));
          kind = subst (λ c. All (IsTenMinutes c) (items r p gs)) (sym number)
              (All-from_recursion (IsTenMinutes (number_of r p)) (items r p gs) (kinds_told r p gs));
          ticks = ticks_told r p channels measured precede u gs found
              ∙ ap (λ m. map Some (steps_from u 600 m)) twelve
              ∙ ap (λ t. map Some (steps_from t 600 12)) tick_is;
          lasting = All-from_recursion (λ ten. IfSome (tick_of ten) (λ s. LastsFrom r s ten)) (items r p gs)
              (lasting_told r p channels measured precede u gs found);
          no_gap = λ k item next at after. gap gs u precede found k item next at after;
          first = starts_told r p gs 0 (omega (arith, twelve)) ∙ ap Some start_is;
          last = ends_told r p gs 11 (omega (arith, twelve))
              ∙ ap (λ k. Some (option_map_or (λ q. q.end) (slice_get parts k) 0)) (sym last_is)
              ∙ ap Some end_is;
          root = ap value_of e ∙ ap (λ (z : Group). slice_index z.values p) (sym group) ∙ rooted
              ∙ ap root_mean (values_told r p gs);
          flag = ap has_mark e ∙ ap (λ (z : Group). z.flagged) (sym group) ∙ flags_told r p gs;
        },
      )
    where
      lt_is : (a b : ℕ) → a < b → nat_lt a b ≡ true
      lt_is a b h = grind (arith, nat_tests, h)

      gap : (gs : List Group) (u : ℤ) (precede : Pairwise Precedes measured) →
          AreFound (clock_of r) (sample_count r) channels measured precede u gs → HaveNoGap (items r p gs)
      gap gs u precede found k item next at after =
          let step : k + 1 ≡ suc k = omega arith in
          let x = of_mapped (λ g. ten_item r g p) gs k item at in
          let y = of_mapped (λ g. ten_item r g p) gs (suc k) next
          (sym (ap (slice_get (items r p gs)) step) ∙ after) in
          let bound = no_gaps (clock_of r) (sample_count r) channels measured precede
          (tick_fronts r (recorded_events r limits) is) u gs found k x.0 y.0 x.1 y.1 in
          let end : x.0.end ≡ end_of item = ap end_of x.2 in
          let start : y.0.start ≡ start_of next = ap start_of y.2 in
          omega (arith, bound, end, start)

  pub made_of_twelve : (channel : ℕ) (tick : ℤ) (start end value : ℕ) (flagged : Bool) →
      Contains (sequential r limits) (TwoHour channel tick start end value flagged) →
      (tens : List Item) × AreTwelve r (sequential r limits) channel tick start end value flagged tens
  unfolding items_under two_hour_groups
  made_of_twelve channel tick start end value flagged there =
      let item = TwoHour channel tick start end value flagged in
      let two = of_two_hours r (recorded_events r limits) (readings_of r (reference_cycles r)) measured item
      refl
      (result_in r limits item there) in
      let group = of_flat_map (λ x. map (two_hour_item r x) (positions r)) item
      (two_hours_of r (tens_of r measured)) two in
      let position = of_map (two_hour_item r group.0) item (positions r) group.2 in
      let tick_at = of_filter_map (two_hour_group channels (tens_of r measured)) group.0
      (ticks (clock_of r) (sample_count r) 7200) group.1 in
      let inside = all_in (λ x. x < channels) position.0 (positions r)
      (numbers_bound 0 channels channels (omega arith)) position.1 in
      made_of channel tick start end value flagged group.0 position.0 inside position.2 tick_at.0 tick_at.2
      position.1

pub two_hours_have_twelve : TwoHoursHaveTwelve
two_hours_have_twelve r limits channel tick start end value flagged is there =
    made_of_twelve r limits is channel tick start end value flagged there
