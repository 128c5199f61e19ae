-- From what is posted to what is left: which window comes first, the next basic interval, and what waits.
use Rattle.std.proofs.Common.{◌≡◌, ℕ, zero, suc, ◌+◌, ◌-◌, ◌*◌, ◌^◌, ◌<◌, ◌≤◌, List, [], ◌∷◌, ◌++◌, length, map, take, Option, None, Some, option_map, IsSome, slice_get, slice_index, refl, sym, ◌∙◌, ap, subst, inl, inr, arith}
use Rattle.std.specs.Option.{option_map_or}
use Rattle.std.proofs.lemmas.List.{length-append}
use Rattle.event_detect.specs.declared.limits.Limits.{Limits}
use Rattle.event_detect.specs.declared.window.Window.{Window}
use Rattle.freq10s.specs.declared.reading.Reading.{Reading}
use Rattle.interval_ledger.specs.declared.channel.SpanValue.{SpanValue}
use Rattle.interval_ledger.specs.declared.next_due.Due.{Due}
use Rattle.interval_ledger.specs.declared.next_due.Due.TheVariants as due
use Rattle.interval_ledger.specs.Channel.{ChannelView, first_start, first_starts}
use Rattle.interval_ledger.specs.Left.{BasicsWait, IsFirstStart, ReadingsWait}
use Rattle.interval_ledger.specs.NextDue.{BasicIsPast, HasAll, IsNextDue, ReadingIsFrom, ReadingIsPast, value_at}
use Rattle.interval_ledger.specs.Posted.{AreFirst, ArePosted, AreWithinReach, due_end, merged_of, root_at, value_item}
use Rattle.interval_ledger.proofs.HeadLaws.{basic_posted, get_mapped, posted_end, posted_start}
use Rattle.interval_ledger.proofs.StepLaws.{taken_more}
use Rattle.lanes.specs.declared.lane_item.LaneItem.{LaneItem}
use Rattle.lanes.specs.declared.lane_item.LaneItem.TheVariants as item
use Rattle.lanes.specs.Lane.{reach, recorded_readings, recorded_runs, sampler_items, value_of, windows_at}
use Rattle.lanes.proofs.ReachLaws.{reach_rises}
use Rattle.pq_base.specs.Recorded.{Recorded, IsRecording}
use Rattle.pq_sequence.specs.MeasuredRecording.{channel_count}
use Rattle.ten_twelve.specs.declared.span.Span.{Span}

-- ---- lists by index

got_taken : {X : Type 0} (n : ℕ) (xs : List X) (k : ℕ) (x : X) → slice_get (take n xs) k ≡ Some x →
    slice_get xs k ≡ Some x
got_taken zero xs k x is = absurd (none k is)
  where
    none : (k : ℕ) → slice_get [] k ≡ Some x → ⊥
    none zero is = cc
    none (suc k) is = cc
got_taken (suc n) [] k x is = is
got_taken (suc n) (y ∷ ys) zero x is = is
got_taken (suc n) (y ∷ ys) (suc k) x is = got_taken n ys k x is

pub got_first : {X : Type 0} (some all : List X) (k : ℕ) (x : X) → AreFirst some all →
    slice_get some k ≡ Some x → slice_get all k ≡ Some x
got_first some all k x first is = got_taken (length some) all k x (ap (λ xs. slice_get xs k) (sym first) ∙ is)

-- one element more is the first of what is left
pub first_more : {X : Type 0} (some all : List X) (x : X) → AreFirst some all →
    slice_get all (length some) ≡ Some x → AreFirst (some ++ x ∷ []) all
first_more some all x first is =
    let long : length (some ++ x ∷ []) ≡ length some + 1 = omega (arith, length-append some (x ∷ [])) in
    ap (λ xs. xs ++ x ∷ []) first
    ∙ sym (taken_more all (length some) x is)
    ∙ ap (λ n. take n all) (sym long)

none_got : {X : Type 0} (xs : List X) (k : ℕ) → slice_get xs k ≡ None → length xs ≤ k
none_got [] k is = omega arith
none_got (x ∷ xs) zero is = absurd (let bad : ⊥ = cc in bad)
none_got (x ∷ xs) (suc k) is = let less = none_got xs k is in omega (arith, less)

found_at : {X : Type 0} (xs : List X) (k : ℕ) → k < length xs → (x : X) × (slice_get xs k ≡ Some x)
found_at [] k inside = absurd (omega (arith, inside))
found_at (x ∷ xs) zero inside = (x, refl)
found_at (x ∷ xs) (suc k) inside = found_at xs k (omega (arith, inside))

index_mapped : {X : Type 0} (f : X → ℕ) (xs : List X) (k : ℕ) (x : X) → slice_get xs k ≡ Some x →
    slice_index (map f xs) k ≡ f x
index_mapped f [] k x is = absurd (let bad : ⊥ = cc in bad)
index_mapped f (y ∷ ys) zero x is = ap f (same y is)
  where
    same : (y : _) → Some y ≡ Some x → y ≡ x
    same y e = cc
index_mapped f (y ∷ ys) (suc k) x is = index_mapped f ys k x is

some_of : {X : Type 0} (o : Option X) → IsSome o → (x : X) × (o ≡ Some x)
some_of None is = absurd (let bad : ⊥ = cc in bad)
some_of (Some x) is = (x, refl)

module _ (r : Recorded) (limits : Limits) (given : IsRecording r) (channels : List ChannelView)
    (readings : List Reading) (posted : ArePosted r channels readings) where
  -- the channel at a position
  channel : (c : ℕ) → c < channel_count r → (v : ChannelView) × (slice_get channels c ≡ Some v)
  channel c inside = found_at channels c (omega (arith, inside, posted.many))

  -- ---- what is posted of a basic interval

  value_there : (k c : ℕ) (v : ChannelView) (s : SpanValue) → slice_get channels c ≡ Some v →
      slice_get v.values.items k ≡ Some s → slice_get (sampler_items r c) k ≡ Some (value_item s)
  value_there k c v s at is =
      got_first (map value_item v.values.items) (sampler_items r c) k (value_item s)
      (posted.each c v at).values
      (get_mapped value_item k v.values.items ∙ ap (option_map value_item) is)

  item_there : (k c : ℕ) → c < channel_count r → (s : SpanValue) → value_at channels k c ≡ Some s →
      slice_get (sampler_items r c) k ≡ Some (value_item s)
  item_there k c inside s is =
      let found = channel c inside in
      value_there k c found.0 s found.1 (sym (ap (λ o. of_channel o) found.1) ∙ is)
    where
      of_channel : Option ChannelView → Option SpanValue
      of_channel None = None
      of_channel (Some v) = slice_get v.values.items k

  -- each sampler has posted the span of the first, with a root of its own
  pub all_posted : (k : ℕ) (first : SpanValue) → HasAll channels k first → (c : ℕ) → c < channel_count r →
      slice_get (sampler_items r c) k ≡ Some (item.Value first.start first.end (root_at channels k c))
  unfolding posted_start posted_end
  all_posted k first has c inside =
      let some = some_of (value_at channels k c) (has.each c (omega (arith, inside, posted.many))) in
      let own = item_there k c inside some.0 some.1 in
      let base = item_there k 0 given.channels.0 first has.is_first in
      own ∙ ap Some (same (slice_get (recorded_runs r) k) some.0
      (sym (get_mapped (value_of r c) k (recorded_runs r)) ∙ own)
      (sym (get_mapped (value_of r 0) k (recorded_runs r)) ∙ base)
      ∙ ap (item.Value first.start first.end) (sym (ap (λ o. option_map_or (λ v. v.value) o 0) some.1)))
    where
      inner : (x y : LaneItem) → Some x ≡ Some y → x ≡ y
      inner x y e = cc

      same : (o : Option Span) (s : SpanValue) → option_map (value_of r c) o ≡ Some (value_item s) →
          option_map (value_of r 0) o ≡ Some (value_item first) →
          value_item s ≡ item.Value first.start first.end s.value
      same None s e f = absurd (let bad : ⊥ = cc in bad)
      same (Some run) s e f =
          let own = inner (value_of r c run) (value_item s) e in
          let base = inner (value_of r 0 run) (value_item first) f in
          ap (λ n. item.Value n s.end s.value) (sym (ap posted_start own) ∙ ap posted_start base)
          ∙ ap (λ n. item.Value first.start n s.value) (sym (ap posted_end own) ∙ ap posted_end base)

  -- ---- within the reaches

  module _ (w : ℕ) (within : AreWithinReach r channels readings w) where
    further : (lane n k p : ℕ) → p ≤ w → w ≤ reach r lane n → n ≤ k → p ≤ reach r lane k
    further lane n k p before until more =
        let rises = reach_rises r given lane n k more in omega (arith, before, until, rises)

    -- which window comes first is told by the first starts
    pub starts_first : w < 2 ^ 64 → (k : ℕ) → k < channel_count r →
        IsFirstStart r (merged_of channels) w (first_starts channels) k
    starts_first small k inside =
        let found = channel k inside in
        let v = found.0 in
        let next : merged_of channels k ≡ v.merged = ap (λ o. option_map_or (λ c. c.merged) o 0) found.1 in
        let start : slice_index (first_starts channels) k ≡ first_start v =
        index_mapped first_start channels k v found.1 in
        at v next start found.1 (slice_get v.windows.items v.merged) refl
      where
        at : (v : ChannelView) → merged_of channels k ≡ v.merged →
            slice_index (first_starts channels) k ≡ first_start v → slice_get channels k ≡ Some v →
            (o : Option Window) → slice_get v.windows.items v.merged ≡ o →
            IsFirstStart r (merged_of channels) w (first_starts channels) k
        at v next start there None is =
            let few = none_got v.windows.items v.merged is in
            let far : slice_index (first_starts channels) k ≡ 2 ^ 64 - 1 =
            start ∙ ap (λ o. option_map_or (λ x. x.start) o (2 ^ 64 - 1)) is in
            inr (
              subst (λ n. w ≤ reach r (2 * k + 1) n) (sym next)
                  (further (2 * k + 1) (length v.windows.items) v.merged w (omega arith)
                  (within.detectors k v there) few),
              omega (arith, far, small),
            )
        at v next start there (Some x) is =
            inl (
              x,
              ap (slice_get (windows_at r k)) next
                  ∙ got_first v.windows.items (windows_at r k) v.merged x (posted.each k v there).windows is,
              start ∙ ap (λ o. option_map_or (λ x. x.start) o (2 ^ 64 - 1)) is,
            )

    -- basic intervals that are past a place wait there, and before it
    pub basics_by : (k e p : ℕ) → p ≤ e → p ≤ w → BasicIsPast channels k e → BasicsWait r limits k p
    basics_by k e p before inside (inl lacks) =
        let c = lacks.0 in
        let there : c < channel_count r = let a = lacks.1 in omega (arith, a, posted.many) in
        let found = channel c there in
        let none : slice_get found.0.values.items k ≡ None =
        sym (ap (λ o. of_channel o) found.1) ∙ lacks.2 in
        inl (
          c,
          there,
          further (2 * c) (length found.0.values.items) k p inside
              (within.samplers c found.0 found.1) (none_got found.0.values.items k none),
        )
      where
        of_channel : Option ChannelView → Option SpanValue
        of_channel None = None
        of_channel (Some v) = slice_get v.values.items k
    basics_by k e p before inside (inr past) =
        let v = past.0 in
        inr (
          _,
          basic_posted r limits given k v.start v.end (root_at channels k) (all_posted k v past.1),
          let late = past.2 in omega (arith, before, late),
        )

    -- and so of the next one, before its end
    pub basics_at : (k p : ℕ) (first : SpanValue) → HasAll channels k first → p < first.end →
        BasicsWait r limits k p
    basics_at k p first has late =
        inr (
          _,
          basic_posted r limits given k first.start first.end (root_at channels k)
              (all_posted k first has),
          late,
        )

    pub readings_by : (k e p : ℕ) → p ≤ e → p ≤ w → ReadingIsPast readings k e → ReadingsWait r k p
    readings_by k e p before inside (inl none) =
        inl (further (2 * channel_count r) (length readings) k p inside within.frequency
        (none_got readings k none))
    readings_by k e p before inside (inr past) =
        inr (
          past.0,
          got_first readings (recorded_readings r) k past.0 posted.frequency past.1,
          let late = past.2 in omega (arith, before, late),
        )

    pub readings_from_by : (k e p : ℕ) → p < e → p ≤ w → ReadingIsFrom readings k e → ReadingsWait r k p
    readings_from_by k e p before inside (inl none) =
        inl (further (2 * channel_count r) (length readings) k p inside within.frequency
        (none_got readings k none))
    readings_from_by k e p before inside (inr past) =
        inr (
          past.0,
          got_first readings (recorded_readings r) k past.0 posted.frequency past.1,
          let late = past.2 in omega (arith, before, late),
        )

    -- before the end of what is next due, basic intervals and readings wait
    pub due_waits : (basics merged p : ℕ) (found : Option Due) →
        IsNextDue channels basics readings merged w found → p < due_end w found →
        BasicsWait r limits basics p × ReadingsWait r merged p
    due_waits basics merged p None is before = (
      basics_by basics w p (omega (arith, before)) (omega (arith, before)) is.0,
      readings_by merged w p (omega (arith, before)) (omega (arith, before)) is.1,
    )
    due_waits basics merged p (Some (due.Basic first)) is before =
        let until = is.1 in (
          basics_at basics p first is.0 before,
          readings_from_by merged first.end p before (omega (arith, before, until)) is.2,
        )
    due_waits basics merged p (Some (due.Reading reading)) is before =
        let until = is.1 in (
          basics_by basics reading.end p (omega (arith, before)) (omega (arith, before, until)) is.2,
          inr (
            reading,
            got_first readings (recorded_readings r) merged reading posted.frequency is.0,
            before,
          ),
        )

    -- and where nothing is due by w, they wait at w
    pub none_due : (basics merged : ℕ) → IsNextDue channels basics readings merged w None →
        BasicsWait r limits basics w × ReadingsWait r merged w
    none_due basics merged is = (
      basics_by basics w w (omega arith) (omega arith) is.0,
      readings_by merged w w (omega arith) (omega arith) is.1,
    )
