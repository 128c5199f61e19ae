-- The state of merging: what a step leaves as it is, and what holds after it.
use Rattle.std.proofs.Common.{◌≡◌, ℕ, zero, suc, ◌+◌, ◌-◌, ◌*◌, ◌^◌, ◌<◌, ◌≤◌, max, List, [], ◌∷◌, length, map, take, drop, Option, None, Some, option_and_then, slice_get, slice_index, slice_set, sum, sum_by, get_or, refl, sym, ◌∙◌, ap, subst, inl, inr, arith}
use Rattle.std.specs.Option.{option_map_or}
use Rattle.std.specs.List.{AllByRecursion}
use Rattle.std.specs.declared.alloc.Global.{Global}
use Rattle.std.specs.declared.vec.Vec.{Vec}
use Rattle.std.proofs.lemmas.Bool.{cases_lt}
use Rattle.std.proofs.lemmas.List.{length-map}
use Rattle.std.proofs.lemmas.List.Sums.{sum_by-set}
use Rattle.aggregate.specs.Aggregator.{AggregatorView}
use Rattle.event_detect.specs.declared.limits.Limits.{Limits}
use Rattle.event_detect.specs.declared.window.Window.{Window}
use Rattle.freq10s.specs.declared.reading.Reading.{Reading}
use Rattle.interval_ledger.specs.declared.merging.Merging.{Merging}
use Rattle.interval_ledger.specs.declared.next_due.Due.{Due}
use Rattle.interval_ledger.specs.declared.next_due.Due.TheVariants as due
use Rattle.interval_ledger.specs.Channel.{ChannelView, first_start, first_starts, with_merged}
use Rattle.interval_ledger.specs.Earliest.{DifferAt, IsFirstLeast}
use Rattle.interval_ledger.specs.Heads.{HeadsArePosted, heads_of}
use Rattle.interval_ledger.specs.Known.{AddsReading, AddsWindow, Ends, IsKnown, IsNextWindow, KeepsKnown, KeepsName, KnownView, MovesMark}
use Rattle.interval_ledger.specs.Left.{IsLeft}
use Rattle.interval_ledger.specs.Merged.{IsSettled, Merged, all_basics}
use Rattle.interval_ledger.specs.Merging.{HasMerged, HasPosted, HoldsCut, IsDue, IsMerging, IsNext, IsWithinReach, KeepsPosted, MayMergeUntil, MergesWindows, NoneBefore, TakesWindow, count_left, due_left, first_left, latest_start, left_of, merged_by, merged_items}
use Rattle.interval_ledger.specs.NextDue.{IsNextDue}
use Rattle.interval_ledger.specs.Posted.{ArePosted, AreWithinReach, due_end, merged_of}
use Rattle.interval_ledger.specs.Queue.{Queued}
use Rattle.interval_ledger.specs.Settlement.{needed_items}
use Rattle.interval_ledger.specs.Watch.{WatchView}
use Rattle.interval_ledger.proofs.EarliestLaws.{none_earliest}
use Rattle.interval_ledger.proofs.HeadCountLaws.{all_needed, heads_window, more_reading, more_window}
use Rattle.interval_ledger.proofs.KeptLaws.{due_kept, map_set, posted_so, values_of, windows_of, within_so}
use Rattle.interval_ledger.proofs.MergingLaws.{window_next}
use Rattle.interval_ledger.proofs.NeedLaws.{detector_needed, frequency_needed, sampler_needed}
use Rattle.interval_ledger.proofs.PostedLaws.{got_first, none_due, starts_first}
use Rattle.interval_ledger.proofs.ReadingLaws.{reading_told}
use Rattle.interval_ledger.proofs.StopLaws.{basics_wait, readings_wait}
use Rattle.lanes.specs.Lane.{recorded_readings, windows_at}
use Rattle.lanes.proofs.ReachLaws.{reach_most}
use Rattle.polyphase.specs.Poly.{channel_window}
use Rattle.pq_base.specs.Recorded.{IsRecording, Recorded, sample_count}
use Rattle.pq_items.specs.declared.item.Item.{Item}
use Rattle.pq_sequence.specs.MeasuredRecording.{channel_count, recorded_places, recorded_windows}
use Rattle.pq_sequence.specs.SequentialResult.{cut, sequential}

-- ---- lists by index

inner : {X : Type 0} (x y : X) → Some x ≡ Some y → x ≡ y
inner x y e = cc

pub found_at : {X : Type 0} (xs : List X) (k : ℕ) → k < length xs → (x : X) × (slice_get xs k ≡ Some x)
found_at [] k inside = absurd (omega (arith, inside))
found_at (x ∷ xs) zero inside = (x, refl)
found_at (x ∷ xs) (suc k) inside = found_at xs k (omega (arith, inside))

pub got_inside : {X : Type 0} (xs : List X) (k : ℕ) (x : X) → slice_get xs k ≡ Some x → k < length xs
got_inside [] k x is = absurd (let bad : ⊥ = cc in bad)
got_inside (y ∷ ys) zero x is = omega arith
got_inside (y ∷ ys) (suc k) x is = let less = got_inside ys k x is in omega (arith, less)

got_is : {X : Type 0} (xs : List X) (k : ℕ) (x : X) → slice_get xs k ≡ Some x → get_or xs k x ≡ x
got_is [] k x is = absurd (let bad : ⊥ = cc in bad)
got_is (y ∷ ys) zero x is = inner y x is
got_is (y ∷ ys) (suc k) x is = got_is ys k x is

index_mapped : {X : Type 0} (f : X → ℕ) (xs : List X) (k : ℕ) (x : X) → slice_get xs k ≡ Some x →
    slice_index (map f xs) k ≡ f x
index_mapped f [] k x is = absurd (let bad : ⊥ = cc in bad)
index_mapped f (y ∷ ys) zero x is = ap f (inner y x is)
index_mapped f (y ∷ ys) (suc k) x is = index_mapped f ys k x is

mapped_set : {X : Type 0} (f : X → ℕ) (xs : List X) (k : ℕ) (y : X) →
    map f (slice_set xs k y) ≡ slice_set (map f xs) k (f y)
mapped_set f [] zero y = refl
mapped_set f [] (suc k) y = refl
mapped_set f (x ∷ xs) zero y = refl
mapped_set f (x ∷ xs) (suc k) y = ap (λ ys. f x ∷ ys) (mapped_set f xs k y)

index_set : (xs : List ℕ) (k y : ℕ) → k < length xs → slice_index (slice_set xs k y) k ≡ y
index_set [] k y inside = absurd (omega (arith, inside))
index_set (x ∷ xs) zero y inside = refl
index_set (x ∷ xs) (suc k) y inside = index_set xs k y (omega (arith, inside))

-- ---- what stays

pub kept_none : (s : Merging) → KeepsPosted s s
kept_none s = record {
  samples_same = refl;
  recording_same = refl;
  limits_same = refl;
  values_same = refl;
  windows_same = refl;
  readings_same = refl;
}

pub merges_none : (s : Merging) → MergesWindows s s
merges_none s = record {
  posted = kept_none s;
  basics_same = refl;
  readings_same = refl;
  mark_same = refl;
}

pub kept_twice : (a b c : Merging) → KeepsPosted a b → KeepsPosted b c → KeepsPosted a c
kept_twice a b c first second = record {
  samples_same = second.samples_same ∙ first.samples_same;
  recording_same = second.recording_same ∙ first.recording_same;
  limits_same = second.limits_same ∙ first.limits_same;
  values_same = second.values_same ∙ first.values_same;
  windows_same = second.windows_same ∙ first.windows_same;
  readings_same = second.readings_same ∙ first.readings_same;
}

pub merges_twice : (a b c : Merging) → MergesWindows a b → MergesWindows b c → MergesWindows a c
merges_twice a b c first second = record {
  posted = kept_twice a b c first.posted second.posted;
  basics_same = second.basics_same ∙ first.basics_same;
  readings_same = second.readings_same ∙ first.readings_same;
  mark_same = second.mark_same ∙ first.mark_same;
}

module _ (old new : Merging) (keeps : KeepsPosted old new) where
  pub posted_kept : HasPosted old → HasPosted new
  posted_kept posted = record {
    given = subst IsRecording (sym keeps.recording_same) posted.given;
    samples_are = keeps.samples_same ∙ posted.samples_are ∙ ap sample_count (sym keeps.recording_same);
    posted = subst (λ (r : Recorded). ArePosted r new.channels.items new.readings.items)
        (sym keeps.recording_same)
        (subst (λ (q : Queued Reading). ArePosted old.known.recording new.channels.items q.items)
        (sym keeps.readings_same)
        (posted_so old.known.recording old.channels.items new.channels.items old.readings.items
        keeps.values_same keeps.windows_same posted.posted));
  }

  pub reach_kept : (w : ℕ) → IsWithinReach old w → IsWithinReach new w
  reach_kept w within =
      subst (λ (r : Recorded). AreWithinReach r new.channels.items new.readings.items w)
      (sym keeps.recording_same)
      (subst (λ (q : Queued Reading). AreWithinReach old.known.recording new.channels.items q.items w)
      (sym keeps.readings_same)
      (within_so old.known.recording old.channels.items new.channels.items old.readings.items
      keeps.values_same keeps.windows_same w within))

  pub due_stays : new.basics_merged ≡ old.basics_merged → new.readings_merged ≡ old.readings_merged →
      (w : ℕ) (found : Option Due) → IsDue old w found → IsDue new w found
  due_stays basics readings w found is = record {
    within = reach_kept w is.within;
    small = is.small;
    next = subst
        (λ n. IsNextDue new.channels.items n new.readings.items new.readings_merged w found) (sym basics)
        (subst (λ n. IsNextDue new.channels.items old.basics_merged new.readings.items n w found)
        (sym readings)
        (subst
        (λ (q : Queued Reading). IsNextDue new.channels.items old.basics_merged q.items old.readings_merged w
        found)
        (sym keeps.readings_same)
        (due_kept old.channels.items new.channels.items keeps.values_same old.basics_merged
        old.readings.items old.readings_merged w found is.next)));
  }

pub may_stays : (old new : Merging) (until : ℕ) → MergesWindows old new → MayMergeUntil old until →
    MayMergeUntil new until
may_stays old new until merges may = record {
  w = may.w;
  due = may.due;
  is_due = due_stays old new merges.posted merges.basics_same merges.readings_same may.w may.due may.is_due;
  ends = may.ends;
}

pub next_stays : (old new : Merging) (found : Due) → MergesWindows old new → IsNext old found →
    IsNext new found
next_stays old new found merges next = record {
  w = next.w;
  is_due = due_stays old new merges.posted merges.basics_same merges.readings_same next.w (Some found)
      next.is_due;
}

-- the recording and the limits stay, and what is posted is not touched
pub kept_by : (old new : Merging) → KeepsName old.known new.known → new.samples ≡ old.samples →
    new.channels ≡ old.channels → new.readings ≡ old.readings → KeepsPosted old new
kept_by old new name samples channels readings = record {
  samples_same = samples;
  recording_same = name.recording_same;
  limits_same = name.limits_same;
  values_same = ap (λ (v : Vec ChannelView Global). map values_of v.items) channels;
  windows_same = ap (λ (v : Vec ChannelView Global). map windows_of v.items) channels;
  readings_same = readings;
}

pub named : (old new : KnownView) → KeepsKnown old new → KeepsName old new
named old new keeps =
    record { recording_same = keeps.recording_same; limits_same = keeps.limits_same }

-- ---- what is known stays, but for room

pub kept_known : (old new : KnownView) (m : Merged) (near mark : ℕ) → KeepsKnown old new →
    IsKnown old m near mark → IsKnown new m near mark
kept_known old new m near mark keeps known =
    subst (λ x. IsKnown (put new.recording new.limits new.watch new.aggregator new.outbox.released x) m near
    mark) (sym keeps.pending_same)
    (subst (λ x. IsKnown (put new.recording new.limits new.watch new.aggregator x old.outbox.pending) m near
    mark) (sym keeps.released_same)
    (subst (λ x. IsKnown (put new.recording new.limits new.watch x old.outbox.released old.outbox.pending) m
    near mark) (sym keeps.aggregator_same)
    (subst (λ x. IsKnown (put new.recording new.limits x old.aggregator old.outbox.released
    old.outbox.pending) m near mark) (sym keeps.watch_same)
    (subst (λ x. IsKnown (put new.recording x old.watch old.aggregator old.outbox.released old.outbox.pending)
    m near mark) (sym keeps.limits_same)
    (subst (λ x. IsKnown (put x old.limits old.watch old.aggregator old.outbox.released old.outbox.pending) m
    near mark) (sym keeps.recording_same) begun)))))
  where
    put : Recorded → Limits → WatchView → AggregatorView → List Item → List Item → KnownView
    put r limits watch aggregator released pending = record {
      recording = r;
      limits = limits;
      watch = watch;
      aggregator = aggregator;
      outbox = record { released = released; pending = pending; room = new.outbox.room };
    }

    begun : IsKnown (put old.recording old.limits old.watch old.aggregator old.outbox.released
        old.outbox.pending) m near mark
    begun = record {
      at = known.at;
      seen = known.seen;
      watching = known.watching;
      fed = known.fed;
      grouping = known.grouping;
    }

module _ (old : Merging) (known : KnownView) (name : KeepsName old.known known) where
  pub places_kept : old.segments.places ≡ recorded_places old.known.recording →
      old.segments.places ≡ recorded_places known.recording
  places_kept is = is ∙ ap recorded_places (sym name.recording_same)

  pub start_kept : (n : ℕ) (before : Option ℕ) →
      before ≡ latest_start (take n (all_basics old.known.recording old.known.limits)) →
      before ≡ latest_start (take n (all_basics known.recording known.limits))
  start_kept n before is =
      is
      ∙ ap (λ (r : Recorded). latest_start (take n (all_basics r old.known.limits)))
      (sym name.recording_same)
      ∙ ap (λ (l : Limits). latest_start (take n (all_basics known.recording l))) (sym name.limits_same)

  pub left_kept : (windows : ℕ) (next : ℕ → ℕ) → IsLeft old.known.recording windows next →
      IsLeft known.recording windows next
  left_kept windows next is = subst (λ (r : Recorded). IsLeft r windows next) (sym name.recording_same) is

pub room_merging : (old : Merging) (known : KnownView) → IsMerging old → KeepsKnown old.known known →
    IsMerging (record old { known = known })
room_merging old known at keeps =
    let name = named old.known known keeps in
    record {
      windows = at.windows;
      near = at.near;
      below = at.below;
      known = kept_known old.known known (merged_by old at.windows) at.near old.mark keeps at.known;
      left = left_kept old known name at.windows (merged_of old.channels.items) at.left;
      places = places_kept old known name at.places;
      before = start_kept old known name old.basics_merged old.segments.before at.before;
      heads = at.heads;
    }

-- ---- one window more

due_until : (channels : List ChannelView) (basics : ℕ) (readings : List Reading) (merged w : ℕ)
    (found : Option Due) → IsNextDue channels basics readings merged w found → due_end w found ≤ w
due_until channels basics readings merged w None is = omega arith
due_until channels basics readings merged w (Some (due.Basic first)) is = is.1
due_until channels basics readings merged w (Some (due.Reading reading)) is = is.1

abbrev first_of : Option ChannelView → Option Window
first_of o = option_and_then (λ (c : ChannelView). slice_get c.windows.items c.merged) o

module _ (old : Merging) (until c : ℕ) (may : MayMergeUntil old until)
    (first : IsFirstLeast (first_starts old.channels.items) until c) where
  pub channel_there : c < length old.channels.items
  channel_there =
      let a = first.inside in omega (arith, a, length-map old.channels.items first_start)

  -- a window is left
  pub window_there : first_left old.channels.items c ≡ None → ⊥
  window_there none =
      let found = found_at old.channels.items c channel_there in
      let gone : slice_get found.0.windows.items found.0.merged ≡ None =
      sym (ap first_of found.1) ∙ none in
      let start = index_mapped first_start old.channels.items c found.0 found.1 in
      let far : first_start found.0 ≡ 2 ^ 64 - 1 =
      ap (λ (o : Option Window). option_map_or (λ (x : Window). x.start) o (2 ^ 64 - 1)) gone in
      let below = first.below in
      let within = due_until old.channels.items old.basics_merged old.readings.items old.readings_merged
      may.w may.due may.is_due.next in
      let ends = may.ends in
      let small = may.is_due.small in
      absurd (omega (arith, start, far, below, within, ends, small))

  module _ (x : Window) (known : KnownView) (channels : Vec ChannelView Global)
      (is : first_left old.channels.items c ≡ Some x) (name : KeepsName old.known known)
      (takes : TakesWindow old.channels.items channels.items c) where
    abbrev after : Merging
    after = record old { known = known; channels = channels }

    pub window_kept : MergesWindows old after
    window_kept =
        let found = found_at old.channels.items c channel_there in
        let taken = takes found.0 found.1 in
        record {
          posted = record {
            samples_same = refl;
            recording_same = name.recording_same;
            limits_same = name.limits_same;
            values_same = ap (map values_of) taken
                ∙ map_set values_of old.channels.items c (with_merged found.0) found.0 found.1 refl;
            windows_same = ap (map windows_of) taken
                ∙ map_set windows_of old.channels.items c (with_merged found.0) found.0 found.1 refl;
            readings_same = refl;
          };
          basics_same = refl;
          readings_same = refl;
          mark_same = refl;
        }

    pub window_alone : DifferAt c (first_starts old.channels.items) (first_starts channels.items)
    window_alone =
        let found = found_at old.channels.items c channel_there in
        let v = with_merged found.0 in
        let starts = first_starts old.channels.items in
        let new : first_starts channels.items ≡ slice_set starts c (first_start v) =
        ap first_starts (takes found.0 found.1) ∙ mapped_set first_start old.channels.items c v in
        let at : slice_index (first_starts channels.items) c ≡ first_start v =
        ap (λ xs. slice_index xs c) new ∙ index_set starts c (first_start v) first.inside in
        new ∙ ap (slice_set starts c) (sym at)

    pub window_fewer : count_left after < count_left old
    window_fewer =
        let found = found_at old.channels.items c channel_there in
        let v = found.0 in
        let own : slice_get v.windows.items v.merged ≡ Some x = sym (ap first_of found.1) ∙ is in
        let inside = got_inside v.windows.items v.merged x own in
        let same = ap (sum_by left_of) (takes v found.1) in
        let sum = sum_by-set left_of old.channels.items c (with_merged v) v channel_there in
        let was = ap left_of (got_is old.channels.items c v found.1) in
        let less : left_of (with_merged v) < left_of v = omega (arith, inside) in
        omega (arith, same, sum, was, less)

    -- one more is merged
    pub window_counts : merged_items after ≡ merged_items old + 1
    window_counts =
        let found = found_at old.channels.items c channel_there in
        ap (λ (vs : List ChannelView). sum (heads_of vs old.basics_merged old.readings_merged))
        (takes found.0 found.1)
        ∙ more_window old.channels.items old.basics_merged old.readings_merged c found.0 found.1

    pub window_merges : HasPosted old → IsMerging old →
        AddsWindow old.known known (channel_window c x) → IsMerging after
    window_merges posted at adds =
        let r = old.known.recording in
        let limits = old.known.limits in
        let m = merged_by old at.windows in
        let found = found_at old.channels.items c channel_there in
        let v = found.0 in
        let own : slice_get v.windows.items v.merged ≡ Some x = sym (ap first_of found.1) ∙ is in
        let next = window_next r limits posted.given old.channels.items old.readings.items posted.posted
        may.w may.is_due.within may.is_due.small m may.due c v may.is_due.next at.left
        (subst (λ u. IsFirstLeast (first_starts old.channels.items) u c) may.ends first) found.1 in
        let there : slice_get (windows_at r c) (merged_of old.channels.items c) ≡ Some x =
        ap (λ (o : Option ChannelView).
        slice_get (windows_at r c) (option_map_or (λ (c : ChannelView). c.merged) o 0)) found.1
        ∙ got_first v.windows.items (windows_at r c) v.merged x (posted.posted.each c v found.1).windows own
        in
        let same : next.0 ≡ x = inner next.0 x (sym next.1 ∙ there) in
        let mark_below = at.below in
        let samples = posted.samples_are in
        let less : old.mark < sample_count r = omega (arith, mark_below, samples) in
        record {
          windows = at.windows + 1;
          near = max at.near (x.start + 1);
          below = at.below;
          known = adds m at.near old.mark posted.given less at.known
              (subst (λ (y : Window). IsNextWindow r limits m (channel_window c y)) same next.2);
          left = left_kept old known name (at.windows + 1) (merged_of channels.items)
              (subst (λ (vs : List ChannelView). IsLeft r (at.windows + 1) (merged_of vs))
              (sym (takes v found.1)) next.3);
          places = places_kept old known name at.places;
          before = start_kept old known name old.basics_merged old.segments.before at.before;
          heads = subst
              (λ (vs : List ChannelView).
              HeadsArePosted vs old.readings.items old.basics_merged old.readings_merged)
              (sym (takes v found.1))
              (heads_window old.channels.items old.readings.items old.basics_merged old.readings_merged c v
              found.1 (got_inside v.windows.items v.merged x own) at.heads);
        }

-- ---- nothing is left before a place

pub windows_later : (s : Merging) (posted : HasPosted s) (at : IsMerging s) (until w : ℕ) → until ≤ w →
    IsWithinReach s w → w < 2 ^ 64 → NoneBefore s until →
    AllByRecursion (λ x. until ≤ x.window.start) (drop at.windows (recorded_windows s.known.recording))
windows_later s posted at until w less within small none =
    let r = s.known.recording in
    let limits = s.known.limits in
    none_earliest r limits posted.given (merged_of s.channels.items) w until (first_starts s.channels.items)
    (length-map s.channels.items first_start ∙ posted.posted.many)
    (starts_first r limits posted.given s.channels.items s.readings.items posted.posted w within small) less
    at.windows at.left none

-- ---- one reading more

module _ (old : Merging) (reading : Reading) (next : IsNext old (due.Reading reading)) where
  pub reading_inside : old.readings_merged < length old.readings.items
  reading_inside = got_inside old.readings.items old.readings_merged reading next.is_due.next.0

  module _ (known : KnownView) (count : ℕ) (more : count ≡ old.readings_merged + 1)
      (name : KeepsName old.known known) where
    abbrev read : Merging
    read = record old { known = known; readings_merged = count }

    pub reading_fewer : due_left read < due_left old
    reading_fewer = omega (arith, more, reading_inside)

    pub reading_counts : merged_items read ≡ merged_items old + 1
    reading_counts = more_reading old.channels.items old.basics_merged old.readings_merged count more

    pub reading_merges : HasPosted old → IsMerging old → NoneBefore old reading.end →
        AddsReading old.known known reading → IsMerging read
    reading_merges posted at none adds =
        let r = old.known.recording in
        let limits = old.known.limits in
        let m = merged_by old at.windows in
        let there = got_first old.readings.items (recorded_readings r) old.readings_merged reading
        posted.posted.frequency next.is_due.next.0 in
        let until : reading.end ≤ next.w = next.is_due.next.1 in
        let later = windows_later old posted at reading.end next.w until next.is_due.within
        next.is_due.small none in
        let mark_below = at.below in
        let samples = posted.samples_are in
        let less : old.mark < sample_count r = omega (arith, mark_below, samples) in
        record {
          windows = at.windows;
          near = at.near;
          below = at.below;
          known = subst (λ n. IsKnown known
              (record { windows = at.windows; basics = old.basics_merged; readings = n }) at.near old.mark)
              (sym more)
              (adds m at.near old.mark posted.given less at.known there
              (reading_told r limits posted.given m at.near at.known.at.abreast reading there later));
          left = left_kept old known name at.windows (merged_of old.channels.items) at.left;
          places = places_kept old known name at.places;
          before = start_kept old known name old.basics_merged old.segments.before at.before;
          heads = record {
            samplers = at.heads.samplers;
            detectors = at.heads.detectors;
            frequency = let less = reading_inside in omega (arith, less, more);
          };
        }

-- ---- the mark

-- what a settled place needs is merged
pub needed_by : (s : Merging) (posted : HasPosted s) (at : IsMerging s) (w : ℕ) →
    IsSettled s.known.recording s.known.limits (merged_by s at.windows) w →
    needed_items s.known.recording w ≤ merged_items s
needed_by s posted at w settled =
    let r = s.known.recording in
    let m = merged_by s at.windows in
    all_needed r w s.channels.items s.basics_merged s.readings_merged posted.posted.many
    (λ p inside. sampler_needed r s.known.limits m w settled p inside)
    (λ p inside. detector_needed r s.known.limits m w settled (merged_of s.channels.items) p inside at.left)
    (frequency_needed r s.known.limits m w settled)

module _ (old : Merging) (posted : HasPosted old) (at : IsMerging old) (w : ℕ) (merged : HasMerged old w)
  where
    pub settled : IsSettled old.known.recording old.known.limits (merged_by old at.windows) w
    settled =
        let r = old.known.recording in
        let limits = old.known.limits in
        let due = merged.is_due in
        let waits = none_due r limits posted.given old.channels.items old.readings.items posted.posted w
        due.within old.basics_merged old.readings_merged due.next in
        record {
          windows = windows_later old posted at w w (omega arith) due.within due.small merged.none;
          basics = basics_wait r limits posted.given old.basics_merged w waits.0;
          readings = readings_wait r limits posted.given old.readings_merged w waits.1;
        }

    place_inside : w ≤ sample_count old.known.recording
    place_inside =
        let r = old.known.recording in
        let until = merged.is_due.within.frequency in
        let most = reach_most r posted.given (2 * channel_count r) (length old.readings.items) in
        omega (arith, until, most)

    module _ (known : KnownView) (name : KeepsName old.known known) where
      abbrev moved : Merging
      moved = record old { known = known; mark = w }

      moved_kept : KeepsPosted old moved
      moved_kept = kept_by old moved name refl refl refl

      -- below the end
      pub mark_moved : old.mark < w → (w ≡ old.samples → ⊥) → MovesMark w old.known known → HoldsCut moved
      mark_moved later other moves =
          let r = old.known.recording in
          let samples = posted.samples_are in
          let below : w < old.samples = elim (cases_lt w old.samples) [
            | inl less ↦ less
            | inr back ↦ absurd (other (omega (arith, back, place_inside, samples)))
          ] in
          let inside : w < sample_count r = omega (arith, below, samples) in
          record {
            posted = posted_kept old moved moved_kept posted;
            at = inl (record {
              windows = at.windows;
              near = at.near;
              below = below;
              known = moves (merged_by old at.windows) at.near old.mark posted.given (omega (arith, later))
                  inside at.known settled;
              left = left_kept old known name at.windows (merged_of old.channels.items) at.left;
              places = places_kept old known name at.places;
              before = start_kept old known name old.basics_merged old.segments.before at.before;
              heads = at.heads;
            });
          }

      -- at the end
      pub mark_ended : w ≡ old.samples → Ends old.known known → HoldsCut moved
      mark_ended end ends =
          let r = old.known.recording in
          let limits = old.known.limits in
          let samples = posted.samples_are in
          let at_end : w ≡ sample_count r = end ∙ samples in
          let mark_below = at.below in
          let less : old.mark < sample_count r = omega (arith, mark_below, samples) in
          record {
            posted = posted_kept old moved moved_kept posted;
            at = inr (record {
              at_end = end;
              is_cut = ends (merged_by old at.windows) at.near old.mark posted.given less at.known
                  (subst (IsSettled r limits (merged_by old at.windows)) at_end settled)
                  ∙ ap (λ n. cut n (sequential r limits)) (sym at_end)
                  ∙ ap (λ (q : Recorded). cut w (sequential q limits)) (sym name.recording_same)
                  ∙ ap (λ (l : Limits). cut w (sequential known.recording l)) (sym name.limits_same);
              heads = at.heads;
              needed = subst (λ (q : Recorded). needed_items q w ≤ merged_items old) (sym name.recording_same)
                  (needed_by old posted at w settled);
            });
          }

-- what is released is the cut at the mark
pub released_cut : (s : Merging) → HoldsCut s →
    s.known.outbox.released ≡ cut s.mark (sequential s.known.recording s.known.limits)
released_cut s holds = elim holds.at [
  | inl at ↦ at.known.at.is_cut
  | inr at ↦ at.is_cut
]

-- a place past the mark and within the reaches: merging has not ended
pub is_merging : (s : Merging) (w : ℕ) → HoldsCut s → IsWithinReach s w → s.mark < w → IsMerging s
is_merging s w holds within later = elim holds.at [
  | inl at ↦ at
  | inr at ↦
      let r = s.known.recording in
      let until = within.frequency in
      let most = reach_most r holds.posted.given (2 * channel_count r) (length s.readings.items) in
      let end = at.at_end in
      let samples = holds.posted.samples_are in
      absurd (omega (arith, until, most, end, samples, later))
]
