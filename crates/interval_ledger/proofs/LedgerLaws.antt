-- A ledger goes on being one after a post and after an advance.
use Rattle.std.proofs.Common.{◌≡◌, ◌⊎◌, ℕ, zero, suc, ◌+◌, ◌*◌, ◌/◌, ◌<◌, ◌≤◌, max, List, [], ◌∷◌, ◌++◌, length, map, drop, Some, slice_get, slice_index, slice_set, sum, Result, Ok, Err, OnOk, OnErr, refl, sym, ◌∙◌, ap, subst, inl, inr, arith}
use Rattle.std.specs.declared.alloc.Global.{Global}
use Rattle.std.specs.declared.vec.Vec.{Vec}
use Rattle.std.proofs.lemmas.List.{length-append, length-map, length-take}
use Rattle.std.proofs.lemmas.Option.{slice_get_within}
use Rattle.event_detect.specs.declared.limits.Limits.{Limits}
use Rattle.event_detect.specs.declared.window.Window.{Window}
use Rattle.event_detect.specs.Threshold.{IsInOrder}
use Rattle.freq10s.specs.declared.reading.Reading.{Reading}
use Rattle.interval_ledger.specs.declared.channel.SpanValue.{SpanValue}
use Rattle.interval_ledger.specs.declared.merging.Merging.{Merging}
use Rattle.interval_ledger.specs.Channel.{ChannelView, with_value, with_window}
use Rattle.interval_ledger.specs.Count.{HasPlace, HasRoom, PutsItem, counts_of}
use Rattle.interval_ledger.specs.Heads.{HeadsArePosted, heads_of}
use Rattle.interval_ledger.specs.IsLedger.{IsLedger, settlement_of}
use Rattle.interval_ledger.specs.Left.{IsLeft}
use Rattle.interval_ledger.specs.Merging.{DoesItems, HasEnded, HasHeads, HoldsCut, IsMerging, KeepsPosted, merged_items}
use Rattle.interval_ledger.specs.Posted.{AreFirst, ArePosted, AreWithinReach, IsPostedOf, merged_of, value_item}
use Rattle.interval_ledger.specs.Queue.{Queued, with_item}
use Rattle.interval_ledger.specs.Settlement.{Advances, IsMergedWithin, SettlementView, advanced_to, needed_items}
use Rattle.interval_ledger.proofs.CountLaws.{by_item, counts-length, detector_count, detector_more, each_lane, frequency_count, frequency_more, sampler_count, sampler_more, set_got, some_is}
use Rattle.interval_ledger.proofs.HeadCountLaws.{heads_stay, most_merged}
use Rattle.interval_ledger.proofs.PostedLaws.{first_more}
use Rattle.interval_ledger.proofs.StateLaws.{needed_by}
use Rattle.lanes.specs.declared.lane_item.LaneItem.{LaneItem}
use Rattle.lanes.specs.declared.lane_item.LaneItem.TheVariants as item
use Rattle.lanes.specs.Lane.{IsWithinReaches, lane_count, lane_items, reach, recorded_readings, sampler_items, windows_at}
use Rattle.lanes.proofs.LaneLaws.{detector_lane, frequency_lane, sampler_lane}
use Rattle.lanes.proofs.ReachLaws.{reach_rises}
use Rattle.polyphase.specs.PolyphaseEvent.{merged_windows}
use Rattle.pq_base.specs.Recorded.{Recorded, IsRecording}
use Rattle.pq_sequence.specs.MeasuredRecording.{channel_count, positions}
use Rattle.pq_sequence.specs.SequentialResult.{cut, sequential}

-- ---- lists

found_at : {X : Type 0} (xs : List X) (k : ℕ) → k < length xs → (x : X) × (slice_get xs k ≡ Some x)
found_at [] k inside = absurd (omega (arith, inside))
found_at (x ∷ xs) zero inside = (x, refl)
found_at (x ∷ xs) (suc k) inside = found_at xs k (omega (arith, inside))

first_fits : {X : Type 0} (some all : List X) → AreFirst some all → length some ≤ length all
first_fits some all first =
    let long = ap length first ∙ length-take (length some) all in omega (arith, long)

-- ---- counts and reaches

module _ (r : Recorded) (channels : List ChannelView) (readings : List Reading)
    (posted : ArePosted r channels readings) where
  channel : (p : ℕ) → p < channel_count r → (c : ChannelView) × (slice_get channels p ≡ Some c)
  channel p inside = found_at channels p (omega (arith, inside, posted.many))

  pub sized_of : length (counts_of channels readings) ≡ lane_count r
  sized_of = let long = counts-length channels readings in omega (arith, long, posted.many)

  last_count : slice_index (counts_of channels readings) (2 * channel_count r) ≡ length readings
  last_count = frequency_count channels readings (2 * channel_count r) (omega (arith, posted.many))

  pub most_of : (lane : ℕ) → lane < lane_count r →
      slice_index (counts_of channels readings) lane ≤ length (lane_items r lane)
  most_of =
      each_lane (channel_count r)
      (λ lane. slice_index (counts_of channels readings) lane ≤ length (lane_items r lane))
      (λ p inside. let found = channel p inside in
      let count = sampler_count channels readings (2 * p) p found.0 refl found.1 in
      let all = ap length (sampler_lane r p inside) in
      let few = first_fits (map value_item found.0.values.items) (sampler_items r p)
      (posted.each p found.0 found.1).values in
      let long = length-map found.0.values.items value_item in omega (arith, count, all, few, long))
      (λ p inside. let found = channel p inside in
      let count = detector_count channels readings (2 * p + 1) p found.0 refl found.1 in
      let all = ap length (detector_lane r p inside) in
      let few = first_fits found.0.windows.items (windows_at r p) (posted.each p found.0 found.1).windows in
      let long = length-map (windows_at r p) item.Window in omega (arith, count, all, few, long))
      (let all = ap length (frequency_lane r) in
      let few = first_fits readings (recorded_readings r) posted.frequency in
      let long = length-map (recorded_readings r) item.Reading in
      omega (arith, last_count, all, few, long))

  pub reaches_of : (w : ℕ) → AreWithinReach r channels readings w →
      IsWithinReaches r (counts_of channels readings) w
  reaches_of w within =
      each_lane (channel_count r) (λ lane. w ≤ reach r lane (slice_index (counts_of channels readings) lane))
      (λ p inside. let found = channel p inside in
      subst (λ k. w ≤ reach r (2 * p) k)
      (sym (sampler_count channels readings (2 * p) p found.0 refl found.1))
      (within.samplers p found.0 found.1))
      (λ p inside. let found = channel p inside in
      subst (λ k. w ≤ reach r (2 * p + 1) k)
      (sym (detector_count channels readings (2 * p + 1) p found.0 refl found.1))
      (within.detectors p found.0 found.1))
      (subst (λ k. w ≤ reach r (2 * channel_count r) k) (sym last_count) within.frequency)

  pub reaches_back : (w : ℕ) → IsWithinReaches r (counts_of channels readings) w →
      AreWithinReach r channels readings w
  reaches_back w within = record {
    samplers = λ p c at.
        let inside : p < channel_count r = let less = slice_get_within channels p c at in
        omega (arith, less, posted.many) in
        subst (λ k. w ≤ reach r (2 * p) k) (sampler_count channels readings (2 * p) p c refl at)
        (within (2 * p) (omega (arith, inside)));
    detectors = λ p c at.
        let inside : p < channel_count r = let less = slice_get_within channels p c at in
        omega (arith, less, posted.many) in
        subst (λ k. w ≤ reach r (2 * p + 1) k) (detector_count channels readings (2 * p + 1) p c refl at)
        (within (2 * p + 1) (omega (arith, inside)));
    frequency = subst (λ k. w ≤ reach r (2 * channel_count r) k) last_count
        (within (2 * channel_count r) (omega arith));
  }

-- ---- a ledger by its parts

pub cut_of : (s : Merging) → IsMerging s ⊎ HasEnded s →
    s.known.outbox.released ≡ cut s.mark (sequential s.known.recording s.known.limits)
cut_of s (inl merging) = merging.known.at.is_cut
cut_of s (inr ended) = ended.is_cut

-- merged is what the mark needs, and no more than is posted
pub merged_within : (s : Merging) → HoldsCut s → IsMergedWithin (settlement_of s)
merged_within s holds = elim holds.at [
  | inl at ↦ record {
    needed = needed_by s holds.posted at s.mark at.known.at.settled;
    posted = most_merged s.channels.items s.readings.items s.basics_merged s.readings_merged at.heads;
  }
  | inr at ↦ record {
    needed = at.needed;
    posted = most_merged s.channels.items s.readings.items s.basics_merged s.readings_merged at.heads;
  }
]

pub ledger_of : (s : Merging) → HoldsCut s → HasRoom s.known.recording s.channels.items s.readings →
    IsInOrder s.known.limits →
    IsWithinReaches s.known.recording (counts_of s.channels.items s.readings.items) s.mark → IsLedger s
ledger_of s holds room ordered within =
    let posted = holds.posted.posted in record {
      merging = holds;
      room = room;
      ordered = ordered;
      posted = record {
        given = ∣ holds.posted.given ∣₁;
        sized = sized_of s.known.recording s.channels.items s.readings.items posted;
        most = most_of s.known.recording s.channels.items s.readings.items posted;
        within = within;
        merged = merged_within s holds;
      };
    }

-- ---- post

-- what a post keeps
record IsFine (s : Merging) (channels : List ChannelView) (readings : Queued Reading) : Type 0 where
  posted : ArePosted s.known.recording channels readings.items
  room : HasRoom s.known.recording channels readings
  within : AreWithinReach s.known.recording channels readings.items s.mark
  merged : (c : ℕ) → merged_of channels c ≡ merged_of s.channels.items c
  heads : HeadsArePosted channels readings.items s.basics_merged s.readings_merged

merged_kept : (channels : List ChannelView) (p : ℕ) (c new : ChannelView) (k : ℕ) →
    slice_get channels p ≡ Some c → new.merged ≡ c.merged →
    merged_of (slice_set channels p new) k ≡ merged_of channels k
merged_kept [] zero c new k at same = refl
merged_kept [] (suc p) c new k at same = refl
merged_kept (d ∷ ds) zero c new zero at same = same ∙ sym (ap (λ c. c.merged) (some_is d c at))
merged_kept (d ∷ ds) zero c new (suc k) at same = refl
merged_kept (d ∷ ds) (suc p) c new zero at same = refl
merged_kept (d ∷ ds) (suc p) c new (suc k) at same = merged_kept ds p c new k at same

set_length : {X : Type 0} (xs : List X) (p : ℕ) (y : X) → length (slice_set xs p y) ≡ length xs
set_length [] zero y = refl
set_length [] (suc p) y = refl
set_length (x ∷ xs) zero y = refl
set_length (x ∷ xs) (suc p) y = ap suc (set_length xs p y)

module _ (s : Merging) (given : IsRecording s.known.recording) (channels : List ChannelView)
    (readings : Queued Reading) (fine : IsFine s channels readings) where
  abbrev about : Recorded
  about = s.known.recording

  -- of each channel with one changed holds what holds of each and of the changed one
  of_each : (P : ℕ → ChannelView → Type 0) (p : ℕ) (new : ChannelView) → P p new →
      ((k : ℕ) (d : ChannelView) → slice_get channels k ≡ Some d → P k d) →
      (k : ℕ) (d : ChannelView) → slice_get (slice_set channels p new) k ≡ Some d → P k d
  of_each P p new here others k d at = by (set_got channels p new k d at)
    where
      by : ((k ≡ p) × (new ≡ d)) ⊎ (slice_get channels k ≡ Some d) → P k d
      by (inl same) = subst (λ d. P k d) same.1 (subst (λ k. P k new) (sym same.0) here)
      by (inr old) = others k d old

  fine_channel : (p : ℕ) (c new : ChannelView) → slice_get channels p ≡ Some c → new.merged ≡ c.merged →
      IsPostedOf about p new → length (sampler_items about p) ≤ new.values.room →
      length (windows_at about p) ≤ new.windows.room → length c.values.items ≤ length new.values.items →
      length c.windows.items ≤ length new.windows.items →
      IsFine s (slice_set channels p new) readings
  fine_channel p c new at same posted values windows more_values more_windows = record {
    posted = record {
      many = set_length channels p new ∙ fine.posted.many;
      each = of_each (IsPostedOf about) p new posted fine.posted.each;
      frequency = fine.posted.frequency;
    };
    room = record {
      values = of_each (λ p c. length (sampler_items about p) ≤ c.values.room) p new values fine.room.values;
      windows = of_each (λ p c. length (windows_at about p) ≤ c.windows.room) p new windows fine.room.windows;
      frequency = fine.room.frequency;
    };
    within = record {
      samplers = of_each (λ p c. s.mark ≤ reach about (2 * p) (length c.values.items)) p new
          (let before = fine.within.samplers p c at in
          let rises = reach_rises about given (2 * p) (length c.values.items) (length new.values.items)
          more_values in omega (arith, before, rises)) fine.within.samplers;
      detectors = of_each (λ p c. s.mark ≤ reach about (2 * p + 1) (length c.windows.items)) p new
          (let before = fine.within.detectors p c at in
          let rises = reach_rises about given (2 * p + 1) (length c.windows.items) (length new.windows.items)
          more_windows in omega (arith, before, rises)) fine.within.detectors;
      frequency = fine.within.frequency;
    };
    merged = λ k. merged_kept channels p c new k at same ∙ fine.merged k;
    heads = record {
      samplers = of_each (λ p c. s.basics_merged ≤ length c.values.items) p new
          (let before = fine.heads.samplers p c at in omega (arith, before, more_values)) fine.heads.samplers;
      detectors = of_each (λ p c. c.merged ≤ length c.windows.items) p new
          (let before = fine.heads.detectors p c at in omega (arith, before, more_windows, same))
          fine.heads.detectors;
      frequency = fine.heads.frequency;
    };
  }

  fine_value : (p : ℕ) (c : ChannelView) (v : SpanValue) → slice_get channels p ≡ Some c →
      slice_get (sampler_items about p) (length c.values.items) ≡ Some (value_item v) →
      IsFine s (slice_set channels p (with_value c v)) readings
  fine_value p c v at is =
      let old = fine.posted.each p c at in
      let long = length-append c.values.items (v ∷ []) in
      let many = length-map c.values.items value_item in
      fine_channel p c (with_value c v) at refl
      (record {
        values = subst (λ xs. AreFirst xs (sampler_items about p)) (sym (mapped c.values.items))
            (first_more (map value_item c.values.items) (sampler_items about p) (value_item v) old.values
            (ap (slice_get (sampler_items about p)) many ∙ is));
        windows = old.windows;
      })
      (fine.room.values p c at) (fine.room.windows p c at) (omega (arith, long)) (omega arith)
    where
      mapped : (vs : List SpanValue) → map value_item (vs ++ v ∷ []) ≡ map value_item vs ++ value_item v ∷ []
      mapped [] = refl
      mapped (u ∷ us) = ap (λ xs. value_item u ∷ xs) (mapped us)

  fine_window : (p : ℕ) (c : ChannelView) (w : Window) → slice_get channels p ≡ Some c →
      slice_get (windows_at about p) (length c.windows.items) ≡ Some w →
      IsFine s (slice_set channels p (with_window c w)) readings
  fine_window p c w at is =
      let old = fine.posted.each p c at in
      let long = length-append c.windows.items (w ∷ []) in
      fine_channel p c (with_window c w) at refl
      (record {
        values = old.values;
        windows = first_more c.windows.items (windows_at about p) w old.windows is;
      })
      (fine.room.values p c at) (fine.room.windows p c at) (omega arith) (omega (arith, long))

  fine_reading : (x : Reading) → slice_get (recorded_readings about) (length readings.items) ≡ Some x →
      IsFine s channels (with_item readings x)
  fine_reading x is =
      let long = length-append readings.items (x ∷ []) in record {
        posted = record {
          many = fine.posted.many;
          each = fine.posted.each;
          frequency = first_more readings.items (recorded_readings about) x fine.posted.frequency is;
        };
        room = record {
          values = fine.room.values;
          windows = fine.room.windows;
          frequency = fine.room.frequency;
        };
        within = record {
          samplers = fine.within.samplers;
          detectors = fine.within.detectors;
          frequency = let before = fine.within.frequency in
              let rises = reach_rises about given (2 * channel_count about) (length readings.items)
              (length (readings.items ++ x ∷ [])) (omega (arith, long)) in omega (arith, before, rises);
        };
        merged = fine.merged;
        heads = record {
          samplers = fine.heads.samplers;
          detectors = fine.heads.detectors;
          frequency = let before = fine.heads.frequency in omega (arith, before, long);
        };
      }

pub left_same : (r : Recorded) (m : ℕ) (f g : ℕ → ℕ) → ((c : ℕ) → g c ≡ f c) → IsLeft r m f → IsLeft r m g
left_same r m f g same left = left ∙ ap merged_windows (sym (each (positions r)))
  where
    each : (ps : List ℕ) →
        map (λ c. drop (g c) (windows_at r c)) ps ≡ map (λ c. drop (f c) (windows_at r c)) ps
    each [] = refl
    each (p ∷ ps) =
        ap (λ k. drop k (windows_at r p) ∷ map (λ c. drop (g c) (windows_at r c)) ps) (same p)
        ∙ ap (λ xs. drop (f p) (windows_at r p) ∷ xs) (each ps)

-- what one post does
abbrev pub IsAfterPost : (s t : Merging) → ℕ → Type 0
IsAfterPost s t lane = IsLedger t
    × (counts_of t.channels.items t.readings.items
    ≡ slice_set (counts_of s.channels.items s.readings.items) lane
    (slice_index (counts_of s.channels.items s.readings.items) lane + 1))
    × (merged_items t ≡ merged_items s)

module _ (s : Merging) (ledger : IsLedger s) (lane : ℕ) (i : LaneItem)
    (is : slice_get (lane_items s.known.recording lane)
    (slice_index (counts_of s.channels.items s.readings.items) lane) ≡ Some i) where
  abbrev r : Recorded
  r = s.known.recording

  abbrev channels : List ChannelView
  channels = s.channels.items

  abbrev readings : Queued Reading
  readings = s.readings

  abbrev count : ℕ
  count = slice_index (counts_of channels readings.items) lane

  given : IsRecording r
  given = ledger.merging.posted.given

  posted : ArePosted r channels readings.items
  posted = ledger.merging.posted.posted

  heads : IsMerging s ⊎ HasEnded s → HasHeads s
  heads (inl m) = m.heads
  heads (inr e) = e.heads

  fine : IsFine s channels readings
  fine = record {
    posted = posted;
    room = ledger.room;
    within = reaches_back r channels readings.items posted s.mark ledger.posted.within;
    merged = λ c. refl;
    heads = heads ledger.merging.at;
  }

  -- the queue of the item has room for it
  pub has_place : HasPlace channels readings lane i
  has_place =
      by_item r lane count (HasPlace channels readings lane)
      (λ twice inside start end value got.
      let found = channel r channels readings.items posted (lane / 2) inside in
      let many = sampler_count channels readings.items lane (lane / 2) found.0 twice found.1 in
      let less = slice_get_within (sampler_items r (lane / 2)) count (item.Value start end value) got in
      let room = ledger.room.values (lane / 2) found.0 found.1 in
      (found.0, found.1, omega (arith, many, less, room)))
      (λ once inside w got. let found = channel r channels readings.items posted (lane / 2) inside in
      let many = detector_count channels readings.items lane (lane / 2) found.0 once found.1 in
      let less = slice_get_within (windows_at r (lane / 2)) count w got in
      let room = ledger.room.windows (lane / 2) found.0 found.1 in
      (found.0, found.1, omega (arith, many, less, room)))
      (λ last x got.
      let many = frequency_count channels readings.items lane (omega (arith, last, posted.many)) in
      let less = slice_get_within (recorded_readings r) count x got in
      let room = ledger.room.frequency in omega (arith, many, less, room))
      i is

  module _ (v : Vec ChannelView Global) (q : Queued Reading) where
    abbrev t : Merging
    t = record s { channels = v; readings = q }

    -- and nothing is merged by it
    merged_stays : IsFine s v.items q →
        heads_of v.items s.basics_merged s.readings_merged
        ≡ heads_of channels s.basics_merged s.readings_merged
    merged_stays now =
        heads_stay v.items channels s.basics_merged s.readings_merged (now.posted.many ∙ sym posted.many)
        now.merged

    ledger_after : IsFine s v.items q → IsLedger t
    ledger_after now =
        ledger_of t (record {
          posted = record {
            given = given;
            samples_are = ledger.merging.posted.samples_are;
            posted = now.posted;
          };
          at = at ledger.merging.at;
        }) now.room ledger.ordered (reaches_of r v.items q.items now.posted s.mark now.within)
      where
        at : IsMerging s ⊎ HasEnded s → IsMerging t ⊎ HasEnded t
        at (inl m) = inl (record {
          windows = m.windows;
          near = m.near;
          below = m.below;
          known = m.known;
          left = left_same r m.windows (merged_of channels) (merged_of v.items) now.merged m.left;
          places = m.places;
          before = m.before;
          heads = now.heads;
        })
        at (inr e) = inr (record {
          at_end = e.at_end;
          is_cut = e.is_cut;
          heads = now.heads;
          needed = subst (λ ns. needed_items r s.mark ≤ sum ns) (sym (merged_stays now)) e.needed;
        })

    after_channel : (new : List ChannelView) → v.items ≡ new → q ≡ readings →
        IsFine s new readings →
        counts_of new readings.items ≡ slice_set (counts_of channels readings.items) lane (count + 1) →
        IsAfterPost s t lane
    after_channel new e same now more =
        let fine_now : IsFine s v.items q =
        subst (λ cs. IsFine s cs q) (sym e) (subst (λ q. IsFine s new q) (sym same) now) in (
          ledger_after fine_now,
          ap (λ cs. counts_of cs q.items) e ∙ ap (λ q. counts_of new q.items) same ∙ more,
          ap sum (merged_stays fine_now),
        )

    -- the item is posted
    pub after_post : PutsItem lane i channels readings v.items q → IsAfterPost s t lane
    after_post =
        by_item r lane count (λ i. PutsItem lane i channels readings v.items q → IsAfterPost s t lane)
        (λ twice inside start end value got puts.
        let p = lane / 2 in
        let found = channel r channels readings.items posted p inside in
        let c = found.0 in
        let many = sampler_count channels readings.items lane p c twice found.1 in
        let x : SpanValue = record { start = start; end = end; value = value } in
        let long = length-append c.values.items (x ∷ []) in
        let more : length (c.values.items ++ x ∷ []) ≡ count + 1 = omega (arith, long, many) in
        after_channel (slice_set channels p (with_value c x)) (puts.0 c found.1) puts.1
        (fine_value s given channels readings fine p c x found.1
        (ap (slice_get (sampler_items r p)) (sym many) ∙ got))
        (sampler_more channels readings.items lane p c (with_value c x) (count + 1) twice found.1 more refl))
        (λ once inside w got puts.
        let p = lane / 2 in
        let found = channel r channels readings.items posted p inside in
        let c = found.0 in
        let many = detector_count channels readings.items lane p c once found.1 in
        let long = length-append c.windows.items (w ∷ []) in
        let more : length (c.windows.items ++ w ∷ []) ≡ count + 1 = omega (arith, long, many) in
        after_channel (slice_set channels p (with_window c w)) (puts.0 c found.1) puts.1
        (fine_window s given channels readings fine p c w found.1
        (ap (slice_get (windows_at r p)) (sym many) ∙ got))
        (detector_more channels readings.items lane p c (with_window c w) (count + 1) once found.1 more refl))
        (λ last x got puts.
        let end : lane ≡ 2 * length channels = omega (arith, last, posted.many) in
        let many = frequency_count channels readings.items lane end in
        let long = length-append readings.items (x ∷ []) in
        let more : length (readings.items ++ x ∷ []) ≡ count + 1 = omega (arith, long, many) in
        let fine_now : IsFine s v.items q =
        subst (λ cs. IsFine s cs q) (sym puts.0)
        (subst (λ q. IsFine s channels q) (sym puts.1)
        (fine_reading s given channels readings fine x
        (ap (slice_get (recorded_readings r)) (sym many) ∙ got))) in (
          ledger_after fine_now,
          ap (λ cs. counts_of cs q.items) puts.0 ∙ ap (λ q. counts_of channels q.items) puts.1
              ∙ frequency_more channels readings.items (readings.items ++ x ∷ []) lane end
              ∙ ap (slice_set (counts_of channels readings.items) lane) more,
          ap sum (merged_stays fine_now),
        ))
        i is

-- ---- advance

heads_same : {X : Type 0} (x y : X) (xs ys : List X) → x ∷ xs ≡ y ∷ ys → (x ≡ y) × (xs ≡ ys)
heads_same x y xs ys e = (let a : x ≡ y = cc in a, let b : xs ≡ ys = cc in b)

pub same_counts : (xs ys : List ChannelView) (rs : List Reading) →
    map (λ c. c.values) xs ≡ map (λ c. c.values) ys → map (λ c. c.windows) xs ≡ map (λ c. c.windows) ys →
    counts_of xs rs ≡ counts_of ys rs
same_counts [] [] rs values windows = refl
same_counts [] (y ∷ ys) rs values windows = absurd (let bad : ⊥ = cc in bad)
same_counts (x ∷ xs) [] rs values windows = absurd (let bad : ⊥ = cc in bad)
same_counts (x ∷ xs) (y ∷ ys) rs values windows =
    let a = heads_same x.values y.values (map (λ c. c.values) xs) (map (λ c. c.values) ys) values in
    let b = heads_same x.windows y.windows (map (λ c. c.windows) xs) (map (λ c. c.windows) ys) windows in
    ap (λ q. length q.items ∷ length x.windows.items ∷ counts_of xs rs) a.0
    ∙ ap (λ q. length y.values.items ∷ length q.items ∷ counts_of xs rs) b.0
    ∙ ap (λ ns. length y.values.items ∷ length y.windows.items ∷ ns) (same_counts xs ys rs a.1 b.1)

-- what stands at a place has its like there in a list with the same images
same_at : {Y : Type 0} (f : ChannelView → Y) (xs ys : List ChannelView) (k : ℕ) (x : ChannelView) →
    map f xs ≡ map f ys → slice_get xs k ≡ Some x →
    (y : ChannelView) × (slice_get ys k ≡ Some y) × (f y ≡ f x)
same_at f [] ys zero x same is = absurd (let bad : ⊥ = cc in bad)
same_at f [] ys (suc k) x same is = absurd (let bad : ⊥ = cc in bad)
same_at f (c ∷ cs) [] k x same is = absurd (let bad : ⊥ = cc in bad)
same_at f (c ∷ cs) (d ∷ ds) zero x same is =
    (d, refl, sym (heads_same (f c) (f d) (map f cs) (map f ds) same).0 ∙ ap f (some_is c x is))
same_at f (c ∷ cs) (d ∷ ds) (suc k) x same is =
    same_at f cs ds k x (heads_same (f c) (f d) (map f cs) (map f ds) same).1 is

module _ (s t : Merging) (ledger : IsLedger s) (keeps : KeepsPosted s t) where
  pub counts_kept : counts_of t.channels.items t.readings.items ≡ counts_of s.channels.items s.readings.items
  counts_kept =
      same_counts t.channels.items s.channels.items t.readings.items keeps.values_same keeps.windows_same
      ∙ ap (λ q. counts_of s.channels.items q.items) keeps.readings_same

  room_kept : HasRoom s.known.recording t.channels.items t.readings
  room_kept = record {
    values = λ p c at.
        let was = same_at (λ c. c.values) t.channels.items s.channels.items p c keeps.values_same at in
        subst (λ q. length (sampler_items s.known.recording p) ≤ q.room) was.2
        (ledger.room.values p was.0 was.1);
    windows = λ p c at.
        let was = same_at (λ c. c.windows) t.channels.items s.channels.items p c keeps.windows_same at in
        subst (λ q. length (windows_at s.known.recording p) ≤ q.room) was.2
        (ledger.room.windows p was.0 was.1);
    frequency = subst (λ q. length (recorded_readings s.known.recording) ≤ q.room)
        (sym keeps.readings_same) ledger.room.frequency;
  }

  -- where what is released is the cut at a mark within the reaches
  pub ledger_kept : HoldsCut t →
      IsWithinReaches s.known.recording (counts_of s.channels.items s.readings.items) t.mark → IsLedger t
  ledger_kept holds within =
      ledger_of t holds
      (subst (λ r. HasRoom r t.channels.items t.readings) (sym keeps.recording_same) room_kept)
      (subst IsInOrder (sym keeps.limits_same) ledger.ordered)
      (subst (λ r. IsWithinReaches r (counts_of t.channels.items t.readings.items) t.mark)
      (sym keeps.recording_same)
      (subst (λ ns. IsWithinReaches s.known.recording ns t.mark) (sym counts_kept) within))

  -- the mark stayed, or it moved to a place within the reaches or stayed past it
  pub ledger_stays : HoldsCut t → t.mark ≡ s.mark → IsLedger t
  ledger_stays holds same =
      ledger_kept holds (subst
      (IsWithinReaches s.known.recording (counts_of s.channels.items s.readings.items)) (sym same)
      ledger.posted.within)

  pub ledger_moves : (w : ℕ) → HoldsCut t → t.mark ≡ max s.mark w →
      IsWithinReaches s.known.recording (counts_of s.channels.items s.readings.items) w → IsLedger t
  ledger_moves w holds moved within =
      ledger_kept holds (λ lane inside.
      let old = ledger.posted.within lane inside in
      let new = within lane inside in omega (arith, old, new, moved))

  -- one or the other, by the answer
  pub ledger_advances : {X E : Type 0} (w : ℕ) (result : Result X E) → HoldsCut t →
      OnOk result (t.mark ≡ max s.mark w) → OnErr result (t.mark ≡ s.mark) →
      IsWithinReaches s.known.recording (counts_of s.channels.items s.readings.items) w → IsLedger t
  ledger_advances w (Ok x) holds moved stays within = ledger_moves w holds moved within
  ledger_advances w (Err e) holds moved stays within = ledger_stays holds stays

  abbrev seen : Recorded → Limits → List ℕ → ℕ → SettlementView
  seen r limits counts mark = record {
    recording = r;
    limits = limits;
    counts = counts;
    mark = mark;
    merged = merged_items t;
  }

  -- all that is seen stays, but for the mark and how many items are merged
  pub seen_kept : settlement_of t ≡ advanced_to (settlement_of s) t.mark (merged_items t)
  seen_kept =
      let counts = counts_of t.channels.items t.readings.items in
      ap (λ r. seen r t.known.limits counts t.mark) keeps.recording_same
      ∙ ap (λ l. seen s.known.recording l counts t.mark) keeps.limits_same
      ∙ ap (λ ns. seen s.known.recording s.known.limits ns t.mark) counts_kept

-- a step at most for each item that is merged or released, and one more
pub advances_seen : (s t : Merging) (before after : ℕ) → HoldsCut s → HoldsCut t →
    DoesItems 1 before after s t → Advances before after (settlement_of s) (settlement_of t)
advances_seen s t before after old new does =
    let was = ap length (cut_of s old.at) in
    let is = ap length (cut_of t new.at) in
    let r = does.rises in
    let ticks = does.ticks in record { rises = omega (arith, r); ticks = omega (arith, was, is, ticks) }
