-- A ledger in which nothing is posted or merged, with room for all that will be, is one.
use Rattle.std.proofs.Common.{◌≡◌, ◌⊎◌, ℕ, zero, suc, ◌+◌, ◌*◌, ◌<◌, ◌≤◌, [], ◌∷◌, length, replicate, None, Some, slice_get, refl, sym, ◌∙◌, ap, subst, inl, inr, arith}
use Rattle.std.specs.declared.alloc.Global.{Global}
use Rattle.std.specs.declared.vec.Vec.{Vec}
use Rattle.std.proofs.lemmas.Bool.{cases_lt}
use Rattle.std.proofs.lemmas.List.{length-map, length-replicate}
use Rattle.std.proofs.lemmas.Option.{slice_get_within}
use Rattle.event_detect.specs.declared.limits.Limits.{Limits}
use Rattle.event_detect.specs.Threshold.{IsInOrder}
use Rattle.freq10s.specs.declared.reading.Reading.{Reading}
use Rattle.interval_ledger.specs.declared.merging.Merging.{Merging}
use Rattle.interval_ledger.specs.Added.{nothing}
use Rattle.interval_ledger.specs.Channel.{ChannelView, empty_channel}
use Rattle.interval_ledger.specs.Count.{HasRoom, counts_of}
use Rattle.interval_ledger.specs.IsLedger.{IsLedger, settlement_of}
use Rattle.interval_ledger.specs.Known.{IsKnown, IsOpened, KnownView}
use Rattle.interval_ledger.specs.Left.{IsLeft}
use Rattle.interval_ledger.specs.Merged.{IsAtMark}
use Rattle.interval_ledger.specs.Merging.{HasEnded, HasHeads, HasPosted, IsMerging, merged_items}
use Rattle.interval_ledger.specs.Opening.{empty_channels, value_room, window_room}
use Rattle.interval_ledger.specs.Posted.{AreFirst, IsPostedOf, merged_of}
use Rattle.interval_ledger.specs.Queue.{Queued, empty_queue}
use Rattle.interval_ledger.specs.Segment.{SegmentsView}
use Rattle.interval_ledger.specs.Settlement.{needed_items, nothing_posted}
use Rattle.interval_ledger.proofs.CountLaws.{some_is}
use Rattle.interval_ledger.proofs.HeadCountLaws.{all_needed, heads_none}
use Rattle.interval_ledger.proofs.LedgerLaws.{left_same, ledger_of}
use Rattle.interval_ledger.proofs.OpenLaws.{left_at_first, opened, opened_at_end}
use Rattle.lanes.specs.Lane.{need, recorded_readings, recorded_runs, sampler_items, value_of, windows_at}
use Rattle.lanes.proofs.NeedLaws.{need_within}
use Rattle.pq_base.specs.Recorded.{Recorded, IsRecording, sample_count}
use Rattle.pq_sequence.specs.MeasuredRecording.{basics_of, channel_count, clock_of, recorded_places, reference_cycles, tick_places}
use Rattle.pq_time.specs.Tick.{tick_place, ticks}
use Rattle.pq_time.proofs.TickLaws.{few_ticks}
use Rattle.settled_laws.proofs.FewBasics.{intervals_few}

-- ---- lists

got_replicate : {X : Type 0} (n : ℕ) (x : X) (k : ℕ) (y : X) → slice_get (replicate n x) k ≡ Some y → x ≡ y
got_replicate zero x zero y is = absurd (let bad : ⊥ = cc in bad)
got_replicate zero x (suc k) y is = absurd (let bad : ⊥ = cc in bad)
got_replicate (suc n) x zero y is = some_is x y is
got_replicate (suc n) x (suc k) y is = got_replicate n x k y is

counts_none : (n : ℕ) (values windows : ℕ) →
    counts_of (replicate n (empty_channel values windows)) [] ≡ replicate (2 * n + 1) 0
counts_none zero values windows = refl
counts_none (suc n) values windows =
    let more : suc (suc (2 * n + 1)) ≡ 2 * suc n + 1 = omega arith in
    ap (λ ns. 0 ∷ 0 ∷ ns) (counts_none n values windows) ∙ ap (λ k. replicate k 0) more

merged_none : (n : ℕ) (values windows k : ℕ) →
    merged_of (replicate n (empty_channel values windows)) k ≡ 0
merged_none zero values windows zero = refl
merged_none zero values windows (suc k) = refl
merged_none (suc n) values windows zero = refl
merged_none (suc n) values windows (suc k) = merged_none n values windows k

-- ---- bounds

-- ticks of ten seconds or more are few
ticks_few : (r : Recorded) → IsRecording r → (period : ℕ) → 10 ≤ period →
    length (ticks (clock_of r) (sample_count r) period) ≤ 6251
ticks_few r given period long =
    few_ticks (clock_of r) (sample_count r) period long given.short (fast given.lf)
  where
    fast : (r.lf ≡ 50) ⊎ (r.lf ≡ 60) → 800_000_000 ≤ r.rate
    fast (inl is) = let least = given.rate.0 in omega (arith, is, least)
    fast (inr is) = let least = given.rate.0 in omega (arith, is, least)

pub places_few : (r : Recorded) → IsRecording r → length (recorded_places r) ≤ 6251
unfolding tick_places
places_few r given =
    let all = ticks (clock_of r) (sample_count r) 600 in
    let long = length-map all (tick_place (clock_of r) (sample_count r)) in
    let few = ticks_few r given 600 (omega arith) in omega (arith, long, few)

-- ---- what is opened

-- nothing is merged, and the mark is at 0
abbrev pub merging_of : ℕ → Vec ChannelView Global → Queued Reading → SegmentsView → KnownView → Merging
merging_of samples channels readings segments known = record {
  samples = samples;
  channels = channels;
  readings = readings;
  basics_merged = 0;
  readings_merged = 0;
  segments = segments;
  known = known;
  mark = 0;
}

-- nothing is posted or known, and there is room
pub record IsFresh (r : Recorded) (limits : Limits) (s : Merging) : Type 0 where
  pub given : IsRecording r
  pub ordered : IsInOrder limits
  pub samples_are : s.samples ≡ sample_count r
  pub channels_are : s.channels.items ≡ empty_channels r (length (recorded_places r))
  pub readings_are : s.readings ≡ empty_queue 6250
  pub places : s.segments.places ≡ recorded_places r
  pub before : s.segments.before ≡ None
  pub known : IsOpened r limits s.known

module _ (samples : ℕ) (channels : Vec ChannelView Global) (readings : Queued Reading)
    (segments : SegmentsView) (k : KnownView) where
  abbrev s : Merging
  s = merging_of samples channels readings segments k

  module _ (fresh : IsFresh k.recording k.limits s) where
    abbrev r : Recorded
    r = k.recording

    abbrev ticks_in : ℕ
    ticks_in = length (recorded_places r)

    abbrev empty : ChannelView
    empty = empty_channel (value_room r ticks_in) (window_room r)

    long : length channels.items ≡ channel_count r
    long = ap length fresh.channels_are ∙ length-replicate (channel_count r) empty

    inside : (p : ℕ) (c : ChannelView) → slice_get channels.items p ≡ Some c → p < channel_count r
    inside p c at = let less = slice_get_within channels.items p c at in omega (arith, less, long)

    -- what holds of an empty channel holds of each
    each_empty : (P : ChannelView → Type 0) → P empty → (p : ℕ) (c : ChannelView) →
        slice_get channels.items p ≡ Some c → P c
    each_empty P here p c at =
        subst P (got_replicate (channel_count r) empty p c
        (ap (λ cs. slice_get cs p) (sym fresh.channels_are) ∙ at)) here

    has_posted : HasPosted s
    has_posted = record {
      given = fresh.given;
      samples_are = fresh.samples_are;
      posted = record {
        many = long;
        each = λ p c at. each_empty (IsPostedOf r p) (record { values = refl; windows = refl }) p c at;
        frequency = subst (λ (q : Queued Reading). AreFirst q.items (recorded_readings r))
            (sym fresh.readings_are) refl;
      };
    }

    has_room : HasRoom r channels.items readings
    has_room = record {
      values = λ p c at. each_empty (λ c. length (sampler_items r p) ≤ c.values.room) (values_fit p) p c at;
      windows = λ p c at. each_empty (λ c. length (windows_at r p) ≤ c.windows.room)
          (intervals_few.windows r p fresh.given (inside p c at)) p c at;
      frequency = subst (λ (q : Queued Reading). length (recorded_readings r) ≤ q.room)
          (sym fresh.readings_are)
          (let few = intervals_few.readings r in
          let ticks = ticks_few r fresh.given 10 (omega arith) in omega (arith, few, ticks));
    }
      where
        values_fit : (p : ℕ) → length (sampler_items r p) ≤ value_room r ticks_in
        values_fit p =
            let few = intervals_few.basics r [] fresh.given in
            let basics : length (basics_of r [] (reference_cycles r)) ≡ length (recorded_runs r) =
            length-map (recorded_runs r) _ in
            let values : length (sampler_items r p) ≡ length (recorded_runs r) =
            length-map (recorded_runs r) (value_of r p) in omega (arith, few, basics, values)

    -- nothing is merged
    none_merged : (c : ℕ) → merged_of channels.items c ≡ 0
    none_merged c =
        ap (λ cs. merged_of cs c) fresh.channels_are
        ∙ merged_none (channel_count r) (value_room r ticks_in) (window_room r) c

    -- nothing is left out, of the windows too
    is_left : IsLeft r 0 (merged_of channels.items)
    is_left =
        left_same r 0 (λ c. 0) (merged_of channels.items) none_merged (left_at_first r fresh.given)

    -- where there are samples
    is_known : 0 < sample_count r → IsKnown k nothing 0 0
    is_known some = record {
      at = subst (λ xs. IsAtMark r k.limits nothing 0 0 xs k.outbox.pending) (sym fresh.known.none_released)
          (subst (IsAtMark r k.limits nothing 0 0 []) (sym fresh.known.none_pending)
          (opened r k.limits fresh.given some));
      seen = fresh.known.seen;
      watching = fresh.known.watching;
      fed = fresh.known.fed;
      grouping = fresh.known.grouping;
    }

    -- nothing is merged, and the start of the recording needs nothing
    merged_is : merged_items s ≡ 0
    merged_is = heads_none channels.items none_merged

    heads : HasHeads s
    heads = record {
      samplers = λ p c at. omega arith;
      detectors = λ p c at. each_empty (λ c. c.merged ≤ length c.windows.items) (omega arith) p c at;
      frequency = omega arith;
    }

    needed : needed_items r 0 ≤ merged_items s
    needed =
        let none : (lane : ℕ) → need r lane 0 ≤ 0 =
        λ lane. need_within 0 r lane 0 fresh.given (omega arith) in
        all_needed r 0 channels.items 0 0 long (λ p inside. none (2 * p))
        (λ p inside. let few = none (2 * p + 1) in omega (arith, few)) (none (2 * channel_count r))

    at : (0 < sample_count r) ⊎ (sample_count r ≤ 0) → IsMerging s ⊎ HasEnded s
    at (inl some) =
        inl (record {
          windows = 0;
          near = 0;
          below = subst (λ n. 0 < n) (sym fresh.samples_are) some;
          known = is_known some;
          left = is_left;
          places = fresh.places;
          before = fresh.before;
          heads = heads;
        })
    at (inr none) =
        let same = fresh.samples_are in
        inr (record {
          at_end = omega (arith, none, same);
          is_cut = fresh.known.none_released ∙ opened_at_end r k.limits fresh.given (omega (arith, none));
          heads = heads;
          needed = needed;
        })

    is_ledger : IsLedger s
    is_ledger =
        ledger_of s (record { posted = has_posted; at = at (cases_lt 0 (sample_count r)) }) has_room
        fresh.ordered (λ lane inside. omega arith)

    is_nothing : settlement_of s ≡ nothing_posted r k.limits
    is_nothing =
        ap (λ n. record {
          recording = r;
          limits = k.limits;
          counts = counts_of channels.items readings.items;
          mark = 0;
          merged = n;
        })
        merged_is
        ∙ ap (λ ns. record { recording = r; limits = k.limits; counts = ns; mark = 0; merged = 0 })
        (ap (λ cs. counts_of cs readings.items) fresh.channels_are
        ∙ ap (λ (q : Queued Reading). counts_of (empty_channels r ticks_in) q.items) fresh.readings_are
        ∙ counts_none (channel_count r) (value_room r ticks_in) (window_room r))

  -- so whatever they are called
  module _ (r : Recorded) (limits : Limits) (fresh : IsFresh r limits s) where
    same : IsFresh k.recording k.limits s
    same =
        subst (λ r. IsFresh r k.limits s) (sym fresh.known.recording_is)
        (subst (λ l. IsFresh r l s) (sym fresh.known.limits_are) fresh)

    pub fresh_ledger : IsLedger s
    fresh_ledger = is_ledger same

    pub fresh_nothing : settlement_of s ≡ nothing_posted r limits
    fresh_nothing =
        is_nothing same
        ∙ ap (λ r. nothing_posted r k.limits) fresh.known.recording_is
        ∙ ap (nothing_posted r) fresh.known.limits_are
