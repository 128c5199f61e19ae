-- The state of merging after one basic interval more: which one it is, and that it may be fed.
use Rattle.std.proofs.Common.{◌≡◌, ℕ, suc, ◌+◌, ◌<◌, ◌≤◌, Bool, List, [], ◌∷◌, ◌++◌, length, map, take, Option, None, Some, IfSome, option_and_then, slice_get, refl, sym, ◌∙◌, ap, subst, arith}
use Rattle.std.specs.List.{list_any}
use Rattle.std.specs.Option.{option_map_or}
use Rattle.aggregate.specs.Aggregation.{Basic, parts_of}
use Rattle.aggregate.specs.Aggregator.{MayFollow}
use Rattle.aggregate.specs.BasicOrder.{AreBasics, basic_of}
use Rattle.event_detect.specs.declared.limits.Limits.{Limits}
use Rattle.event_detect.specs.Flag.{is_touched}
use Rattle.interval_ledger.specs.declared.channel.SpanValue.{SpanValue}
use Rattle.interval_ledger.specs.declared.merging.Merging.{Merging}
use Rattle.interval_ledger.specs.declared.next_due.Due.TheVariants as due
use Rattle.interval_ledger.specs.Channel.{ChannelView}
use Rattle.interval_ledger.specs.Known.{AddsBasic, IsKnown, KeepsName, KnownView}
use Rattle.interval_ledger.specs.Merged.{all_basics}
use Rattle.interval_ledger.specs.Merging.{HasPosted, IsMerging, IsNext, NoneBefore, due_left, latest_start, merged_by, merged_items, start_after}
use Rattle.interval_ledger.specs.Posted.{all_roots, merged_of, root_at}
use Rattle.interval_ledger.specs.Segment.{SegmentsView, is_first_of_segment}
use Rattle.interval_ledger.specs.Watch.{TellsTouch}
use Rattle.interval_ledger.proofs.FedLaws.{may_feed}
use Rattle.interval_ledger.proofs.FeedLaws.{basics_fed}
use Rattle.interval_ledger.proofs.FlagLaws.{latest_of}
use Rattle.interval_ledger.proofs.HeadCountLaws.{heads_basic, more_basic}
use Rattle.interval_ledger.proofs.HeadLaws.{basic_posted}
use Rattle.interval_ledger.proofs.MergingLaws.{basic_told}
use Rattle.interval_ledger.proofs.PostedLaws.{all_posted}
use Rattle.interval_ledger.proofs.StateLaws.{found_at, got_inside, left_kept, places_kept, start_kept, windows_later}
use Rattle.interval_ledger.proofs.StepLaws.{taken_more}
use Rattle.polyphase.specs.PolyphaseEvent.{kinds}
use Rattle.pq_base.specs.Recorded.{sample_count}
use Rattle.pq_sequence.specs.MeasuredRecording.{channel_count, clock_of, recorded_events, recorded_places, recorded_windows}
use Rattle.pq_words.specs.Steps.{numbers_below}
use Rattle.settled_laws.specs.Touch.{touches_now}
use Rattle.settled_laws.proofs.BasicLaws.{is_new}
use Rattle.settled_laws.proofs.BuildLaws.{last_start}
use Rattle.ten_twelve.specs.declared.span.Span.{Span}

-- ---- the start of the last of some basic intervals

last_same : (before : Option ℕ) (bs : List Basic) → start_after before bs ≡ last_start before (parts_of bs)
last_same before [] = refl
last_same before (b ∷ bs) = last_same (Some b.part.start) bs

last_more : (before : Option ℕ) (bs : List Basic) (b : Basic) →
    start_after before (bs ++ b ∷ []) ≡ Some b.part.start
last_more before [] b = refl
last_more before (c ∷ cs) b = last_more (Some c.part.start) cs b

new_same : (places : List ℕ) (before : Option ℕ) (start : ℕ) →
    is_first_of_segment places before start ≡ is_new places before start
new_same places None start = refl
new_same places (Some b) start = refl

-- starts rise
abbrev Rise : List Basic → Type 0
Rise bs = (i : ℕ) (a c : Basic) → slice_get bs i ≡ Some a → slice_get bs (suc i) ≡ Some c →
    a.part.start < c.part.start

last_below : (before : Option ℕ) (bs : List Basic) (b : Basic) → Rise (bs ++ b ∷ []) →
    (bs ≡ [] → IfSome before (λ s. s ≤ b.part.start)) →
    IfSome (start_after before bs) (λ s. s ≤ b.part.start)
last_below before [] b rise first = first refl
last_below before (x ∷ xs) b rise first =
    last_below (Some x.part.start) xs b (λ i a c here next. rise (suc i) a c here next)
    (λ none. let less = rise 0 x b refl (ap (λ (zs : List Basic). slice_get (zs ++ b ∷ []) 0) none) in
    omega (arith, less))

module _ (old : Merging) (posted : HasPosted old) (at : IsMerging old) (first : SpanValue)
    (next : IsNext old (due.Basic first)) where
  -- the basic interval that is due
  abbrev pub due_basic : Basic
  due_basic = record {
    front = is_new (recorded_places old.known.recording)
        (latest_of (take old.basics_merged (all_basics old.known.recording old.known.limits))) first.start;
    part = record {
      start = first.start;
      end = first.end;
      values = map (root_at old.channels.items old.basics_merged)
          (numbers_below (channel_count old.known.recording));
      flagged = is_touched (recorded_events old.known.recording old.known.limits) first.start first.end;
    };
  }

  pub basic_there : slice_get (all_basics old.known.recording old.known.limits) old.basics_merged
      ≡ Some due_basic
  basic_there =
      let r = old.known.recording in
      let limits = old.known.limits in
      basic_posted r limits posted.given old.basics_merged first.start first.end
      (root_at old.channels.items old.basics_merged)
      (all_posted r limits posted.given old.channels.items old.readings.items posted.posted
      old.basics_merged first next.is_due.next.0)

  pub basics_are_fed : AreBasics (clock_of old.known.recording) (sample_count old.known.recording)
      (channel_count old.known.recording)
      (take old.basics_merged (all_basics old.known.recording old.known.limits) ++ due_basic ∷ [])
  basics_are_fed =
      basics_fed old.known.recording old.known.limits posted.given old.basics_merged due_basic basic_there

  -- the one before it does not begin later
  pub starts_later : IfSome old.segments.before (λ s. s ≤ first.start)
  starts_later =
      let merged = take old.basics_merged (all_basics old.known.recording old.known.limits) in
      let rise : Rise (merged ++ due_basic ∷ []) = λ i a c here more.
      let step : i + 1 ≡ suc i = omega arith in
      (basics_are_fed.follow i a c here
      (ap (λ k. slice_get (merged ++ due_basic ∷ []) k) step ∙ more)).starts in
      subst (λ (o : Option ℕ). IfSome o (λ s. s ≤ first.start)) (sym at.before)
      (last_below None merged due_basic rise (λ e. tt))

  -- it is the one that is handed in
  pub basic_is : (front flagged : Bool) (values : List ℕ) → NoneBefore old first.end →
      front ≡ is_first_of_segment old.segments.places old.segments.before first.start →
      TellsTouch old.known.watch first.start flagged →
      values ≡ all_roots old.channels.items old.basics_merged →
      basic_of front (record { start = first.start; end = first.end }) values flagged ≡ due_basic
  basic_is front flagged values none tells_front tells are =
      let r = old.known.recording in
      let limits = old.known.limits in
      let k = old.basics_merged in
      let span : Span = record { start = first.start; end = first.end } in
      let fed = take at.windows (recorded_windows r) in
      let until : first.end ≤ next.w = next.is_due.next.1 in
      let later = windows_later old posted at first.end next.w until next.is_due.within next.is_due.small none
      in
      let front_is : front ≡ due_basic.front =
      tells_front
      ∙ ap (λ (ps : List ℕ). is_first_of_segment ps old.segments.before first.start) at.places
      ∙ ap (λ (o : Option ℕ). is_first_of_segment (recorded_places r) o first.start)
      (at.before ∙ last_same None (take k (all_basics r limits)))
      ∙ new_same (recorded_places r) (latest_of (take k (all_basics r limits))) first.start in
      let values_are : values ≡ due_basic.part.values =
      are
      ∙ ap (λ n. map (root_at old.channels.items k) (numbers_below n)) posted.posted.many in
      let touched : Limits → ℕ → Bool =
      λ l n. list_any (λ kind. touches_now kind l n first.start fed) kinds in
      let flag_is : flagged ≡ due_basic.part.flagged =
      tells fed at.known.seen
      ∙ ap (λ (l : Limits). touched l old.known.watch.poly.channels) at.known.watching.limits_same
      ∙ ap (touched limits) at.known.watching.channels_same
      ∙ sym (basic_told r limits posted.given (merged_by old at.windows) at.near at.known.at.abreast due_basic
      basic_there later) in
      ap (λ (f : Bool). basic_of f span values flagged) front_is
      ∙ ap (λ (vs : List ℕ). basic_of due_basic.front span vs flagged) values_are
      ∙ ap (λ (f : Bool). basic_of due_basic.front span due_basic.part.values f) flag_is

  -- so it may be fed
  pub basic_follows : (b : Basic) → b ≡ due_basic → MayFollow old.known.aggregator b
  basic_follows b is =
      let r = old.known.recording in
      let merged = take old.basics_merged (all_basics r old.known.limits) in
      subst (MayFollow old.known.aggregator) (sym is) (
        merged,
        at.known.fed,
        may_feed old.known.aggregator r at.known.grouping (merged ++ due_basic ∷ []) basics_are_fed,
      )

  -- each channel has posted it
  pub basic_inside : (c : ChannelView) → slice_get old.channels.items 0 ≡ Some c →
      old.basics_merged < length c.values.items
  basic_inside c is =
      got_inside c.values.items old.basics_merged first
      (sym (ap (λ (o : Option ChannelView).
      option_and_then (λ (c : ChannelView). slice_get c.values.items old.basics_merged) o) is)
      ∙ next.is_due.next.0.is_first)

  pub first_there : 0 < length old.channels.items
  first_there =
      let some = posted.given.channels.0 in
      let many = posted.posted.many in
      omega (arith, some, many)

  module _ (known : KnownView) (segments : SegmentsView) (count : ℕ) (more : count ≡ old.basics_merged + 1)
      (name : KeepsName old.known known) where
    abbrev fed_on : Merging
    fed_on = record old { known = known; segments = segments; basics_merged = count }

    pub basic_fewer : due_left fed_on < due_left old
    basic_fewer =
        let found = found_at old.channels.items 0 first_there in
        let long = ap (λ (o : Option ChannelView).
        option_map_or (λ (c : ChannelView). length c.values.items) o 0) found.1 in
        let inside = basic_inside found.0 found.1 in
        omega (arith, more, long, inside)

    -- one of each sampler more is merged
    pub basic_counts : merged_items fed_on ≡ merged_items old + length old.channels.items
    basic_counts = more_basic old.channels.items old.basics_merged old.readings_merged count more

    pub basic_merges : (b : Basic) → b ≡ due_basic → AddsBasic old.known known b →
        segments ≡ record old.segments { before = Some first.start } → IsMerging fed_on
    basic_merges b is adds passed =
        let r = old.known.recording in
        let limits = old.known.limits in
        let m = merged_by old at.windows in
        let mark_below = at.below in
        let samples = posted.samples_are in
        let less : old.mark < sample_count r = omega (arith, mark_below, samples) in
        let step : AddsBasic old.known known due_basic = subst (AddsBasic old.known known) is adds in
        let last : segments.before ≡ latest_start (take count (all_basics r limits)) =
        ap (λ (s : SegmentsView). s.before) passed
        ∙ sym (ap (λ n. latest_start (take n (all_basics r limits))) more
        ∙ ap latest_start (taken_more (all_basics r limits) old.basics_merged due_basic basic_there)
        ∙ last_more None (take old.basics_merged (all_basics r limits)) due_basic) in
        record {
          windows = at.windows;
          near = at.near;
          below = at.below;
          known = subst (λ n. IsKnown known
              (record { windows = at.windows; basics = n; readings = old.readings_merged }) at.near old.mark)
              (sym more)
              (step m at.near old.mark posted.given less at.known basic_there basics_are_fed);
          left = left_kept old known name at.windows (merged_of old.channels.items) at.left;
          places = ap (λ (s : SegmentsView). s.places) passed ∙ places_kept old known name at.places;
          before = start_kept old known name count segments.before last;
          heads = heads_basic old.channels.items old.readings.items old.basics_merged old.readings_merged
              count more next.is_due.next.0.each at.heads;
        }
