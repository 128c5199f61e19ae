-- Steps of merging, one after another.
use Rattle.std.proofs.Common.{◌≡◌, ℕ, ◌<◌, List, [], ◌∷◌, length, map, None, slice_get, Result, Ok, Err, OnOk, refl, sym, ◌∙◌, ap, arith}
use Rattle.std.specs.Option.{option_map_or}
use Rattle.event_detect.specs.declared.limits.Limits.{Limits}
use Rattle.interval_ledger.specs.declared.channel.SpanValue.{SpanValue}
use Rattle.interval_ledger.specs.declared.merging.Merging.{Merging}
use Rattle.interval_ledger.specs.Channel.{ChannelView}
use Rattle.interval_ledger.specs.Merging.{DoesItems, HasMerged, HoldsCut, IsDue, IsMerging, KeepsMark, MergesItems, MergesWindows, NoneBefore, due_left}
use Rattle.interval_ledger.specs.Queue.{Queued}
use Rattle.interval_ledger.proofs.KeptLaws.{values_of}
use Rattle.interval_ledger.proofs.StateLaws.{due_stays, kept_none, kept_twice, released_cut}
use Rattle.pq_base.specs.Recorded.{Recorded}
use Rattle.pq_sequence.specs.SequentialResult.{cut, sequential}

-- ---- what stays

pub marks_none : (s : Merging) → KeepsMark s s
marks_none s = record { posted = kept_none s; mark_same = refl }

pub marks_twice : (a b c : Merging) → KeepsMark a b → KeepsMark b c → KeepsMark a c
marks_twice a b c first second = record {
  posted = kept_twice a b c first.posted second.posted;
  mark_same = second.mark_same ∙ first.mark_same;
}

pub marks_windows : (a b : Merging) → MergesWindows a b → KeepsMark a b
marks_windows a b merges = record { posted = merges.posted; mark_same = merges.mark_same }

-- ---- what is left

-- how many values the first channel has posted
abbrev first_count : List ChannelView → ℕ
first_count channels =
    option_map_or (λ (c : ChannelView). length c.values.items) (slice_get channels 0) 0

heads_same : (p q : Queued SpanValue) (ps qs : List (Queued SpanValue)) → p ∷ ps ≡ q ∷ qs → p ≡ q
heads_same p q ps qs e = cc

counts_same : (xs ys : List ChannelView) → map values_of xs ≡ map values_of ys →
    first_count xs ≡ first_count ys
counts_same [] [] same = refl
counts_same [] (y ∷ ys) same = absurd (let bad : ⊥ = cc in bad)
counts_same (x ∷ xs) [] same = absurd (let bad : ⊥ = cc in bad)
counts_same (x ∷ xs) (y ∷ ys) same =
    ap (λ (q : Queued SpanValue). length q.items)
    (heads_same x.values y.values (map values_of xs) (map values_of ys) same)

-- no basic interval and no reading less
pub due_left_same : (old new : Merging) → MergesWindows old new → due_left new ≡ due_left old
due_left_same old new merges =
    let values = counts_same new.channels.items old.channels.items merges.posted.values_same in
    let readings = ap (λ q. length q.items) merges.posted.readings_same in
    let basics_merged = merges.basics_same in
    let readings_merged = merges.readings_same in
    omega (arith, values, readings, basics_merged, readings_merged)

pub fewer_left : {X E : Type 0} (old mid new : Merging) (result : Result X E) → MergesWindows old mid →
    OnOk result (due_left new < due_left mid) → OnOk result (due_left new < due_left old)
fewer_left old mid new (Ok x) merges fewer =
    let same = due_left_same old mid merges in omega (arith, same, fewer)
fewer_left old mid new (Err e) merges fewer = fewer

-- nothing is due, and the windows before the place are merged
pub merged_all : {X E : Type 0} (old new : Merging) (w : ℕ) (result : Result X E) → IsDue old w None →
    MergesWindows old new → OnOk result (NoneBefore new w) → OnOk result (HasMerged new w)
merged_all old new w (Ok x) is merges none = record {
  is_due = due_stays old new merges.posted merges.basics_same merges.readings_same w None is;
  none = none;
}
merged_all old new w (Err e) is merges none = none

-- ---- steps

pub items_none : (s : Merging) (steps : ℕ) → MergesItems steps steps s s
items_none s steps = record { rises = omega arith; ticks = omega arith }

pub items_twice : (a b c : Merging) (before mid after : ℕ) → MergesItems before mid a b →
    MergesItems mid after b c → MergesItems before after a c
items_twice a b c before mid after first second =
    let r = first.rises in
    let s = second.rises in
    let t = first.ticks in
    let u = second.ticks in record { rises = omega (arith, r, s); ticks = omega (arith, t, u) }

-- what is released stays with the mark
released_same : (a b : Merging) → HoldsCut a → IsMerging b → KeepsMark a b →
    length b.known.outbox.released ≡ length a.known.outbox.released
released_same a b holds at keeps =
    ap length
    (at.known.at.is_cut
    ∙ ap (λ m. cut m (sequential b.known.recording b.known.limits)) keeps.mark_same
    ∙ ap (λ (r : Recorded). cut a.mark (sequential r b.known.limits)) keeps.posted.recording_same
    ∙ ap (λ (l : Limits). cut a.mark (sequential a.known.recording l)) keeps.posted.limits_same
    ∙ sym (released_cut a holds))

pub does_merged : (a b : Merging) (before after : ℕ) → HoldsCut a → IsMerging b → KeepsMark a b →
    MergesItems before after a b → DoesItems 0 before after a b
does_merged a b before after holds at keeps merges =
    let same = released_same a b holds at keeps in
    let r = merges.rises in
    let t = merges.ticks in record { rises = omega (arith, r); ticks = omega (arith, same, t) }

pub does_after : (a b c : Merging) (before mid after : ℕ) → HoldsCut a → IsMerging b → KeepsMark a b →
    MergesItems before mid a b → DoesItems 0 mid after b c → DoesItems 0 before after a c
does_after a b c before mid after holds at keeps merges does =
    let first = does_merged a b before mid holds at keeps merges in
    let r = first.rises in
    let s = does.rises in
    let t = first.ticks in
    let u = does.ticks in record { rises = omega (arith, r, s); ticks = omega (arith, t, u) }
