-- Events and basic intervals lie in the recording.
use Rattle.std.proofs.Common.{ℕ, zero, suc, ◌+◌, ◌<◌, ◌≤◌, Bool, true, false, cond, ◌==◌, List, [], ◌∷◌, map, find, drop, Option, None, Some, option_and_then, slice_get, slice_index, slice_index_or, IfSome, All, arith}
use Rattle.std.specs.List.{enumerate_from, flat_map}
use Rattle.std.specs.Option.{option_map_or}
use Rattle.std.proofs.lemmas.List.Elements.{All-append, All-cons, All-drop, All-head, All-map, All-nil, All-tail, All-take}
use Rattle.event_detect.specs.declared.kind.Kind.{Kind}
use Rattle.event_detect.specs.declared.limits.Limits.{Limits}
use Rattle.event_detect.specs.VoltageEvent.{Condition, Extent, event_over, events, seen_during, seen_value, worst}
use Rattle.polyphase.specs.PolyphaseEvent.{ChannelWindow, all_polyphase_events, condition_at, conditions, kinds, polyphase_events}
use Rattle.pq_sequence.proofs.MergedLemmas.{IsWindowIn}
use Rattle.pq_sequence.specs.WholeResult.{IsPlaced}

-- what is true of the lists is true of the whole
pub all_flat : {X Y : Type 0} (P : Y → Type 0) (f : X → List Y) (xs : List X) → All (λ x. All P (f x)) xs →
    All P (flat_map f xs)
all_flat P f [] h = All-nil P
all_flat P f (x ∷ xs) h =
    All-append P (f x) (flat_map f xs) (All-head (λ x. All P (f x)) x xs h)
    (all_flat P f xs (All-tail (λ x. All P (f x)) x xs h))

-- ---- events

got : {X : Type 0} (P : X → Type 0) (xs : List X) (i : ℕ) → All P xs → IfSome (slice_get xs i) P
got P [] i h = tt
got P (x ∷ xs) zero h = All-head P x xs h
got P (x ∷ xs) (suc i) h = got P xs i (All-tail P x xs h)

one_of : {X : Type 0} (P : X → Type 0) (b : Bool) (o q : Option X) → IfSome o P → IfSome q P →
    IfSome (cond b o q) P
one_of P true o q h g = h
one_of P false o q h g = g

found : {X : Type 0} (P : X → Type 0) (p : X → Bool) (xs : List X) → All P xs → IfSome (find p xs) P
found P p [] h = tt
found P p (x ∷ xs) h = one_of P (p x) (Some x) (find p xs) (All-head P x xs h)
    (found P p xs (All-tail P x xs h))

-- a condition with a window of one of so many channels, in the first n places
abbrev IsSeen : ℕ → ℕ → Condition → Type 0
IsSeen channels n c = (c.window.start ≤ n) × (c.window.end ≤ n) × (c.channel < channels)

module _ (channels n : ℕ) (some : 0 < channels) where
  start_placed : (o : Option Condition) → IfSome o (IsSeen channels n) →
      option_map_or (λ c. c.window.start) o 0 ≤ n
  start_placed None h = omega arith
  start_placed (Some c) h = h.0

  end_placed : (o : Option Condition) → IfSome o (IsSeen channels n) →
      option_map_or (λ c. c.window.end) o n ≤ n
  end_placed None h = omega arith
  end_placed (Some c) h = h.1

  channel_placed : (o : Option Condition) → IfSome o (IsSeen channels n) →
      option_map_or (λ c. c.channel) o 0 < channels
  channel_placed None h = some
  channel_placed (Some c) h = h.2

  last_got : (cs : List Condition) (last : Option ℕ) → All (IsSeen channels n) cs →
      IfSome (option_and_then (slice_get cs) last) (IsSeen channels n)
  last_got cs None h = tt
  last_got cs (Some k) h = got (IsSeen channels n) cs k h

  over_placed : (kind : Kind) (cs : List Condition) (e : Extent) → All (IsSeen channels n) cs →
      IsPlaced channels n (event_over kind n cs e)
  unfolding event_over
  over_placed kind cs e h =
      let P = IsSeen channels n in
      let seen = seen_during cs e in
      let is = λ (c : Condition). seen_value c == worst kind (map seen_value seen) in
      record {
        start = start_placed (slice_get cs e.first) (got P cs e.first h);
        end = end_placed (option_and_then (slice_get cs) e.last) (last_got cs e.last h);
        channel = channel_placed (find is seen) (found P is seen
            (All-take P _ (drop e.first cs) (All-drop P e.first cs h)));
      }

  -- events over seen conditions are placed
  events_placed : (kind : Kind) (cs : List Condition) → All (IsSeen channels n) cs →
      All (IsPlaced channels n) (events kind n cs)
  unfolding events
  events_placed kind cs h = All-map (IsPlaced channels n) (event_over kind n cs) _
      (λ k d inside. over_placed kind cs (slice_index_or _ k d) h)

  each_second : {X : Type 0} (P : X → Type 0) (low : ℕ) (xs : List X) → All P xs →
      All (λ p. P p.1) (enumerate_from low xs)
  each_second P low [] h = All-nil (λ p. P p.1)
  each_second P low (x ∷ xs) h =
      All-cons (λ p. P p.1) (low, x) (enumerate_from (low + 1) xs) (All-head P x xs h)
      (each_second P (low + 1) xs (All-tail P x xs h))

  told_seen : (kind : Kind) (limits : Limits) (merged : List ChannelWindow) →
      All (IsWindowIn channels n) merged → All (IsSeen channels n) (conditions kind limits channels merged)
  unfolding conditions
  told_seen kind limits merged lie =
      All-map (IsSeen channels n) (λ p. condition_at kind limits channels merged p.0 p.1)
      (enumerate_from 0 merged) (each_second (IsWindowIn channels n) 0 merged lie)

  -- all events over windows in the first n places are placed
  pub all_placed : (limits : Limits) (merged : List ChannelWindow) → All (IsWindowIn channels n) merged
      → All (IsPlaced channels n) (all_polyphase_events limits channels n merged)
  unfolding all_polyphase_events
  all_placed limits merged lie =
      let P = IsPlaced channels n in
      all_flat P (λ kind. polyphase_events kind limits channels n merged) kinds
      (λ k d inside. let kind = slice_index_or kinds k d in
      events_placed kind (conditions kind limits channels merged) (told_seen kind limits merged lie))

-- ---- basic intervals

-- a place that is looked up is at most n
pub looked_up : (places : List ℕ) (i n : ℕ) → All (λ k. k < n) places → slice_index places i ≤ n
looked_up [] i n h = omega arith
looked_up (x ∷ xs) zero n h = let first : x < n = All-head (λ k. k < n) x xs h in omega (arith, first)
looked_up (x ∷ xs) (suc i) n h = looked_up xs i n (All-tail (λ k. k < n) x xs h)
