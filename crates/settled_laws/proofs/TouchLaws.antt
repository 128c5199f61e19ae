-- What touches a span that ends after the start of each window so far: an event that has ended after its
-- start, or one that is open.
use Rattle.std.proofs.Common.{◌≡◌, ℕ, zero, suc, ◌<◌, max, Bool, true, false, cond, ◌&&◌, ◌||◌, nat_lt, List, [], ◌∷◌, ◌++◌, length, map, filter, find, slice_get, Option, Some, None, IfSome, is_some, option_map, option_and_then, option_to_list, refl, sym, ◌∙◌, ap, arith}
use Rattle.std.specs.List.{AllByRecursion, list_any}
use Rattle.std.specs.Option.{option_map_or}
use Rattle.std.proofs.lemmas.Bool.Decides.{nat_tests}
use Rattle.event_detect.specs.declared.event.Event.{Event}
use Rattle.event_detect.specs.declared.kind.Kind.{Kind}
use Rattle.event_detect.specs.Flag.{overlaps, is_touched}
use Rattle.settled_laws.specs.Greatest.{greatest_end}
use Rattle.event_detect.specs.VoltageEvent.{Condition, Extent, extents, event_over, events, ended_events, open_start}
use Rattle.settled_laws.proofs.ContinueLaws.{IsInside, extents_inside}

lt_is : (a b : ℕ) → a < b → nat_lt a b ≡ true
lt_is a b h = grind (arith, nat_tests, h)

-- ---- wherever the list ends, past the span's start

same_touch : (kind : Kind) (n m : ℕ) (cs : List Condition) (start end : ℕ) → start < n → start < m →
    (es : List Extent)
    → list_any (λ e. overlaps e start end) (map (event_over kind n cs) es)
    ≡ list_any (λ e. overlaps e start end) (map (event_over kind m cs) es)
unfolding event_over
same_touch kind n m cs start end in_n in_m [] = refl
same_touch kind n m cs start end in_n in_m (e ∷ es) =
    let begun : Bool = nat_lt (option_map_or (λ c. c.window.start) (slice_get cs e.first) 0) end in
    ap (λ b. (begun && b) || list_any (λ e. overlaps e start end) (map (event_over kind n cs) es))
    (at (option_and_then (slice_get cs) e.last))
    ∙ ap (λ b. overlaps (event_over kind m cs e) start end ||
    b) (same_touch kind n m cs start end in_n in_m es)
  where
    at : (o : Option Condition) → nat_lt start (option_map_or (λ c. c.window.end) o n)
        ≡ nat_lt start (option_map_or (λ c. c.window.end) o m)
    at None = lt_is start n in_n ∙ sym (lt_is start m in_m)
    at (Some c) = refl

pub touch_any_end : (kind : Kind) (n m : ℕ) (cs : List Condition) (start end : ℕ) → start < n → start < m →
    is_touched (events kind n cs) start end ≡ is_touched (events kind m cs) start end
unfolding events is_touched
touch_any_end kind n m cs start end in_n in_m = same_touch kind n m cs start end in_n in_m (extents cs)

-- ---- events begin where some window does

get_all : (P : Condition → Type 0) (cs : List Condition) (i : ℕ) → AllByRecursion P cs → i < length cs →
    IfSome (slice_get cs i) P
get_all P [] i h inside = tt
get_all P (c ∷ cs) zero h inside = h.0
get_all P (c ∷ cs) (suc i) h inside = get_all P cs i h.1 (omega (arith, inside))

found_below : (w : ℕ) (o : Option Condition) → 0 < w → IfSome o (λ c. c.window.start < w) →
    option_map_or (λ c. c.window.start) o 0 < w
found_below w None some h = some
found_below w (Some c) some h = h

starts_below : (kind : Kind) (n w : ℕ) (cs : List Condition) → 0 < w →
    AllByRecursion (λ c. c.window.start < w) cs → (es : List Extent) →
    AllByRecursion (IsInside (length cs)) es
    → AllByRecursion (λ e. e.start < w) (map (event_over kind n cs) es)
unfolding event_over
starts_below kind n w cs some below [] inside = tt
starts_below kind n w cs some below (e ∷ es) inside = (
  found_below w (slice_get cs e.first) some
      (get_all (λ c. c.window.start < w) cs e.first below inside.0.0),
  starts_below kind n w cs some below es inside.1,
)

inside_kept : (n : ℕ) (p : Extent → Bool) (es : List Extent) → AllByRecursion (IsInside n) es →
    AllByRecursion (IsInside n) (filter p es)
inside_kept n p [] h = tt
inside_kept n p (e ∷ es) h = at (p e) (inside_kept n p es h.1)
  where
    at : (b : Bool) → AllByRecursion (IsInside n) (filter p es) →
        AllByRecursion (IsInside n) (cond b (e ∷ filter p es) (filter p es))
    at true rest = (h.0, rest)
    at false rest = rest

pub ended_below : (kind : Kind) (w : ℕ) (cs : List Condition) → 0 < w →
    AllByRecursion (λ c. c.window.start < w) cs → AllByRecursion (λ e. e.start < w) (ended_events kind cs)
unfolding ended_events
ended_below kind w cs some below =
    starts_below kind 0 w cs some below (filter (λ e. is_some e.last) (extents cs))
    (inside_kept (length cs) (λ e. is_some e.last) (extents cs) (extents_inside cs))

found_all : (w : ℕ) (p : Event → Bool) (es : List Event) → AllByRecursion (λ e. e.start < w) es →
    IfSome (find p es) (λ e. e.start < w)
found_all w p [] h = tt
found_all w p (e ∷ es) h = at (p e) (found_all w p es h.1)
  where
    at : (b : Bool) → IfSome (find p es) (λ e. e.start < w) →
        IfSome (cond b (Some e) (find p es)) (λ e. e.start < w)
    at true rest = h.0
    at false rest = rest

pub open_below : (kind : Kind) (w : ℕ) (cs : List Condition) → 0 < w →
    AllByRecursion (λ c. c.window.start < w) cs
    → option_map_or (λ s. nat_lt s w) (open_start kind cs) false ≡ is_some (open_start kind cs)
unfolding open_start events
open_below kind w cs some below =
    at (find (λ e. e.is_open) (events kind 0 cs)) (found_all w (λ e. e.is_open) (events kind 0 cs)
    (starts_below kind 0 w cs some below (extents cs) (extents_inside cs)))
  where
    at : (o : Option Event) → IfSome o (λ e. e.start < w) →
        option_map_or (λ s. nat_lt s w) (option_map (λ e. e.start) o) false
        ≡ is_some (option_map (λ e. e.start) o)
    at None h = refl
    at (Some e) h = lt_is e.start w h

-- ---- by the greatest end

either : (s a b : ℕ) → nat_lt s (max a b) ≡ (nat_lt s a || nat_lt s b)
either s a b = at (nat_lt s a) refl (nat_lt s b) refl
  where
    at : (p : Bool) → nat_lt s a ≡ p → (q : Bool) → nat_lt s b ≡ q → nat_lt s (max a b) ≡ (p || q)
    at true is q was = grind (arith, nat_tests, is)
    at false is true was = grind (arith, nat_tests, was)
    at false is false was = grind (arith, nat_tests, is, was)

pub touched_by_greatest : (es : List Event) (start end : ℕ) → AllByRecursion (λ e. e.start < end) es →
    is_touched es start end ≡ nat_lt start (greatest_end es)
unfolding is_touched greatest_end
touched_by_greatest [] start end h = sym none
  where
    none : nat_lt start 0 ≡ false
    none = grind (arith, nat_tests)
touched_by_greatest (e ∷ es) start end h =
    ap (λ b. (b && nat_lt start e.end) || list_any (λ e. overlaps e start end) es) (lt_is e.start end h.0)
    ∙ ap (λ b. nat_lt start e.end || b) (touched_by_greatest es start end h.1)
    ∙ sym (either start e.end (greatest_end es))

-- one more event
pub greatest_push : (es : List Event) (o : Option Event) → greatest_end (es ++ option_to_list o)
    ≡ max (greatest_end es) (option_map_or (λ e. e.end) o 0)
unfolding greatest_end
greatest_push [] None = omega arith
greatest_push [] (Some e) = omega arith
greatest_push (x ∷ es) o = let rest = greatest_push es o in omega (arith, rest)

-- the span is touched where an event has ended after its start or one is open
pub touched_at_once : (kind : Kind) (cs : List Condition) (start end : ℕ) → 0 < end →
    AllByRecursion (λ c. c.window.start < end) cs
    → (is_touched (ended_events kind cs) start end ||
    option_map_or (λ s. nat_lt s end) (open_start kind cs) false)
    ≡ (nat_lt start (greatest_end (ended_events kind cs)) || is_some (open_start kind cs))
touched_at_once kind cs start end some below =
    ap (λ b. b || option_map_or (λ s. nat_lt s end) (open_start kind cs) false)
    (touched_by_greatest (ended_events kind cs) start end (ended_below kind end cs some below))
    ∙ ap (λ b. nat_lt start (greatest_end (ended_events kind cs)) || b) (open_below kind end cs some below)
