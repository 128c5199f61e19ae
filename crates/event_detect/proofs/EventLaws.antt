-- One more condition on a list: which event it ends, and what is known then of the event that is open.
use Rattle.std.proofs.Common.{◌≡◌, ℕ, zero, suc, ◌+◌, ◌-◌, ◌<◌, ◌≤◌, Bool, true, false, cond, List, [], ◌∷◌, ◌++◌, length, map, filter, find, Option, Some, None, is_some, option_map, option_to_list, slice_get, slice_range, drop, take, refl, sym, ◌∙◌, ap, subst, arith}
use Rattle.std.specs.Option.{option_map_or}
use Rattle.std.specs.Option.{option_or}
use Rattle.std.proofs.lemmas.List.Folds.{find-append}
use Rattle.std.proofs.Math.Seq.{append_snoc, drop-length}
use Rattle.std.proofs.lemmas.List.{append-nil, length_push, length-drop, take_all, take_rest, take-append-le, drop-append-le}
use Rattle.event_detect.specs.declared.event.Event.{Event}
use Rattle.event_detect.specs.declared.kind.Kind.{Kind}
use Rattle.event_detect.specs.VoltageEvent.{Condition, Extent, event_from, extents, event_over, events, ended_events, open_start, seen_value}
use Rattle.pq_words.specs.First.{first_of, first_between}
use Rattle.pq_words.specs.Successors.{successors}
use Rattle.event_detect.specs.Detector.{OpenEvent, event_until, open_at, with_window}
use Rattle.event_detect.proofs.ExtentLaws.{extent, add_condition, extents_push, get_left, get_last}
use Rattle.event_detect.proofs.WorstLaws.{value_of, channel_of, known, known_push, known_first}

-- ---- what was seen, on the longer list

seen_more : (cs : List Condition) (c : Condition) (j : ℕ) → j ≤ length cs →
    slice_range (cs ++ c ∷ []) j (length cs + 1) ≡ slice_range cs j (length cs) ++ c ∷ []
seen_more cs c j inside =
    let longer : length (drop j cs ++ c ∷ []) ≤ length cs + 1 - j =
    omega (arith, length_push (drop j cs) c, length-drop j cs, inside) in
    ap (take (length cs + 1 - j)) (drop-append-le j cs (c ∷ []) inside)
    ∙ take_all (length cs + 1 - j) (drop j cs ++ c ∷ []) longer
    ∙ ap (λ seen. seen ++ c ∷ []) (sym (take_rest cs j))

seen_kept : (cs : List Condition) (c : Condition) (f k : ℕ) → f < k → k < length cs →
    slice_range (cs ++ c ∷ []) f (k + 1) ≡ slice_range cs f (k + 1)
seen_kept cs c f k later inside =
    let enough : k + 1 - f ≤ length (drop f cs) = omega (arith, length-drop f cs, later, inside) in
    ap (take (k + 1 - f)) (drop-append-le f cs (c ∷ []) (omega (arith, later, inside)))
    ∙ take-append-le (k + 1 - f) (drop f cs) (c ∷ []) enough

-- from an index of the list on, something is seen
some_seen : (cs : List Condition) (j : ℕ) → j < length cs → (x : Condition) × (xs : List Condition) ×
    (drop j cs ≡ x ∷ xs)
some_seen [] j inside = absurd (omega (arith, inside))
some_seen (c ∷ cs) zero inside = (c, cs, refl)
some_seen (c ∷ cs) (suc j) inside = some_seen cs j (omega (arith, inside))

get_some : (cs : List Condition) (k : ℕ) → k < length cs → (x : Condition) × (slice_get cs k ≡ Some x)
get_some [] k inside = absurd (omega (arith, inside))
get_some (c ∷ cs) zero inside = (c, refl)
get_some (c ∷ cs) (suc k) inside = get_some cs k (omega (arith, inside))

-- ---- extents of a list: each within it, and an open one last

abbrev pub AreWithin : ℕ → List Extent → Type 0
AreWithin n [] = Unit {0}
AreWithin n (e ∷ es) = elim e.last [
  | None ↦ (e.first < n) × (es ≡ [])
  | Some k ↦ (e.first < k) × (k < n) ×
      AreWithin n es
]

-- the beginning of the open one
abbrev pub open_of : List Extent → Option ℕ
open_of [] = None
open_of (e ∷ es) = elim e.last [ None ↦ Some e.first | Some k ↦ open_of es ]

within_push : (n : ℕ) (b e : Bool) (es : List Extent) → AreWithin n es →
    AreWithin (n + 1) (add_condition b e n es)
unfolding add_condition
within_push n true e [] within = (omega arith, refl)
within_push n false e [] within = tt
within_push n b e (x ∷ xs) within = at x.first x.last e (within_push n b e xs) within
  where
    at : (f : ℕ) (last : Option ℕ) (e : Bool) →
        (AreWithin n xs → AreWithin (n + 1) (add_condition b e n xs)) → AreWithin n (extent f last ∷ xs)
        → AreWithin (n + 1) (add_condition b e n (extent f last ∷ xs))
    at f None true more within = (within.0, omega arith, tt)
    at f None false more within = (omega (arith, within.0), refl)
    at f (Some k) e more within = (within.0, omega (arith, within.1), more within.2)

-- what holds of the empty list, and of each list with one thing more, holds of every list
by_pushes : {X : Type 0} (P : List X → Type 0) → P [] → ((xs : List X) (x : X) → P xs → P (xs ++ x ∷ [])) →
    (xs : List X) → P xs
by_pushes {X} P none one xs = from [] xs none
  where
    from : (front back : List X) → P front → P (front ++ back)
    from front [] h = subst P (sym (append-nil front)) h
    from front (x ∷ xs) h = subst P (append_snoc front x xs) (from (front ++ x ∷ []) xs (one front x h))

within_none : AreWithin 0 (extents [])
unfolding extents event_from successors first_between first_of
within_none = tt

pub extents_within : (cs : List Condition) → AreWithin (length cs) (extents cs)
extents_within cs =
    by_pushes (λ cs. AreWithin (length cs) (extents cs)) within_none
    (λ cs c within.
    subst (λ es. AreWithin (length (cs ++ c ∷ [])) es) (sym (extents_push cs c))
    (subst (λ n. AreWithin n (add_condition c.begins c.ends (length cs) (extents cs)))
    (sym (length_push cs c))
    (within_push (length cs) c.begins c.ends (extents cs) within)))
    cs

-- the open one after one more condition
abbrev next_open : Bool → Bool → ℕ → Option ℕ → Option ℕ
next_open b e n None = cond b (Some n) None
next_open b e n (Some j) = cond e None (Some j)

open_push : (b e : Bool) (n : ℕ) (es : List Extent) → open_of (add_condition b e n es)
    ≡ next_open b e n (open_of es)
unfolding add_condition
open_push true e n [] = refl
open_push false e n [] = refl
open_push b e n (x ∷ xs) = at x.first x.last e (open_push b e n xs)
  where
    at : (f : ℕ) (last : Option ℕ) (e : Bool) →
        open_of (add_condition b e n xs) ≡ next_open b e n (open_of xs) →
        open_of (add_condition b e n (extent f last ∷ xs)) ≡ next_open b e n (open_of (extent f last ∷ xs))
    at f None true more = refl
    at f None false more = refl
    at f (Some k) e more = more

abbrev IsInside : ℕ → Option ℕ → Type 0
IsInside n None = Unit {0}
IsInside n (Some j) = j < n

open_inside : (n : ℕ) (es : List Extent) → AreWithin n es → IsInside n (open_of es)
open_inside n [] within = tt
open_inside n (x ∷ xs) within = at x.first x.last (open_inside n xs) within
  where
    at : (f : ℕ) (last : Option ℕ) → (AreWithin n xs → IsInside n (open_of xs)) →
        AreWithin n (extent f last ∷ xs) → IsInside n (open_of (extent f last ∷ xs))
    at f None more within = within.0
    at f (Some k) more within = more within.2

-- ---- what is known of the open event

abbrev start_at : List Condition → ℕ → ℕ
start_at cs j = option_map_or (λ c. c.window.start) (slice_get cs j) 0

abbrev known_from : Kind → List Condition → ℕ → OpenEvent
known_from kind cs j = known kind (start_at cs j) (slice_range cs j (length cs))

abbrev pub open_event : Kind → List Condition → Option OpenEvent
open_event kind cs = option_map (known_from kind cs) (open_of (extents cs))

-- what was seen from index j on, with one more condition
pushed_seen : (kind : Kind) (cs : List Condition) (c : Condition) (j start : ℕ) → j < length cs
    → known kind start (slice_range (cs ++ c ∷ []) j (length cs + 1))
    ≡ with_window kind (known kind start (slice_range cs j (length cs))) c.channel (seen_value c)
pushed_seen kind cs c j start inside =
    let some = some_seen cs j inside in
    let seen : slice_range cs j (length cs) ≡ some.0 ∷ some.1 = take_rest cs j ∙ some.2 in
    ap (known kind start) (seen_more cs c j (omega (arith, inside)) ∙ ap (λ xs. xs ++ c ∷ []) seen)
    ∙ known_push kind start some.0 some.1 c
    ∙ ap (λ xs. with_window kind (known kind start xs) c.channel (seen_value c)) (sym seen)

known_more : (kind : Kind) (cs : List Condition) (c : Condition) (j : ℕ) → j < length cs
    → known_from kind (cs ++ c ∷ []) j ≡ with_window kind (known_from kind cs j) c.channel (seen_value c)
known_more kind cs c j inside =
    ap (λ n. known kind (start_at (cs ++ c ∷ []) j) (slice_range (cs ++ c ∷ []) j n)) (length_push cs c)
    ∙ ap (λ o. known kind (option_map_or (λ c. c.window.start) o 0)
    (slice_range (cs ++ c ∷ []) j (length cs + 1))) (get_left cs (c ∷ []) j inside)
    ∙ pushed_seen kind cs c j (start_at cs j) inside

-- what is known after the condition that begins an event
abbrev pub begun : Condition → OpenEvent
begun c = record { start = c.window.start; channel = c.channel; value = seen_value c }

known_new : (kind : Kind) (cs : List Condition) (c : Condition) → known_from kind (cs ++ c ∷ []) (length cs)
    ≡ begun c
known_new kind cs c =
    let here : slice_range cs (length cs) (length cs) ≡ [] = take_rest cs (length cs) ∙ drop-length cs in
    ap (λ n. known kind (start_at (cs ++ c ∷ []) (length cs)) (slice_range (cs ++ c ∷ []) (length cs) n))
    (length_push cs c)
    ∙ ap (λ o. known kind (option_map_or (λ c. c.window.start) o 0)
    (slice_range (cs ++ c ∷ []) (length cs) (length cs + 1))) (get_last cs c)
    ∙ ap (known kind c.window.start) (seen_more cs c (length cs) (omega arith) ∙ ap (λ xs. xs ++ c ∷ []) here)
    ∙ known_first kind c.window.start c

-- what is known after one more condition: an event that runs may end there, and where none does one may begin
abbrev pub next_event : Kind → Bool → Bool → Condition → Option OpenEvent → Option OpenEvent
next_event kind b e c None = cond b (Some (begun c)) None
next_event kind b e c (Some r) = cond e None (Some (with_window kind r c.channel (seen_value c)))

known_next : (kind : Kind) (cs : List Condition) (c : Condition) (b e : Bool) (o : Option ℕ) →
    IsInside (length cs) o
    → option_map (known_from kind (cs ++ c ∷ [])) (next_open b e (length cs) o)
    ≡ next_event kind b e c (option_map (known_from kind cs) o)
known_next kind cs c true e None inside = ap Some (known_new kind cs c)
known_next kind cs c false e None inside = refl
known_next kind cs c b true (Some j) inside = refl
known_next kind cs c b false (Some j) inside = ap Some (known_more kind cs c j inside)

pub open_event_push : (kind : Kind) (cs : List Condition) (c : Condition) → open_event kind (cs ++ c ∷ [])
    ≡ next_event kind c.begins c.ends c (open_event kind cs)
open_event_push kind cs c =
    ap (λ es. option_map (known_from kind (cs ++ c ∷ [])) (open_of es)) (extents_push cs c)
    ∙ ap (option_map (known_from kind (cs ++ c ∷ []))) (open_push c.begins c.ends (length cs) (extents cs))
    ∙ known_next kind cs c c.begins c.ends (open_of (extents cs))
    (open_inside (length cs) (extents cs) (extents_within cs))

-- ---- the events

abbrev has_ended : Extent → Bool
has_ended e = is_some e.last

-- the event over an extent that has ended, by what it looks at
abbrev over : Kind → List Condition → Option Condition → Option Condition → ℕ → Event
over kind seen first last n =
    let start = option_map_or (λ c. c.window.start) first 0 in
    record {
      kind = kind;
      start = start;
      end = option_map_or (λ c. c.window.end) last n;
      channel = channel_of kind seen;
      value = value_of kind seen;
      is_open = false;
    }

event_is : (kind : Kind) (n f k : ℕ) (cs : List Condition) → event_over kind n cs (extent f (Some k))
    ≡ over kind (slice_range cs f (k + 1)) (slice_get cs f) (slice_get cs k) n
unfolding event_over
event_is kind n f k cs = refl

-- an event that has ended is the same wherever the list ends
ended_same : (kind : Kind) (n m f k : ℕ) (cs : List Condition) → k < length cs →
    event_over kind n cs (extent f (Some k)) ≡ event_over kind m cs (extent f (Some k))
ended_same kind n m f k cs inside =
    let some = get_some cs k inside in
    let seen = slice_range cs f (k + 1) in
    event_is kind n f k cs
    ∙ ap (λ o. over kind seen (slice_get cs f) o n) some.1
    ∙ ap (λ o. over kind seen (slice_get cs f) o m) (sym some.1)
    ∙ sym (event_is kind m f k cs)

-- and on the longer list
ended_kept : (kind : Kind) (n f k : ℕ) (cs : List Condition) (c : Condition) → f < k → k < length cs
    → event_over kind n (cs ++ c ∷ []) (extent f (Some k)) ≡ event_over kind n cs (extent f (Some k))
ended_kept kind n f k cs c later inside =
    event_is kind n f k (cs ++ c ∷ [])
    ∙ ap (λ seen. over kind seen (slice_get (cs ++ c ∷ []) f) (slice_get (cs ++ c ∷ []) k) n)
    (seen_kept cs c f k later inside)
    ∙ ap (λ o. over kind (slice_range cs f (k + 1)) o (slice_get (cs ++ c ∷ []) k) n)
    (get_left cs (c ∷ []) f (omega (arith, later, inside)))
    ∙ ap (λ o. over kind (slice_range cs f (k + 1)) (slice_get cs f) o n) (get_left cs (c ∷ []) k inside)
    ∙ sym (event_is kind n f k cs)

-- the event that ends at a place
abbrev pub closed_at : Kind → ℕ → OpenEvent → Event
closed_at kind n r = event_until kind r n false

ended_new : (kind : Kind) (f : ℕ) (cs : List Condition) (c : Condition) → f < length cs
    → event_over kind 0 (cs ++ c ∷ []) (extent f (Some (length cs)))
    ≡ closed_at kind c.window.end (with_window kind (known_from kind cs f) c.channel (seen_value c))
ended_new kind f cs c inside =
    event_is kind 0 f (length cs) (cs ++ c ∷ [])
    ∙ ap (λ o. over kind (slice_range (cs ++ c ∷ []) f (length cs + 1)) o
    (slice_get (cs ++ c ∷ []) (length cs)) 0) (get_left cs (c ∷ []) f inside)
    ∙ ap (λ o. over kind (slice_range (cs ++ c ∷ []) f (length cs + 1)) (slice_get cs f) o 0) (get_last cs c)
    ∙ ap (closed_at kind c.window.end) (pushed_seen kind cs c f (start_at cs f) inside)

-- the event that one more condition ends
abbrev pub ended_event : Kind → Bool → Condition → Option OpenEvent → Option Event
ended_event kind e c None = None
ended_event kind e c (Some r) = cond e (Some (closed_at kind c.window.end
    (with_window kind r c.channel (seen_value c)))) None

ended_from : (kind : Kind) (cs : List Condition) (c : Condition) (b e : Bool) (es : List Extent) →
    AreWithin (length cs) es
    → map (event_over kind 0 (cs ++ c ∷ [])) (filter has_ended (add_condition b e (length cs) es))
    ≡ map (event_over kind 0 cs) (filter has_ended es)
    ++ option_to_list (ended_event kind e c (option_map (known_from kind cs) (open_of es)))
unfolding add_condition
ended_from kind cs c true e [] within = refl
ended_from kind cs c false e [] within = refl
ended_from kind cs c b e (x ∷ xs) within = at x.first x.last e (ended_from kind cs c b e xs) within
  where
    at : (f : ℕ) (last : Option ℕ) (e : Bool)
        → (AreWithin (length cs) xs → map (event_over kind 0 (cs ++ c ∷ []))
        (filter has_ended (add_condition b e (length cs) xs))
        ≡ map (event_over kind 0 cs) (filter has_ended xs)
        ++ option_to_list (ended_event kind e c (option_map (known_from kind cs) (open_of xs))))
        → AreWithin (length cs) (extent f last ∷ xs)
        → map (event_over kind 0 (cs ++ c ∷ [])) (filter has_ended
        (add_condition b e (length cs) (extent f last ∷ xs)))
        ≡ map (event_over kind 0 cs) (filter has_ended (extent f last ∷ xs))
        ++ option_to_list (ended_event kind e c (option_map (known_from kind cs)
        (open_of (extent f last ∷ xs))))
    at f None true more within =
        let answer = closed_at kind c.window.end (with_window kind (known_from kind cs f) c.channel
        (seen_value c)) in
        ap (λ v. v ∷ []) (ended_new kind f cs c within.0)
        ∙ subst (λ ys. answer ∷ [] ≡ map (event_over kind 0 cs) (filter has_ended ys) ++ answer ∷ [])
        (sym within.1) refl
    at f None false more within = subst (λ ys. [] ≡ map (event_over kind 0 cs) (filter has_ended ys) ++ [])
        (sym within.1) refl
    at f (Some k) e more within =
        ap (λ v. v ∷ map (event_over kind 0 (cs ++ c ∷ []))
        (filter has_ended (add_condition b e (length cs) xs)))
        (ended_kept kind 0 f k cs c within.0 within.1)
        ∙ ap (λ vs. event_over kind 0 cs (extent f (Some k)) ∷ vs) (more within.2)

-- one more condition ends an event that runs, or none
pub ended_events_push : (kind : Kind) (cs : List Condition) (c : Condition)
    → ended_events kind (cs ++ c ∷ []) ≡ ended_events kind cs
    ++ option_to_list (ended_event kind c.ends c (open_event kind cs))
unfolding ended_events
ended_events_push kind cs c =
    ap (λ es. map (event_over kind 0 (cs ++ c ∷ [])) (filter has_ended es)) (extents_push cs c)
    ∙ ended_from kind cs c c.begins c.ends (extents cs) (extents_within cs)

split_from : (kind : Kind) (n : ℕ) (cs : List Condition) (es : List Extent) → AreWithin (length cs) es
    → map (event_over kind n cs) es ≡ map (event_over kind 0 cs) (filter has_ended es)
    ++ option_to_list (option_map (λ j. event_over kind n cs (extent j None)) (open_of es))
split_from kind n cs [] within = refl
split_from kind n cs (x ∷ xs) within = at x.first x.last (split_from kind n cs xs) within
  where
    at : (f : ℕ) (last : Option ℕ)
        → (AreWithin (length cs) xs → map (event_over kind n cs) xs
        ≡ map (event_over kind 0 cs) (filter has_ended xs)
        ++ option_to_list (option_map (λ j. event_over kind n cs (extent j None)) (open_of xs)))
        → AreWithin (length cs) (extent f last ∷ xs)
        → map (event_over kind n cs) (extent f last ∷ xs)
        ≡ map (event_over kind 0 cs) (filter has_ended (extent f last ∷ xs))
        ++ option_to_list (option_map (λ j. event_over kind n cs (extent j None))
        (open_of (extent f last ∷ xs)))
    at f None more within =
        let left = event_over kind n cs (extent f None) in
        subst (λ ys. left ∷ map (event_over kind n cs) ys ≡ map (event_over kind 0 cs) (filter has_ended ys)
        ++ left ∷ []) (sym within.1) refl
    at f (Some k) more within =
        ap (λ v. v ∷ map (event_over kind n cs) xs) (ended_same kind n 0 f k cs within.1)
        ∙ ap (λ vs. event_over kind 0 cs (extent f (Some k)) ∷ vs) (more within.2)

open_is : (kind : Kind) (n : ℕ) (cs : List Condition) (o : Option ℕ) →
    option_map (λ j. event_over kind n cs (extent j None)) o
    ≡ option_map (open_at kind n) (option_map (known_from kind cs) o)
unfolding event_over
open_is kind n cs None = refl
open_is kind n cs (Some j) = refl

-- the events are those that have ended, and then the open one
pub events_split : (kind : Kind) (n : ℕ) (cs : List Condition) → events kind n cs ≡ ended_events kind cs
    ++ option_to_list (option_map (open_at kind n) (open_event kind cs))
unfolding events ended_events
events_split kind n cs =
    split_from kind n cs (extents cs) (extents_within cs)
    ∙ ap (λ o. map (event_over kind 0 cs) (filter has_ended (extents cs)) ++ option_to_list o)
    (open_is kind n cs (open_of (extents cs)))

-- none of those that have ended is open
none_open : (kind : Kind) (cs : List Condition) (es : List Extent) →
    find (λ event. event.is_open) (map (event_over kind 0 cs) (filter has_ended es)) ≡ None
unfolding event_over
none_open kind cs [] = refl
none_open kind cs (x ∷ xs) = at x.first x.last (none_open kind cs xs)
  where
    at : (f : ℕ) (last : Option ℕ) → find (λ event. event.is_open)
        (map (event_over kind 0 cs) (filter has_ended xs)) ≡ None
        → find (λ event. event.is_open) (map (event_over kind 0 cs) (filter has_ended (extent f last ∷ xs)))
        ≡ None
    at f None more = more
    at f (Some k) more = more

pub open_start_is : (kind : Kind) (cs : List Condition) → open_start kind cs
    ≡ option_map (λ r. r.start) (open_event kind cs)
unfolding open_start ended_events
open_start_is kind cs =
    let found : List Event → Option ℕ = λ es. option_map (λ event. event.start)
    (find (λ event. event.is_open) es) in
    let left : List Event = option_to_list (option_map (open_at kind 0) (open_event kind cs)) in
    ap found (events_split kind 0 cs)
    ∙ ap (option_map (λ event. event.start)) (find-append (λ event. event.is_open) (ended_events kind cs)
    left)
    ∙ ap (λ o. option_map (λ event. event.start) (option_or o (find (λ event. event.is_open) left)))
    (none_open kind cs (extents cs))
    ∙ of_left (open_event kind cs)
  where
    of_left : (o : Option OpenEvent) → option_map (λ event. event.start)
        (find (λ event. event.is_open) (option_to_list (option_map (open_at kind 0) o)))
        ≡ option_map (λ r. r.start) o
    of_left None = refl
    of_left (Some r) = refl
