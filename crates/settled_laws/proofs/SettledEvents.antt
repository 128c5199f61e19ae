-- What the conditions so far tell of the events: those that end by a place, and which spans up to it they
-- touch.
use Rattle.std.proofs.Common.{option_map, is_some, ◌≡◌, ℕ, zero, suc, ◌+◌, ◌-◌, ◌<◌, ◌≤◌, Bool, true, false, cond, ◌||◌, ◌&&◌, nat_lt, nat_le, List, [], ◌∷◌, ◌++◌, length, map, filter, take, drop, find, ◌==◌, Option, Some, None, MatchOption, IfSome, slice_get, slice_range, option_and_then, refl, sym, ◌∙◌, ap, subst, arith}
use Rattle.std.specs.List.{AllByRecursion, list_any}
use Rattle.std.specs.Option.{option_map_or}
use Rattle.std.proofs.lemmas.Bool.Decides.{nat_tests}
use Rattle.std.proofs.lemmas.List.{take-append-le, drop-append-le, length-drop}
use Rattle.event_detect.specs.declared.event.Event.{Event}
use Rattle.event_detect.specs.declared.kind.Kind.{Kind}
use Rattle.event_detect.specs.VoltageEvent.{event_from, event_after, ended_events, open_start, Condition, Extent, extents, event_over, events, seen_value, worst}
use Rattle.event_detect.specs.Flag.{overlaps, is_touched}
use Rattle.event_detect.proofs.ExtentLaws.{extent, get_left}
use Rattle.pq_words.specs.Successors.{successors}
use Rattle.settled_laws.proofs.ContinueLaws.{at_limit, by_found, IsLate, IsLater, IsInside, Continues, extents_go_on, extents_inside}

-- ---- over any list that goes on from another

-- the events of the extents that have ended, up to the first that has not
abbrev pub told : (Extent → Event) → List Extent → List Event
told h [] = []
told h (e ∷ es) = let rest = told h es in elim e.last [ None ↦ [] | Some k ↦ h e ∷ rest ]

-- whether an event that has ended passes, or the first that has not
abbrev pub told_any : (Extent → Event) → (Event → Bool) → (ℕ → Bool) → List Extent → Bool
told_any h t open_at [] = false
told_any h t open_at (e ∷ es) = let rest = told_any h t open_at es in
    elim e.last [ None ↦ open_at e.first || false | Some k ↦ t (h e) || rest ]

module _ (n m : ℕ) (g h : Extent → Event)
    (same : (j k : ℕ) → j < n → k < n → g (extent j (Some k)) ≡ h (extent j (Some k))) where
  module _ (p : Event → Bool) (fails : (f : Extent) → IsInside m f → IsLate n f.last → p (g f) ≡ false) where
    none_passes : (fs : List Extent) → AllByRecursion (IsInside m) fs → AllByRecursion (IsLater n) fs →
        filter p (map g fs) ≡ []
    none_passes [] inside late = refl
    none_passes (f ∷ fs) inside late =
        ap (λ b. cond b (g f ∷ filter p (map g fs)) (filter p (map g fs))) (fails f inside.0 late.0.1)
        ∙ none_passes fs inside.1 late.1

    told_pass : (es fs : List Extent) → AllByRecursion (IsInside n) es → AllByRecursion (IsInside m) fs →
        Continues n es fs → filter p (map g fs) ≡ filter p (told h es)
    told_pass [] fs within inside c = none_passes fs inside c
    told_pass (e ∷ es) [] within inside c = absurd c
    told_pass (e ∷ es) (f ∷ fs) within inside c =
        at e.last f.last within.0.1 inside.0.1 c.1 (λ d. told_pass es fs within.1 inside.1 d)
      where
        at : (o q : Option ℕ) → IfSome o (λ k. k < n) → IfSome q (λ k. k < m)
            → MatchOption o (IsLate n q × AllByRecursion (IsLater n) fs) (λ k. (q ≡ Some k) × (k < n) ×
            Continues n es fs)
            → (Continues n es fs → filter p (map g fs) ≡ filter p (told h es))
            → filter p (map g (extent f.first q ∷ fs)) ≡ filter p (told h (extent e.first o ∷ es))
        at None q in_o in_q d rest = none_passes_here q in_q d.0 d.1
          where
            none_passes_here : (q : Option ℕ) → IfSome q (λ k. k < m) → IsLate n q →
                AllByRecursion (IsLater n) fs → filter p (map g (extent f.first q ∷ fs)) ≡ []
            none_passes_here q in_q late later =
                ap (λ b. cond b (g (extent f.first q) ∷ filter p (map g fs)) (filter p (map g fs)))
                (fails (extent f.first q) (inside.0.0, in_q) late) ∙ none_passes fs inside.1 later
        at (Some k) q in_o in_q d rest =
            let first : g (extent f.first q) ≡ h (extent e.first (Some k)) =
            ap (λ r. g (extent f.first r)) d.0 ∙ ap (λ i. g (extent i (Some k))) (sym c.0)
            ∙ same e.first k within.0.0 in_o in
            ap (λ x. cond (p x) (x ∷ filter p (map g fs)) (filter p (map g fs))) first
            ∙ ap (λ xs. cond (p (h (extent e.first (Some k)))) (h (extent e.first (Some k)) ∷ xs) xs)
            (rest d.2)

  module _ (t : Event → Bool) (open_at : ℕ → Bool)
      (missed : (f : Extent) → IsInside m f → n ≤ f.first → t (g f) ≡ false)
      (unended : (f : Extent) → f.first < n → IsInside m f → IsLate n f.last →
      t (g f) ≡ open_at f.first) where
    none_any : (fs : List Extent) → AllByRecursion (IsInside m) fs → AllByRecursion (IsLater n) fs →
        list_any t (map g fs) ≡ false
    none_any [] inside late = refl
    none_any (f ∷ fs) inside late = ap (λ b. b || list_any t (map g fs)) (missed f inside.0 late.0.0)
        ∙ none_any fs inside.1 late.1

    any_told : (es fs : List Extent) → AllByRecursion (IsInside n) es → AllByRecursion (IsInside m) fs →
        Continues n es fs → list_any t (map g fs) ≡ told_any h t open_at es
    any_told [] fs within inside c = none_any fs inside c
    any_told (e ∷ es) [] within inside c = absurd c
    any_told (e ∷ es) (f ∷ fs) within inside c =
        at e.last f.last within.0.1 inside.0.1 c.1 (λ d. any_told es fs within.1 inside.1 d)
      where
        at : (o q : Option ℕ) → IfSome o (λ k. k < n) → IfSome q (λ k. k < m)
            → MatchOption o (IsLate n q × AllByRecursion (IsLater n) fs) (λ k. (q ≡ Some k) × (k < n) ×
            Continues n es fs)
            → (Continues n es fs → list_any t (map g fs) ≡ told_any h t open_at es)
            → list_any t (map g (extent f.first q ∷ fs)) ≡ told_any h t open_at (extent e.first o ∷ es)
        at None q in_o in_q d rest =
            let first : t (g (extent f.first q)) ≡ open_at e.first =
            unended (extent f.first q) (subst (λ i. i < n) c.0 within.0.0) (inside.0.0, in_q) d.0
            ∙ ap open_at (sym c.0) in
            ap (λ b. b || list_any t (map g fs)) first
            ∙ ap (λ b. open_at e.first || b) (none_any fs inside.1 d.1)
        at (Some k) q in_o in_q d rest =
            let first : g (extent f.first q) ≡ h (extent e.first (Some k)) =
            ap (λ r. g (extent f.first r)) d.0 ∙ ap (λ i. g (extent i (Some k))) (sym c.0)
            ∙ same e.first k within.0.0 in_o in
            ap (λ x. t x || list_any t (map g fs)) first
            ∙ ap (λ b. t (h (extent e.first (Some k))) || b) (rest d.2)

-- ---- over conditions and more of them, whose windows begin at place w or after it

any_right : {X : Type 0} (P : X → Type 0) (xs ys : List X) (k : ℕ) → AllByRecursion P ys → length xs ≤ k →
    IfSome (slice_get (xs ++ ys) k) P
any_right P [] [] k h from = tt
any_right P [] (y ∷ ys) zero h from = h.0
any_right P [] (y ∷ ys) (suc k) h from = any_right P [] ys k h.1 (omega arith)
any_right P (x ∷ xs) ys zero h from = absurd (omega (arith, from))
any_right P (x ∷ xs) ys (suc k) h from = any_right P xs ys k h (omega (arith, from))

some_right : {X : Type 0} (P : X → Type 0) (xs ys : List X) (k : ℕ) → AllByRecursion P ys → length xs ≤ k →
    k < length (xs ++ ys) → (x : X) × (slice_get (xs ++ ys) k ≡ Some x) × P x
some_right P [] [] k h from below = absurd (omega (arith, below))
some_right P [] (y ∷ ys) zero h from below = (y, refl, h.0)
some_right P [] (y ∷ ys) (suc k) h from below = some_right P [] ys k h.1 (omega arith) (omega (arith, below))
some_right P (x ∷ xs) ys zero h from below = absurd (omega (arith, from))
some_right P (x ∷ xs) ys (suc k) h from below =
    some_right P xs ys k h (omega (arith, from)) (omega (arith, below))

-- the window begins at place w or after it, and ends after w
abbrev pub IsAhead : ℕ → Condition → Type 0
IsAhead w c = (w ≤ c.window.start) × (w < c.window.end)

not_le : (a w : ℕ) → w < a → nat_le a w ≡ false
not_le a w h = grind (arith, nat_tests, h)

not_lt : (a w : ℕ) → w ≤ a → nat_lt a w ≡ false
not_lt a w h = grind (arith, nat_tests, h)

is_lt_true : (a w : ℕ) → a < w → nat_lt a w ≡ true
is_lt_true a w h = grind (arith, nat_tests, h)

and_true : (b : Bool) → (b && true) ≡ b
and_true true = refl
and_true false = refl

module _ (kind : Kind) (n w : ℕ) (cs : List Condition) where
  -- an event by what is seen in it, where it begins and where it ends
  abbrev made : ℕ → Bool → List Condition → Option Condition → Option Condition → Event
  made m is_left seen first last =
      let value = worst kind (map seen_value seen) in
      record {
        kind = kind;
        start = option_map_or (λ c. c.window.start) first 0;
        end = option_map_or (λ c. c.window.end) last m;
        channel = option_map_or (λ c. c.channel) (find (λ c. seen_value c == value) seen) 0;
        value = value;
        is_open = is_left;
      }

  same_seen : (ds : List Condition) (j k : ℕ) → j < length cs → k < length cs →
      slice_range (cs ++ ds) j (k + 1) ≡ slice_range cs j (k + 1)
  same_seen ds j k begun at =
      ap (take (k + 1 - j)) (drop-append-le j cs ds (omega (arith, begun)))
      ∙ take-append-le (k + 1 - j) (drop j cs) ds (omega (arith, length-drop j cs, begun, at))

  -- an event that has ended is the same over more conditions, whatever the end of the list
  same_event : (ds : List Condition) (j k : ℕ) → j < length cs → k < length cs →
      event_over kind n (cs ++ ds) (extent j (Some k)) ≡ event_over kind 0 cs (extent j (Some k))
  unfolding event_over
  same_event ds j k begun at =
      let there = some_left cs k at in
      ap (λ seen. made n false seen (slice_get (cs ++ ds) j) (slice_get (cs ++ ds) k))
      (same_seen ds j k begun at)
      ∙ ap (λ o. made n false (slice_range cs j (k + 1)) o (slice_get (cs ++ ds) k)) (get_left cs ds j begun)
      ∙ ap (λ o. made n false (slice_range cs j (k + 1)) (slice_get cs j) o) (get_left cs ds k at ∙ there.1)
      ∙ sym (ap (λ o. made 0 false (slice_range cs j (k + 1)) (slice_get cs j) o) there.1)
    where
      some_left : (xs : List Condition) (k : ℕ) → k < length xs → (x : Condition) × (slice_get xs k ≡ Some x)
      some_left [] k h = absurd (omega (arith, h))
      some_left (x ∷ xs) zero h = (x, refl)
      some_left (x ∷ xs) (suc k) h = some_left xs k (omega (arith, h))

  late_end : (ds : List Condition) (f : Extent) → w < n → AllByRecursion (IsAhead w) ds →
      IsLate (length cs) f.last → w < (event_over kind n (cs ++ ds) f).end
  unfolding event_over
  late_end ds f less ahead late = at f.last late
    where
      at_end : (o : Option Condition) → IfSome o (IsAhead w) → w < option_map_or (λ c. c.window.end) o n
      at_end None h = less
      at_end (Some c) h = h.1

      at : (o : Option ℕ) → IsLate (length cs) o →
          w < option_map_or (λ c. c.window.end) (option_and_then (slice_get (cs ++ ds)) o) n
      at None late = less
      at (Some k) late = at_end (slice_get (cs ++ ds) k) (any_right (IsAhead w) cs ds k ahead late)

  later_start : (ds : List Condition) (f : Extent) → AllByRecursion (IsAhead w) ds → length cs ≤ f.first →
      f.first < length (cs ++ ds) → w ≤ (event_over kind n (cs ++ ds) f).start
  unfolding event_over
  later_start ds f ahead from inside =
      let there = some_right (IsAhead w) cs ds f.first ahead from inside in
      subst (λ o. w ≤ option_map_or (λ c. c.window.start) o 0) (sym there.1) there.2.0

  -- the start of the window at a place
  abbrev start_of : ℕ → ℕ
  start_of j = option_map_or (λ c. c.window.start) (slice_get cs j) 0

  early_start : (ds : List Condition) (f : Extent) → f.first < length cs →
      (event_over kind n (cs ++ ds) f).start ≡ start_of f.first
  unfolding event_over
  early_start ds f inside = ap (λ o. option_map_or (λ c. c.window.start) o 0) (get_left cs ds f.first inside)

  -- ---- in the words of events: those that have ended, and the start of the one that has not

  told_from : (m i : ℕ) → told (event_over kind 0 cs) (successors (event_after cs) m (event_from cs i))
      ≡ map (event_over kind 0 cs) (filter (λ e. is_some e.last) (successors (event_after cs) m
      (event_from cs i)))
  told_from zero i = at_limit (λ es. told (event_over kind 0 cs) es
      ≡ map (event_over kind 0 cs) (filter (λ e. is_some e.last) es)) cs (event_from cs i) refl
  told_from (suc m) i =
      by_found (λ es. told (event_over kind 0 cs) es
      ≡ map (event_over kind 0 cs) (filter (λ e. is_some e.last) es)) cs m i refl (λ j begun. refl)
      (λ j k begun at. ap (λ xs. event_over kind 0 cs (extent j (Some k)) ∷ xs) (told_from m (k + 1)))

  told_ended : told (event_over kind 0 cs) (extents cs) ≡ ended_events kind cs
  unfolding extents ended_events
  told_ended = told_from (length cs) 0

  or_assoc : (a b c : Bool) → (a || (b || c)) ≡ ((a || b) || c)
  or_assoc true b c = refl
  or_assoc false b c = refl

  module _ (start end : ℕ) where
    -- an event that has ended touches the span, or one begins before its end and has not ended
    abbrev told_so : List Extent → Bool
    told_so es =
        list_any (λ e. overlaps e start end) (map (event_over kind 0 cs) (filter (λ e. is_some e.last) es))
        || option_map_or (λ s. nat_lt s end) (option_map (λ event. event.start) (find (λ event. event.is_open)
        (map (event_over kind 0 cs) es))) false

    any_from : (m i : ℕ) → told_any (event_over kind 0 cs) (λ e. overlaps e start end)
        (λ j. nat_lt (start_of j) end) (successors (event_after cs) m (event_from cs i))
        ≡ told_so (successors (event_after cs) m (event_from cs i))
    unfolding event_over
    any_from zero i = at_limit (λ es. told_any (event_over kind 0 cs) (λ e. overlaps e start end)
        (λ j. nat_lt (start_of j) end) es ≡ told_so es) cs (event_from cs i) refl
    any_from (suc m) i =
        by_found (λ es. told_any (event_over kind 0 cs) (λ e. overlaps e start end)
        (λ j. nat_lt (start_of j) end) es
        ≡ told_so es) cs m i refl (λ j begun. or_false (nat_lt (start_of j) end))
        (λ j k begun at.
        let rest = successors (event_after cs) m (event_from cs (k + 1)) in
        let this = overlaps (event_over kind 0 cs (extent j (Some k))) start end in
        ap (λ b. this || b) (any_from m (k + 1))
        ∙ or_assoc this (list_any (λ e. overlaps e start end) (map (event_over kind 0 cs)
        (filter (λ e. is_some e.last) rest)))
        (option_map_or (λ s. nat_lt s end) (option_map (λ event. event.start) (find (λ event. event.is_open)
        (map (event_over kind 0 cs) rest))) false))
      where
        or_false : (b : Bool) → (b || false) ≡ b
        or_false true = refl
        or_false false = refl

    any_ended : told_any (event_over kind 0 cs) (λ e. overlaps e start end) (λ j. nat_lt (start_of j) end)
        (extents cs)
        ≡ (is_touched (ended_events kind cs) start end ||
        option_map_or (λ s. nat_lt s end) (open_start kind cs) false)
    unfolding extents ended_events open_start events is_touched
    any_ended = any_from (length cs) 0

  -- the events that end by w are those that the conditions so far have ended
  pub settled_events : (ds : List Condition) → w < n → AllByRecursion (IsAhead w) ds
      → filter (λ e. nat_le e.end w) (events kind n (cs ++ ds))
      ≡ filter (λ e. nat_le e.end w) (ended_events kind cs)
  unfolding events
  settled_events ds less ahead =
      told_pass (length cs) (length (cs ++ ds)) (event_over kind n (cs ++ ds)) (event_over kind 0 cs)
      (same_event ds) (λ e. nat_le e.end w)
      (λ f inside late. not_le (event_over kind n (cs ++ ds) f).end w (late_end ds f less ahead late))
      (extents cs) (extents (cs ++ ds)) (extents_inside cs) (extents_inside (cs ++ ds)) (extents_go_on cs ds)
      ∙ ap (filter (λ e. nat_le e.end w)) told_ended

  -- a span up to w is touched by an event that they have ended, or by the one that they have not
  pub settled_touch : (ds : List Condition) (start end : ℕ) → w < n → AllByRecursion (IsAhead w) ds →
      start ≤ w → end ≤ w
      → is_touched (events kind n (cs ++ ds)) start end ≡ (is_touched (ended_events kind cs) start end ||
      option_map_or (λ s. nat_lt s end) (open_start kind cs) false)
  unfolding events is_touched
  settled_touch ds start end less ahead from until =
      let ev : Extent → Event = event_over kind n (cs ++ ds) in
      any_told (length cs) (length (cs ++ ds)) ev (event_over kind 0 cs) (same_event ds)
      (λ e. overlaps e start end) (λ j. nat_lt (start_of j) end)
      (λ f inside later. ap (λ b. b && nat_lt start (ev f).end) (not_lt (ev f).start end (let h =
      later_start ds f ahead later inside.0 in omega (arith, h, until))))
      (λ f early inside late.
      ap (λ b. nat_lt (ev f).start end && b) (is_lt_true start (ev f).end (let h =
      late_end ds f less ahead late in omega (arith, h, from)))
      ∙ and_true (nat_lt (ev f).start end)
      ∙ ap (λ s. nat_lt s end) (early_start ds f early))
      (extents cs) (extents (cs ++ ds)) (extents_inside cs) (extents_inside (cs ++ ds)) (extents_go_on cs ds)
      ∙ any_ended start end
