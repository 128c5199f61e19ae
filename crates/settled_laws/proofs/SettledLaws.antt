-- What the merged windows that begin before a place tell of the events: those that end by it, and which spans
-- up to it they touch.
use Rattle.std.proofs.Common.{◌≡◌, ℕ, ◌+◌, ◌<◌, ◌≤◌, Bool, true, false, ◌||◌, nat_lt, nat_le, List, [], ◌∷◌, ◌++◌, length, map, filter, flat_map, refl, ◌∙◌, ap, arith}
use Rattle.std.specs.List.{AllByRecursion, list_any, enumerate_from}
use Rattle.std.specs.Option.{option_map_or}
use Rattle.std.proofs.lemmas.List.{map-append}
use Rattle.event_detect.specs.declared.event.Event.{Event}
use Rattle.event_detect.specs.declared.kind.Kind.{Kind}
use Rattle.event_detect.specs.declared.limits.Limits.{Limits}
use Rattle.event_detect.specs.VoltageEvent.{Condition, events, ended_events, open_start}
use Rattle.event_detect.specs.Flag.{overlaps, is_touched}
use Rattle.settled_laws.proofs.SettledEvents.{IsAhead, settled_events, settled_touch}
use Rattle.polyphase.specs.PolyphaseEvent.{ChannelWindow, latest, condition_over, condition_at, conditions, polyphase_events, kinds, all_polyphase_events}
use Rattle.polyphase.proofs.ConditionLaws.{map_same, latest_kept}
use Rattle.pq_words.specs.Steps.{numbers_below}
use Rattle.settled_laws.proofs.ListLaws.{filter_joined}

enumerated_same : {X Y : Type 0} (f g : ℕ × X → Y) (a : ℕ) (xs : List X) → ((j : ℕ) (x : X) → a ≤ j →
    j < a + length xs → f (j, x) ≡ g (j, x))
    → map f (enumerate_from a xs) ≡ map g (enumerate_from a xs)
enumerated_same f g a [] same = refl
enumerated_same f g a (x ∷ xs) same =
    ap (λ y. y ∷ map f (enumerate_from (a + 1) xs)) (same a x (omega arith) (omega arith))
    ∙ ap (λ ys. g (a, x) ∷ ys) (enumerated_same f g (a + 1) xs (λ j y from below.
    same j y (omega (arith, from)) (omega (arith, below))))

-- a condition looks at the windows so far alone
condition_kept : (kind : Kind) (limits : Limits) (channels : ℕ) (ms more : List ChannelWindow) (j : ℕ)
    (m : ChannelWindow) → j < length ms
    → condition_at kind limits channels (ms ++ more) j m ≡ condition_at kind limits channels ms j m
condition_kept kind limits channels ms more j m inside =
    ap (λ values. condition_over kind limits values m)
    (map_same (latest (ms ++ more) (j + 1)) (latest ms (j + 1))
    (λ channel. latest_kept ms more (j + 1) channel (omega (arith, inside))) (numbers_below channels))

enumerate_append : {X : Type 0} (a : ℕ) (xs ys : List X) → enumerate_from a (xs ++ ys)
    ≡ enumerate_from a xs ++ enumerate_from (a + length xs) ys
enumerate_append a [] ys = let e : a ≡ a + 0 = omega arith in ap (λ n. enumerate_from n ys) e
enumerate_append a (x ∷ xs) ys =
    let e : a + 1 + length xs ≡ a + length (x ∷ xs) = omega arith in
    ap (λ zs. (a, x) ∷ zs) (enumerate_append (a + 1) xs ys
    ∙ ap (λ n. enumerate_from (a + 1) xs ++ enumerate_from n ys) e)

-- a window that begins at place w or after it, and ends after w
abbrev pub IsFrom : ℕ → ChannelWindow → Type 0
IsFrom w m = (w ≤ m.window.start) × (w < m.window.end)

module _ (kind : Kind) (limits : Limits) (channels : ℕ) where
  -- the conditions at the windows that follow
  abbrev following : List ChannelWindow → List ChannelWindow → List Condition
  following ms more = map (λ p. condition_at kind limits channels (ms ++ more) p.0 p.1)
      (enumerate_from (0 + length ms) more)

  conditions_append : (ms more : List ChannelWindow) → conditions kind limits channels (ms ++ more)
      ≡ conditions kind limits channels ms ++ following ms more
  unfolding conditions
  conditions_append ms more =
      let longer : ℕ × ChannelWindow → Condition =
      λ p. condition_at kind limits channels (ms ++ more) p.0 p.1 in
      let shorter : ℕ × ChannelWindow → Condition = λ p. condition_at kind limits channels ms p.0 p.1 in
      ap (map longer) (enumerate_append 0 ms more)
      ∙ map-append longer (enumerate_from 0 ms) (enumerate_from (0 + length ms) more)
      ∙ ap (λ cs. cs ++ following ms more) (enumerated_same longer shorter 0 ms (λ j x from below.
      condition_kept kind limits channels ms more j x (omega (arith, below))))

  following_ahead : (w a : ℕ) (all ms : List ChannelWindow) → AllByRecursion (IsFrom w) ms →
      AllByRecursion (IsAhead w) (map (λ p. condition_at kind limits channels all p.0 p.1)
      (enumerate_from a ms))
  following_ahead w a all [] h = tt
  following_ahead w a all (m ∷ ms) h = (h.0, following_ahead w (a + 1) all ms h.1)

  -- those of the kind that the windows so far have ended, up to place w
  abbrev pub ended_by : ℕ → List ChannelWindow → List Event
  ended_by w ms = filter (λ e. nat_le e.end w) (ended_events kind (conditions kind limits channels ms))

  -- whether one that they have ended touches the span, or the one that they have not begins before its end
  abbrev pub touched_so : ℕ → ℕ → List ChannelWindow → Bool
  touched_so start end ms =
      let cs = conditions kind limits channels ms in
      is_touched (ended_events kind cs) start end ||
      option_map_or (λ s. nat_lt s end) (open_start kind cs) false

  kind_settled : (n w : ℕ) (ms more : List ChannelWindow) → w < n → AllByRecursion (IsFrom w) more
      → filter (λ e. nat_le e.end w) (polyphase_events kind limits channels n (ms ++ more)) ≡ ended_by w ms
  kind_settled n w ms more less ahead =
      ap (λ cs. filter (λ e. nat_le e.end w) (events kind n cs)) (conditions_append ms more)
      ∙ settled_events kind n w (conditions kind limits channels ms) (following ms more) less
      (following_ahead w (0 + length ms) (ms ++ more) more ahead)

  kind_touched : (n w start end : ℕ) (ms more : List ChannelWindow) → w < n → AllByRecursion (IsFrom w) more →
      start ≤ w → end ≤ w
      → is_touched (polyphase_events kind limits channels n (ms ++ more)) start end ≡ touched_so start end ms
  kind_touched n w start end ms more less ahead from until =
      ap (λ cs. is_touched (events kind n cs) start end) (conditions_append ms more)
      ∙ settled_touch kind n w (conditions kind limits channels ms) (following ms more) start end less
      (following_ahead w (0 + length ms) (ms ++ more) more ahead) from until

joined_same : {X Y : Type 0} (f g : X → List Y) → ((x : X) → f x ≡ g x) → (xs : List X) →
    flat_map f xs ≡ flat_map g xs
joined_same f g same [] = refl
joined_same f g same (x ∷ xs) = ap (λ ys. ys ++ flat_map f xs) (same x)
    ∙ ap (λ ys. g x ++ ys) (joined_same f g same xs)

pub any_append : {X : Type 0} (t : X → Bool) (xs ys : List X) →
    list_any t (xs ++ ys) ≡ (list_any t xs || list_any t ys)
any_append t [] ys = refl
any_append t (x ∷ xs) ys = at (t x) (any_append t xs ys)
  where
    at : (b : Bool) → list_any t (xs ++ ys) ≡ (list_any t xs || list_any t ys) → (b || list_any t (xs ++ ys))
        ≡ ((b || list_any t xs) || list_any t ys)
    at true h = refl
    at false h = h

-- whether some kind of thing passes
abbrev pub any_kind : (Kind → Bool) → List Kind → Bool
any_kind t ks = list_any t ks

pub touched_joined : (f : Kind → List Event) (start end : ℕ) (ks : List Kind) →
    is_touched (flat_map f ks) start end ≡ any_kind (λ k. is_touched (f k) start end) ks
unfolding is_touched
touched_joined f start end [] = refl
touched_joined f start end (k ∷ ks) =
    any_append (λ e. overlaps e start end) (f k) (flat_map f ks)
    ∙ ap (λ b. list_any (λ e. overlaps e start end) (f k) || b) (touched_joined f start end ks)

pub any_kind_same : (t u : Kind → Bool) → ((k : Kind) → t k ≡ u k) → (ks : List Kind) →
    any_kind t ks ≡ any_kind u ks
any_kind_same t u same [] = refl
any_kind_same t u same (k ∷ ks) = ap (λ b. b || any_kind t ks) (same k)
    ∙ ap (λ b. u k || b) (any_kind_same t u same ks)

-- the events that end by w, of windows so far and any that begin at w or after it
pub all_settled : (limits : Limits) (channels n w : ℕ) (ms more : List ChannelWindow) → w < n →
    AllByRecursion (IsFrom w) more
    → filter (λ e. nat_le e.end w) (all_polyphase_events limits channels n (ms ++ more))
    ≡ flat_map (λ kind. ended_by kind limits channels w ms) kinds
unfolding all_polyphase_events
all_settled limits channels n w ms more less ahead =
    filter_joined (λ e. nat_le e.end w) (λ kind. polyphase_events kind limits channels n (ms ++ more)) kinds
    ∙ joined_same (λ kind. filter (λ e. nat_le e.end w) (polyphase_events kind limits channels n
    (ms ++ more))) (λ kind. ended_by kind limits channels w ms)
    (λ kind. kind_settled kind limits channels n w ms more less ahead) kinds

-- whether they touch a span up to w
pub all_touched : (limits : Limits) (channels n w start end : ℕ) (ms more : List ChannelWindow) → w < n →
    AllByRecursion (IsFrom w) more → start ≤ w → end ≤ w
    → is_touched (all_polyphase_events limits channels n (ms ++ more)) start end
    ≡ any_kind (λ kind. touched_so kind limits channels start end ms) kinds
unfolding all_polyphase_events
all_touched limits channels n w start end ms more less ahead from until =
    touched_joined (λ kind. polyphase_events kind limits channels n (ms ++ more)) start end kinds
    ∙ any_kind_same (λ kind. is_touched (polyphase_events kind limits channels n (ms ++ more)) start end)
    (λ kind. touched_so kind limits channels start end ms)
    (λ kind. kind_touched kind limits channels n w start end ms more less ahead from until) kinds
