-- The events of one kind begin one after another: each starts later than the one before it.
use Rattle.std.proofs.Common.{◌≡◌, ◌⊎◌, ℕ, zero, suc, ◌+◌, ◌-◌, ◌<◌, ◌≤◌, ◌==◌, Bool, true, false, cond, ◌&&◌, ◌||◌, List, [], ◌∷◌, ◌++◌, length, get_or, map, take, reverse, find, Option, Some, None, option_map, slice_get, refl, sym, ◌∙◌, ap, subst, inl, inr, arith}
use Rattle.std.specs.Bool.{⊤}
use Rattle.std.specs.List.{AllByRecursion, enumerate_from, list_any, list_all}
use Rattle.std.specs.Option.{option_map_or}
use Rattle.std.proofs.lemmas.Bool.{cases_lt}
use Rattle.std.proofs.lemmas.Bool.Decides.{nat_tests}
use Rattle.std.proofs.lemmas.List.{length-map, reverse-append, take_more}
use Rattle.std.proofs.lemmas.Option.{get_or_from_slice_get, same_Some, slice_get-map, slice_get_cases, slice_get_within}
use Rattle.event_detect.specs.declared.event.Event.{Event}
use Rattle.event_detect.specs.declared.kind.Kind.{Kind}
use Rattle.event_detect.specs.declared.kind.Kind.TheVariants.{Dip, Swell, Interruption}
use Rattle.event_detect.specs.declared.limits.Limits.{Limits}
use Rattle.event_detect.specs.Threshold.{IsInOrder}
use Rattle.event_detect.specs.VoltageEvent.{Condition, Extent, begins_at, ends_at, event_from, event_after, event_over, extents, events}
use Rattle.event_detect.proofs.LimitLaws.{classes_apart}
use Rattle.polyphase.specs.PolyphaseEvent.{ChannelWindow, latest, latest_values, begins, ends, condition_at, conditions, is_there_and, passes_if_there, polyphase_events, value_is_past, value_is_back}
use Rattle.pq_words.specs.First.{FirstAt, IsFirst, first_between}
use Rattle.pq_words.specs.Steps.{numbers_from}
use Rattle.pq_words.specs.Successors.{successors}
use Rattle.pq_words.proofs.FirstLaws.{first_between_is}
use Rattle.result_laws.proofs.PairLaws.{Pairwise, all_weaker, pairwise_at, pairwise_map}

-- ---- events, one after another

-- the start of the window of the condition at an index
abbrev pub start_at : List Condition → ℕ → ℕ
start_at cs j = option_map_or (λ c. c.window.start) (slice_get cs j) 0

-- extents whose events start one after another, from a place on
abbrev pub Climb : List Condition → ℕ → List Extent → Type 0
Climb cs low [] = ⊤
Climb cs low (e ∷ es) = (low ≤ start_at cs e.first) × Climb cs (start_at cs e.first + 1) es

abbrev BeginsAt : List Condition → ℕ → ℕ → Type 0
BeginsAt cs i j = first_between (begins_at cs) i (length cs) ≡ Some j

abbrev EndsAt : List Condition → ℕ → ℕ → Type 0
EndsAt cs j k = first_between (ends_at cs) (j + 1) (length cs) ≡ Some k

-- where an event that begins at index j ends at index k, the next starts later; what has to be so at an index
-- from which the next is looked for is so after its end
abbrev pub StartsLater : List Condition → (ℕ → Type 0) → Type 0
StartsLater cs Fresh = (i j k : ℕ) → Fresh i → BeginsAt cs i j → EndsAt cs j k →
    Fresh (k + 1) × ((next : ℕ) → BeginsAt cs (k + 1) next → start_at cs j < start_at cs next)

module _ (cs : List Condition) (Fresh : ℕ → Type 0) (later : StartsLater cs Fresh) where
  abbrev extent : ℕ → Option ℕ → Extent
  extent first last = record { first = first; last = last }

  none_left : (n : ℕ) → successors (event_after cs) n None ≡ []
  unfolding successors
  none_left n = refl

  climbs : (n i low : ℕ) → Fresh i → ((j : ℕ) → BeginsAt cs i j → low ≤ start_at cs j) →
      Climb cs low (successors (event_after cs) n (event_from cs i))
  unfolding successors event_from
  climbs zero i low fresh bound = at (first_between (begins_at cs) i (length cs))
    where
      at : (o : Option ℕ) → Climb cs low (successors (event_after cs) zero
          (option_map (λ j. extent j (first_between (ends_at cs) (j + 1) (length cs))) o))
      at None = tt
      at (Some j) = tt
  climbs (suc n) i low fresh bound =
      at (first_between (begins_at cs) i (length cs)) refl (λ k g h. climbs n (k + 1) g h)
    where
      after : (j : ℕ) (o : Option ℕ) → BeginsAt cs i j →
          first_between (ends_at cs) (j + 1) (length cs) ≡ o →
          ((k low : ℕ) → Fresh (k + 1) → ((next : ℕ) → BeginsAt cs (k + 1) next → low ≤ start_at cs next) →
          Climb cs low (successors (event_after cs) n (event_from cs (k + 1)))) →
          Climb cs (start_at cs j + 1) (successors (event_after cs) n (event_after cs (extent j o)))
      after j None begun ended rest = subst (Climb cs (start_at cs j + 1)) (sym (none_left n)) tt
      after j (Some k) begun ended rest =
          let both = later i j k fresh begun ended in
          rest k (start_at cs j + 1) both.0 (λ next is. let less = both.1 next is in omega (arith, less))

      at : (o : Option ℕ) → first_between (begins_at cs) i (length cs) ≡ o →
          ((k low : ℕ) → Fresh (k + 1) → ((next : ℕ) → BeginsAt cs (k + 1) next → low ≤ start_at cs next) →
          Climb cs low (successors (event_after cs) n (event_from cs (k + 1)))) →
          Climb cs low (successors (event_after cs) (suc n)
          (option_map (λ j. extent j (first_between (ends_at cs) (j + 1) (length cs))) o))
      at None is rest = tt
      at (Some j) is rest =
          (bound j is, after j (first_between (ends_at cs) (j + 1) (length cs)) is refl rest)

  extents_climb : Fresh 0 → Climb cs 0 (extents cs)
  unfolding extents
  extents_climb fresh = climbs (length cs) 0 0 fresh (λ j is. omega arith)

-- extents that climb start one before the other
above : (cs : List Condition) (low : ℕ) (es : List Extent) → Climb cs low es →
    AllByRecursion (λ e. low ≤ start_at cs e.first) es
above cs low [] h = tt
above cs low (e ∷ es) h = (
  h.0,
  let from = h.0 in
      all_weaker (λ f. start_at cs e.first + 1 ≤ start_at cs f.first) (λ f. low ≤ start_at cs f.first)
      (λ f less. omega (arith, from, less)) es (above cs (start_at cs e.first + 1) es h.1),
)

climb_apart : (cs : List Condition) (low : ℕ) (es : List Extent) → Climb cs low es →
    Pairwise (λ e f. start_at cs e.first < start_at cs f.first) es
climb_apart cs low [] h = tt
climb_apart cs low (e ∷ es) h = (
  all_weaker (λ f. start_at cs e.first + 1 ≤ start_at cs f.first)
      (λ f. start_at cs e.first < start_at cs f.first) (λ f less. omega (arith, less)) es
      (above cs (start_at cs e.first + 1) es h.1),
  climb_apart cs (start_at cs e.first + 1) es h.1,
)

pub events_climb : (kind : Kind) (n : ℕ) (cs : List Condition) (Fresh : ℕ → Type 0) → StartsLater cs Fresh →
    Fresh 0 → Pairwise (λ a b. a.start < b.start) (events kind n cs)
unfolding events event_over
events_climb kind n cs Fresh later fresh =
    pairwise_map (λ (a b : Event). a.start < b.start) (event_over kind n cs) (extents cs)
    (climb_apart cs 0 (extents cs) (extents_climb cs Fresh later fresh))

-- ---- the latest values

eq_of : (a b : ℕ) → (a == b) ≡ true → a ≡ b
eq_of a b h = grind (arith, nat_tests, h)

-- a window before another: it starts no later, and earlier where they are of one channel
pub record IsBefore (a b : ChannelWindow) : Type 0 where
  pub order : a.window.start ≤ b.window.start
  pub strict : a.channel ≡ b.channel → a.window.start < b.window.start

module _ (ms : List ChannelWindow) where
  latest_none : (channel : ℕ) → latest ms 0 channel ≡ None
  unfolding latest
  latest_none channel = refl

  -- one window more
  latest_more : (j channel : ℕ) (m : ChannelWindow) → slice_get ms j ≡ Some m →
      latest ms (j + 1) channel ≡ cond (m.channel == channel) (Some m.window.value) (latest ms j channel)
  unfolding latest
  latest_more j channel m there =
      let inside = slice_get_within ms j m there in
      let value : List ChannelWindow → Option ℕ =
      λ xs. option_map (λ w. w.window.value) (find (λ w. w.channel == channel) xs) in
      let here : get_or ms j m ≡ m = get_or_from_slice_get ms j m m there in
      ap (λ xs. value (reverse xs)) (take_more ms j m inside ∙ ap (λ w. take j ms ++ w ∷ []) here)
      ∙ ap value (reverse-append (take j ms) (m ∷ []))
      ∙ at (m.channel == channel) (reverse (take j ms))
    where
      at : (b : Bool) (rest : List ChannelWindow)
          → option_map (λ w. w.window.value) (cond b (Some m) (find (λ w. w.channel == channel) rest))
          ≡ cond b (Some m.window.value)
          (option_map (λ w. w.window.value) (find (λ w. w.channel == channel) rest))
      at true rest = refl
      at false rest = refl

  -- a window of the channel from an index up to another
  abbrev HasWindow : ℕ → ℕ → ℕ → Type 0
  HasWindow channel a b = (i : ℕ) × (m : ChannelWindow) × (a ≤ i) × (i < b) × (slice_get ms i ≡ Some m) ×
      (m.channel ≡ channel)

  -- where a latest value changes, there is a window of its channel
  changed : (channel a d : ℕ) → a + d ≤ length ms →
      (latest ms (a + d) channel ≡ latest ms a channel) ⊎ HasWindow channel a (a + d)
  changed channel a zero inside =
      let same : a + zero ≡ a = omega arith in
      inl (ap (λ n. latest ms n channel) same)
  changed channel a (suc d) inside = elim ((slice_get_cases ms (a + d)).1) [
    | inr past ↦ let beyond = past.0 in absurd (omega (arith, beyond, inside))
    | inl found ↦
        let m = found.0 in
        let next : a + suc d ≡ a + d + 1 = omega arith in
        let step : latest ms (a + suc d) channel
        ≡ cond (m.channel == channel) (Some m.window.value) (latest ms (a + d) channel) =
        ap (λ n. latest ms n channel) next ∙ latest_more (a + d) channel m found.2 in
        at m found.2 (m.channel == channel) refl step (changed channel a d (omega (arith, inside)))
  ]
    where
      at : (m : ChannelWindow) → slice_get ms (a + d) ≡ Some m → (b : Bool) → (m.channel == channel) ≡ b →
          latest ms (a + suc d) channel
          ≡ cond (m.channel == channel) (Some m.window.value) (latest ms (a + d) channel) →
          (latest ms (a + d) channel ≡ latest ms a channel) ⊎ HasWindow channel a (a + d) →
          (latest ms (a + suc d) channel ≡ latest ms a channel) ⊎ HasWindow channel a (a + suc d)
      at m there true is step so_far =
          inr (a + d, m, omega arith, omega arith, there, eq_of m.channel channel is)
      at m there false is step (inl same) =
          inl (step ∙ ap (λ b. cond b (Some m.window.value) (latest ms (a + d) channel)) is ∙ same)
      at m there false is step (inr r) =
          let below = r.3 in
          inr (r.0, r.1, r.2, omega (arith, below), r.4, r.5)

-- ---- tests of some channel, and of all

module _ (t : Option ℕ → Bool) (f : ℕ → Option ℕ) where
  any_in : (low n : ℕ) → list_any t (map f (numbers_from low n)) ≡ true →
      (c : ℕ) × (low ≤ c) × (c < low + n) × (t (f c) ≡ true)
  unfolding numbers_from
  any_in low zero h = absurd (let bad : ⊥ = cc in bad)
  any_in low (suc n) h = at (t (f low)) refl h (λ g. any_in (low + 1) n g)
    where
      at : (b : Bool) → t (f low) ≡ b → (b || list_any t (map f (numbers_from (low + 1) n))) ≡ true →
          (list_any t (map f (numbers_from (low + 1) n)) ≡ true →
          (c : ℕ) × (low + 1 ≤ c) × (c < low + 1 + n) × (t (f c) ≡ true)) →
          (c : ℕ) × (low ≤ c) × (c < low + suc n) × (t (f c) ≡ true)
      at true is g rest = (low, omega arith, omega arith, is)
      at false is g rest =
          let r = rest g in
          let from = r.1 in
          let below = r.2 in
          (r.0, omega (arith, from), omega (arith, below), r.3)

  -- where none is so, not some is
  none_any : (low n : ℕ) → ((c : ℕ) → low ≤ c → c < low + n → t (f c) ≡ true → ⊥) →
      list_any t (map f (numbers_from low n)) ≡ false
  none_any low n none = at (list_any t (map f (numbers_from low n))) refl
    where
      at : (b : Bool) → list_any t (map f (numbers_from low n)) ≡ b → b ≡ false
      at true is = let r = any_in low n is in absurd (none r.0 r.1 r.2 r.3)
      at false is = refl

  in_any : (low n c : ℕ) → low ≤ c → c < low + n → t (f c) ≡ true →
      list_any t (map f (numbers_from low n)) ≡ true
  unfolding numbers_from
  in_any low zero c from below h = absurd (omega (arith, from, below))
  in_any low (suc n) c from below h = elim (cases_lt low c) [
    | inl less ↦ ends_true (t (f low)) (in_any (low + 1) n c (omega (arith, less)) (omega (arith, below)) h)
    | inr back ↦
        let same : c ≡ low = omega (arith, from, back) in
        ap (λ b. b || list_any t (map f (numbers_from (low + 1) n))) (ap (λ k. t (f k)) (sym same) ∙ h)
  ]
    where
      ends_true : (b : Bool) → list_any t (map f (numbers_from (low + 1) n)) ≡ true →
          (b || list_any t (map f (numbers_from (low + 1) n))) ≡ true
      ends_true true g = refl
      ends_true false g = g

  in_all : (low n c : ℕ) → low ≤ c → c < low + n → list_all t (map f (numbers_from low n)) ≡ true →
      t (f c) ≡ true
  unfolding numbers_from
  in_all low zero c from below h = absurd (omega (arith, from, below))
  in_all low (suc n) c from below h =
      at (t (f low)) refl h (λ less g. in_all (low + 1) n c (omega (arith, less)) (omega (arith, below)) g)
    where
      at : (b : Bool) → t (f low) ≡ b → (b && list_all t (map f (numbers_from (low + 1) n))) ≡ true →
          (low < c → list_all t (map f (numbers_from (low + 1) n)) ≡ true → t (f c) ≡ true) → t (f c) ≡ true
      at true is g rest = elim (cases_lt low c) [
        | inl less ↦ rest less g
        | inr back ↦ let same : low ≡ c = omega (arith, from, back) in ap (λ k. t (f k)) (sym same) ∙ is
      ]
      at false is g rest = absurd (let bad : ⊥ = cc in bad)

-- what passes is there
there_passes : (t : ℕ → Bool) (o : Option ℕ) → is_there_and t o ≡ true → (v : ℕ) × (o ≡ Some v) × (t v ≡ true)
there_passes t None h = absurd (let bad : ⊥ = cc in bad)
there_passes t (Some v) h = (v, refl, h)

not_true : (b : Bool) → (b ≡ true → ⊥) → b ≡ false
not_true true h = absurd (h refl)
not_true false h = refl

pub first_at : (test : ℕ → Bool) (low high k : ℕ) → first_between test low high ≡ Some k →
    FirstAt test low high k
first_at test low high k e = subst (λ r. IsFirst test low high r) e (first_between_is test low high)

-- ---- conditions, by index

get_enumerated : {X : Type 0} (a : ℕ) (xs : List X) (j : ℕ) →
    slice_get (enumerate_from a xs) j ≡ option_map (λ x. (a + j, x)) (slice_get xs j)
get_enumerated a [] j = refl
get_enumerated {X} a (x ∷ xs) zero =
    let pair : ℕ → Option (ℕ × X) = λ n. Some (n, x) in
    let e : a ≡ a + zero = omega arith in
    ap pair e
get_enumerated {X} a (x ∷ xs) (suc j) =
    let pair : ℕ → Option (ℕ × X) = λ n. option_map (λ y. (n, y)) (slice_get xs j) in
    let e : a + 1 + j ≡ a + suc j = omega arith in
    get_enumerated (a + 1) xs j ∙ ap pair e

length_enumerated : {X : Type 0} (a : ℕ) (xs : List X) → length (enumerate_from a xs) ≡ length xs
length_enumerated a [] = refl
length_enumerated a (x ∷ xs) = ap suc (length_enumerated (a + 1) xs)

module _ (kind : Kind) (limits : Limits) (channels : ℕ) (ms : List ChannelWindow) where
  -- what the latest values tell after so many windows
  abbrev begun : ℕ → Bool
  begun j = begins kind limits (latest_values channels ms j)

  abbrev ended : ℕ → Bool
  ended j = ends kind limits (latest_values channels ms j)

  many : length (conditions kind limits channels ms) ≡ length ms
  unfolding conditions
  many = length-map (enumerate_from 0 ms) (λ p. condition_at kind limits channels ms p.0 p.1)
      ∙ length_enumerated 0 ms

  there_at : (j : ℕ) (m : ChannelWindow) → slice_get ms j ≡ Some m →
      slice_get (conditions kind limits channels ms) j ≡ Some (condition_at kind limits channels ms j m)
  unfolding conditions
  there_at j m there =
      let made : ℕ × ChannelWindow → Condition = λ p. condition_at kind limits channels ms p.0 p.1 in
      let e : 0 + j ≡ j = omega arith in
      let pair : ℕ → Option Condition = λ n. Some (made (n, m)) in
      slice_get-map made (enumerate_from 0 ms) j
      ∙ ap (option_map made) (get_enumerated 0 ms j ∙ ap (option_map (λ x. (0 + j, x))) there)
      ∙ ap pair e

  begins_told : (j : ℕ) (m : ChannelWindow) → slice_get ms j ≡ Some m →
      begins_at (conditions kind limits channels ms) j ≡ begun (j + 1)
  begins_told j m there = ap (λ o. option_map_or (λ c. c.begins) o false) (there_at j m there)

  ends_told : (j : ℕ) (m : ChannelWindow) → slice_get ms j ≡ Some m →
      ends_at (conditions kind limits channels ms) j ≡ ended (j + 1)
  ends_told j m there = ap (λ o. option_map_or (λ c. c.ends) o false) (there_at j m there)

  start_told : (j : ℕ) (m : ChannelWindow) → slice_get ms j ≡ Some m →
      start_at (conditions kind limits channels ms) j ≡ m.window.start
  start_told j m there = ap (λ o. option_map_or (λ c. c.window.start) o 0) (there_at j m there)

  window_at : (j : ℕ) → j < length ms → (m : ChannelWindow) × (slice_get ms j ≡ Some m)
  window_at j inside = elim ((slice_get_cases ms j).1) [
    | inl found ↦ (found.0, found.2)
    | inr past ↦ let beyond = past.0 in absurd (omega (arith, inside, beyond))
  ]

  -- an event that begins first at index j or after index i
  abbrev IsBeginning : ℕ → ℕ → Type 0
  IsBeginning i j = (m : ChannelWindow) × (i ≤ j) × (slice_get ms j ≡ Some m) × (begun (j + 1) ≡ true)

  begun_at : (i j : ℕ) → BeginsAt (conditions kind limits channels ms) i j → IsBeginning i j
  begun_at i j is =
      let cs = conditions kind limits channels ms in
      let first = first_at (begins_at cs) i (length cs) j is in
      let below = first.below in
      let w = window_at j (omega (arith, below, many)) in
      (w.0, first.after, w.1, sym (begins_told j w.0 w.1) ∙ first.passes)

  -- an end after index j
  abbrev IsEnding : ℕ → ℕ → Type 0
  IsEnding j k = (m : ChannelWindow) × (j < k) × (k < length ms) × (slice_get ms k ≡ Some m) ×
      (ended (k + 1) ≡ true)

  ended_at : (j k : ℕ) → EndsAt (conditions kind limits channels ms) j k → IsEnding j k
  ended_at j k is =
      let cs = conditions kind limits channels ms in
      let first = first_at (ends_at cs) (j + 1) (length cs) k is in
      let below = first.below in
      let after = first.after in
      let inside : k < length ms = omega (arith, below, many) in
      let w = window_at k inside in
      (w.0, omega (arith, after), inside, w.1, sym (ends_told k w.0 w.1) ∙ first.passes)

  -- where none has begun before index i, none has before the first that begins from it on
  not_begun : (i j : ℕ) → begun i ≡ false → BeginsAt (conditions kind limits channels ms) i j →
      begun j ≡ false
  not_begun i zero fresh is =
      let cs = conditions kind limits channels ms in
      let after = (first_at (begins_at cs) i (length cs) zero is).after in
      let same : i ≡ zero = omega (arith, after) in
      ap begun (sym same) ∙ fresh
  not_begun i (suc j) fresh is =
      let cs = conditions kind limits channels ms in
      let first = first_at (begins_at cs) i (length cs) (suc j) is in
      let below = first.below in
      let after = first.after in
      let step : suc j ≡ j + 1 = omega arith in
      elim (cases_lt j i) [
        | inl less ↦ let same : i ≡ suc j = omega (arith, after, less) in ap begun (sym same) ∙ fresh
        | inr from ↦
            let w = window_at j (omega (arith, below, many)) in
            ap begun step ∙ sym (begins_told j w.0 w.1)
            ∙ not_true (begins_at cs j) (first.none_before j from (omega arith))
      ]

-- ---- dips and swells: some channel begins one, and all end it

-- some channel's latest value passes, after so many windows, and the like
abbrev some_pass : ℕ → List ChannelWindow → (ℕ → Bool) → ℕ → Bool
some_pass channels ms test j = list_any (is_there_and test) (latest_values channels ms j)

abbrev all_there_pass : ℕ → List ChannelWindow → (ℕ → Bool) → ℕ → Bool
all_there_pass channels ms test j = list_all (passes_if_there test) (latest_values channels ms j)

abbrev all_pass : ℕ → List ChannelWindow → (ℕ → Bool) → ℕ → Bool
all_pass channels ms test j = list_all (is_there_and test) (latest_values channels ms j)

module _ (channels : ℕ) (ms : List ChannelWindow) (past back : ℕ → Bool)
    (apart : (v : ℕ) → past v ≡ true → back v ≡ true → ⊥) where
  -- at first none is past
  none_past : some_pass channels ms past 0 ≡ false
  none_past = none_any (is_there_and past) (latest ms 0) 0 channels (λ c from below h.
      let found = there_passes past (latest ms 0 c) h in
      let none : None ≡ Some found.0 = sym (latest_none ms c) ∙ found.1 in
      let bad : ⊥ = cc in bad)

  -- where all are back, none is past
  not_past : (j : ℕ) → all_there_pass channels ms back j ≡ true → some_pass channels ms past j ≡ false
  not_past j all = none_any (is_there_and past) (latest ms j) 0 channels (λ c from below h.
      let found = there_passes past (latest ms j c) h in
      let is_back : passes_if_there back (latest ms j c) ≡ true =
      in_all (passes_if_there back) (latest ms j) 0 channels c from below all in
      apart found.0 found.2 (ap (passes_if_there back) (sym found.1) ∙ is_back))

  -- the window that begins an event is of a channel that is past, and before the end it has another
  own_window : (j k : ℕ) (m : ChannelWindow) → slice_get ms j ≡ Some m →
      some_pass channels ms past j ≡ false →
      some_pass channels ms past (j + 1) ≡ true → j < k → k < length ms →
      all_there_pass channels ms back (k + 1) ≡ true →
      HasWindow ms m.channel (j + 1) (k + 1)
  own_window j k m there before begun less inside end =
      let found = any_in (is_there_and past) (latest ms (j + 1)) 0 channels begun in
      let c = found.0 in
      let step = latest_more ms j c m there in
      at c found.1 found.2 (m.channel == c) refl step found.3
    where
      at : (c : ℕ) → 0 ≤ c → c < 0 + channels → (b : Bool) → (m.channel == c) ≡ b →
          latest ms (j + 1) c ≡ cond (m.channel == c) (Some m.window.value) (latest ms j c) →
          is_there_and past (latest ms (j + 1) c) ≡ true → HasWindow ms m.channel (j + 1) (k + 1)
      at c from below true is step passes =
          let here : latest ms (j + 1) c ≡ Some m.window.value =
          step ∙ ap (λ b. cond b (Some m.window.value) (latest ms j c)) is in
          let past_here : past m.window.value ≡ true = sym (ap (is_there_and past) here) ∙ passes in
          let span : j + 1 + (k - j) ≡ k + 1 = omega (arith, less) in
          let same : m.channel ≡ c = eq_of m.channel c is in
          elim (changed ms c (j + 1) (k - j) (omega (arith, less, inside))) [
            | inl kept ↦
                let value : latest ms (k + 1) c ≡ Some m.window.value =
                ap (λ n. latest ms n c) (sym span) ∙ kept ∙ here in
                let is_back : passes_if_there back (latest ms (k + 1) c) ≡ true =
                in_all (passes_if_there back) (latest ms (k + 1)) 0 channels c from below end in
                absurd (apart m.window.value past_here (sym (ap (passes_if_there back) value) ∙ is_back))
            | inr r ↦ let under = r.3 in
                (r.0, r.1, r.2, omega (arith, under, span), r.4, r.5 ∙ sym same)
          ]
      at c from below false is step passes =
          let here : latest ms (j + 1) c ≡ latest ms j c =
          step ∙ ap (λ b. cond b (Some m.window.value) (latest ms j c)) is in
          let earlier : some_pass channels ms past j ≡ true =
          in_any (is_there_and past) (latest ms j) 0 channels c from below
          (sym (ap (is_there_and past) here) ∙ passes) in
          absurd (let both : true ≡ false = sym earlier ∙ before in let bad : ⊥ = cc in bad)

-- ---- interruptions: all channels begin one, and some channel ends it

module _ (channels : ℕ) (ms : List ChannelWindow) (past back : ℕ → Bool)
    (apart : (v : ℕ) → past v ≡ true → back v ≡ true → ⊥) where
  -- the channel that ends the event has a window before its end, and one more before the next beginning
  two_windows : (j k next : ℕ) → all_pass channels ms past (j + 1) ≡ true → j < k → k < next →
      next < length ms →
      some_pass channels ms back (k + 1) ≡ true → all_pass channels ms past (next + 1) ≡ true →
      (c : ℕ) × HasWindow ms c (j + 1) (k + 1) × HasWindow ms c (k + 1) (next + 1)
  two_windows j k next begun less later inside end begun_next =
      let found = any_in (is_there_and back) (latest ms (k + 1)) 0 channels end in
      let c = found.0 in
      let back_at = there_passes back (latest ms (k + 1) c) found.3 in
      let first = there_passes past (latest ms (j + 1) c)
      (in_all (is_there_and past) (latest ms (j + 1)) 0 channels c found.1 found.2 begun) in
      let second = there_passes past (latest ms (next + 1) c)
      (in_all (is_there_and past) (latest ms (next + 1)) 0 channels c found.1 found.2 begun_next) in
      let span : j + 1 + (k - j) ≡ k + 1 = omega (arith, less) in
      let more : k + 1 + (next - k) ≡ next + 1 = omega (arith, later) in
      let one : HasWindow ms c (j + 1) (k + 1) =
      elim (changed ms c (j + 1) (k - j) (omega (arith, less, later, inside))) [
        | inl kept ↦
            absurd (clash first.0 back_at.0 (latest ms (j + 1) c) (latest ms (k + 1) c) first.1 back_at.1
            (ap (λ n. latest ms n c) (sym span) ∙ kept) first.2 back_at.2)
        | inr r ↦ let under = r.3 in (r.0, r.1, r.2, omega (arith, under, span), r.4, r.5)
      ] in
      let two : HasWindow ms c (k + 1) (next + 1) =
      elim (changed ms c (k + 1) (next - k) (omega (arith, later, inside))) [
        | inl kept ↦
            absurd (clash second.0 back_at.0 (latest ms (next + 1) c) (latest ms (k + 1) c) second.1 back_at.1
            (sym (ap (λ n. latest ms n c) (sym more) ∙ kept)) second.2 back_at.2)
        | inr r ↦ let under = r.3 in (r.0, r.1, r.2, omega (arith, under, more), r.4, r.5)
      ] in
      (c, one, two)
    where
      -- one value is not past and back
      clash : (v u : ℕ) (o q : Option ℕ) → o ≡ Some v → q ≡ Some u → q ≡ o → past v ≡ true → back u ≡ true → ⊥
      clash v u o q is also same passes returns =
          let e : u ≡ v = same_Some u v (sym also ∙ same ∙ is) in
          apart v passes (ap back (sym e) ∙ returns)

-- ---- each kind

abbrev IsNew : Kind → Limits → ℕ → List ChannelWindow → ℕ → Type 0
IsNew kind limits channels ms i = begins kind limits (latest_values channels ms i) ≡ false

module _ (limits : Limits) (channels : ℕ) (ms : List ChannelWindow) (order : Pairwise IsBefore ms) where
  no_earlier : (i j : ℕ) (a b : ChannelWindow) → i ≤ j → slice_get ms i ≡ Some a → slice_get ms j ≡ Some b →
      a.window.start ≤ b.window.start
  no_earlier i j a b from at there = elim (cases_lt i j) [
    | inl less ↦ (pairwise_at IsBefore ms i j a b order less at there).order
    | inr back ↦
        let e : i ≡ j = omega (arith, from, back) in
        let same : a ≡ b = same_Some a b (sym at ∙ ap (slice_get ms) e ∙ there) in
        let starts : a.window.start ≡ b.window.start = ap (λ m. m.window.start) same in
        omega (arith, starts)
  ]

  -- dips and swells alike
  by_own : (kind : Kind) (past back : ℕ → Bool) → ((v : ℕ) → past v ≡ true → back v ≡ true → ⊥)
      → ((j : ℕ) → begins kind limits (latest_values channels ms j) ≡ some_pass channels ms past j)
      → ((j : ℕ) → ends kind limits (latest_values channels ms j) ≡ all_there_pass channels ms back j)
      → StartsLater (conditions kind limits channels ms) (IsNew kind limits channels ms)
  by_own kind past back apart begins_is ends_is i j k fresh is_begun is_ended =
      let cs = conditions kind limits channels ms in
      let first = begun_at kind limits channels ms i j is_begun in
      let last = ended_at kind limits channels ms j k is_ended in
      let before : some_pass channels ms past j ≡ false =
      sym (begins_is j) ∙ not_begun kind limits channels ms i j fresh is_begun in
      let w = own_window channels ms past back apart j k first.0 first.2 before
      (sym (begins_is (j + 1)) ∙ first.3) last.1 last.2 (sym (ends_is (k + 1)) ∙ last.4) in
      let from = w.2 in
      let until = w.3 in
      let strict : first.0.window.start < w.1.window.start =
      (pairwise_at IsBefore ms j w.0 first.0 w.1 order (omega (arith, from)) first.2 w.4).strict (sym w.5) in
      let upto : w.1.window.start ≤ last.0.window.start =
      no_earlier w.0 k w.1 last.0 (omega (arith, until)) w.4 last.3 in (
        begins_is (k + 1) ∙ not_past channels ms past back apart (k + 1) (sym (ends_is (k + 1)) ∙ last.4),
        λ next is.
            let new = begun_at kind limits channels ms (k + 1) next is in
            let after = new.1 in
            let beyond : last.0.window.start ≤ new.0.window.start =
            no_earlier k next last.0 new.0 (omega (arith, after)) last.3 new.2 in
            let one = start_told kind limits channels ms j first.0 first.2 in
            let two = start_told kind limits channels ms next new.0 new.2 in
            omega (arith, strict, upto, beyond, one, two),
      )

  by_all : (kind : Kind) (past back : ℕ → Bool) → ((v : ℕ) → past v ≡ true → back v ≡ true → ⊥)
      → ((j : ℕ) → begins kind limits (latest_values channels ms j) ≡ all_pass channels ms past j)
      → ((j : ℕ) → ends kind limits (latest_values channels ms j) ≡ some_pass channels ms back j)
      → StartsLater (conditions kind limits channels ms) (λ i. ⊤)
  by_all kind past back apart begins_is ends_is i j k fresh is_begun is_ended =
      let first = begun_at kind limits channels ms i j is_begun in
      let last = ended_at kind limits channels ms j k is_ended in (
        tt,
        λ next is.
            let new = begun_at kind limits channels ms (k + 1) next is in
            let after = new.1 in
            let inside = slice_get_within ms next new.0 new.2 in
            let w = two_windows channels ms past back apart j k next (sym (begins_is (j + 1)) ∙ first.3)
            last.1
            (omega (arith, after)) inside (sym (ends_is (k + 1)) ∙ last.4)
            (sym (begins_is (next + 1)) ∙ new.3) in
            let a = w.1 in
            let b = w.2 in
            let from = a.2 in
            let until = a.3 in
            let from_next = b.2 in
            let until_next = b.3 in
            let begin : first.0.window.start ≤ a.1.window.start =
            no_earlier j a.0 first.0 a.1 (omega (arith, from)) first.2 a.4 in
            let strict : a.1.window.start < b.1.window.start =
            (pairwise_at IsBefore ms a.0 b.0 a.1 b.1 order (omega (arith, until, from_next)) a.4 b.4).strict
            (a.5 ∙ sym b.5) in
            let end : b.1.window.start ≤ new.0.window.start =
            no_earlier b.0 next b.1 new.0 (omega (arith, until_next)) b.4 new.2 in
            let one = start_told kind limits channels ms j first.0 first.2 in
            let two = start_told kind limits channels ms next new.0 new.2 in
            omega (arith, begin, strict, end, one, two),
      )

  -- the events of one kind start one after another
  pub events_rise : IsInOrder limits → (kind : Kind) (n : ℕ) →
      Pairwise (λ a b. a.start < b.start) (polyphase_events kind limits channels n ms)
  unfolding begins ends
  events_rise sound Dip n =
      events_climb Dip n (conditions Dip limits channels ms) (IsNew Dip limits channels ms)
      (by_own Dip (value_is_past Dip limits) (value_is_back Dip limits)
      (λ v is returns. (classes_apart limits v sound).dip is returns) (λ j. refl) (λ j. refl))
      (none_past channels ms (value_is_past Dip limits) (value_is_back Dip limits)
      (λ v is returns. (classes_apart limits v sound).dip is returns))
  events_rise sound Swell n =
      events_climb Swell n (conditions Swell limits channels ms) (IsNew Swell limits channels ms)
      (by_own Swell (value_is_past Swell limits) (value_is_back Swell limits)
      (λ v is returns. (classes_apart limits v sound).swell is returns) (λ j. refl) (λ j. refl))
      (none_past channels ms (value_is_past Swell limits) (value_is_back Swell limits)
      (λ v is returns. (classes_apart limits v sound).swell is returns))
  events_rise sound Interruption n =
      events_climb Interruption n (conditions Interruption limits channels ms) (λ i. ⊤)
      (by_all Interruption (value_is_past Interruption limits) (value_is_back Interruption limits)
      (λ v is returns. (classes_apart limits v sound).interruption is returns) (λ j. refl) (λ j. refl))
      tt
