-- One more of the merged windows adds one condition and changes none; the latest values then differ at its
-- channel alone. It is what a Poly does at each step.
use Rattle.std.proofs.Common.{◌≡◌, ℕ, zero, suc, ◌+◌, ◌<◌, ◌≤◌, Bool, true, false, cond, List, [], ◌∷◌, ◌++◌, length, map, reverse, find, take, set, replicate, Option, None, Some, option_map, ◌==◌, refl, sym, ◌∙◌, ap, arith}
use Rattle.std.specs.List.{enumerate_from}
use Rattle.std.proofs.lemmas.Bool.Decides.{nat_tests}
use Rattle.std.proofs.lemmas.List.{map-append, take-append-le, take_all, length_push, reverse-append}
use Rattle.event_detect.specs.declared.kind.Kind.{Kind}
use Rattle.event_detect.specs.declared.limits.Limits.{Limits}
use Rattle.event_detect.specs.VoltageEvent.{Condition}
use Rattle.polyphase.specs.PolyphaseEvent.{ChannelWindow, latest, latest_values, begins, ends, condition_over, condition_at, conditions}
use Rattle.pq_words.specs.Steps.{numbers_from, numbers_below}

pub map_same : {X Y : Type 0} (f g : X → Y) → ((x : X) → f x ≡ g x) → (xs : List X) → map f xs ≡ map g xs
map_same f g same [] = refl
map_same f g same (x ∷ xs) = ap (λ y. y ∷ map f xs) (same x) ∙ ap (λ ys. g x ∷ ys) (map_same f g same xs)

enumerated_same : {X Y : Type 0} (f g : ℕ × X → Y) (a : ℕ) (xs : List X)
    → ((j : ℕ) (x : X) → a ≤ j → j < a + length xs → f (j, x) ≡ g (j, x))
    → map f (enumerate_from a xs) ≡ map g (enumerate_from a xs)
enumerated_same f g a [] same = refl
enumerated_same f g a (x ∷ xs) same =
    ap (λ y. y ∷ map f (enumerate_from (a + 1) xs)) (same a x (omega arith) (omega arith))
    ∙ ap (λ ys. g (a, x) ∷ ys)
    (enumerated_same f g (a + 1) xs (λ j y from below. same j y (omega (arith, from)) (omega (arith, below))))

enumerate_push : {X : Type 0} (a : ℕ) (xs : List X) (x : X)
    → enumerate_from a (xs ++ x ∷ []) ≡ enumerate_from a xs ++ (a + length xs, x) ∷ []
enumerate_push {X} a [] x =
    let e : a ≡ a + 0 = omega arith in
    let one : ℕ → List (ℕ × X) = λ n. (n, x) ∷ [] in
    ap one e
enumerate_push {X} a (y ∷ ys) x =
    let e : a + 1 + length ys ≡ a + suc (length ys) = omega arith in
    let one : ℕ → List (ℕ × X) = λ n. (a, y) ∷ (enumerate_from (a + 1) ys ++ (n, x) ∷ []) in
    ap (λ zs. (a, y) ∷ zs) (enumerate_push (a + 1) ys x) ∙ ap one e

-- ---- latest values

-- a latest value looks at the windows so far alone
pub latest_kept : (ms more : List ChannelWindow) (j channel : ℕ) → j ≤ length ms
    → latest (ms ++ more) j channel ≡ latest ms j channel
unfolding latest
latest_kept ms more j channel inside =
    ap (λ front. option_map (λ m. m.window.value) (find (λ m. m.channel == channel) (reverse front)))
    (take-append-le j ms more inside)

-- the window's own value is the latest of its channel, and the others keep theirs
latest_push : (ms : List ChannelWindow) (m : ChannelWindow) (channel : ℕ)
    → latest (ms ++ m ∷ []) (length ms + 1) channel
    ≡ cond (m.channel == channel) (Some m.window.value) (latest ms (length ms) channel)
unfolding latest
latest_push ms m channel =
    let value : List ChannelWindow → Option ℕ =
    λ ms. option_map (λ m. m.window.value) (find (λ m. m.channel == channel) ms) in
    let whole : take (length ms + 1) (ms ++ m ∷ []) ≡ ms ++ m ∷ [] =
    take_all (length ms + 1) (ms ++ m ∷ []) (omega (arith, length_push ms m)) in
    let front : take (length ms) ms ≡ ms = take_all (length ms) ms (omega arith) in
    ap (λ ms. value (reverse ms)) whole
    ∙ ap value (reverse-append ms (m ∷ []))
    ∙ at (m.channel == channel) (reverse ms)
    ∙ ap (λ ms. cond (m.channel == channel) (Some m.window.value) (value (reverse ms))) (sym front)
  where
    at : (b : Bool) (rest : List ChannelWindow)
        → option_map (λ m. m.window.value) (cond b (Some m) (find (λ m. m.channel == channel) rest))
        ≡ cond b (Some m.window.value)
        (option_map (λ m. m.window.value) (find (λ m. m.channel == channel) rest))
    at true rest = refl
    at false rest = refl

-- a list by position, with another value at one
set_at : {X : Type 0} (f g : ℕ → X) (x : X) (low n i at : ℕ) → at ≡ low + i
    → ((k : ℕ) → g k ≡ cond (at == k) x (f k))
    → map g (numbers_from low n) ≡ set (map f (numbers_from low n)) i x
unfolding numbers_from
set_at f g x low zero i at is same = refl
set_at f g x low (suc n) zero at is same =
    let here : (at == low) ≡ true = grind (arith, nat_tests, is) in
    ap (λ y. y ∷ map g (numbers_from (low + 1) n)) (same low ∙ ap (λ b. cond b x (f low)) here)
    ∙ ap (λ ys. x ∷ ys) (kept n (low + 1) (omega (arith, is)))
  where
    kept : (n from : ℕ) → at < from → map g (numbers_from from n) ≡ map f (numbers_from from n)
    kept zero from past = refl
    kept (suc n) from past =
        let other : (at == from) ≡ false = grind (arith, nat_tests, past) in
        ap (λ y. y ∷ map g (numbers_from (from + 1) n)) (same from ∙ ap (λ b. cond b x (f from)) other)
        ∙ ap (λ ys. f from ∷ ys) (kept n (from + 1) (omega (arith, past)))
set_at f g x low (suc n) (suc i) at is same =
    let other : (at == low) ≡ false = grind (arith, nat_tests, is) in
    ap (λ y. y ∷ map g (numbers_from (low + 1) n)) (same low ∙ ap (λ b. cond b x (f low)) other)
    ∙ ap (λ ys. f low ∷ ys) (set_at f g x (low + 1) n i at (omega (arith, is)) same)

pub latest_values_push : (channels : ℕ) (ms : List ChannelWindow) (m : ChannelWindow)
    → latest_values channels (ms ++ m ∷ []) (length ms + 1)
    ≡ set (latest_values channels ms (length ms)) m.channel (Some m.window.value)
latest_values_push channels ms m =
    set_at (latest ms (length ms)) (latest (ms ++ m ∷ []) (length ms + 1)) (Some m.window.value) 0 channels
    m.channel m.channel (omega arith) (latest_push ms m)

pub latest_values_none : (channels : ℕ) → latest_values channels [] 0 ≡ replicate channels None
unfolding latest numbers_from
latest_values_none channels = none 0 channels
  where
    none : (low n : ℕ) → map (latest [] 0) (numbers_from low n) ≡ replicate n None
    none low zero = refl
    none low (suc n) = ap (λ os. None ∷ os) (none (low + 1) n)

-- ---- conditions

condition_kept : (kind : Kind) (limits : Limits) (channels : ℕ) (ms more : List ChannelWindow) (j : ℕ)
    (m : ChannelWindow) → j < length ms
    → condition_at kind limits channels (ms ++ more) j m ≡ condition_at kind limits channels ms j m
condition_kept kind limits channels ms more j m inside =
    ap (λ values. condition_over kind limits values m)
    (map_same (latest (ms ++ more) (j + 1)) (latest ms (j + 1))
    (λ channel. latest_kept ms more (j + 1) channel (omega (arith, inside))) (numbers_below channels))

pub conditions_push : (kind : Kind) (limits : Limits) (channels : ℕ) (ms : List ChannelWindow)
    (m : ChannelWindow)
    → conditions kind limits channels (ms ++ m ∷ [])
    ≡ conditions kind limits channels ms
    ++ condition_over kind limits
    (set (latest_values channels ms (length ms)) m.channel (Some m.window.value)) m
    ∷ []
unfolding conditions
conditions_push kind limits channels ms m =
    let longer : ℕ × ChannelWindow → Condition =
    λ p. condition_at kind limits channels (ms ++ m ∷ []) p.0 p.1 in
    let shorter : ℕ × ChannelWindow → Condition = λ p. condition_at kind limits channels ms p.0 p.1 in
    let at_end : 0 + length ms ≡ length ms = omega arith in
    let one : ℕ → List Condition = λ n. map longer (enumerate_from 0 ms) ++ longer (n, m) ∷ [] in
    let last : List Condition = condition_at kind limits channels (ms ++ m ∷ []) (length ms) m ∷ [] in
    ap (map longer) (enumerate_push 0 ms m)
    ∙ map-append longer (enumerate_from 0 ms) ((0 + length ms, m) ∷ [])
    ∙ ap one at_end
    ∙ ap (λ cs. cs ++ last)
    (enumerated_same longer shorter 0 ms
    (λ j x from below. condition_kept kind limits channels ms (m ∷ []) j x (omega (arith, below))))
    ∙ ap (λ values. map shorter (enumerate_from 0 ms) ++ condition_over kind limits values m ∷ [])
    (latest_values_push channels ms m)

pub conditions_none : (kind : Kind) (limits : Limits) (channels : ℕ) → conditions kind limits channels [] ≡ []
unfolding conditions
conditions_none kind limits channels = refl
