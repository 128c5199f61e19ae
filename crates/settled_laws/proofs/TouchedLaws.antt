-- Which spans the merged windows touch, once all that begin before the span's end are there and no others.
use Rattle.std.proofs.Common.{◌≡◌, ℕ, ◌+◌, ◌<◌, ◌≤◌, List, [], ◌∷◌, ◌++◌, map, sym, ◌∙◌, arith}
use Rattle.std.specs.List.{AllByRecursion, enumerate_from}
use Rattle.event_detect.specs.declared.kind.Kind.{Kind}
use Rattle.event_detect.specs.declared.limits.Limits.{Limits}
use Rattle.event_detect.specs.Flag.{is_touched}
use Rattle.settled_laws.proofs.TouchLaws.{touch_any_end, touched_at_once}
use Rattle.polyphase.specs.PolyphaseEvent.{ChannelWindow, condition_at, conditions, polyphase_events, kinds, all_polyphase_events}
use Rattle.settled_laws.specs.Touch.{touches_now}
use Rattle.settled_laws.proofs.SettledLaws.{IsFrom, any_kind, touched_joined, any_kind_same, touched_so, all_touched}

-- the windows of the conditions are those that are merged
begun_from : (kind : Kind) (limits : Limits) (channels w a : ℕ) (all ms : List ChannelWindow) →
    AllByRecursion (λ m. m.window.start < w) ms
    → AllByRecursion (λ c. c.window.start < w) (map (λ p. condition_at kind limits channels all p.0 p.1)
    (enumerate_from a ms))
begun_from kind limits channels w a all [] h = tt
begun_from kind limits channels w a all (m ∷ ms) h =
    (h.0, begun_from kind limits channels w (a + 1) all ms h.1)

conditions_begun : (kind : Kind) (limits : Limits) (channels w : ℕ) (ms : List ChannelWindow) →
    AllByRecursion (λ m. m.window.start < w) ms →
    AllByRecursion (λ c. c.window.start < w) (conditions kind limits channels ms)
unfolding conditions
conditions_begun kind limits channels w ms h = begun_from kind limits channels w 0 ms ms h

-- a span that ends by n is touched by the events of all windows where one of some kind has ended after its
-- start or runs
pub all_touched_now : (limits : Limits) (channels n start end : ℕ) (ms more : List ChannelWindow) →
    start < end → end ≤ n
    → AllByRecursion (λ m. m.window.start < end) ms → AllByRecursion (IsFrom end) more
    → is_touched (all_polyphase_events limits channels n (ms ++ more)) start end
    ≡ any_kind (λ kind. touches_now kind limits channels start ms) kinds
unfolding all_polyphase_events
all_touched_now limits channels n start end ms more order inside begun ahead =
    touched_joined (λ kind. polyphase_events kind limits channels n (ms ++ more)) start end kinds
    ∙ any_kind_same (λ kind. is_touched (polyphase_events kind limits channels n (ms ++ more)) start end)
    (λ kind. is_touched (polyphase_events kind limits channels (n + 1) (ms ++ more)) start end)
    (λ kind. touch_any_end kind n (n + 1) (conditions kind limits channels (ms ++ more)) start end
    (omega (arith, order, inside)) (omega (arith, order, inside))) kinds
    ∙ sym (touched_joined (λ kind. polyphase_events kind limits channels (n + 1) (ms ++ more)) start end
    kinds)
    ∙ all_touched limits channels (n + 1) end start end ms more (omega (arith, inside)) ahead
    (omega (arith, order)) (omega arith)
    ∙ any_kind_same (λ kind. touched_so kind limits channels start end ms)
    (λ kind. touches_now kind limits channels start ms)
    (λ kind. touched_at_once kind (conditions kind limits channels ms) start end (omega (arith, order))
    (conditions_begun kind limits channels end ms begun)) kinds
