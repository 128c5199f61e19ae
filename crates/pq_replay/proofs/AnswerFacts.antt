-- Answer lines by hand, so that a wrong rule in the definitions does not check.
use Rattle.std.proofs.Common.{◌≡◌, ◌+◌, ◌*◌, List, [], ◌∷◌, ◌++◌, map, codes, refl, pos, false}
use Rattle.std.specs.Fmt.{digits}
use Rattle.std.specs.List.{range_with_len}
use Rattle.chain_core.specs.Core.{Measured, happens}
use Rattle.chain_core.specs.Play.{takes}
use Rattle.pq_items.specs.declared.item.Item.TheVariants as item
use Rattle.pq_sequence.specs.SequentialResult.{cut}
use Rattle.pq_time.specs.declared.clock.Clock.{Clock}
use Rattle.pq_words.specs.Text.{Text}
use Rattle.pq_replay.specs.AnswerLines.{answer_lines, answers_along, measured_lines}
use Rattle.pq_replay.specs.declared.line.Line.TheVariants as line

abbrev clock : Clock
clock = record { t0 = pos 1709294401000000000; rate = 1200000000 }

-- two basic intervals and 42 windows of one channel, and no reading
abbrev two_intervals : Measured
two_intervals = record {
  keys = (264 ∷ 504 ∷ []) ∷ map (λ k. 12 * k + 25) (range_with_len 0 42) ∷ [] ∷ [];
  items = item.Basic 1 24 264 10 229805362 false ∷ item.Basic 1 264 504 10 229805362 false ∷ [];
  samples = 552;
}

abbrev ended : List Text → List Text
ended texts = map (λ text. text ++ 10 ∷ []) texts

-- a read is withheld by the first of the least words that its look loaded; after a halt a step and a query
-- are halted
pub look_grab_halt : measured_lines clock two_intervals (line.Look 0 ∷ line.Step 0 64 ∷ line.Step 1 64
    ∷ line.Step 2 64 ∷ line.Grab 0 ∷ line.Take 1 ∷ line.Read 0 ∷ line.Halt 0 ∷ line.Step 0 1 ∷ line.Query 0
    ∷ [])
    ≡ ended (codes "look 0 lane=0 word=0" ∷ codes "step 0 count=2 word=552 done"
    ∷ codes "step 1 count=42 word=552 done" ∷ codes "step 2 count=0 word=552 done" ∷ codes "grab 0 held"
    ∷ codes "take 1 busy word=4" ∷ codes "read 0 withheld lane=0 word=0" ∷ codes "halt 0"
    ∷ codes "step 0 halted" ∷ codes "query 0 halted" ∷ [])
unfolding answer_lines answers_along takes happens cut digits
look_grab_halt = refl

-- a step and a grab that are busy; after a halt a post and a raise go on, and a look and a take are halted
pub busy_and_halted : measured_lines clock two_intervals (line.Take 0 ∷ line.Post 0 1 ∷ line.Raise 0
    ∷ line.Split 0 ∷ line.Look 0 ∷ line.Take 0 ∷ line.Step 2 1 ∷ line.Halt 1 ∷ line.Grab 0 ∷ line.Post 0 64
    ∷ line.Raise 0 ∷ line.Look 0 ∷ line.Take 2 ∷ [])
    ≡ ended (codes "take 0 held" ∷ codes "post 0 count=1" ∷ codes "raise 0 word=503 more"
    ∷ codes "split 0 into 1" ∷ codes "look 0 lane=1 word=0" ∷ codes "take 0 held" ∷ codes "step 2 busy word=1"
    ∷ codes "halt 1" ∷ codes "grab 0 busy word=1" ∷ codes "post 0 count=1" ∷ codes "raise 0 word=552 done"
    ∷ codes "look 0 halted" ∷ codes "take 2 halted" ∷ [])
unfolding answer_lines answers_along takes happens cut digits
busy_and_halted = refl

-- the lines after the first that isn't allowed have no answer
pub not_allowed : measured_lines clock two_intervals (line.Take 2 ∷ line.Raise 2 ∷ line.Post 2 1 ∷ [])
    ≡ ended (codes "take 2 held" ∷ [])
unfolding answer_lines answers_along takes happens cut digits
not_allowed = refl
