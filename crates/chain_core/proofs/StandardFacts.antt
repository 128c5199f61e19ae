-- Worked runs of the core, by hand, so that a wrong rule in the definitions does not check.
use Rattle.std.proofs.Common.{◌≡◌, ℕ, ◌+◌, ◌*◌, [], ◌∷◌, ◌++◌, List, map, true, false, refl, Ok, Err}
use Rattle.std.specs.List.{range_with_len}
use Rattle.pq_items.specs.declared.item.Item.{Item}
use Rattle.pq_items.specs.declared.item.Item.TheVariants as item
use Rattle.pq_sequence.specs.SequentialResult.{cut}
use Rattle.chain_core.specs.declared.step.Step.{Step}
use Rattle.chain_core.specs.declared.step.Step.TheVariants as step
use Rattle.chain_core.specs.declared.answer.Answer.{Answer}
use Rattle.chain_core.specs.declared.answer.Answer.TheVariants as answer
use Rattle.chain_core.specs.declared.answer.PlayFault.TheVariants as fault
use Rattle.chain_core.specs.Core.{Measured, happens}
use Rattle.chain_core.specs.Play.{takes, answers_from, answers_of}

-- one channel of 552 samples: 42 windows, of which each begins 12 places after the one before, and no reading
abbrev windows : List ℕ
windows = map (λ k. 12 * k + 25) (range_with_len 0 42)

-- two basic intervals
abbrev first : Item
first = item.Basic 1 24 264 10 229805362 false

abbrev second : Item
second = item.Basic 1 264 504 10 229805362 false

abbrev two_intervals : Measured
two_intervals = record {
  keys = (264 ∷ 504 ∷ []) ∷ windows ∷ [] ∷ [];
  items = first ∷ second ∷ [];
  samples = 552;
}

-- the detector's word stands before the end of the first basic interval: withheld, and given once it is
-- raised
pub withheld_then_given : answers_of two_intervals
    (step.Take 0 ∷ step.Post 0 64 ∷ step.Raise 0 ∷ step.Take 2 ∷ step.Post 2 64 ∷ step.Raise 2 ∷ step.Take 1
    ∷ step.Post 1 19 ∷ step.Raise 1 ∷ step.LoadStop 0 ∷ step.Load 0 0 ∷ step.Load 0 1 ∷ step.Load 0 2
    ∷ step.Grab 0 ∷ step.Read 0 ∷ step.Take 1 ∷ step.Post 1 1 ∷ step.Raise 1 ∷ step.LoadStop 0
    ∷ step.Load 0 2 ∷ step.Load 0 1 ∷ step.Load 0 0 ∷ step.Grab 0 ∷ step.Read 0 ∷ [])
    ≡ Ok (answer.Held ∷ answer.Posted 2 ∷ answer.Raised 552 true ∷ answer.Held ∷ answer.Posted 0
    ∷ answer.Raised 552 true ∷ answer.Held ∷ answer.Posted 19 ∷ answer.Raised 252 false ∷ answer.Running
    ∷ answer.Loaded 552 ∷ answer.Loaded 252 ∷ answer.Loaded 552 ∷ answer.Held ∷ answer.Withheld 1 252
    ∷ answer.Held ∷ answer.Posted 1 ∷ answer.Raised 264 false ∷ answer.Running ∷ answer.Loaded 552
    ∷ answer.Loaded 264 ∷ answer.Loaded 552 ∷ answer.Held ∷ answer.Item first ∷ [])
unfolding answers_from takes happens cut
withheld_then_given = refl

-- a session looks, grabs after all lanes are done, and reads by the words that it looked at; a lane finds the
-- turn taken. After a halt a look and a take are halted
pub look_grab_halt : answers_of two_intervals
    (step.LoadStop 0 ∷ step.Load 0 0 ∷ step.Load 0 1 ∷ step.Load 0 2 ∷ step.Take 0 ∷ step.Post 0 64
    ∷ step.Raise 0 ∷ step.Take 1 ∷ step.Post 1 64 ∷ step.Raise 1 ∷ step.Take 2 ∷ step.Post 2 64
    ∷ step.Raise 2 ∷ step.Grab 0 ∷ step.Take 1 ∷ step.Read 0 ∷ step.Halt 0 ∷ step.Take 0 ∷ step.LoadStop 0
    ∷ [])
    ≡ Ok (answer.Running ∷ answer.Loaded 0 ∷ answer.Loaded 0 ∷ answer.Loaded 0 ∷ answer.Held ∷ answer.Posted 2
    ∷ answer.Raised 552 true ∷ answer.Held ∷ answer.Posted 42 ∷ answer.Raised 552 true ∷ answer.Held
    ∷ answer.Posted 0 ∷ answer.Raised 552 true ∷ answer.Held ∷ answer.Busy 4 ∷ answer.Withheld 0 0
    ∷ answer.Stopped ∷ answer.Halted ∷ answer.Halted ∷ [])
unfolding answers_from takes happens cut
look_grab_halt = refl

-- steps that no schedule says: the loads of a look stand apart, and steps of others between them
abbrev beyond : List Step → List Step
beyond then =
    step.LoadStop 0 ∷ step.Load 0 0 ∷ step.Take 0 ∷ step.Post 0 64 ∷ step.Raise 0 ∷ step.Load 0 1
    ∷ step.Load 0 0 ∷ then

pub core_steps_beyond_schedules : answers_of two_intervals
    (beyond (step.Load 0 2 ∷ step.Grab 0 ∷ step.Read 0 ∷ []))
    ≡ Ok (answer.Running ∷ answer.Loaded 0 ∷ answer.Held ∷ answer.Posted 2 ∷ answer.Raised 552 true
    ∷ answer.Loaded 0 ∷ answer.Loaded 552 ∷ answer.Loaded 0 ∷ answer.Held ∷ answer.Withheld 1 0 ∷ [])
unfolding answers_from takes happens cut
core_steps_beyond_schedules = refl

pub grab_without_a_load : answers_of two_intervals (beyond (step.Grab 0 ∷ step.Read 0 ∷ []))
    ≡ Err (fault.NotAllowed 7)
unfolding answers_from takes happens cut
grab_without_a_load = refl

-- the same with a dip
abbrev dip_at_252 : Item
dip_at_252 = item.Dip 1 252 336 114896273 false

abbrev one_dip : Measured
one_dip = record two_intervals {
  items = item.Basic 1 24 264 10 229805362 true ∷ dip_at_252 ∷ item.Basic 1 264 504 10 211869380 true ∷ [];
}

-- all lanes done; a look, a grab and a read
abbrev all_lanes : List Step
all_lanes =
    step.Take 0 ∷ step.Post 0 64 ∷ step.Raise 0 ∷ step.Take 1 ∷ step.Post 1 64 ∷ step.Raise 1 ∷ step.Take 2
    ∷ step.Post 2 64 ∷ step.Raise 2 ∷ []

abbrev looks : ℕ → List Step
looks session =
    step.LoadStop session ∷ step.Load session 0 ∷ step.Load session 1 ∷ step.Load session 2 ∷ step.Grab
    session
    ∷ []

abbrev queries : ℕ → List Step
queries session = looks session ++ step.Read session ∷ []

abbrev done_answers : List Answer
done_answers =
    answer.Held ∷ answer.Posted 2 ∷ answer.Raised 552 true ∷ answer.Held ∷ answer.Posted 42
    ∷ answer.Raised 552 true ∷ answer.Held ∷ answer.Posted 0 ∷ answer.Raised 552 true ∷ []

abbrev looked_answers : Answer → List Answer
looked_answers last =
    answer.Running ∷ answer.Loaded 552 ∷ answer.Loaded 552 ∷ answer.Loaded 552 ∷ answer.Held ∷ last ∷ []

-- a split session goes on from the cursor; while a lane holds the turn, a grab is busy and the cursor stays
pub split_and_busy : answers_of one_dip
    (all_lanes ++ queries 0 ++ (step.Split 0 ∷ step.Take 1 ∷ []) ++ looks 1 ++
    (step.Post 1 1 ∷ []) ++ queries 1
    ++ queries 0 ++ (step.Raise 1 ∷ []) ++ queries 1 ++ queries 1)
    ≡ Ok (done_answers ++ looked_answers (answer.Item (item.Basic 1 24 264 10 229805362 true))
    ++ (answer.Split 1 ∷ answer.Held ∷ [])
    ++ (answer.Running ∷ answer.Loaded 552 ∷ answer.Loaded 552 ∷ answer.Loaded 552 ∷ answer.Busy 2 ∷ [])
    ++ (answer.Posted 0 ∷ []) ++ looked_answers (answer.Item dip_at_252)
    ++ looked_answers (answer.Item dip_at_252) ++ (answer.Raised 552 true ∷ [])
    ++ looked_answers (answer.Item (item.Basic 1 264 504 10 211869380 true)) ++ looked_answers answer.End)
unfolding answers_from takes happens cut
split_and_busy = refl
