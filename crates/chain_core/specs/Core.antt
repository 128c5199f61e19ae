-- The subject: the core: lanes post items and raise words, sessions load words and read what has ended by the
-- least of those that they read. All of it is profile.
use Rattle.std.specs.Prelude.{◌≡◌, ℕ, ◌+◌, ◌-◌, ◌≤◌, min, max, Bool, true, ◌==◌, if◌then◌else◌, List, [], ◌∷◌, ◌++◌, length, replicate, position, slice_get, slice_index, slice_index_or, Option, unwrap_or}
use Rattle.std.specs.Option.{option_map_or}
use Rattle.std.specs.Bool.{then_some}
use Rattle.std.specs.List.{reduce}
use Rattle.pq_items.specs.declared.item.Item.{Item}
use Rattle.pq_sequence.specs.SequentialResult.{cut}
use Rattle.chain_core.specs.declared.answer.Answer.{Answer}
use Rattle.chain_core.specs.declared.answer.Answer.TheVariants as answer
use Rattle.chain_core.specs.declared.core_event.CoreEvent.{CoreEvent}
use Rattle.chain_core.specs.declared.core_event.CoreEvent.TheVariants as event
use Rattle.chain_core.specs.Changed.{changed_at}
use Rattle.chain_core.specs.Phases.{Phases, start_phases, is_allowed, phases_after}

-- all that the core knows of a recording: the keys of each lane's items, in order; the sequential result; the
-- number of samples
pub record Measured : Type 0 where
  pub keys : List (List ℕ)
  pub items : List Item
  pub samples : ℕ

-- the keys of a lane
abbrev pub keys_of : Measured → ℕ → List ℕ
keys_of m lane = slice_index_or m.keys lane []

-- how far a lane has come of which so many items are posted: the next key less one, or all samples
abbrev pub reach_of : Measured → ℕ → ℕ → ℕ
reach_of m lane count = option_map_or (λ key. key - 1) (slice_get (keys_of m lane) count) m.samples

-- what a session has read: how many items, and each lane's word as it last loaded it
pub record View : Type 0 where
  pub cursor : ℕ
  pub words : List ℕ

-- the numbers of the core: how many items each lane has posted, each lane's word, up to which place items are
-- released, and what each session has read
pub record Numbers : Type 0 where
  pub counts : List ℕ
  pub words : List ℕ
  pub mark : ℕ
  pub views : List View

-- the state of the core
pub record Core : Type 0 where
  pub phases : Phases
  pub numbers : Numbers

-- at the start all numbers are 0
abbrev pub start_view : ℕ → View
start_view lanes = record { cursor = 0; words = replicate lanes 0 }

abbrev pub start_numbers : ℕ → Numbers
start_numbers lanes = record {
  counts = replicate lanes 0;
  words = replicate lanes 0;
  mark = 0;
  views = start_view lanes ∷ [];
}

abbrev pub start_core : ℕ → Core
start_core lanes = record { phases = start_phases lanes; numbers = start_numbers lanes }

-- what a session has read; nothing where there is no such session
abbrev pub view_of : Numbers → ℕ → View
view_of n session = unwrap_or (slice_get n.views session) (record { cursor = 0; words = [] })

-- how many items of a lane are posted by a post of at most so many
abbrev pub posted : Measured → Numbers → ℕ → ℕ → ℕ
posted m n lane most = min most (length (keys_of m lane) - slice_index n.counts lane)

-- the word that a raise writes: the reach of what is posted
abbrev pub raised : Measured → Numbers → ℕ → ℕ
raised m n lane = reach_of m lane (slice_index n.counts lane)

-- every item of the lane is posted
abbrev pub is_done : Measured → Numbers → ℕ → Bool
is_done m n lane = slice_index n.counts lane == length (keys_of m lane)

-- the least of some words
abbrev pub least : List ℕ → ℕ
least words = unwrap_or (reduce min words) 0

-- the first lane that has it
abbrev pub least_lane : List ℕ → ℕ
least_lane words = unwrap_or (position (λ w. w == least words) words) 0

-- the mark after a read of such words: it never falls
abbrev pub mark_after : ℕ → List ℕ → ℕ
mark_after mark words = max mark (least words)

-- the item that is released next for a cursor, where the mark has passed its end
abbrev pub released : Measured → ℕ → ℕ → Option Item
released m mark cursor = slice_get (cut mark m.items) cursor

-- the answer where no item is released: the end where the least word is that of the end, else withheld by it
abbrev pub unreleased : Measured → List ℕ → Answer
unreleased m words =
    if least words == m.samples then answer.End else answer.Withheld (least_lane words) (least words)

-- the answer of a read by a session that has read so, at the mark before it
abbrev pub read_answer : Measured → ℕ → View → Answer
read_answer m mark v =
    option_map_or answer.Item (released m (mark_after mark v.words) v.cursor) (unreleased m v.words)

-- what it has read after that: an item more, where one is given
abbrev pub view_read : Measured → ℕ → View → View
view_read m mark v =
    record v {
      cursor = option_map_or (λ _. v.cursor + 1) (released m
          (mark_after mark v.words) v.cursor) v.cursor;
    }

-- what a session has read after a load of a lane's word
abbrev pub view_loaded : ℕ → ℕ → View → View
view_loaded lane word v = record v { words = changed_at v.words lane (λ _. word) }

-- the answers of a load of the stop word, and of a try
abbrev pub stop_answer : Bool → Answer
stop_answer is_halted = if is_halted then answer.Halted else answer.Running

abbrev pub try_answer : ℕ → Answer
try_answer turn = if turn == 0 then answer.Held else answer.Busy turn

-- the answer of an event that is allowed
abbrev pub answer_of : Measured → Core → CoreEvent → Answer
answer_of m c (event.LaneStopLoad lane) = stop_answer c.phases.is_halted
answer_of m c (event.LaneTry lane) = try_answer c.phases.turn
answer_of m c (event.Post lane most) = answer.Posted (posted m c.numbers lane most)
answer_of m c (event.Raise lane) = answer.Raised (raised m c.numbers lane) (is_done m c.numbers lane)
answer_of m c (event.SessionStopLoad session) = stop_answer c.phases.is_halted
answer_of m c (event.SessionTry session) = try_answer c.phases.turn
answer_of m c (event.Load session lane) = answer.Loaded (slice_index c.numbers.words lane)
answer_of m c (event.Read session) = read_answer m c.numbers.mark (view_of c.numbers session)
answer_of m c (event.Split session) = answer.Split (length c.phases.sessions)
answer_of m c (event.Halt session) = answer.Stopped

-- the numbers after a post, a raise, a load, a read and a split
abbrev pub count_after : Measured → Numbers → ℕ → ℕ → ℕ
count_after m n lane most = slice_index n.counts lane + posted m n lane most

abbrev pub after_post : Measured → Numbers → ℕ → ℕ → Numbers
after_post m n lane most =
    record n { counts = changed_at n.counts lane (λ _. count_after m n lane most) }

abbrev pub after_raise : Measured → Numbers → ℕ → Numbers
after_raise m n lane = record n { words = changed_at n.words lane (λ _. raised m n lane) }

abbrev pub after_load : Numbers → ℕ → ℕ → Numbers
after_load n session lane =
    record n { views = changed_at n.views session (view_loaded lane (slice_index n.words lane)) }

abbrev pub after_read : Measured → Numbers → ℕ → Numbers
after_read m n session = record n {
  mark = mark_after n.mark (view_of n session).words;
  views = changed_at n.views session (view_read m n.mark);
}

abbrev pub after_split : Numbers → ℕ → Numbers
after_split n session = record n { views = n.views ++ view_of n session ∷ [] }

-- the numbers after an event that is allowed
abbrev pub numbers_after : Measured → Numbers → CoreEvent → Numbers
numbers_after m n (event.Post lane most) = after_post m n lane most
numbers_after m n (event.Raise lane) = after_raise m n lane
numbers_after m n (event.Load session lane) = after_load n session lane
numbers_after m n (event.Read session) = after_read m n session
numbers_after m n (event.Split session) = after_split n session
numbers_after m n _ = n

-- the core after an event that is allowed
abbrev pub core_after : Measured → Core → CoreEvent → Core
core_after m c e =
    record { phases = phases_after c.phases e; numbers = numbers_after m c.numbers e }

-- one event: its answer and the core after it; None where it isn't allowed
unfoldable pub happens : Measured → Core → CoreEvent → Option (Answer × Core)
happens m c e = then_some (is_allowed c.phases e) (answer_of m c e, core_after m c e)
