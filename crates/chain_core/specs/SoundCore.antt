-- The subject: what every core keeps that events reach. All of it is profile.
use Rattle.std.specs.Prelude.{◌≡◌, ℕ, ◌≤◌, ◌<◌, ◌⊎◌, true, length, slice_get, slice_index, Some}
use Rattle.chain_core.specs.declared.answer.Answer.{Answer}
use Rattle.chain_core.specs.declared.answer.Answer.TheVariants as answer
use Rattle.chain_core.specs.declared.core_event.CoreEvent.{CoreEvent}
use Rattle.chain_core.specs.declared.core_event.CoreEvent.TheVariants as event
use Rattle.chain_core.specs.Core.{Measured, Core, Numbers, View, start_core, happens, keys_of, least, least_lane, mark_after, raised, read_answer, view_of}
use Rattle.chain_core.specs.Measurement.{EndInOrder}
use Rattle.chain_core.specs.Phases.{is_allowed, phases_after}
use Rattle.pq_items.specs.declared.item.Item.{Item}
use Rattle.pq_items.specs.ItemTable.{end_of}
use Rattle.pq_sequence.specs.SequentialResult.{end_at}

-- the keys of each lane rise up to the number of samples, and so do the ends of the items
pub record IsMeasured (m : Measured) : Type 0 where
  pub rising : (lane i j a b : ℕ) → i ≤ j → slice_get (keys_of m lane) i ≡ Some a →
      slice_get (keys_of m lane) j ≡ Some b → a ≤ b
  pub within : (lane i a : ℕ) → slice_get (keys_of m lane) i ≡ Some a → a ≤ m.samples
  pub in_order : EndInOrder m.items
  pub ended : (k : ℕ) (x : Item) → slice_get m.items k ≡ Some x → end_of x ≤ m.samples

-- a holding session's read without memory, which running threads have: the mark moves somewhere on the way,
-- and
-- the session has read nothing
pub record ReadsWithoutMemory (old : Core) (session : ℕ) (new : Core) : Type 0 where
  pub allowed : is_allowed old.phases (event.Read session) ≡ true
  pub mark_from : old.numbers.mark ≤ new.numbers.mark
  pub mark_to : new.numbers.mark ≤ mark_after old.numbers.mark (view_of old.numbers session).words
  pub numbers : new.numbers ≡ record old.numbers { mark = new.numbers.mark }
  pub phases : new.phases ≡ phases_after old.phases (event.Read session)

-- one event of running threads: an event of the core, or a read without memory
abbrev pub Follows : Measured → Core → Core → Type 0
Follows m old new =
    ((e : CoreEvent) × (a : Answer) × (happens m old e ≡ Some (a, new)))
    ⊎ ((session : ℕ) × ReadsWithoutMemory old session new)

-- a core that events reach from the start
pub data IsReached (m : Measured) : Core → Type 0 where
  at_start : IsReached m (start_core (length m.keys))
  after : (old new : Core) → IsReached m old → Follows m old new → IsReached m new

-- the three facts, of the numbers of a core with so many sessions: each word is at most its lane's reach,
-- each last
-- word read is at most the word, and the mark is at most every lane's reach
pub record IsSound (m : Measured) (n : Numbers) (count : ℕ) : Type 0 where
  pub words : (lane : ℕ) → slice_index n.words lane ≤ raised m n lane
  pub read : (session lane : ℕ) (v : View) → slice_get n.views session ≡ Some v →
      slice_index v.words lane ≤ slice_index n.words lane
  pub mark : (lane : ℕ) → lane < length n.words → n.mark ≤ raised m n lane
  -- no cursor is past the last item, each session has a word of each lane, and a view for each is there
  pub cursors : (session : ℕ) (v : View) → slice_get n.views session ≡ Some v → v.cursor ≤ length m.items
  pub lanes : (session : ℕ) (v : View) → slice_get n.views session ≡ Some v → length v.words ≡ length n.words
  pub sessions : length n.views ≡ count

-- they hold of every core that events reach
abbrev pub CoresAreSound : Type 0
CoresAreSound = (m : Measured) (c : Core) → IsMeasured m → IsReached m c →
    IsSound m c.numbers (length c.phases.sessions)

-- the law of a read, by a session that has read so
pub record ReadsRightly (m : Measured) (n : Numbers) (v : View) : Type 0 where
  -- an item that is given is that at the cursor
  pub given : (x : Item) → read_answer m n.mark v ≡ answer.Item x → slice_get m.items v.cursor ≡ Some x
  -- withheld: the word is the one that the session last read of that lane, the first of the least ones, and
  -- lies
  -- before the end of the item at the cursor
  pub withheld : (lane word : ℕ) → read_answer m n.mark v ≡ answer.Withheld lane word →
      (word ≡ least v.words) × (lane ≡ least_lane v.words) × (word < end_at m.items m.samples v.cursor)
  -- the end: every item was given, and the least word is that of the end
  pub ended : read_answer m n.mark v ≡ answer.End → (v.cursor ≡ length m.items) × (least v.words ≡ m.samples)

-- it holds of every session of every core that events reach
abbrev pub ReadsAreRight : Type 0
ReadsAreRight = (m : Measured) (c : Core) (session : ℕ) (v : View) → IsMeasured m → IsReached m c →
    slice_get c.numbers.views session ≡ Some v → ReadsRightly m c.numbers v
