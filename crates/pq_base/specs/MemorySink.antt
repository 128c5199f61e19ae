-- What contracts see of `MemSink`, a sink in memory (profile).
use Rattle.std.specs.Prelude.{◌≡◌, ◌⊎◌, ℕ, ◌-◌, ◌≤◌, min, List, [], length, Contains}
use Rattle.pq_words.specs.Text.{Text}

pub record MemorySink : Type 0 where
  -- the bytes taken so far
  pub taken : Text
  -- how many bytes it can hold
  pub room : ℕ
  -- the calls of write, counted from 0, that fail
  pub fails : List ℕ
  -- the most bytes that one write takes, at least 1
  pub piece : ℕ
  -- how many calls of write there were
  pub calls : ℕ
  -- how many of them failed
  pub faults : ℕ

-- a sink as it is made
abbrev pub new_sink : ℕ → List ℕ → ℕ → MemorySink
new_sink room fails piece =
    record { taken = []; room = room; fails = fails; piece = piece; calls = 0; faults = 0 }

-- the next write fails: it is listed, or the room is full
abbrev pub FailsToWrite : MemorySink → Type 0
FailsToWrite sink = Contains sink.fails sink.calls ⊎ (sink.room ≤ length sink.taken)

-- how many bytes of a text the next write takes, where it does not fail
abbrev pub write_count : MemorySink → Text → ℕ
write_count sink text = min (min sink.piece (length text)) (sink.room - length sink.taken)

-- what the sink was made of stays
abbrev pub SameSink : MemorySink → MemorySink → Type 0
SameSink old new = new ≡ record old { taken = new.taken; calls = new.calls; faults = new.faults }
