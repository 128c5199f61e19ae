-- The subject: the commands, and the words that say them (profile).
use Rattle.std.specs.Prelude.{ℕ, if◌then◌else◌, List, [], ◌∷◌, map, Option, Result, Ok, Err, codes, String, string_bytes}
use Rattle.std.specs.Str.{bytes_eq}
use Rattle.std.specs.declared.alloc.Global.{Global}
use Rattle.clap.specs.Words.{Row, first_of}
use Rattle.command_words.specs.Simple.{check_app, emit_app, generate_app, measuring_app, replay_app, said_by}
use Rattle.command_words.specs.Values.{channel_of, channels_of, numbers_view, optional, part_of, seed_of, settings_of, understood}
use Rattle.command_words.specs.declared.command.Command.{Command}
use Rattle.command_words.specs.declared.command.Command.TheVariants as command
use Rattle.command_words.specs.declared.command.Measuring.{Measuring}
use Rattle.command_words.specs.declared.command.Part.{Part}
use Rattle.command_words.specs.declared.command.WordsFault.{WordsFault}
use Rattle.command_words.specs.declared.command.WordsFault.TheVariants as fault
use Rattle.event_detect.specs.Threshold.{IsInRange}
use Rattle.event_detect.specs.declared.limits.Settings.{Settings}
use Rattle.pq_words.specs.FirstFault.{◌>>=◌}
use Rattle.pq_words.specs.Text.{Text}

-- what a recording is measured by, and the names of its files: channels and reference are numbers of channels
pub record Measurement : Type 0 where
  pub settings : Settings
  pub channels : Option (List ℕ)
  pub reference : Option ℕ
  pub cfg : Text
  pub dat : Text

-- what a command is to do; a replay has the name of its schedule too
pub data Task : Type 0 where
  Check : Text → Task
  Intervals : Measurement → Task
  Analyse : Measurement → Task
  Replay : Measurement → Text → Task
  Emit : Part → ℕ → Task
  Generate : ℕ → Task

-- the same as they are held in memory
abbrev pub measuring_view : Measuring → Measurement
measuring_view m = record {
  settings = m.settings;
  channels = numbers_view m.channels;
  reference = m.reference;
  cfg = m.cfg.now;
  dat = m.dat.now;
}

abbrev pub command_view : Command → Task
command_view (command.Check cfg) = Check cfg.now
command_view (command.Intervals m) = Intervals (measuring_view m)
command_view (command.Analyse m) = Analyse (measuring_view m)
command_view (command.Replay m schedule) = Replay (measuring_view m) schedule.now
command_view (command.Emit part seed) = Emit part seed
command_view (command.Generate seed) = Generate seed

-- what the options and the positionals of a measurement say
unfoldable pub measured : List Row → Result Measurement WordsFault
measured rows = do
  settings ← settings_of rows
  channels ← optional channels_of (first_of (codes "channels") rows)
  reference ← optional channel_of (first_of (codes "reference") rows)
  cfg ← understood (first_of (codes "cfg") rows)
  dat ← understood (first_of (codes "dat") rows)
  Ok (record {
    settings = settings;
    channels = channels;
    reference = reference;
    cfg = cfg;
    dat = dat;
  })

-- what the words after the name of `intervals` or `analyse` say
abbrev pub measurement_of : List Text → Result Measurement WordsFault
measurement_of words = said_by measuring_app words >>= measured

-- what the words after the name of `replay` say
unfoldable pub replay_task : List Text → Result Task WordsFault
replay_task words = do
  rows ← said_by replay_app words
  m ← measured rows
  schedule ← understood (first_of (codes "schedule") rows)
  Ok (Replay m schedule)

-- what the words after the name of `check` say
unfoldable pub check_task : List Text → Result Task WordsFault
check_task words = do
  rows ← said_by check_app words
  cfg ← understood (first_of (codes "cfg") rows)
  Ok (Check cfg)

-- what the words after the name of `emit` say
unfoldable pub emit_task : List Text → Result Task WordsFault
emit_task words = do
  rows ← said_by emit_app words
  text ← understood (first_of (codes "part") rows)
  part ← part_of text
  seed ← seed_of rows
  Ok (Emit part seed)

-- what the words after the name of `generate` say
unfoldable pub generate_task : List Text → Result Task WordsFault
generate_task words = do
  rows ← said_by generate_app words
  seed ← seed_of rows
  Ok (Generate seed)

abbrev pub then_task : (Measurement → Task) → Result Measurement WordsFault → Result Task WordsFault
then_task task (Ok m) = Ok (task m)
then_task task (Err why) = Err why

-- the command of this name, with the words after it
unfoldable pub named_task : Text → List Text → Result Task WordsFault
named_task name words =
    if bytes_eq name (codes "check") then check_task words
    else (if bytes_eq name (codes "intervals") then then_task (λ m. Intervals m) (measurement_of words)
    else (if bytes_eq name (codes "analyse") then then_task (λ m. Analyse m) (measurement_of words)
    else (if bytes_eq name (codes "replay") then replay_task words
    else (if bytes_eq name (codes "emit") then emit_task words
    else (if bytes_eq name (codes "generate") then generate_task words
    else Err fault.NotUnderstood)))))

-- the first word is the name of a command; any other words are not understood
abbrev pub task_of : List Text → Result Task WordsFault
task_of [] = Err fault.NotUnderstood
task_of (name ∷ words) = named_task name words

-- the settings of a task can be asked for
abbrev pub IsTask : Task → Type 0
IsTask (Check cfg) = Unit {0}
IsTask (Intervals m) = IsInRange m.settings
IsTask (Analyse m) = IsInRange m.settings
IsTask (Replay m schedule) = IsInRange m.settings
IsTask (Emit part seed) = Unit {0}
IsTask (Generate seed) = Unit {0}

-- the words, as their bytes
abbrev pub words_view : List (String Global) → List Text
words_view words = map string_bytes words
