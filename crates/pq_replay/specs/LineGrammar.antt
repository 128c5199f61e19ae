-- The subject: the grammar of the lines of schedules: commands and their numbers. All of it is profile.
use Rattle.std.specs.Prelude.{ℕ, ◌&&◌, nat_le, if◌then◌else◌, List, [], ◌∷◌, Option, Some, None, option_and_then, codes, find}
use Rattle.std.specs.Str.{bytes_eq}
use Rattle.pq_words.specs.Text.{Text, parted_at, digits_between}
use Rattle.pq_replay.specs.declared.command.Command.{Command}
use Rattle.pq_replay.specs.declared.command.Command.TheVariants as command
use Rattle.pq_replay.specs.declared.line.Line.{Line}
use Rattle.pq_replay.specs.declared.line.Line.TheVariants as line

-- the commands, as they are listed
abbrev pub commands : List Command
commands = command.Take ∷ command.Post ∷ command.Raise ∷ command.Step ∷ command.Look ∷ command.Grab
    ∷ command.Read ∷ command.Query ∷ command.Split ∷ command.Halt ∷ []

-- the word of a command
abbrev pub command_word : Command → Text
command_word command.Take = codes "take"
command_word command.Post = codes "post"
command_word command.Raise = codes "raise"
command_word command.Step = codes "step"
command_word command.Look = codes "look"
command_word command.Grab = codes "grab"
command_word command.Read = codes "read"
command_word command.Query = codes "query"
command_word command.Split = codes "split"
command_word command.Halt = codes "halt"

-- the command that has this word
unfoldable pub command_read : Text → Option Command
command_read word = find (λ c. bytes_eq word (command_word c)) commands

-- the line of a command with one number, a lane or a session
abbrev pub of_one_number : Command → ℕ → Option Line
of_one_number command.Take lane = Some (line.Take lane)
of_one_number command.Post lane = None
of_one_number command.Raise lane = Some (line.Raise lane)
of_one_number command.Step lane = None
of_one_number command.Look session = Some (line.Look session)
of_one_number command.Grab session = Some (line.Grab session)
of_one_number command.Read session = Some (line.Read session)
of_one_number command.Query session = Some (line.Query session)
of_one_number command.Split session = Some (line.Split session)
of_one_number command.Halt session = Some (line.Halt session)

-- the line of a command with a lane and a number of items
abbrev pub of_two_numbers : Command → ℕ → ℕ → Option Line
of_two_numbers command.Post lane most = Some (line.Post lane most)
of_two_numbers command.Step lane most = Some (line.Step lane most)
of_two_numbers _ lane most = None

-- a number is one to four digits
abbrev pub short_number : Text → Option ℕ
short_number text = digits_between 1 4 text

-- how many items a post posts at most: 1 to 64
abbrev pub most_of : Text → Option ℕ
most_of text =
    option_and_then (λ m. if nat_le 1 m && nat_le m 64 then Some m else None) (short_number text)

-- the line of a command and its numbers
unfoldable pub line_of_parts : List Text → Option Line
line_of_parts (word ∷ number ∷ []) =
    option_and_then (λ c. option_and_then (of_one_number c) (short_number number)) (command_read word)
line_of_parts (word ∷ lane ∷ most ∷ []) =
    option_and_then
    (λ c. option_and_then (λ k. option_and_then (of_two_numbers c k) (most_of most)) (short_number lane))
    (command_read word)
line_of_parts _ = None

-- the line that a text is: a command and its numbers, parted by one space
abbrev pub line_of : Text → Option Line
line_of text = line_of_parts (parted_at 32 text)
