-- The subject: the words after a command's name, as one simple command of clap. Its own public definitions
-- say which words such a command takes, and what it finds in them (profile).
use Rattle.std.specs.Prelude.{List, [], ◌∷◌, Some, true, Result, Ok, Err, codes}
use Rattle.clap.specs.Words.{App, Kinds, Row, Rule, fault_of, found_of, matches_of, new_app, new_rule, rows_of, with_rule}
use Rattle.clap.specs.declared.builder.action.ArgAction.TheVariants.{Set}
use Rattle.clap.specs.declared.error.kind.ErrorKind.{ErrorKind}
use Rattle.clap.specs.declared.error.kind.ErrorKind.TheVariants as kind
use Rattle.clap.specs.declared.parser.matches.ArgMatches.{ArgMatches}
use Rattle.command_words.specs.declared.command.WordsFault.{WordsFault}
use Rattle.command_words.specs.declared.command.WordsFault.TheVariants as fault
use Rattle.pq_words.specs.Text.{Text}

-- no option and no positional, and neither help nor version
abbrev pub bare_app : App
bare_app = record (new_app (codes "pqa")) {
  top = record (new_app (codes "pqa")).top {
    no_binary_name = true;
    disable_help_flag = true;
    disable_version_flag = true;
  };
}

-- an option with one value
abbrev pub option_rule : Text → Rule
option_rule name = record (new_rule name) { long = Some name; action = Some Set }

abbrev pub required : Rule → Rule
required rule = record rule { required = true }

abbrev pub positional_rule : Text → Rule
positional_rule name = record (new_rule name) { required = true; action = Some Set }

-- `CFG`
unfoldable pub check_app : App
check_app = with_rule bare_app (positional_rule (codes "cfg"))

-- `PART K`
unfoldable pub emit_app : App
emit_app = with_rule (with_rule bare_app (positional_rule (codes "part"))) (positional_rule (codes "seed"))

-- `K`
unfoldable pub generate_app : App
generate_app = with_rule bare_app (positional_rule (codes "seed"))

-- options, of which the declared voltage is required, and `CFG DAT`
unfoldable pub measuring_app : App
measuring_app =
    with_rule (with_rule (with_rule (with_rule (with_rule (with_rule (with_rule (with_rule (with_rule bare_app
    (required (option_rule (codes "udin")))) (option_rule (codes "channels"))) (option_rule
    (codes "reference")))
    (option_rule (codes "dip"))) (option_rule (codes "swell"))) (option_rule (codes "interruption")))
    (option_rule (codes "hysteresis"))) (positional_rule (codes "cfg"))) (positional_rule (codes "dat"))

-- the same, and `SCHEDULE` behind them
unfoldable pub replay_app : App
replay_app = with_rule measuring_app (positional_rule (codes "schedule"))

-- what was found, where no kind of error can come
abbrev pub found_unless : Kinds → List Row → Result (List Row) WordsFault
found_unless [] rows = Ok rows
found_unless (k ∷ kinds) rows = Err fault.NotUnderstood

-- what was found, as it is held
abbrev pub rows_found : ArgMatches → List Row
rows_found matches = rows_of (found_of matches)

-- what such a command finds in the words, where it takes them
unfoldable pub said_by : App → List Text → Result (List Row) WordsFault
said_by app words = found_unless (fault_of app words) (matches_of app words)

-- how its error is answered
abbrev pub kind_fault : ErrorKind → WordsFault
kind_fault kind.OutOfMemory = fault.OutOfMemory
kind_fault _ = fault.NotUnderstood
