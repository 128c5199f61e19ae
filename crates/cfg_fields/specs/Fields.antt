-- The lines and fields of a cfg, and one rule for each kind of field (C37.111, configuration file;
-- leniencies: profile).
use Rattle.std.specs.Prelude.{ℕ, ◌+◌, ◌-◌, ◌*◌, ◌^◌, Bool, not, ◌&&◌, ◌||◌, ◌==◌, nat_le, nat_lt, if◌then◌else◌, List, [], ◌∷◌, length, map, take, slice_index, ℤ, pos, negsuc, Option, Some, None, option_map, Result, Ok, Err, codes}
use Rattle.std.specs.Option.{ok_or}
use Rattle.std.specs.List.{list_any}
use Rattle.std.specs.Char.{digit_value}
use Rattle.std.specs.Str.{str_eq_ignore_ascii_case}
use Rattle.std.specs.Str.Lines.{lines}
use Rattle.pq_words.specs.declared.limits.TheConstants.{LEAST_SAMPLES_IN_CYCLE, MOST_RATE, MOST_SAMPLES}
use Rattle.pq_words.specs.Text.{Text, trimmed, parted_at, number, is_all_blank}
use Rattle.pq_words.specs.FirstFault.{◌>>=◌, provided, GivesUnless}
use Rattle.pq_base.specs.declared.decimal.Scaled.{Scaled}
use Rattle.pq_base.specs.Decimal.{decimal_of, shifted}
use Rattle.pq_time.specs.declared.bad_moment.BadMoment.{BadMoment}
use Rattle.pq_time.specs.declared.bad_moment.BadMoment.TheVariants as bad
use Rattle.pq_time.specs.Written.{code_of}
use Rattle.cfg_fields.specs.declared.limits.TheConstants.{MOST_CHANNELS}
use Rattle.cfg_fields.specs.declared.fault.CfgFault.{CfgFault}
use Rattle.cfg_fields.specs.declared.fault.CfgFault.TheVariants as fault
use Rattle.cfg_fields.specs.declared.fault.Quantity.{Quantity}
use Rattle.cfg_fields.specs.declared.fault.Quantity.TheVariants as quantity
use Rattle.cfg_fields.specs.declared.fault.Unsupported.TheVariants as unsupported

-- what reading a part of a cfg may answer: the value, the first fault, or want of memory
abbrev pub Gives : {X : Type 0} → Result X CfgFault → Result X CfgFault → Type 0
Gives result read = GivesUnless fault.OutOfMemory (λ x. x) result read

-- the same of a value that is seen by a view
abbrev pub GivesView : {X Y : Type 0} → (X → Y) → Result X CfgFault → Result Y CfgFault → Type 0
GivesView view result read = GivesUnless fault.OutOfMemory view result read

-- the line at which a fault is, from 1; 0 where it is at none
abbrev pub line_of_fault : CfgFault → ℕ
line_of_fault (fault.Line number) = number
line_of_fault (fault.Field line field) = line
line_of_fault (fault.Unsupported what line) = line
line_of_fault (fault.Limit what line) = line
line_of_fault fault.OutOfMemory = 0

-- what lies ahead in a cfg: the number of the next line, from 1, and the lines from there on
pub record Ahead : Type 0 where
  pub number : ℕ
  pub lines : List Text

-- the whole text: lines end with LF or CR LF, and the end of the text after a line end begins no line
abbrev pub ahead_of : Text → Ahead
ahead_of text = record { number = 1; lines = lines text }

-- the fields of a line: parted by commas, without blanks at both ends
abbrev pub fields_of : Text → List Text
fields_of line = map trimmed (parted_at 44 line)

-- a rule for one line: its number, its fields
abbrev pub LineRule : Type 0 → Type 0
LineRule A = ℕ → List Text → Result A CfgFault

-- what reading gives from some line on: a value and what then lies ahead
abbrev pub Reading : Type 0 → Type 0
Reading A = Result (A × Ahead) CfgFault

-- the next line and what lies ahead after it, or the fault that it is missing
abbrev pub line_of : ℕ → List Text → Reading Text
line_of number [] = Err (fault.Line number)
line_of number (line ∷ lines) = Ok (line, record { number = number + 1; lines = lines })

-- the same of what lies ahead
abbrev pub next_line : Ahead → Reading Text
next_line ahead = line_of ahead.number ahead.lines

-- a line by its number, from 1, and its fields
pub record NumberedFields : Type 0 where
  pub number : ℕ
  pub fields : List Text

-- the next line by its number and its fields
abbrev pub fields_line : Ahead → Reading NumberedFields
fields_line ahead = do
  line ← next_line ahead
  Ok (record { number = ahead.number; fields = fields_of line.0 }, line.1)

-- the next line by its rule
abbrev pub on_line : {A : Type 0} → LineRule A → Ahead → Reading A
on_line rule ahead = do
  line ← fields_line ahead
  x ← rule line.0.number line.0.fields
  Ok (x, line.1)

-- after the last line stand lines that hold nothing but blanks, or else the first other one is a fault
abbrev pub only_blank_lines : ℕ → List Text → Result (Unit {0}) CfgFault
only_blank_lines number [] = Ok tt
only_blank_lines number (line ∷ lines) =
    if is_all_blank line then only_blank_lines (number + 1) lines else Err (fault.Line number)

-- ---- one field of a line, by its number from 1

-- the value, or the fault that the field isn't readable
abbrev pub field_or_fault : {A : Type 0} → ℕ → ℕ → Option A → Result A CfgFault
field_or_fault line field value = ok_or value (fault.Field line field)

-- a text holds no CR
unfoldable pub text_field : ℕ → ℕ → Text → Result Text CfgFault
text_field line field text = provided (not (list_any (λ c. c == 13) text)) (fault.Field line field) text

-- a Number
unfoldable pub number_field : ℕ → ℕ → Text → Result ℕ CfgFault
number_field line field text = field_or_fault line field (number text)

-- a Number that is the position of its line among its kind, from 1
unfoldable pub position_field : ℕ → ℕ → ℕ → Text → Result ℕ CfgFault
position_field position line field text = do
  n ← number_field line field text
  provided (n == position) (fault.Field line field) n

-- a Decimal
unfoldable pub decimal_field : ℕ → ℕ → Text → Result Scaled CfgFault
decimal_field line field text = field_or_fault line field (decimal_of text)

-- a Decimal that keeps its spelling
unfoldable pub decimal_text : ℕ → ℕ → Text → Result Text CfgFault
decimal_text line field text = do
  x ← decimal_field line field text
  Ok text

-- a Number followed by a letter, which is given as capital and may be small
abbrev pub lettered : ℕ → Text → Option ℕ
lettered capital text =
    let last = slice_index text (length text - 1) in
    if (last == capital) || (last == capital + 32) then number (take (length text - 1) text) else None

-- a number of channels with its letter, at most so many
unfoldable pub channel_count : ℕ → Quantity → ℕ → ℕ → Text → Result ℕ CfgFault
channel_count capital what line field text = do
  n ← field_or_fault line field (lettered capital text)
  provided (nat_le n MOST_CHANNELS) (fault.Limit what line) n

-- fifty or sixty hertz from whole microhertz
abbrev pub frequency_of : ℤ → Option ℕ
frequency_of (pos n) = if n == 50000000 then Some 50 else (if n == 60000000 then Some 60 else None)
frequency_of (negsuc n) = None

-- a Decimal that is 50 or 60, rounded to millionths
unfoldable pub frequency_field : ℕ → ℕ → Text → Result ℕ CfgFault
frequency_field line field text = do
  x ← decimal_field line field text
  ok_or (frequency_of (shifted x 6)) (fault.Unsupported unsupported.Frequency line)

-- a rate in microhertz is within the limits, which go by the line frequency
abbrev pub is_rate : ℕ → ℕ → Bool
is_rate lf rate = nat_le (LEAST_SAMPLES_IN_CYCLE * lf * 10 ^ 6) rate && nat_le rate MOST_RATE

-- a rate in whole microhertz, where it is within the limits
abbrev pub rate_of : ℕ → ℤ → Option ℕ
rate_of lf (pos n) = if is_rate lf n then Some n else None
rate_of lf (negsuc n) = None

-- a Decimal in hertz, rounded to microhertz, within the limits
unfoldable pub rate_field : ℕ → ℕ → ℕ → Text → Result ℕ CfgFault
rate_field lf line field text = do
  x ← decimal_field line field text
  ok_or (rate_of lf (shifted x 6)) (fault.Limit quantity.Rate line)

-- a Number of samples within the limit
unfoldable pub samples_field : ℕ → ℕ → Text → Result ℕ CfgFault
samples_field line field text = do
  n ← number_field line field text
  provided (nat_le n MOST_SAMPLES) (fault.Limit quantity.Samples line) n

-- the field that isn't readable: the date is field 1, the time field 2
abbrev pub moment_fields : ℕ → Result ℤ BadMoment → Result ℤ CfgFault
moment_fields line (Ok moment) = Ok moment
moment_fields line (Err bad.Date) = Err (fault.Field line 1)
moment_fields line (Err bad.Time) = Err (fault.Field line 2)

-- one hexadecimal digit
abbrev pub hexadecimal : Text → Option ℕ
hexadecimal (c ∷ []) = if nat_lt (digit_value c) 16 then Some (digit_value c) else None
hexadecimal _ = None

-- one digit from 0 to 3
abbrev pub leap_digit : Text → Option ℕ
leap_digit (c ∷ []) = if nat_lt (digit_value c) 4 then Some (digit_value c) else None
leap_digit _ = None

-- a recording that announces a leap second, by 1 or 2, is unsupported
unfoldable pub leap_field : ℕ → ℕ → Text → Result ℕ CfgFault
leap_field line field text = do
  leap ← field_or_fault line field (leap_digit text)
  provided ((leap == 0) || (leap == 3)) (fault.Unsupported unsupported.LeapSecond line) leap

-- a Time code, or `x`, which says that there is none
abbrev pub local_code_of : Text → Option (Option ℤ)
local_code_of text = if str_eq_ignore_ascii_case text (codes "x") then Some None else option_map
    (λ code. Some code) (code_of text)
