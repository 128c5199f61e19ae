-- What contracts see of a cursor and of a line.
use Rattle.std.specs.Prelude.{Result, map}
use Rattle.std.specs.Str.Lines.{lines}
use Rattle.cfg_fields.specs.declared.cursor.Cursor.{Cursor}
use Rattle.cfg_fields.specs.declared.fault.CfgFault.{CfgFault}
use Rattle.cfg_fields.specs.declared.field_line.FieldLine.{FieldLine}
use Rattle.cfg_fields.specs.Fields.{Ahead, GivesView, LineRule, NumberedFields, Reading, fields_line}

-- what lies ahead of a cursor
abbrev pub cursor_view : Cursor → Ahead
cursor_view c = record { number = c.number; lines = lines c.rest.now }

-- the number and the fields of a line
abbrev pub line_view : FieldLine → NumberedFields
line_view l = record { number = l.number; fields = map (λ field. field.now) l.fields.items }

-- what a rule says of a line
abbrev pub read_by : {A : Type 0} → LineRule A → FieldLine → Result A CfgFault
read_by rule l = rule (line_view l).number (line_view l).fields

-- a cursor before, and after it was read from: a value, seen by a view, or the first fault, or there was no
-- memory
abbrev pub Takes : {X Y : Type 0} → (X → Y) → Cursor → Cursor → Result X CfgFault → (Ahead → Reading Y)
    → Type 0
Takes view before after result reading =
    GivesView (λ x. (view x, cursor_view after)) result (reading (cursor_view before))

-- the same of the next line
abbrev pub TakesLine : Cursor → Cursor → Result FieldLine CfgFault → Type 0
TakesLine before after result = Takes line_view before after result fields_line
