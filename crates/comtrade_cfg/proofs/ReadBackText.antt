-- The lines of a canonical text, and the fields of a row.
use Rattle.std.proofs.Common.{◌≡◌, ◌==◌, false, List, [], ◌∷◌, ◌++◌, map, append_assoc, refl, sym, ap, ◌∙◌}
use Rattle.std.specs.List.{list_any, slice_split, AllByRecursion}
use Rattle.std.specs.Str.Lines.{lines, lines_of_parts}
use Rattle.pq_words.specs.Text.{Text, trimmed, parted_at}
use Rattle.cfg_fields.specs.Fields.{fields_of}
use Rattle.comtrade_cfg.specs.Canonical.{row_of}
use Rattle.comtrade_cfg.specs.Canonical.{lines_text}
use Rattle.cfg_fields.proofs.FieldTexts.{IsFree, free_joined, split_free, split_at, lines_parts, IsField, all_trim}

-- the parts between line feeds are the lines with their carriage returns, and nothing
line_parts : (ls : List Text) → AllByRecursion (IsFree 10) ls → slice_split (λ b. b == 10) (lines_text ls)
    ≡ map (λ line. line ++ 13 ∷ []) ls ++ [] ∷ []
line_parts [] h = refl
line_parts (line ∷ ls) h =
    let free : list_any (λ b. b == 10) (line ++ 13 ∷ []) ≡ false = free_joined 10 line (13 ∷ []) h.0 refl in
    ap (slice_split (λ b. b == 10)) (append_assoc line (13 ∷ 10 ∷ []) (lines_text ls)
    ∙ sym (append_assoc line (13 ∷ []) (10 ∷ lines_text ls)))
    ∙ split_at (λ b. b == 10) (line ++ 13 ∷ []) 10 (lines_text ls) free refl
    ∙ ap (λ parts. (line ++ 13 ∷ []) ∷ parts) (line_parts ls h.1)

-- the lines that were ended
pub lines_back : (ls : List Text) → AllByRecursion (IsFree 10) ls → lines (lines_text ls) ≡ ls
lines_back ls h = ap lines_of_parts (line_parts ls h) ∙ lines_parts ls

-- ---- fields

row_parts : (field : Text) (fields : List Text) → AllByRecursion IsField (field ∷ fields) →
    parted_at 44 (row_of (field ∷ fields)) ≡ field ∷ fields
row_parts field [] h = split_free (λ b. b == 44) field h.0.comma
row_parts field (second ∷ fields) h = split_at (λ b. b == 44) field 44 (row_of (second ∷ fields)) h.0.comma
    refl ∙ ap (λ parts. field ∷ parts) (row_parts second fields h.1)

-- the fields of a row
pub fields_back : (field : Text) (fields : List Text) → AllByRecursion IsField (field ∷ fields) →
    fields_of (row_of (field ∷ fields)) ≡ field ∷ fields
fields_back field fields h = ap (map trimmed) (row_parts field fields h) ∙ all_trim (field ∷ fields) h

-- a row holds no line feed
pub row_free : (field : Text) (fields : List Text) → AllByRecursion IsField (field ∷ fields) →
    IsFree 10 (row_of (field ∷ fields))
row_free field [] h = h.0.line_feed
row_free field (second ∷ fields) h = free_joined 10 field (44 ∷ row_of (second ∷ fields)) h.0.line_feed
    (row_free second fields h.1)
