-- A text cut at its first line end, and a line at its first comma.
use Rattle.std.proofs.Common.{◌≡◌, ℕ, ◌+◌, ◌-◌, ◌<◌, cond, map, List, [], ◌∷◌, length, take, drop, Some, None, position, ◌==◌, refl, ◌∙◌, ap, arith}
use Rattle.std.specs.Str.Lines.{lines, lines_of_parts, strip_carriage_return}
use Rattle.std.proofs.lemmas.Bool.{ne_eqb}
use Rattle.pq_words.specs.Text.{Text, parted_at, trimmed}
use Rattle.cfg_fields.specs.Fields.{fields_of}
use Rattle.pq_time.proofs.FieldLemmas.{parts_cut, one_part, some_part}

parts_before : (x : Text) (parts : List Text) → 0 < length parts → lines_of_parts (x ∷ parts)
    ≡ strip_carriage_return x ∷ lines_of_parts parts
parts_before x [] l = absurd (omega arith)
parts_before x (y ∷ more) l = refl

-- where a line end is found, the first line is what stands before it, and the others are the lines of what
-- stands after it
pub lines_cut : (text : Text) (i : ℕ) → position (λ b. b == 10) text ≡ Some i
    → lines text ≡ strip_carriage_return (take i text) ∷ lines
    (take (length text - (i + 1)) (drop (i + 1) text))
lines_cut text i e =
    let rest = take (length text - (i + 1)) (drop (i + 1) text) in
    ap lines_of_parts (parts_cut 10 text i e) ∙ parts_before (take i text) (parted_at 10 rest)
    (omega (arith, some_part 10 rest))

-- and where it is not, the text is the one line
pub last_line : (text : Text) → 0 < length text → position (λ b. b == 10) text ≡ None → lines text ≡ text ∷ []
last_line text some e =
    ap lines_of_parts (one_part 10 text e) ∙ ap (λ t. cond t [] (text ∷ []))
    (ne_eqb (length text) 0 (λ z. omega arith))

-- no text has no line
pub no_line : (text : Text) → length text ≡ 0 → lines text ≡ []
no_line [] e = refl
no_line (c ∷ text) e = absurd (omega arith)

-- ---- fields

-- where a comma is found, the first field is what stands before it
pub fields_cut : (text : Text) (i : ℕ) → position (λ b. b == 44) text ≡ Some i
    → fields_of text ≡ trimmed (take i text) ∷ fields_of (take (length text - (i + 1)) (drop (i + 1) text))
fields_cut text i e = ap (λ parts. map trimmed parts) (parts_cut 44 text i e)

-- and where it is not, the text is the one field
pub one_field : (text : Text) → position (λ b. b == 44) text ≡ None → fields_of text ≡ trimmed text ∷ []
one_field text e = ap (λ parts. map trimmed parts) (one_part 44 text e)
