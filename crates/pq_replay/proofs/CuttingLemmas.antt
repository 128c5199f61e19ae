-- Texts cut into lines, and lines cut at spaces.
use Rattle.std.proofs.Common.{◌≡◌, ◌≤◌, List, [], ◌∷◌, length, None, refl, ◌∙◌, ap, arith}
use Rattle.std.specs.Str.Lines.{lines, lines_of_parts, strip_carriage_return}
use Rattle.pq_time.proofs.FieldLemmas.{some_part}
use Rattle.pq_words.specs.Text.{Text, parted_at}
use Rattle.pq_replay.specs.LineGrammar.{line_of, line_of_parts}

-- a part before others is a line without its carriage return
more_parts : (line : Text) (parts : List Text) → 1 ≤ length parts →
    lines_of_parts (line ∷ parts) ≡ strip_carriage_return line ∷ lines_of_parts parts
more_parts line [] some = absurd (omega (arith, some))
more_parts line (next ∷ parts) some = refl

-- the first line of a text, and the lines of what stands behind it
pub lines_cut : (text line rest stripped : Text) → parted_at 10 text ≡ line ∷ parted_at 10 rest → stripped
    ≡ strip_carriage_return line → lines text ≡ stripped ∷ lines rest
lines_cut text line rest stripped parts strip =
    ap lines_of_parts parts ∙ more_parts line (parted_at 10 rest) (some_part 10 rest)
    ∙ ap (λ (l : Text). l ∷ lines rest) (let e : strip_carriage_return line ≡ stripped = cc in e)

-- a word alone is no line
pub one_word : (text : Text) → parted_at 32 text ≡ text ∷ [] → line_of text ≡ None
unfolding line_of_parts
one_word text parts = ap line_of_parts parts

many_parts : (word first second : Text) (parts : List Text) → 1 ≤ length parts →
    line_of_parts (word ∷ first ∷ second ∷ parts) ≡ None
unfolding line_of_parts
many_parts word first second [] some = absurd (omega (arith, some))
many_parts word first second (third ∷ parts) some = refl

-- a word with three numbers or more is no line
pub three_numbers : (text word numbers first others second third : Text) → parted_at 32 text
    ≡ word ∷ parted_at 32 numbers → parted_at 32 numbers ≡ first ∷ parted_at 32 others → parted_at 32 others
    ≡ second ∷ parted_at 32 third → line_of text ≡ None
three_numbers text word numbers first others second third parts one two =
    ap line_of_parts parts ∙ ap (λ (ps : List Text). line_of_parts (word ∷ ps)) one
    ∙ ap (λ (ps : List Text). line_of_parts (word ∷ first ∷ ps)) two
    ∙ many_parts word first second (parted_at 32 third) (some_part 32 third)
