-- The cfg of the recording two_intervals, and its lines.
use Rattle.std.proofs.Common.{ℕ, pred, List, [], ◌∷◌, ◌++◌, take, drop}
use Rattle.std.specs.Prelude.{codes}
use Rattle.std.specs.List.{flat_map}
use Rattle.pq_words.specs.Text.{Text}

-- each line ended by LF
abbrev pub with_line_ends : List Text → Text
with_line_ends lines = flat_map (λ line. line ++ 10 ∷ []) lines

abbrev pub demo_lines : List Text
demo_lines =
    codes "demo,pqa,1999" ∷ codes "1,1A,0D" ∷ codes "1,UA,A,,V,0.0325,0,0,-32767,32767,1,1,P" ∷ codes "50" ∷
    codes "1"
    ∷ codes "1200,552" ∷ codes "01/03/2024,12:00:01.000000" ∷ codes "01/03/2024,12:00:01.000000" ∷ codes
    "BINARY" ∷ codes "1" ∷ []

abbrev pub demo : Text
demo = with_line_ends demo_lines

-- the same with another line of this number, from 1
abbrev pub demo_with : ℕ → Text → Text
demo_with number line = with_line_ends (take (pred number) demo_lines ++ line ∷ drop number demo_lines)
