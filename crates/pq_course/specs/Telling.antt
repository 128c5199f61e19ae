-- The subject: the line that is told of a status (profile).
use Rattle.std.specs.Prelude.{◌⊎◌, [], ◌++◌, codes}
use Rattle.pq_course.specs.Parts.{IsCutOff, IsWhole}
use Rattle.pq_course.specs.TopCall.{Writing}
use Rattle.pq_words.specs.Text.{Text}
use Rattle.status_text.specs.StatusText.{sentence_of}
use Rattle.status_text.specs.declared.status.Status.{Status}
use Rattle.status_text.specs.declared.status.Status.TheVariants as status

-- the line that is told of a status: its sentence and a line end; nothing where all is done
abbrev pub line_of : Status → Text
line_of status.Done = []
line_of s = sentence_of s ++ codes "\n"

-- the line was told, or a front of it where a write of it failed
abbrev pub IsTold : Text → Writing → Type 0
IsTold line w = IsWhole w line ⊎ IsCutOff w line w.after
