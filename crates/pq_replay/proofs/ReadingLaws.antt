-- The lines of a schedule, one after another.
use Rattle.std.proofs.Common.{◌≡◌, ℕ, ◌+◌, List, [], ◌∷◌, ◌++◌, Option, Some, None, Result, Ok, Err, IsErrAnd, inr, refl, sym, ap, ◌∙◌, append_assoc}
use Rattle.std.proofs.lemmas.List.{append-nil}
use Rattle.std.specs.Option.{ok_or}
use Rattle.std.specs.Str.Lines.{lines}
use Rattle.std.specs.declared.alloc.Global.{Global}
use Rattle.std.specs.declared.vec.Vec.{Vec}
use Rattle.chain_core.specs.Phases.{Phases}
use Rattle.pq_words.specs.FirstFault.{◌>>=◌}
use Rattle.pq_words.specs.Text.{Text}
use Rattle.pq_replay.specs.LineGrammar.{line_of}
use Rattle.pq_replay.specs.Schedule.{GivesLines, line_passed, line_read, lines_from, phases_after_steps, steps_of}
use Rattle.pq_replay.specs.declared.fault.ScheduleFault.{ScheduleFault}
use Rattle.pq_replay.specs.declared.fault.ScheduleFault.TheVariants as fault
use Rattle.pq_replay.specs.declared.line.Line.{Line}

-- lines put before those that are read after them
abbrev pub after_lines : List Line → Result (List Line) ScheduleFault → Result (List Line) ScheduleFault
after_lines front (Ok others) = Ok (front ++ others)
after_lines front (Err e) = Err e

one_more : (front : List Line) (l : Line) (r : Result (List Line) ScheduleFault) →
    after_lines front (r >>= λ others. Ok (l ∷ others)) ≡ after_lines (front ++ l ∷ []) r
one_more front l (Ok others) = ap Ok (sym (append_assoc front (l ∷ []) others))
one_more front l (Err e) = refl

-- what follows a line that was passed, and one that was read
abbrev pub after_passed : ℕ → ℕ → List Text → Line → Result Phases ScheduleFault →
    Result (List Line) ScheduleFault
after_passed lanes n texts l passed =
    passed >>= λ next. lines_from lanes next (n + 1) texts >>= λ others. Ok (l ∷ others)

abbrev pub after_read : ℕ → Phases → ℕ → List Text → Result Line ScheduleFault →
    Result (List Line) ScheduleFault
after_read lanes p n texts read = read >>= λ l. after_passed lanes n texts l (line_passed lanes n p l)

pub lines_cons : (lanes : ℕ) (p : Phases) (n : ℕ) (text : Text) (texts : List Text) →
    lines_from lanes p n (text ∷ texts) ≡ after_read lanes p n texts (line_read n (line_of text))
unfolding lines_from
lines_cons lanes p n text texts = refl

split : (lanes : ℕ) (p : Phases) (n : ℕ) (rest text after : Text) (front : List Line)
    (read : Result Line ScheduleFault)
    → lines rest ≡ text ∷ lines after → line_read n (line_of text) ≡ read →
    after_lines front (lines_from lanes p n (lines rest))
    ≡ after_lines front (after_read lanes p n (lines after) read)
split lanes p n rest text after front read parts is =
    ap (after_lines front) (ap (lines_from lanes p n) parts ∙ lines_cons lanes p n text (lines after)
    ∙ ap (after_read lanes p n (lines after)) is)

-- a line outside the grammar
pub line_fault : (lanes : ℕ) (p : Phases) (n : ℕ) (rest text after : Text) (front : List Line)
    (e : ScheduleFault) →
    lines rest ≡ text ∷ lines after → line_read n (line_of text) ≡ Err e →
    after_lines front (lines_from lanes p n (lines rest)) ≡ Err e
line_fault lanes p n rest text after front e parts is = split lanes p n rest text after front (Err e) parts is

passed : (lanes : ℕ) (p : Phases) (n : ℕ) (rest text after : Text) (front : List Line) (l : Line)
    (given : Option Phases)
    → lines rest ≡ text ∷ lines after → line_read n (line_of text) ≡ Ok l →
    phases_after_steps p (steps_of lanes l) ≡ given →
    after_lines front (lines_from lanes p n (lines rest))
    ≡ after_lines front (after_passed lanes n (lines after) l (ok_or given (fault.Line n)))
passed lanes p n rest text after front l given parts is next =
    split lanes p n rest text after front (Ok l) parts is
    ∙ ap (λ g. after_lines front (after_passed lanes n (lines after) l (ok_or g (fault.Line n)))) next

-- a line that isn't allowed
pub not_allowed : (lanes : ℕ) (p : Phases) (n : ℕ) (rest text after : Text) (front : List Line) (l : Line) →
    lines rest ≡ text ∷ lines after → line_read n (line_of text) ≡ Ok l →
    phases_after_steps p (steps_of lanes l) ≡ None →
    after_lines front (lines_from lanes p n (lines rest)) ≡ Err (fault.Line n)
not_allowed lanes p n rest text after front l parts is next =
    passed lanes p n rest text after front l None parts is next

-- a line that is
pub one_line : (lanes : ℕ) (p next : Phases) (n : ℕ) (rest text after : Text) (front : List Line) (l : Line) →
    lines rest ≡ text ∷ lines after → line_read n (line_of text) ≡ Ok l →
    phases_after_steps p (steps_of lanes l) ≡ Some next →
    after_lines front (lines_from lanes p n (lines rest))
    ≡ after_lines (front ++ l ∷ []) (lines_from lanes next (n + 1) (lines after))
one_line lanes p next n rest text after front l parts is allowed =
    passed lanes p n rest text after front l (Some next) parts is allowed
    ∙ one_more front l (lines_from lanes next (n + 1) (lines after))

-- no line is left
pub no_line : (lanes : ℕ) (p : Phases) (n : ℕ) (rest : Text) (front : List Line) → lines rest ≡ [] →
    after_lines front (lines_from lanes p n (lines rest)) ≡ Ok front
unfolding lines_from
no_line lanes p n rest front none =
    ap (λ texts. after_lines front (lines_from lanes p n texts)) none ∙ ap Ok (append-nil front)

pub no_lines : (r : Result (List Line) ScheduleFault) → after_lines [] r ≡ r
no_lines (Ok others) = refl
no_lines (Err e) = refl

-- a fault that was passed on
pub fault_given : (r : Result (Vec Line Global) ScheduleFault) (e : ScheduleFault) (read : Result (List Line)
    ScheduleFault) → IsErrAnd r (λ x. x ≡ e) → read ≡ Err e → GivesLines r read
fault_given (Ok v) e read is found = absurd is
fault_given (Err x) e read is found = inr (found ∙ ap Err (sym is))
