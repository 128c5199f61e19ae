-- The answer lines of a schedule, one line after another.
use Rattle.std.proofs.Common.{◌≡◌, ℕ, Bool, true, false, List, [], ◌∷◌, ◌++◌, length, Option, Some, None, refl, sym, ap, ◌∙◌, append_assoc, append-nil}
use Rattle.std.specs.Option.{option_map_or}
use Rattle.chain_core.specs.declared.answer.Answer.{Answer}
use Rattle.chain_core.specs.declared.step.Step.{Step}
use Rattle.chain_core.specs.Core.{Measured, Core}
use Rattle.pq_time.specs.declared.clock.Clock.{Clock}
use Rattle.pq_words.specs.Text.{Text}
use Rattle.pq_replay.specs.AnswerLines.{HasPlayed, answer_line, answer_lines, answers_along, joined}
use Rattle.pq_replay.specs.Schedule.{steps_of}
use Rattle.pq_replay.specs.declared.line.Line.{Line}

-- what follows a line
abbrev pub after_line : Clock → Measured → Line → List Line → Option (List Answer × Core) → List Text
after_line clock m l rest given =
    option_map_or (λ played. answer_line clock l played.0 ∷ answer_lines clock m played.1 rest) given []

pub lines_cons : (clock : Clock) (m : Measured) (c : Core) (l : Line) (rest : List Line) →
    answer_lines clock m c (l ∷ rest)
    ≡ after_line clock m l rest (answers_along m c (steps_of (length m.keys) l))
unfolding answer_lines
lines_cons clock m c l rest = refl

pub lines_none : (clock : Clock) (m : Measured) (c : Core) → answer_lines clock m c [] ≡ []
unfolding answer_lines
lines_none clock m c = refl

split : (clock : Clock) (m : Measured) (c : Core) (l : Line) (left rest : List Line) (text all : Text)
    (given : Option (List Answer × Core)) → left ≡ l ∷ rest →
    answers_along m c (steps_of (length m.keys) l) ≡ given →
    text ++ joined (answer_lines clock m c left) ≡ all
    → text ++ joined (after_line clock m l rest given) ≡ all
split clock m c l left rest text all given splits is before =
    ap (λ g. text ++ joined (after_line clock m l rest g)) (sym is)
    ∙ ap (λ texts. text ++ joined texts) (sym (lines_cons clock m c l rest))
    ∙ ap (λ ls. text ++ joined (answer_lines clock m c ls)) (sym splits) ∙ before

-- a line that is allowed
pub line_more : (clock : Clock) (m : Measured) (c new : Core) (l : Line) (left rest : List Line)
    (text next all : Text) (answers shown : List Answer) → left ≡ l ∷ rest →
    answers_along m c (steps_of (length m.keys) l) ≡ Some (answers, new) → shown ≡ answers →
    next ≡ text ++ answer_line clock l shown → text ++ joined (answer_lines clock m c left) ≡ all →
    next ++ joined (answer_lines clock m new rest) ≡ all
line_more clock m c new l left rest text next all answers shown splits is same grows before =
    let others : Text = joined (answer_lines clock m new rest) in
    let grown : next ≡ text ++ answer_line clock l answers =
    grows ∙ ap (λ xs. text ++ answer_line clock l xs) same in
    ap (λ (xs : Text). xs ++ others) grown ∙ append_assoc text (answer_line clock l answers) others
    ∙ split clock m c l left rest text all (Some (answers, new)) splits is before

-- one that isn't
pub line_stops : (clock : Clock) (m : Measured) (c : Core) (l : Line) (left rest : List Line)
    (text all : Text) → left ≡ l ∷ rest → answers_along m c (steps_of (length m.keys) l) ≡ None →
    text ++ joined (answer_lines clock m c left) ≡ all → text ≡ all
line_stops clock m c l left rest text all splits is before =
    sym (append-nil text) ∙ split clock m c l left rest text all None splits is before

-- no line is left
pub lines_end : (clock : Clock) (m : Measured) (c : Core) (left : List Line) (text all : Text) → left ≡ [] →
    text ++ joined (answer_lines clock m c left) ≡ all → text ≡ all
lines_end clock m c left text all none before =
    sym (append-nil text) ∙ ap (λ texts. text ++ joined texts) (sym (lines_none clock m c))
    ∙ ap (λ ls. text ++ joined (answer_lines clock m c ls)) (sym none) ∙ before

-- what a call told that played the steps of a line
pub played_some : (m : Measured) (c new : Core) (xs ys : List Step) (lanes : ℕ) (l : Line) (allowed : Bool)
    (answers : List Answer) → HasPlayed (answers_along m c xs) allowed answers new → xs ≡ ys →
    ys ≡ steps_of lanes l → lanes ≡ length m.keys → allowed ≡ true →
    answers_along m c (steps_of (length m.keys) l) ≡ Some (answers, new)
played_some m c new xs ys lanes l true answers h first second count is =
    ap (answers_along m c) (sym (first ∙ second ∙ ap (λ n. steps_of n l) count)) ∙ h
played_some m c new xs ys lanes l false answers h first second count is = absurd (let bad : ⊥ = cc in bad)

pub played_none : (m : Measured) (c new : Core) (xs ys : List Step) (lanes : ℕ) (l : Line) (allowed : Bool)
    (answers : List Answer) → HasPlayed (answers_along m c xs) allowed answers new → xs ≡ ys →
    ys ≡ steps_of lanes l → lanes ≡ length m.keys → allowed ≡ false →
    answers_along m c (steps_of (length m.keys) l) ≡ None
played_none m c new xs ys lanes l true answers h first second count is = absurd (let bad : ⊥ = cc in bad)
played_none m c new xs ys lanes l false answers h first second count is =
    ap (answers_along m c) (sym (first ∙ second ∙ ap (λ n. steps_of n l) count)) ∙ h
