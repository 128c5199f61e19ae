-- What a simple command makes of words, by the clauses of clap.
use Rattle.std.proofs.Common.{◌≡◌, ◌⊎◌, Bool, true, false, ◌&&◌, List, [], ◌∷◌, inl, inr, Ok, Err, refl, ap, sym, ◌∙◌}
use Rattle.clap.proofs.OnLiterals.{clap_on_literals}
use Rattle.clap.specs.Words.{App, IsAmong, Kinds, Row, fault_of, is_simple, is_simple_and_free, matches_of}
use Rattle.clap.specs.declared.error.kind.ErrorKind.{ErrorKind}
use Rattle.clap.specs.declared.error.kind.ErrorKind.TheVariants as kind
use Rattle.command_words.specs.Simple.{check_app, emit_app, found_unless, generate_app, kind_fault, measuring_app, replay_app, said_by}
use Rattle.command_words.specs.declared.command.WordsFault.TheVariants as fault
use Rattle.pq_words.specs.Text.{Text}

-- ---- the commands are simple, and no option has a rule on another

pub check_is_simple : is_simple_and_free check_app ≡ true
unfolding check_app clap_on_literals
check_is_simple = refl

pub emit_is_simple : is_simple_and_free emit_app ≡ true
unfolding emit_app clap_on_literals
emit_is_simple = refl

pub generate_is_simple : is_simple_and_free generate_app ≡ true
unfolding generate_app clap_on_literals
generate_is_simple = refl

pub measuring_is_simple : is_simple_and_free measuring_app ≡ true
unfolding measuring_app clap_on_literals
measuring_is_simple = refl

pub replay_is_simple : is_simple_and_free replay_app ≡ true
unfolding replay_app measuring_app clap_on_literals
replay_is_simple = refl

left : (a b : Bool) → (a && b) ≡ true → a ≡ true
left true b e = refl
left false b e = cc

pub simple_of : (app : App) → is_simple_and_free app ≡ true → is_simple app ≡ true
simple_of app e = left (is_simple app) _ e

-- ---- the matches, and the error

pub said_ok : (app : App) (words : List Text) (rows : List Row) → fault_of app words ≡ []
    → rows ≡ matches_of app words → said_by app words ≡ Ok rows
unfolding said_by
said_ok app words rows none is =
    ap (λ (kinds : Kinds). found_unless kinds (matches_of app words)) none ∙ ap (λ r. Ok r) (sym is)

among : (kinds : Kinds) (k : ErrorKind) (rows : List Row) → IsAmong k kinds
    → (kind_fault k ≡ fault.OutOfMemory)
    ⊎ (found_unless kinds rows ≡ Err (kind_fault k))
among [] k rows is = absurd is
among (x ∷ xs) kind.OutOfMemory rows is = inl refl
among (x ∷ xs) k rows is = inr refl

pub said_err : (app : App) (words : List Text) (k : ErrorKind)
    → (k ≡ kind.OutOfMemory) ⊎ IsAmong k (fault_of app words)
    → (kind_fault k ≡ fault.OutOfMemory) ⊎ (said_by app words ≡ Err (kind_fault k))
unfolding said_by
said_err app words k (inl memory) = inl (ap kind_fault memory)
said_err app words k (inr is) = among (fault_of app words) k (matches_of app words) is
