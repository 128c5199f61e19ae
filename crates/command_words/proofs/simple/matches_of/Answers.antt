use Rattle.std.proofs.Common.{◌≡◌, ◌⊎◌, ◌∙◌, Err, ap, subst, sym}
use Rattle.clap.specs.Words.{app_of, found_of, kind_of, rows_of}
use Rattle.command_words.proofs.SimpleLemmas.{said_err, said_ok, simple_of}
use Rattle.command_words.specs.Commands.{words_view}
use Rattle.command_words.specs.Simple.{kind_fault, said_by}
use Rattle.command_words.specs.declared.command.WordsFault.{WordsFault}
use Rattle.command_words.specs.declared.command.WordsFault.TheVariants as fault
use Rattle.command_words.proofs.simple.matches_of.Goals as goal

-- the words are taken
pub returns-in-Ok : goal.returns-in-Ok
returns-in-Ok c =
    said_ok (app_of c.args.command) (words_view c.args.words.now) (rows_of (found_of c.in-Ok.matches))
    (c.in-Ok.ensures.kinds c.requires)
    (c.in-Ok.ensures.matches (simple_of (app_of c.args.command) c.requires)).0

-- they are not, or there is no memory
pub returns-in-Err : goal.returns-in-Err
returns-in-Err c =
    let said = said_by (app_of c.args.command) (words_view c.args.words.now) in
    subst (λ (f : WordsFault). (f ≡ fault.OutOfMemory) ⊎ (said ≡ Err f))
    (sym (c.kind_fault.ensures ∙ ap kind_fault c.kind.ensures))
    (said_err (app_of c.args.command) (words_view c.args.words.now) (kind_of c.in-Err.why)
    (c.in-Err.ensures.kinds c.requires))
