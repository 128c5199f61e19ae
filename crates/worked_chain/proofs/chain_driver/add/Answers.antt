use Rattle.std.proofs.Common.{All, sym, subst}
use Rattle.std.proofs.lemmas.List.Elements.{All-push}
use Rattle.worked_chain.specs.Drivers.{IsSessionDriverOf}
use Rattle.worked_chain.proofs.chain_driver.add.Goals as goal

-- a session more
pub returns : goal.returns
returns c =
    let of_chain = IsSessionDriverOf c.args.chain.now in
    subst (All of_chain) (sym c.in_ok-push.ensures.items)
    (All-push of_chain _ _ c.requires.all c.requires.other)
