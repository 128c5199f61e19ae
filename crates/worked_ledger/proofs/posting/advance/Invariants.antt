use Rattle.worked_ledger.proofs.posting.advance.Given as goal

abbrev pub ghosts-advance_to : goal.ghosts-advance_to
ghosts-advance_to a = record { name = a.blank.name; parts = a.blank.parts }
