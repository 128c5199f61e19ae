use Rattle.interval_ledger.proofs.tests.windows_are_posted.Given as goal

-- the steps are counted on a book of this call's own
abbrev pub ghosts-advance_to_zero : goal.ghosts-advance_to_zero
ghosts-advance_to_zero g a = record { name = a.blank.name; parts = a.blank.parts }
