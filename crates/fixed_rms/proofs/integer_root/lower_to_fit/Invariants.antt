use Rattle.fixed_rms.proofs.integer_root.lower_to_fit.Given as goal

abbrev pub decreases-loop-root : goal.decreases-loop-root
decreases-loop-root l = l.root
