-- Runs one after another, and the numbers at whole lengths after a number.
use Rattle.std.proofs.Common.{◌≡◌, ℕ, ◌+◌, ◌*◌, List, [], ◌∷◌, ◌++◌, sym, ◌∙◌, ap, append_assoc}
use Rattle.std.proofs.lemmas.List.{append-nil}
use Rattle.ten_twelve.specs.declared.span.Span.{Span}
use Rattle.ten_twelve.specs.Run.{run_from, runs_after}
use Rattle.pq_words.specs.Steps.{numbers_from}
use Rattle.pq_words.proofs.StepLaws.{map_below_push}

-- before the first run
pub no_runs : (spans : List Span) (m g : ℕ) → spans ≡ spans ++ runs_after m g 0
unfolding runs_after numbers_from
no_runs spans m g = sym (append-nil spans)

-- one run more
pub one_run : (old now : List Span) (m g k start end : ℕ) → now ≡ old ++ runs_after m g k → start ≡ g + k * m
    → end ≡ start + m → now ++ record { start = start; end = end } ∷ [] ≡ old ++ runs_after m g (k + 1)
unfolding runs_after
one_run old now m g k start end is begins ends =
    ap (λ xs. xs ++ record { start = start; end = end } ∷ []) is
    ∙ append_assoc old (runs_after m g k) (record { start = start; end = end } ∷ [])
    ∙ ap (λ e. old ++ (runs_after m g k ++ record { start = start; end = e } ∷ [])) ends
    ∙ ap (λ s. old ++ (runs_after m g k ++ run_from m s ∷ [])) begins
    ∙ ap (λ xs. old ++ xs) (sym (map_below_push (λ k. run_from m (g + k * m)) k))
