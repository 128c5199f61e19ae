-- Pieces of answer lines.
use Rattle.std.proofs.Common.{◌≡◌, ℕ, ◌+◌, [], ◌∷◌, ◌++◌, length, take, length-append, arith, sym, ap, ◌∙◌}
use Rattle.std.proofs.Math.Seq.{take-append_seam}
use Rattle.pq_words.specs.Text.{Text}

-- what stands before the last byte
pub front_is : (row rest words : Text) (x : ℕ) → row ≡ rest ++ x ∷ [] → length rest + 1 ≡ length row →
    row ≡ words ++ 10 ∷ [] → rest ≡ words
front_is row rest words x parts count is =
    let one : Text = 10 ∷ [] in
    let all : length row ≡ length words + 1 = ap length is ∙ length-append words one in
    let same : length rest ≡ length words = omega (arith, count, all) in
    sym (take-append_seam rest (x ∷ []))
    ∙ ap (λ (xs : Text). take (length rest) xs) (sym parts ∙ is)
    ∙ ap (λ n. take n (words ++ one)) same ∙ take-append_seam words one
