use Rattle.std.proofs.Common.{◌≡◌, ℕ, length, List, [], ◌∷◌, slice_index_or, ℤ, pos, arith, rules, FitsSigned, ◌∙◌, ap}
use Rattle.std.proofs.lemmas.Int.{to_z-of_z}
use Rattle.std.specs.Int.{w16, w32, cast_signed, cast_unsigned, to_le_bytes}
use Rattle.pq_generate.specs.GeneratedRecording.{record_bytes}
use Rattle.pq_generate.proofs.records.record_bytes.Goals as goal

-- the bytes of a count at an index
abbrev bytes_at : List ℤ → ℕ → List ℕ
bytes_at counts k = to_le_bytes w16 (cast_unsigned w16 (slice_index_or counts k (pos 0)))

-- byte after byte
laid_out : (number : ℕ) (counts : List ℤ) (n first second third : List ℕ) → length counts ≡ 3
    → n ≡ to_le_bytes w32 number → first ≡ bytes_at counts 0 → second ≡ bytes_at counts 1
    → third ≡ bytes_at counts 2
    → slice_index_or n 0 0 ∷ slice_index_or n 1 0 ∷ slice_index_or n 2 0 ∷ slice_index_or n 3 0
    ∷ 0 ∷ 0 ∷ 0 ∷ 0 ∷ slice_index_or first 0 0 ∷ slice_index_or first 1 0
    ∷ slice_index_or second 0 0 ∷ slice_index_or second 1 0
    ∷ slice_index_or third 0 0 ∷ slice_index_or third 1 0 ∷ [] ≡ record_bytes number counts
laid_out number [] n first second third three e f g h = absurd (omega (arith, three))
laid_out number (x ∷ []) n first second third three e f g h = absurd (omega (arith, three))
laid_out number (x ∷ y ∷ []) n first second third three e f g h = absurd (omega (arith, three))
laid_out number (x ∷ y ∷ z ∷ []) n first second third three e f g h = λ t.
    slice_index_or (e t) 0 0 ∷ slice_index_or (e t) 1 0 ∷ slice_index_or (e t) 2 0 ∷ slice_index_or (e t) 3 0
    ∷ 0 ∷ 0 ∷ 0 ∷ 0 ∷ slice_index_or (f t) 0 0 ∷ slice_index_or (f t) 1 0
    ∷ slice_index_or (g t) 0 0 ∷ slice_index_or (g t) 1 0
    ∷ slice_index_or (h t) 0 0 ∷ slice_index_or (h t) 1 0 ∷ []
laid_out number (x ∷ y ∷ z ∷ more ∷ rest) n first second third three e f g h = absurd (omega (arith, three))

-- a count comes back from its 16 bits as it was
as_it_was : (bytes : List ℕ) (count : ℤ) → FitsSigned w16 count
    → bytes ≡ to_le_bytes w16 (cast_unsigned w16 (cast_signed w16 (cast_unsigned w16 count)))
    → bytes ≡ to_le_bytes w16 (cast_unsigned w16 count)
as_it_was bytes count fits e = e ∙ ap (λ z. to_le_bytes w16 (cast_unsigned w16 z)) (to_z-of_z w16 count fits)

pub returns : goal.returns
returns c =
    let counts = c.args.counts in
    let three : length counts ≡ 3 = search rules in
    let first : FitsSigned w16 (slice_index_or counts 0 (pos 0)) = search rules in
    let second : FitsSigned w16 (slice_index_or counts 1 (pos 0)) = search rules in
    let third : FitsSigned w16 (slice_index_or counts 2 (pos 0)) = search rules in
    laid_out c.args.number counts c.to_le_bytes-number.result c.to_le_bytes-first.result
    c.to_le_bytes-second.result c.to_le_bytes-third.result three c.to_le_bytes-number.ensures
    (as_it_was c.to_le_bytes-first.result (slice_index_or counts 0 (pos 0)) first c.to_le_bytes-first.ensures)
    (as_it_was c.to_le_bytes-second.result (slice_index_or counts 1 (pos 0)) second
    c.to_le_bytes-second.ensures)
    (as_it_was c.to_le_bytes-third.result (slice_index_or counts 2 (pos 0)) third c.to_le_bytes-third.ensures)
