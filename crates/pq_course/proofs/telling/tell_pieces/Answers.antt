use Rattle.std.proofs.Common.{◌≡◌, ◌∙◌, ◌+◌, ◌++◌, List, ℕ, [], drop, take, inr, sym, ap, Bor}
use Rattle.std.specs.List.{flat_map}
use Rattle.pq_course.proofs.PartLemmas.{cut_at, cut_off_after}
use Rattle.pq_words.specs.Text.{Text}
use Rattle.pq_course.proofs.telling.tell_pieces.Goals as goal

-- a piece was cut off
pub returns-in-Err : goal.returns-in-Err
returns-in-Err g c =
    let bytes : Bor (List ℕ) → Text = λ p. p.now in
    let pieces = c.args.pieces.now in
    let index = c.loop-piece.piece-index in
    let none : Bor (List ℕ) = record { ref_ptr = (0, 0); now = [] } in
    let done : Text = flat_map bytes (take index pieces) in
    let rest : Text = flat_map bytes (drop (index + 1) pieces) in
    let piece : Text = c.as_bytes.result.now in
    let whole : flat_map bytes pieces ≡ done ++ (piece ++ rest) =
    cut_at bytes pieces index none c.loop-piece-test.true
    ∙ ap (λ t. done ++ (t ++ rest)) (sym c.as_bytes.ensures.value) in
    inr (cut_off_after g.E.Sink c.args.err.now c.loop-piece.err c.write_all.new.out done piece rest
    (flat_map bytes pieces) c.loop-piece.invariant c.in-Err.ensures.err c.in-Err.ensures.cause.failed
    c.in-Err.ensures.counted whole)
