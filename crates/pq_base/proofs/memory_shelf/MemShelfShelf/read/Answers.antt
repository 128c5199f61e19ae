use Rattle.std.proofs.Common.{rules, ap, sym, ◌∙◌}
use Rattle.pq_base.proofs.FileIndices.{read_piece}
use Rattle.pq_base.proofs.memory_shelf.MemShelfShelf.read.Goals as goal

-- the rest was what stands after the part that was read, and loses this piece
pub returns-clause-bytes : goal.returns-clause-bytes
returns-clause-bytes c =
    let it = c.self.inside in
    let given =
    read_piece it.done c.min-done.result c.copy_piece-count.result it.piece _ _ c.content-bytes.result.now
    c.copy_piece-count.new.into
    (search rules) c.min-done.ensures (search rules) c.copy_piece-count.ensures.bytes c.self.invariant in
    (sym (ap (λ r. r.rest) c.self.view_is) ∙ given.0, given.1)
