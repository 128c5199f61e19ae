use Rattle.std.proofs.Common.{◌≡◌, map, rules, subst, sym}
use Rattle.std.proofs.lemmas.Iterator.{YieldsList-from_slice}
use Rattle.std.proofs.lemmas.Iterator.Search.{position_from_yields_List}
use Rattle.std.specs.List.{position}
use Rattle.pq_base.proofs.FileIndices.{index_of_name}
use Rattle.pq_base.specs.FileIndex.{IsIndexOf, has_name}
use Rattle.pq_base.specs.MemoryShelf.{file_view}
use Rattle.pq_base.proofs.memory_shelf.index_of.Goals as goal
use borrow.Author.Tests.{tests}

-- `position` gives the first file that has the name
pub returns : goal.returns
returns c =
    let files = c.args.files.now in
    let name = c.args.name.now in
    let is : c.position.result ≡ position (has_name name) files =
    position_from_yields_List (has_name name) _ _ c.position.result c.position.ensures.ran
    (YieldsList-from_slice _ c.iter.ensures.rest) (λ x b q k. search (rules, tests)) in
    subst (IsIndexOf (map file_view files) name) (sym is) (index_of_name files name)
