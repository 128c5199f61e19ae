-- The lines of a summary, one after another.
use Rattle.std.proofs.Common.{◌≡◌, ℕ, ◌+◌, ◌<◌, List, [], ◌∷◌, ◌++◌, codes, map, take, get_or, sym, ap, ◌∙◌, append_assoc}
use Rattle.std.proofs.lemmas.List.{append-nil, get_or-map, map_more}
use Rattle.std.proofs.lemmas.List.Concat.{flat_map-append}
use Rattle.std.specs.List.{flat_map}
use Rattle.pq_items.specs.declared.item.Item.{Item}
use Rattle.pq_report.specs.ReportReading.{kinds}
use Rattle.pq_report.specs.Summary.{fold_of, kind_line, kind_words, line_of, marked_of, named, number_of, summary_text, tally_of}
use Rattle.pq_report.specs.declared.kind.ItemKind.{ItemKind}
use Rattle.pq_report.specs.declared.kind.ItemKind.TheVariants as kind
use Rattle.pq_report.specs.declared.result_summary.Tally.{Tally}
use Rattle.pq_words.specs.Text.{Text}

-- one more line
lines_push : (lines : List (List Text)) (line : List Text) →
    flat_map line_of (lines ++ line ∷ []) ≡ flat_map line_of lines ++ line_of line
lines_push lines line = flat_map-append line_of lines (line ∷ [])
    ∙ ap (λ t. flat_map line_of lines ++ t) (append-nil (line_of line))

-- the line of the kind at a rank, by what is counted
line_at : (items : List Item) (t : Tally) (rank : ℕ) → rank < 8 → t ≡ tally_of items →
    kind_words (get_or kinds rank kind.Frequency) (get_or t.numbers rank 0) (get_or t.marked rank 0)
    ≡ kind_line items (get_or kinds rank kind.Frequency)
line_at items t rank inside is =
    let k : ItemKind = get_or kinds rank kind.Frequency in
    let number : get_or t.numbers rank 0 ≡ number_of items k =
    ap (λ (t : Tally). get_or t.numbers rank 0) is
    ∙ get_or-map (number_of items) kinds rank kind.Frequency 0 inside in
    let marked : get_or t.marked rank 0 ≡ marked_of items k =
    ap (λ (t : Tally). get_or t.marked rank 0) is
    ∙ get_or-map (marked_of items) kinds rank kind.Frequency 0 inside in
    ap (λ n. kind_words k n (get_or t.marked rank 0)) number ∙ ap (kind_words k (number_of items k)) marked

-- a text, and the lines of the kinds up to a rank
abbrev pub lines_to : Text → List Item → ℕ → Text
lines_to front items rank = front ++ flat_map line_of (map (kind_line items) (take rank kinds))

pub lines_next : (front old new : Text) (items : List Item) (t : Tally) (rank : ℕ) → rank < 8 →
    t ≡ tally_of items → old ≡ lines_to front items rank →
    new ≡ old ++ line_of (kind_words (get_or kinds rank kind.Frequency) (get_or t.numbers rank 0)
    (get_or t.marked rank 0)) → new ≡ lines_to front items (rank + 1)
lines_next front old new items t rank inside is so_far by =
    let k : ItemKind = get_or kinds rank kind.Frequency in
    let before : List (List Text) = map (kind_line items) (take rank kinds) in
    let here : new ≡ lines_to front items rank ++ line_of (kind_line items k) =
    by ∙ ap (λ text. text ++ line_of (kind_words k (get_or t.numbers rank 0) (get_or t.marked rank 0))) so_far
    ∙ ap (λ line. lines_to front items rank ++ line_of line) (line_at items t rank inside is) in
    here ∙ append_assoc front (flat_map line_of before) (line_of (kind_line items k))
    ∙ ap (λ text. front ++ text) (sym (lines_push before (kind_line items k)))
    ∙ ap (λ lines. front ++ flat_map line_of lines)
    (sym (map_more (kind_line items) kinds rank kind.Frequency inside))

-- the first two lines
abbrev pub front_of : ℕ → ℕ → Text
front_of seed samples = line_of (named (codes "seed") seed) ++ line_of (named (codes "samples") samples)

pub all_lines : (seed samples : ℕ) (items : List Item) (t : Tally) (rank : ℕ) (old new : Text) → rank ≡ 8 →
    t ≡ tally_of items → old ≡ lines_to (front_of seed samples) items rank
    → new ≡ old ++ line_of (named (codes "fold") t.fold) → new ≡ summary_text seed samples items
unfolding summary_text
all_lines seed samples items t rank old new end is so_far by =
    let front : Text = front_of seed samples in
    let last : List Text = named (codes "fold") (fold_of items) in
    let middle : List (List Text) = map (kind_line items) kinds in
    let here : new ≡ lines_to front items 8 ++ line_of last =
    by ∙ ap (λ text. text ++ line_of (named (codes "fold") t.fold)) (so_far ∙ ap (lines_to front items) end)
    ∙ ap (λ (t : Tally). lines_to front items 8 ++ line_of (named (codes "fold") t.fold)) is in
    here ∙ append_assoc front (flat_map line_of middle) (line_of last)
    ∙ ap (λ text. front ++ text) (sym (lines_push middle last))
    ∙ append_assoc (line_of (named (codes "seed") seed)) (line_of (named (codes "samples") samples))
    (flat_map line_of (middle ++ last ∷ []))
