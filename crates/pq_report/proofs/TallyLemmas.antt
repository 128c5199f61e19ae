-- What is counted of items and of one more.
use Rattle.std.proofs.Common.{◌≡◌, ℕ, ◌+◌, ◌<◌, ◌≤◌, Bool, true, false, List, [], ◌∷◌, ◌++◌, map, take, get_or, set, length, refl, sym, ap, ◌∙◌, add-zero, zero-add, le_of_lt, le_trans, cond, bytes_eq, filter, arith}
use Rattle.std.proofs.lemmas.List.{get_or-map, length-append, length-take-le, take_more}
use Rattle.std.proofs.lemmas.List.Elements.{filter-append}
use Rattle.std.proofs.lemmas.List.Sums.{count_by-le-length, length-filter, sum_by-append}
use Rattle.std.specs.List.{count_by}
use Rattle.std.specs.Int.{from_bool}
use Rattle.pq_items.specs.ItemTable.{has_mark, rank_of}
use Rattle.pq_items.specs.declared.item.Item.{Item}
use Rattle.pq_items.specs.declared.item.Item.TheVariants as item
use Rattle.pq_report.specs.ReportReading.{kinds}
use Rattle.pq_report.specs.ReportText.{kind_of, kind_word}
use Rattle.pq_report.specs.Summary.{marked_of, number_of, of_kind}
use Rattle.pq_report.specs.declared.kind.ItemKind.{ItemKind}
use Rattle.pq_report.specs.declared.kind.ItemKind.TheVariants as kind

-- ---- a measure that adds up over lists, as their length

abbrev AddsUp : (List Item → ℕ) → Type 0
AddsUp m = (xs ys : List Item) → m (xs ++ ys) ≡ m xs + m ys

-- the measure of the items of each kind
abbrev by_kind : (List Item → ℕ) → List Item → List ℕ
by_kind m items = map (λ k. m (of_kind k items)) kinds

-- the number at the rank of an item's kind is raised
abbrev raised : List ℕ → Item → ℕ → List ℕ
raised ns i more = set ns (rank_of i) (get_or ns (rank_of i) 0 + more)

map_same : (f g : ItemKind → ℕ) → ((k : ItemKind) → f k ≡ g k) → (ks : List ItemKind) → map f ks ≡ map g ks
map_same f g is [] = refl
map_same f g is (k ∷ ks) = ap (λ n. n ∷ map f ks) (is k) ∙ ap (λ ns. g k ∷ ns) (map_same f g is ks)

-- of each kind one more item counts for itself
one_of : (m : List Item → ℕ) → ((n : ℕ) → n + m [] ≡ n) → (n : ItemKind → ℕ) (i : Item) →
    map (λ k. n k + m (of_kind k (i ∷ []))) kinds ≡ raised (map n kinds) i (m (i ∷ []))
one_of m none n (item.Frequency tick start end cycles microhertz flagged) = simp none refl
one_of m none n (item.Basic channel start end cycles value flagged) = simp none refl
one_of m none n (item.Short channel start end value flagged) = simp none refl
one_of m none n (item.Ten channel tick start end basics value flagged) = simp none refl
one_of m none n (item.TwoHour channel tick start end value flagged) = simp none refl
one_of m none n (item.Dip channel start end value is_open) = simp none refl
one_of m none n (item.Swell channel start end value is_open) = simp none refl
one_of m none n (item.Interruption channel start end value is_open) = simp none refl

one_more : (m : List Item → ℕ) → AddsUp m → ((n : ℕ) → n + m [] ≡ n) → (items : List Item) (index : ℕ)
    (d : Item) → index < length items → by_kind m (take (index + 1) items)
    ≡ raised (by_kind m (take index items)) (get_or items index d) (m (get_or items index d ∷ []))
one_more m adds none items index d inside =
    let before : List Item = take index items in
    let i : Item = get_or items index d in
    let each : (k : ItemKind) → m (of_kind k (before ++ i ∷ []))
    ≡ m (of_kind k before) + m (of_kind k (i ∷ [])) =
    (λ k. ap m (filter-append _ before (i ∷ [])) ∙ adds (of_kind k before) (of_kind k (i ∷ []))) in
    ap (by_kind m) (take_more items index d inside)
    ∙ map_same (λ k. m (of_kind k (before ++ i ∷ [])))
    (λ k. m (of_kind k before) + m (of_kind k (i ∷ []))) each kinds
    ∙ one_of m none (λ k. m (of_kind k before)) i

-- ---- numbers of items, and how many of these are marked

pub numbers_more : (items : List Item) (index : ℕ) (d : Item) → index < length items →
    map (number_of (take (index + 1) items)) kinds
    ≡ raised (map (number_of (take index items)) kinds) (get_or items index d) 1
numbers_more items index d inside =
    one_more length (λ xs ys. length-append xs ys) add-zero items index d inside

pub marked_more : (items : List Item) (index : ℕ) (d : Item) → index < length items →
    map (marked_of (take (index + 1) items)) kinds
    ≡ raised (map (marked_of (take index items)) kinds) (get_or items index d)
    (cond (has_mark (get_or items index d)) 1 0)
marked_more items index d inside =
    let i : Item = get_or items index d in
    one_more (count_by has_mark) (sum_by-append (λ i. cond (has_mark i) 1 0)) add-zero items index d inside
    ∙ ap (raised (map (marked_of (take index items)) kinds) i) (zero-add (cond (has_mark i) 1 0))

-- ---- there are no more than items in all

pub rank_small : (i : Item) → rank_of i < 8
rank_small (item.Frequency tick start end cycles microhertz flagged) = omega arith
rank_small (item.Basic channel start end cycles value flagged) = omega arith
rank_small (item.Short channel start end value flagged) = omega arith
rank_small (item.Ten channel tick start end basics value flagged) = omega arith
rank_small (item.TwoHour channel tick start end value flagged) = omega arith
rank_small (item.Dip channel start end value is_open) = omega arith
rank_small (item.Swell channel start end value is_open) = omega arith
rank_small (item.Interruption channel start end value is_open) = omega arith

few_of : (p : Item → Bool) (items : List Item) → length (filter p items) ≤ length items
few_of p items = omega (arith, length-filter p items, count_by-le-length p items)

few_of_kind : (items : List Item) (k : ItemKind) → length (of_kind k items) ≤ length items
few_of_kind items k = few_of (λ i. bytes_eq (kind_word (kind_of i)) (kind_word k)) items

few_before : (items : List Item) (index : ℕ) → index < length items → length (take index items) ≤ index
few_before items index inside = omega (arith, inside, length-take-le index items (le_of_lt inside))

few_numbers : (items : List Item) (i : Item) →
    get_or (map (number_of items) kinds) (rank_of i) 0 ≤ length items
few_numbers items i =
    let k : ItemKind = get_or kinds (rank_of i) kind.Frequency in
    let at : get_or (map (number_of items) kinds) (rank_of i) 0 ≡ number_of items k =
    get_or-map (number_of items) kinds (rank_of i) kind.Frequency 0 (rank_small i) in
    omega (arith, at, few_of_kind items k)

few_marked : (items : List Item) (i : Item) →
    get_or (map (marked_of items) kinds) (rank_of i) 0 ≤ length items
few_marked items i =
    let k : ItemKind = get_or kinds (rank_of i) kind.Frequency in
    let at : get_or (map (marked_of items) kinds) (rank_of i) 0 ≡ marked_of items k =
    get_or-map (marked_of items) kinds (rank_of i) kind.Frequency 0 (rank_small i) in
    omega (arith, at, count_by-le-length has_mark (of_kind k items), few_of_kind items k)

-- ---- one step of the loop

pub number_small : (items : List Item) (index : ℕ) (ns : List ℕ) (rank : ℕ) (i : Item) →
    index < length items →
    ns ≡ map (number_of (take index items)) kinds → rank ≡ rank_of i → get_or ns rank 0 ≤ index
number_small items index ns rank i inside is at =
    rw (is, at) (le_trans (few_numbers (take index items) i) (few_before items index inside))

pub marked_small : (items : List Item) (index : ℕ) (ns : List ℕ) (rank : ℕ) (i : Item) →
    index < length items →
    ns ≡ map (marked_of (take index items)) kinds → rank ≡ rank_of i → get_or ns rank 0 ≤ index
marked_small items index ns rank i inside is at =
    rw (is, at) (le_trans (few_marked (take index items) i) (few_before items index inside))

pub numbers_next : (items : List Item) (index : ℕ) (ns : List ℕ) (rank : ℕ) (d : Item) →
    index < length items →
    ns ≡ map (number_of (take index items)) kinds → rank ≡ rank_of (get_or items index d) →
    set ns rank (get_or ns rank 0 + 1) ≡ map (number_of (take (index + 1) items)) kinds
numbers_next items index ns rank d inside is at =
    rw (is, at) (sym (numbers_more items index d inside))

as_number : (b : Bool) → from_bool b ≡ cond b 1 0
as_number true = refl
as_number false = refl

pub bit_small : (more : ℕ) (b : Bool) → more ≡ from_bool b → more ≤ 1
bit_small more true is = omega (arith, is)
bit_small more false is = omega (arith, is)

pub marked_next : (items : List Item) (index : ℕ) (ns : List ℕ) (rank more : ℕ) (b : Bool) (d : Item) →
    index < length items → ns ≡ map (marked_of (take index items)) kinds →
    rank ≡ rank_of (get_or items index d) → more ≡ from_bool b → b ≡ has_mark (get_or items index d) →
    set ns rank (get_or ns rank 0 + more) ≡ map (marked_of (take (index + 1) items)) kinds
marked_next items index ns rank more b d inside is at by bit =
    rw (is, at, by, bit, as_number (has_mark (get_or items index d))) (sym (marked_more items index d inside))
