-- Texts without some byte, their parts, and texts that are fields.
use Rattle.std.proofs.Common.{◌≡◌, ℕ, ◌+◌, ◌-◌, ◌<◌, ◌≤◌, ◌==◌, ◌||◌, Bool, true, false, cond, List, [], ◌∷◌, ◌++◌, map, take, drop, get_or, length, refl, sym, ap, ◌∙◌, arith}
use Rattle.std.specs.List.{list_any, slice_split, onto_first, prefix_len, suffix_len, AllByRecursion}
use Rattle.std.specs.Str.Lines.{lines_of_parts, strip_carriage_return}
use Rattle.std.proofs.lemmas.List.{length-append, take-append-le, get_or-append-add, take_all}
use Rattle.std.proofs.lemmas.List.Folds.{list_any-append}
use Rattle.std.proofs.lemmas.List.Splits.{slice_split-cons_yes, slice_split-cons_no}
use Rattle.std.proofs.lemmas.List.Sums.{prefix_len_is, suffix_len_is}
use Rattle.pq_words.specs.Text.{Text, is_blank, trimmed}

-- no byte of the text is c
abbrev pub IsFree : ℕ → Text → Type 0
IsFree c text = list_any (λ b. b == c) text ≡ false

pub or_false : (a b : Bool) → (a || b) ≡ false → (a ≡ false) × (b ≡ false)
or_false true b e = absurd cc
or_false false b e = (refl, e)

-- two texts without it, one after the other
pub free_joined : (c : ℕ) (xs ys : Text) → IsFree c xs → IsFree c ys → IsFree c (xs ++ ys)
free_joined c xs ys p q = list_any-append (λ b. b == c) xs ys ∙ ap (λ b. b || list_any (λ b. b == c) ys) p ∙ q

-- ---- parts

-- a text in which no byte passes is one part
pub split_free : (p : ℕ → Bool) (xs : Text) → list_any p xs ≡ false → slice_split p xs ≡ xs ∷ []
split_free p [] h = refl
split_free p (x ∷ xs) h = let q = or_false (p x) (list_any p xs) h in slice_split-cons_no p x xs q.0
    ∙ ap (onto_first x) (split_free p xs q.1)

-- the first part ends at the first byte that passes
pub split_at : (p : ℕ → Bool) (xs : Text) (y : ℕ) (ys : Text) → list_any p xs ≡ false → p y ≡ true →
    slice_split p (xs ++ y ∷ ys) ≡ xs ∷ slice_split p ys
split_at p [] y ys h e = slice_split-cons_yes p y ys e
split_at p (x ∷ xs) y ys h e = let q = or_false (p x) (list_any p xs) h in
    slice_split-cons_no p x (xs ++ y ∷ ys) q.0 ∙ ap (onto_first x) (split_at p xs y ys q.1 e)

-- ---- lines

-- a line without its carriage return
pub strip_ended : (line : Text) → strip_carriage_return (line ++ 13 ∷ []) ≡ line
strip_ended line =
    let n : length (line ++ 13 ∷ []) - 1 ≡ length line = omega (arith, length-append line (13 ∷ [])) in
    let last : get_or (line ++ 13 ∷ []) (length line + 0) 0 ≡ 13 = get_or-append-add line (13 ∷ []) 0 0 in
    let zero : length line + 0 ≡ length line = omega arith in
    ap (λ k. cond (get_or (line ++ 13 ∷ []) k 0 == 13) (take k (line ++ 13 ∷ [])) (line ++ 13 ∷ [])) n
    ∙ ap (λ c. cond (c == 13) (take (length line) (line ++ 13 ∷ [])) (line ++ 13 ∷ []))
    (ap (λ k. get_or (line ++ 13 ∷ []) k 0) (sym zero) ∙ last)
    ∙ take-append-le (length line) line (13 ∷ []) (omega arith) ∙ take_all (length line) line (omega arith)

-- lines with their carriage returns, and nothing, are the lines
pub lines_parts : (ls : List Text) → lines_of_parts (map (λ line. line ++ 13 ∷ []) ls ++ [] ∷ []) ≡ ls
lines_parts [] = refl
lines_parts (line ∷ []) = ap (λ x. x ∷ []) (strip_ended line)
lines_parts (line ∷ second ∷ ls) = λ i. strip_ended line i ∷ lines_parts (second ∷ ls) i

-- ---- fields

-- no blank stands at an end
pub record IsTrim (text : Text) : Type 0 where
  pub front : 0 < length text → is_blank (get_or text 0 0) ≡ false
  pub back : 0 < length text → is_blank (get_or text (length text - 1) 0) ≡ false

pub trim_same : (text : Text) → IsTrim text → trimmed text ≡ text
trim_same text h =
    let front : prefix_len is_blank text ≡ 0 = prefix_len_is is_blank text 0 0 (omega arith)
    (λ k l. absurd (omega (arith, l))) h.front in
    let back : suffix_len is_blank text ≡ length text - length text =
    suffix_len_is is_blank text (length text) 0 (omega arith) (λ k l m. absurd (omega (arith, l, m)))
    h.back in
    let whole : length text ≤ length text - suffix_len is_blank text = omega (arith, back) in
    ap (λ k. take (length (drop k text) - suffix_len is_blank (drop k text)) (drop k text)) front
    ∙ take_all (length text - suffix_len is_blank text) text whole

-- a field as a cfg may have it: it holds no comma and no line feed, and no blank stands at its ends
pub record IsField (text : Text) : Type 0 where
  pub comma : IsFree 44 text
  pub line_feed : IsFree 10 text
  pub trim : IsTrim text

-- fields keep themselves
pub all_trim : (fields : List Text) → AllByRecursion IsField fields → map trimmed fields ≡ fields
all_trim [] h = refl
all_trim (field ∷ fields) h = λ i. trim_same field h.0.trim i ∷ all_trim fields h.1 i
