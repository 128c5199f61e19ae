-- What the fields of a cfg are: free of commas and line feeds, with no blank at their ends.
use Rattle.std.proofs.Common.{◌≡◌, ℕ, zero, suc, ◌+◌, ◌-◌, ◌<◌, ◌==◌, ◌||◌, Bool, true, false, cond, List, [], ◌∷◌, map, take, drop, get_or, length, refl, sym, ap, ◌∙◌, arith}
use Rattle.std.specs.List.{list_any, onto_first, prefix_len, suffix_len, AllByRecursion}
use Rattle.std.specs.Str.Lines.{lines, lines_of_parts, strip_carriage_return}
use Rattle.std.specs.Prelude.{reverse}
use Rattle.std.proofs.lemmas.List.{length-take-le, length-drop, get_or-take, get_or-drop, get_or-reverse, length-reverse}
use Rattle.std.proofs.lemmas.List.Sums.{prefix_len_stops}
use Rattle.pq_words.specs.Text.{Text, is_blank, trimmed, parted_at}
use Rattle.cfg_fields.specs.Fields.{fields_of}
use Rattle.cfg_fields.proofs.FieldTexts.{IsFree, or_false, IsTrim, IsField}

-- ---- parts of a text

free_drop : (c n : ℕ) (xs : Text) → IsFree c xs → IsFree c (drop n xs)
free_drop c zero xs h = h
free_drop c (suc n) [] h = h
free_drop c (suc n) (x ∷ xs) h = free_drop c n xs (or_false (x == c) (list_any (λ b. b == c) xs) h).1

free_take : (c n : ℕ) (xs : Text) → IsFree c xs → IsFree c (take n xs)
free_take c zero xs h = refl
free_take c (suc n) [] h = h
free_take c (suc n) (x ∷ xs) h =
    let q = or_false (x == c) (list_any (λ b. b == c) xs) h in
    ap (λ b. b || list_any (λ b. b == c) (take n xs)) q.0 ∙ free_take c n xs q.1

onto_free : (c x : ℕ) (parts : List Text) → (x == c) ≡ false → AllByRecursion (IsFree c) parts →
    AllByRecursion (IsFree c) (onto_first x parts)
onto_free c x [] other h = (ap (λ b. b || false) other, tt)
onto_free c x (part ∷ parts) other h = (ap (λ b. b || list_any (λ b. b == c) part) other ∙ h.0, h.1)

cond_free : (c d x : ℕ) (parts : List Text) (b : Bool) → (x == d) ≡ b → (b ≡ false → (x == c) ≡ false) →
    AllByRecursion (IsFree c) parts → AllByRecursion (IsFree c) (cond b ([] ∷ parts) (onto_first x parts))
cond_free c d x parts true is other h = (refl, h)
cond_free c d x parts false is other h = onto_free c x parts (other refl) h

-- the parts are free of what parts them
parts_free : (c : ℕ) (xs : Text) → AllByRecursion (IsFree c) (parted_at c xs)
parts_free c [] = (refl, tt)
parts_free c (x ∷ xs) = cond_free c c x (parted_at c xs) (x == c) refl (λ e. e) (parts_free c xs)

-- and of what the text is free of
parts_free_too : (c d : ℕ) (xs : Text) → IsFree c xs → AllByRecursion (IsFree c) (parted_at d xs)
parts_free_too c d [] h = (refl, tt)
parts_free_too c d (x ∷ xs) h =
    let q = or_false (x == c) (list_any (λ b. b == c) xs) h in
    cond_free c d x (parted_at d xs) (x == d) refl (λ e. q.0) (parts_free_too c d xs q.1)

-- ---- a trimmed text

-- where not all bytes are blanks, the last that is none stands before the blanks at the end
last_stops : (xs : Text) → suffix_len is_blank xs < length xs →
    is_blank (get_or xs (length xs - 1 - suffix_len is_blank xs) 0) ≡ false
last_stops xs less =
    let inside : suffix_len is_blank xs < length (reverse xs) = omega (arith, length-reverse xs) in
    ap is_blank (sym (get_or-reverse xs (suffix_len is_blank xs) 0 less))
    ∙ prefix_len_stops is_blank (reverse xs) 0 inside

pub trim_trimmed : (xs : Text) → IsTrim (trimmed xs)
trim_trimmed xs =
    let front : Text = drop (prefix_len is_blank xs) xs in
    let n : ℕ = length front - suffix_len is_blank front in
    let size : length (take n front) ≡ n = length-take-le n front (omega arith) in
    record {
      front = λ some.
          let in_front : 0 < n = omega (arith, size, some) in
          let in_text : prefix_len is_blank xs < length xs =
          omega (arith, in_front, length-drop (prefix_len is_blank xs) xs) in
          let at : prefix_len is_blank xs + 0 ≡ prefix_len is_blank xs = omega arith in
          ap is_blank (get_or-take n front 0 0 in_front ∙ get_or-drop (prefix_len is_blank xs) xs 0 0
          ∙ ap (λ k. get_or xs k 0) at) ∙ prefix_len_stops is_blank xs 0 in_text;
      back = λ some.
          let in_front : 0 < n = omega (arith, size, some) in
          let less : suffix_len is_blank front < length front = omega (arith, in_front) in
          let at : length (take n front) - 1 ≡ length front - 1 - suffix_len is_blank front =
          omega (arith, size) in
          let inside : length front - 1 - suffix_len is_blank front < n = omega (arith, in_front) in
          ap is_blank (ap (λ k. get_or (take n front) k 0) at
          ∙ get_or-take n front (length front - 1 - suffix_len is_blank front) 0 inside)
          ∙ last_stops front less;
    }

trimmed_free : (c : ℕ) (xs : Text) → IsFree c xs → IsFree c (trimmed xs)
trimmed_free c xs h =
    let front : Text = drop (prefix_len is_blank xs) xs in
    free_take c (length front - suffix_len is_blank front) front (free_drop c (prefix_len is_blank xs) xs h)

trimmed_fields : (parts : List Text) → AllByRecursion (IsFree 44) parts → AllByRecursion (IsFree 10) parts →
    AllByRecursion IsField (map trimmed parts)
trimmed_fields [] p q = tt
trimmed_fields (part ∷ parts) p q = (
  record {
    comma = trimmed_free 44 part p.0;
    line_feed = trimmed_free 10 part q.0;
    trim =
        trim_trimmed part;
  },
  trimmed_fields parts p.1 q.1,
)

-- the fields of a line
pub fields_are : (line : Text) → IsFree 10 line → AllByRecursion IsField (fields_of line)
fields_are line h = trimmed_fields (parted_at 44 line) (parts_free 44 line) (parts_free_too 10 44 line h)

-- ---- the lines of a text

strip_free : (line : Text) → IsFree 10 line → IsFree 10 (strip_carriage_return line)
strip_free line h = at (get_or line (length line - 1) 0 == 13)
  where
    at : (b : Bool) → IsFree 10 (cond b (take (length line - 1) line) line)
    at true = free_take 10 (length line - 1) line h
    at false = h

lines_free_parts : (parts : List Text) → AllByRecursion (IsFree 10) parts →
    AllByRecursion (IsFree 10) (lines_of_parts parts)
lines_free_parts [] h = tt
lines_free_parts (x ∷ []) h = at (length x == 0)
  where
    at : (b : Bool) → AllByRecursion (IsFree 10) (cond b [] (x ∷ []))
    at true = tt
    at false = h
lines_free_parts (x ∷ y ∷ more) h = (strip_free x h.0, lines_free_parts (y ∷ more) h.1)

-- the lines of a text
pub lines_are : (text : Text) → AllByRecursion (IsFree 10) (lines text)
lines_are text = lines_free_parts (parted_at 10 text) (parts_free 10 text)
