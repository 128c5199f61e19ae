-- A canonical text put together from its pieces.
use Rattle.std.proofs.Common.{◌≡◌, ℕ, ◌+◌, ◌/◌, ◌%◌, ◌==◌, Bool, true, false, cond, ◌&&◌, ℤ, List, [], ◌∷◌, ◌++◌, map, take, drop, length, get_or, ◌<◌, append_assoc, refl, sym, ap, ◌∙◌, arith}
use Rattle.std.specs.List.{ends_with}
use Rattle.std.specs.Prelude.{nat_eq}
use Rattle.std.proofs.lemmas.Bool.{eq-eqb, ne_eqb, eqb-true, eqb-false}
use Rattle.pq_words.specs.Text.{Text, padded}
use Rattle.pq_time.specs.Printed.{printed_moment, date_shown, time_shown, hms_text}
use Rattle.std.specs.Prelude.{decimal}
use Rattle.std.proofs.lemmas.List.{take_more, map_push, length-map, length-take-le, flat_map_more}
use Rattle.comtrade_cfg.specs.Canonical.{analogue_rows, canonical_text, counts_row, date_text, ended, form_rows, fraction_text, lines_text, numbered_rows, row_of, sampling_rows, stamp_rows, station_row, status_rows, time_text, zone_rows}
use Rattle.comtrade_cfg.specs.Configuration.{Configuration}
use Rattle.std.proofs.lemmas.Grind.{flat_map-append}

-- five pieces, one after another
five_pieces : (old p q r s u : Text) → ((((old ++ p) ++ q) ++ r) ++ s) ++ u ≡ old
    ++ (p ++ (q ++ (r ++ (s ++ u))))
five_pieces old p q r s u = simp append_assoc

-- the day, the month and the year of a printed moment
pub date_pieces : (old a b c d e shown : Text) (t : ℤ) → shown ≡ printed_moment t
    → a ≡ old ++ take 2 (drop 8 shown) → b ≡ a ++ 47 ∷ [] → c ≡ b ++ take 2 (drop 5 shown) → d ≡ c ++ 47 ∷ []
    → e ≡ d ++ take 4 shown
    → e ≡ old ++ date_text (date_shown t)
unfolding printed_moment
date_pieces old a b c d e shown t is p q r s u =
    let all : e ≡ ((((old ++ take 2 (drop 8 shown)) ++ 47 ∷ []) ++ take 2 (drop 5 shown)) ++ 47 ∷ [])
    ++ take 4 shown = rw (u, s, r, q, p) refl in
    all ∙ five_pieces old (take 2 (drop 8 shown)) (47 ∷ []) (take 2 (drop 5 shown)) (47 ∷ []) (take 4 shown)
    ∙ ap (λ z. old ++ (take 2 (drop 8 z) ++ (47 ∷ take 2 (drop 5 z) ++ (47 ∷ take 4 z)))) is

-- three digits that are 0 say that the number is a whole multiple of 1000
zeros : (n : ℕ) (a b c : Bool) → (48 == 48 + n / 10 / 10 % 10) ≡ a → (48 == 48 + n / 10 % 10) ≡ b →
    (48 == 48 + n % 10) ≡ c → (n % 1000 == 0) ≡ (a && (b && (c && true)))
zeros n true true true p q r = eq-eqb (n % 1000) 0
    (omega (
      arith,
      eqb-true 48 (48 + n / 10 / 10 % 10) p,
      eqb-true 48 (48 + n / 10 % 10) q,
      eqb-true 48 (48 + n % 10) r,
    ))
zeros n true true false p q r = ne_eqb (n % 1000) 0 (λ e. eqb-false 48 (48 + n % 10) r (omega (arith, e)))
zeros n true false c p q r = ne_eqb (n % 1000) 0 (λ e. eqb-false 48 (48 + n / 10 % 10) q (omega (arith, e)))
zeros n false b c p q r = ne_eqb (n % 1000) 0 (λ e. eqb-false 48 (48 + n / 10 / 10 % 10) p (omega (arith, e)))

-- the digits of thousands are the first of those of the number
front : (n : ℕ) → padded 6 (n / 10 / 10 / 10) ≡ padded 6 (n / 1000)
front n = let same : n / 10 / 10 / 10 ≡ n / 1000 = omega arith in ap (padded 6) same

whole_fraction : (n : ℕ) → (n % 1000 == 0) ≡ true → padded 6 (n / 10 / 10 / 10) ≡ fraction_text n
whole_fraction n is = front n ∙ sym (ap (λ b. cond b (padded 6 (n / 1000)) (padded 9 n)) is)

full_fraction : (n : ℕ) → (n % 1000 == 0) ≡ false → padded 9 n ≡ fraction_text n
full_fraction n is = sym (ap (λ b. cond b (padded 6 (n / 1000)) (padded 9 n)) is)

last_digits : (t : ℤ) (b : Bool) → ends_with nat_eq (printed_moment t) (48 ∷ 48 ∷ 48 ∷ 90 ∷ []) ≡ b →
    ((time_shown t).nanosecond % 1000 == 0) ≡ b
unfolding printed_moment
last_digits t b e =
    let n : ℕ = (time_shown t).nanosecond in
    zeros n (48 == 48 + n / 10 / 10 % 10) (48 == 48 + n / 10 % 10) (48 == 48 + n % 10) refl refl refl ∙ e

-- the time of day of a printed moment, without the last three digits
pub time_whole : (old a shown : Text) (t : ℤ) → shown ≡ printed_moment t →
    ends_with nat_eq shown (48 ∷ 48 ∷ 48 ∷ 90 ∷ []) ≡ true → a ≡ old ++ take 15 (drop 11 shown)
    → a ≡ old ++ time_text (time_shown t)
unfolding printed_moment
time_whole old a shown t is zero p =
    let n = (time_shown t).nanosecond in
    let last = last_digits t true (ap (λ z. ends_with nat_eq z (48 ∷ 48 ∷ 48 ∷ 90 ∷ [])) (sym is) ∙ zero) in
    p ∙ ap (λ z. old ++ take 15 (drop 11 z)) is ∙ ap (λ z. old ++ (hms_text (time_shown t) ++ 46 ∷ z))
    (whole_fraction n last)

-- and with them
pub time_full : (old a b shown : Text) (t : ℤ) → shown ≡ printed_moment t →
    ends_with nat_eq shown (48 ∷ 48 ∷ 48 ∷ 90 ∷ []) ≡ false → a ≡ old ++ take 15 (drop 11 shown) → b ≡ a
    ++ take 3 (drop 26 shown)
    → b ≡ old ++ time_text (time_shown t)
unfolding printed_moment
time_full old a b shown t is some p q =
    let n = (time_shown t).nanosecond in
    let last = last_digits t false (ap (λ z. ends_with nat_eq z (48 ∷ 48 ∷ 48 ∷ 90 ∷ [])) (sym is) ∙ some) in
    q ∙ ap (λ z. z ++ take 3 (drop 26 shown)) p ∙ append_assoc old (take 15 (drop 11 shown))
    (take 3 (drop 26 shown))
    ∙ ap (λ z. old ++ (take 15 (drop 11 z) ++ take 3 (drop 26 z))) is
    ∙ ap (λ z. old ++ (hms_text (time_shown t) ++ 46 ∷ z)) (full_fraction n last)

-- ---- numbered lines

-- one line more
numbered_more : (position : ℕ) (rows : List (List Text)) (x : List Text) →
    numbered_rows position (rows ++ x ∷ []) ≡ numbered_rows position rows
    ++ row_of (decimal (position + length rows) ∷ x) ∷ []
numbered_more position [] x = let same : position ≡ position + 0 = omega arith in
    ap (λ n. row_of (decimal n ∷ x) ∷ []) same
numbered_more position (row ∷ rows) x =
    let same : position + 1 + length rows ≡ position + length (row ∷ rows) = omega arith in
    ap (λ more. row_of (decimal position ∷ row) ∷ more)
    (numbered_more (position + 1) rows x ∙ ap (λ n. numbered_rows (position + 1) rows
    ++ row_of (decimal n ∷ x) ∷ []) same)

pub line_more : {X : Type 0} (f : X → List Text) (xs : List X) (i position : ℕ) (x : X)
    (old before after : Text) → i < length xs → x ≡ get_or xs i x → position ≡ i + 1
    → before ≡ old ++ lines_text (numbered_rows 1 (map f (take i xs))) → after ≡ before
    ++ ended (row_of (decimal position ∷ f x))
    → after ≡ old ++ lines_text (numbered_rows 1 (map f (take (i + 1) xs)))
line_more f xs i position x old before after inside item next so_far more =
    let rows : List (List Text) = map f (take i xs) in
    let count : 1 + length rows ≡ position = omega (
      arith,
      next,
      length-map (take i xs) f,
      length-take-le i xs (omega (arith, inside)),
    ) in
    let taken : map f (take (i + 1) xs) ≡ rows ++ f x ∷ [] = ap (map f) (take_more xs i x inside)
    ∙ map_push f (take i xs) (get_or xs i x) ∙ ap (λ y. rows ++ f y ∷ []) (sym item) in
    let lines : numbered_rows 1 (map f (take (i + 1) xs)) ≡ numbered_rows 1 rows
    ++ row_of (decimal position ∷ f x) ∷ [] =
    ap (numbered_rows 1) taken ∙ numbered_more 1 rows (f x)
    ∙ ap (λ n. numbered_rows 1 rows ++ row_of (decimal n ∷ f x) ∷ []) count in
    more ∙ ap (λ z. z ++ ended (row_of (decimal position ∷ f x))) so_far
    ∙ flat_map_more ended old (numbered_rows 1 rows) (row_of (decimal position ∷ f x))
    ∙ ap (λ z. old ++ lines_text z) (sym lines)

-- ---- the whole

-- a canonical text in its parts
pub canonical_parts : (c : Configuration) → canonical_text c
    ≡ ended (station_row c) ++ (ended (counts_row (length c.analogue) (length c.status))
    ++ (lines_text (analogue_rows c.analogue) ++ (lines_text (status_rows c.status)
    ++ (lines_text (sampling_rows c) ++ (lines_text (stamp_rows c) ++ (lines_text (form_rows c)
    ++ lines_text (zone_rows c.zone)))))))
unfolding canonical_text
canonical_parts c =
    let form = form_rows c ++ zone_rows c.zone in
    let stamps = stamp_rows c ++ form in
    let sampling = sampling_rows c ++ stamps in
    let status = status_rows c.status ++ sampling in
    ap (λ z. ended (station_row c) ++ (ended (counts_row (length c.analogue) (length c.status)) ++ z))
    (flat_map-append ended (analogue_rows c.analogue) status
    ∙ ap (λ z. lines_text (analogue_rows c.analogue) ++ z) (flat_map-append ended
    (status_rows c.status) sampling
    ∙ ap (λ z. lines_text (status_rows c.status) ++ z) (flat_map-append ended (sampling_rows c) stamps
    ∙ ap (λ z. lines_text (sampling_rows c) ++ z) (flat_map-append ended (stamp_rows c) form
    ∙ ap (λ z. lines_text (stamp_rows c) ++ z) (flat_map-append ended (form_rows c) (zone_rows c.zone))))))

eight_pieces : (a b d e f g h i : Text) → ((((((([] ++ a) ++ b) ++ d) ++ e) ++ f) ++ g) ++ h) ++ i ≡ a
    ++ (b ++ (d ++ (e ++ (f ++ (g ++ (h ++ i))))))
eight_pieces a b d e f g h i = simp append_assoc

-- eight pieces, one after another from nothing
pub eight_appended : (a b d e f g h i t0 t1 t2 t3 t4 t5 t6 t7 t8 : Text) → t0 ≡ [] → t1 ≡ t0 ++ a → t2 ≡ t1
    ++ b → t3 ≡ t2 ++ d → t4 ≡ t3 ++ e → t5 ≡ t4 ++ f → t6 ≡ t5 ++ g → t7 ≡ t6 ++ h → t8 ≡ t7 ++ i
    → t8 ≡ a ++ (b ++ (d ++ (e ++ (f ++ (g ++ (h ++ i))))))
eight_appended a b d e f g h i t0 t1 t2 t3 t4 t5 t6 t7 t8 p0 p1 p2 p3 p4 p5 p6 p7 p8 =
    let whole : t8 ≡ ((((((([] ++ a) ++ b) ++ d) ++ e) ++ f) ++ g) ++ h) ++ i =
    rw (p8, p7, p6, p5, p4, p3, p2, p1, p0) refl in
    whole ∙ eight_pieces a b d e f g h i
