-- The bytes of a record and what they say, both ways.
use Rattle.std.proofs.Common.{◌≡◌, ◌∙◌, ℕ, zero, suc, ◌+◌, ◌-◌, ◌*◌, ◌/◌, ◌%◌, ◌^◌, ◌<◌, ◌≤◌, List, [], ◌∷◌, ◌++◌, length, get_or, map, take, drop, refl, ap, sym, arith, ℤ, pos}
use Rattle.std.proofs.Math.Facts.{Fits-of_z}
use Rattle.std.proofs.lemmas.Int.{of_z-to_z, to_z-of_z}
use Rattle.std.proofs.lemmas.List.{append-nil, append_assoc, drop_at, drop-drop, length-append, length-drop, take_all, take_at}
use Rattle.std.proofs.lemmas.List.Elements.{All-drop, All-get_or, All-head, All-tail}
use Rattle.std.proofs.lemmas.List.FromFn.{fill_by_all}
use Rattle.std.specs.Int.{w16, cast_signed, cast_unsigned}
use Rattle.std.specs.Int.RustNames.{FitsSigned}
use Rattle.std.specs.List.{All, flat_map, range_with_len}
use Rattle.byteorder.specs.Endian.{little_bytes, little_number}
use Rattle.byteorder.specs.Numbers.{length-bytes_low_first, little_number-reads_back}
use Rattle.comtrade_dat.specs.BinaryRecord.{RecordFields, bytes_of, count_bytes, count_in, fields_in, number_in, record_at, size_with, stamp_in, word_bytes, word_in}
use Rattle.comtrade_dat.specs.ReadBack.{HasShape, dat_of}
use Rattle.pq_words.specs.Text.{Text}

-- ---- parts of one length

-- the part at an index, and what follows it
pub part_at : {X : Type 0} (f : X → Text) (size : ℕ) (xs : List X) (rest : Text) (i : ℕ) (d : X) →
    All (λ x. length (f x) ≡ size) xs → i < length xs →
    drop (size * i) (flat_map f xs ++ rest) ≡ f (get_or xs i d) ++ (flat_map f (drop (suc i) xs) ++ rest)
part_at f size [] rest i d all below = absurd (omega (arith, below))
part_at f size (x ∷ xs) rest zero d all below =
    let none : size * 0 ≡ 0 = omega arith in
    ap (λ n. drop n ((f x ++ flat_map f xs) ++ rest)) none ∙ append_assoc (f x) (flat_map f xs) rest
part_at f size (x ∷ xs) rest (suc i) d all below =
    let first : length (f x) ≡ size = All-head (λ x. length (f x) ≡ size) x xs all in
    let inside : i < length xs = omega (arith, below) in
    let more : size * suc i ≡ size + size * i = omega arith in
    ap (λ n. drop n ((f x ++ flat_map f xs) ++ rest)) more
    ∙ (ap (λ bytes. drop (size + size * i) bytes) (append_assoc (f x) (flat_map f xs) rest)
    ∙ (sym (drop-drop (size * i) size (f x ++ (flat_map f xs ++ rest)))
    ∙ (ap (drop (size * i)) (drop_at (f x) (flat_map f xs ++ rest) size first)
    ∙ part_at f size xs rest i d (All-tail (λ x. length (f x) ≡ size) x xs all) inside)))

-- how many bytes they have
pub length_parts : {X : Type 0} (f : X → Text) (size : ℕ) (xs : List X) → All (λ x. length (f x) ≡ size) xs →
    length (flat_map f xs) ≡ size * length xs
length_parts f size [] all = omega arith
length_parts f size (x ∷ xs) all =
    let first : length (f x) ≡ size = All-head (λ x. length (f x) ≡ size) x xs all in
    let rest = length_parts f size xs (All-tail (λ x. length (f x) ≡ size) x xs all) in
    let more : size * suc (length xs) ≡ size + size * length xs = omega arith in
    omega (arith, length-append (f x) (flat_map f xs), first, rest, more)

-- ---- the fields of a record

two_bytes : (n : ℕ) → length (little_bytes 2 n) ≡ 2
two_bytes n = length-bytes_low_first 0 2 n

-- the parts of a record's bytes: behind the stamp, behind the number
abbrev behind_stamp : RecordFields → Text
behind_stamp r = flat_map count_bytes r.counts ++ flat_map word_bytes r.states

abbrev behind_number : RecordFields → Text
behind_number r = little_bytes 4 r.stamp ++ behind_stamp r

parts : (r : RecordFields) → bytes_of r ≡ little_bytes 4 r.number ++ behind_number r
parts r =
    append_assoc (little_bytes 4 r.number ++ little_bytes 4 r.stamp) (flat_map count_bytes r.counts)
    (flat_map word_bytes r.states)
    ∙ append_assoc (little_bytes 4 r.number) (little_bytes 4 r.stamp) (behind_stamp r)

after_number : (r : RecordFields) → drop 4 (bytes_of r) ≡ behind_number r
after_number r = ap (drop 4) (parts r)
    ∙ drop_at (little_bytes 4 r.number) (behind_number r) 4 (length-bytes_low_first 0 4 r.number)

after_stamp : (r : RecordFields) (n : ℕ) → drop (8 + n) (bytes_of r) ≡ drop n (behind_stamp r)
after_stamp r n =
    let split : 8 + n ≡ 4 + (4 + n) = omega arith in
    ap (λ k. drop k (bytes_of r)) split
    ∙ (sym (drop-drop (4 + n) 4 (bytes_of r))
    ∙ (ap (drop (4 + n)) (after_number r)
    ∙ (sym (drop-drop n 4 (behind_number r))
    ∙ ap (drop n) (drop_at (little_bytes 4 r.stamp) (behind_stamp r) 4
    (length-bytes_low_first 0 4 r.stamp)))))

pub number_read : (r : RecordFields) → r.number < 2 ^ 32 → number_in (bytes_of r) ≡ r.number
number_read r small = ap (little_number 4) (parts r)
    ∙ little_number-reads_back 4 r.number (behind_number r) small

stamp_read : (r : RecordFields) → r.stamp < 2 ^ 32 → stamp_in (bytes_of r) ≡ r.stamp
stamp_read r small = ap (little_number 4) (after_number r)
    ∙ little_number-reads_back 4 r.stamp (behind_stamp r) small

all_counts : (counts : List ℤ) → All (λ count. length (count_bytes count) ≡ 2) counts
all_counts counts = λ k d inside. two_bytes (cast_unsigned w16 (get_or counts k d))

all_words : (words : List ℕ) → All (λ word. length (word_bytes word) ≡ 2) words
all_words words = λ k d inside. two_bytes (get_or words k d)

pub count_read : (r : RecordFields) (i : ℕ) (d : ℤ) → i < length r.counts → All (FitsSigned w16) r.counts →
    count_in (bytes_of r) i ≡ get_or r.counts i d
count_read r i d below fits =
    let x = get_or r.counts i d in
    let fit : FitsSigned w16 x = All-get_or (FitsSigned w16) r.counts i d below fits in
    let small : cast_unsigned w16 x < 256 ^ 2 = (Fits-of_z {w = w16} {z = x} fit).fits in
    let rest = flat_map count_bytes (drop (suc i) r.counts) ++ flat_map word_bytes r.states in
    ap (λ bytes. cast_signed w16 (little_number 2 bytes)) (after_stamp r (2 * i)
    ∙ part_at count_bytes 2 r.counts (flat_map word_bytes r.states) i d (all_counts r.counts) below)
    ∙ (ap (cast_signed w16) (little_number-reads_back 2 (cast_unsigned w16 x) rest small)
    ∙ to_z-of_z w16 x fit)

word_read : (r : RecordFields) (i : ℕ) (d : ℕ) → i < length r.states → All (λ word. word < 2 ^ 16) r.states →
    word_in (length r.counts) (bytes_of r) i ≡ get_or r.states i d
word_read r i d below fits =
    let x = get_or r.states i d in
    let small : x < 2 ^ 16 = All-get_or (λ word. word < 2 ^ 16) r.states i d below fits in
    let n = 2 * length r.counts in
    let words = flat_map word_bytes r.states in
    let counts : length (flat_map count_bytes r.counts) ≡ n =
    length_parts count_bytes 2 r.counts (all_counts r.counts) in
    let split : 8 + n + 2 * i ≡ 8 + (n + 2 * i) = omega arith in
    let there : drop (8 + n + 2 * i) (bytes_of r)
    ≡ word_bytes x ++ (flat_map word_bytes (drop (suc i) r.states) ++ []) =
    ap (λ n. drop n (bytes_of r)) split
    ∙ (after_stamp r (n + 2 * i)
    ∙ (sym (drop-drop (2 * i) n (behind_stamp r))
    ∙ (ap (drop (2 * i)) (drop_at (flat_map count_bytes r.counts) words n counts ∙ sym (append-nil words))
    ∙ part_at word_bytes 2 r.states [] i d (all_words r.states) below))) in
    ap (little_number 2) there
    ∙ little_number-reads_back 2 x (flat_map word_bytes (drop (suc i) r.states) ++ []) small

-- what a record's bytes are made of is what they say
pub fields_read : (counts words : ℕ) (r : RecordFields) → HasShape counts words r →
    fields_in counts words (bytes_of r) ≡ r
fields_read counts words r shape =
    let number = number_read r shape.number in
    let stamp = stamp_read r shape.stamp in
    let signed : r.counts ≡ map (count_in (bytes_of r)) (range_with_len 0 counts) =
    fill_by_all (count_in (bytes_of r)) r.counts counts (pos 0) shape.as_many_counts
    (λ k below. let inside : k < length r.counts = omega (arith, below, shape.as_many_counts) in
    sym (count_read r k (pos 0) inside shape.signed)) in
    let unsigned : r.states ≡ map (word_in counts (bytes_of r)) (range_with_len 0 words) =
    fill_by_all (word_in counts (bytes_of r)) r.states words 0 shape.as_many_words
    (λ k below. let inside : k < length r.states = omega (arith, below, shape.as_many_words) in
    sym (ap (λ n. word_in n (bytes_of r) k) (sym shape.as_many_counts)
    ∙ word_read r k 0 inside shape.unsigned)) in
    ap (λ n. let made : RecordFields = record {
      number = n;
      stamp = stamp_in (bytes_of r);
      counts = map (count_in (bytes_of r)) (range_with_len 0 counts);
      states = map (word_in counts (bytes_of r)) (range_with_len 0 words);
    } in made) number
    ∙ (ap (λ n. let made : RecordFields = record {
      number = r.number;
      stamp = n;
      counts = map (count_in (bytes_of r)) (range_with_len 0 counts);
      states = map (word_in counts (bytes_of r)) (range_with_len 0 words);
    } in made) stamp
    ∙ (ap (λ xs. let made : RecordFields = record {
      number = r.number;
      stamp = r.stamp;
      counts = xs;
      states = map (word_in counts (bytes_of r)) (range_with_len 0 words);
    } in made) (sym signed)
    ∙ ap (λ xs. let made : RecordFields = record {
      number = r.number;
      stamp = r.stamp;
      counts = r.counts;
      states = xs;
    } in made) (sym unsigned)))

-- ---- a dat

pub length_record : (counts words : ℕ) (r : RecordFields) → HasShape counts words r →
    length (bytes_of r) ≡ size_with counts words
length_record counts words r shape =
    let numbers = length-append (little_bytes 4 r.number) (behind_number r) in
    let stamps = length-append (little_bytes 4 r.stamp) (behind_stamp r) in
    let rest = length-append (flat_map count_bytes r.counts) (flat_map word_bytes r.states) in
    let four = length-bytes_low_first 0 4 r.number in
    let four_more = length-bytes_low_first 0 4 r.stamp in
    let of_counts = length_parts count_bytes 2 r.counts (all_counts r.counts) in
    let of_words = length_parts word_bytes 2 r.states (all_words r.states) in
    omega (
      arith,
      ap length (parts r),
      numbers,
      stamps,
      rest,
      four,
      four_more,
      of_counts,
      of_words,
      shape.as_many_counts,
      shape.as_many_words,
    )

-- a record stands at its index
pub record_placed : (counts words : ℕ) (records : List RecordFields) (index : ℕ) (none : RecordFields) →
    All (HasShape counts words) records → index < length records →
    record_at (size_with counts words) (dat_of records) index ≡ bytes_of (get_or records index none)
record_placed counts words records index none shapes below =
    let size = size_with counts words in
    let all : All (λ r. length (bytes_of r) ≡ size) records =
    λ k d inside. length_record counts words (get_or records k d) (shapes k d inside) in
    let rest = flat_map bytes_of (drop (suc index) records) ++ [] in
    let here = part_at bytes_of size records [] index none all below in
    let one : size * (index + 1) - size * index ≡ size = omega arith in
    ap (λ n. take n (drop (size * index) (dat_of records))) one
    ∙ (ap (λ bytes. take size (drop (size * index) bytes)) (sym (append-nil (dat_of records)))
    ∙ (ap (take size) here
    ∙ take_at (bytes_of (get_or records index none)) rest size (all index none below)))

-- ---- bytes that are read

abbrev AreBytes : Text → Type 0
AreBytes bytes = All (λ byte. byte < 256) bytes

-- two and four bytes are those of the number that they say
two_made : (bytes : Text) → 2 ≤ length bytes → AreBytes bytes →
    (little_bytes 2 (little_number 2 bytes) ≡ take 2 bytes) × (little_number 2 bytes < 2 ^ 16)
two_made [] count small = absurd (omega (arith, count))
two_made (a ∷ []) count small = absurd (omega (arith, count))
two_made (a ∷ b ∷ more) count small =
    let first : a < 256 = small 0 0 (omega arith) in
    let second : b < 256 = small 1 0 (omega arith) in
    let low : (a + 256 * (b + 256 * 0)) % 256 ≡ a = omega (arith, first) in
    let high : (a + 256 * (b + 256 * 0)) / 256 % 256 ≡ b = omega (arith, first, second) in (
      ap (λ x. x ∷ (a + 256 * (b + 256 * 0)) / 256 % 256 ∷ []) low
          ∙ ap (λ x. a ∷ x ∷ []) high,
      omega (arith, first, second),
    )

four_made : (bytes : Text) → 4 ≤ length bytes → AreBytes bytes → little_bytes 4 (little_number 4 bytes)
    ≡ take 4 bytes
four_made [] count small = absurd (omega (arith, count))
four_made (a ∷ []) count small = absurd (omega (arith, count))
four_made (a ∷ b ∷ []) count small = absurd (omega (arith, count))
four_made (a ∷ b ∷ c ∷ []) count small = absurd (omega (arith, count))
four_made (a ∷ b ∷ c ∷ d ∷ more) count small =
    let first : a < 256 = small 0 0 (omega arith) in
    let second : b < 256 = small 1 0 (omega arith) in
    let third : c < 256 = small 2 0 (omega arith) in
    let fourth : d < 256 = small 3 0 (omega arith) in
    let n : ℕ = a + 256 * (b + 256 * (c + 256 * (d + 256 * 0))) in
    let p : n % 256 ≡ a = omega (arith, first) in
    let q : n / 256 % 256 ≡ b = omega (arith, first, second) in
    let r : n / 65536 % 256 ≡ c = omega (arith, first, second, third) in
    let s : n / 16777216 % 256 ≡ d = omega (arith, first, second, third, fourth) in
    ap (λ x. x ∷ n / 256 % 256 ∷ n / 65536 % 256 ∷ n / 16777216 % 256 ∷ []) p
    ∙ (ap (λ x. a ∷ x ∷ n / 65536 % 256 ∷ n / 16777216 % 256 ∷ []) q
    ∙ (ap (λ x. a ∷ b ∷ x ∷ n / 16777216 % 256 ∷ []) r ∙ ap (λ x. a ∷ b ∷ c ∷ x ∷ []) s))

of_nothing : (n : ℕ) → take {A = ℕ} n [] ≡ []
of_nothing zero = refl
of_nothing (suc n) = refl

-- a front and the front of what follows it
fronts_joined : (m n : ℕ) (xs : Text) → take m xs ++ take n (drop m xs) ≡ take (m + n) xs
fronts_joined zero n xs = let same : n ≡ 0 + n = omega arith in ap (λ k. take k xs) same
fronts_joined (suc m) n [] = of_nothing n ∙ sym (of_nothing (suc m + n))
fronts_joined (suc m) n (x ∷ xs) = let same : suc (m + n) ≡ suc m + n = omega arith in
    ap (λ ys. x ∷ ys) (fronts_joined m n xs) ∙ ap (λ k. take k (x ∷ xs)) same

-- pieces of two bytes, one after another
pieces_made : {X : Type 0} (g : X → Text) (h : ℕ → X) (bytes : Text) (start low n : ℕ) →
    ((k : ℕ) → low ≤ k → k < low + n → g (h k) ≡ take 2 (drop (start + 2 * k) bytes)) →
    flat_map g (map h (range_with_len low n)) ≡ take (2 * n) (drop (start + 2 * low) bytes)
pieces_made g h bytes start low zero each =
    let none : 0 ≡ 2 * 0 = omega arith in ap (λ k. take k (drop (start + 2 * low) bytes)) none
pieces_made g h bytes start low (suc n) each =
    let here = drop (start + 2 * low) bytes in
    let rest = pieces_made g h bytes start (low + 1) n
    (λ k least below. each k (omega (arith, least)) (omega (arith, below))) in
    let next : start + 2 * (low + 1) ≡ start + 2 * low + 2 = omega arith in
    let more : 2 + 2 * n ≡ 2 * suc n = omega arith in
    ap (λ piece. piece ++ flat_map g (map h (range_with_len (low + 1) n)))
    (each low (omega arith) (omega arith))
    ∙ (ap (λ ys. take 2 here ++ ys) (rest ∙ ap (take (2 * n))
    (ap (λ k. drop k bytes) next ∙ sym (drop-drop 2 (start + 2 * low) bytes)))
    ∙ (fronts_joined 2 (2 * n) here ∙ ap (λ k. take k here) more))

-- the bytes of a whole record are made of what they say
pub fields_made : (counts words : ℕ) (bytes : Text) → AreBytes bytes → length bytes ≡ size_with counts words →
    bytes_of (fields_in counts words bytes) ≡ bytes
fields_made counts words bytes small count =
    let n = 8 + 2 * counts in
    let there : (k : ℕ) → k + 2 ≤ length bytes → 2 ≤ length (drop k bytes) =
    λ k room. omega (arith, length-drop k bytes, room) in
    let numbers : little_bytes 4 (number_in bytes) ≡ take 4 bytes =
    four_made bytes (omega (arith, count)) small in
    let stamps : little_bytes 4 (stamp_in bytes) ≡ take 4 (drop 4 bytes) =
    four_made (drop 4 bytes) (omega (arith, length-drop 4 bytes, count))
    (All-drop (λ byte. byte < 256) 4 bytes small) in
    let of_counts : flat_map count_bytes (map (count_in bytes) (range_with_len 0 counts))
    ≡ take (2 * counts) (drop (8 + 2 * 0) bytes) =
    pieces_made count_bytes (count_in bytes) bytes 8 0 counts (λ k least below.
    let made = two_made (drop (8 + 2 * k) bytes) (there (8 + 2 * k) (omega (arith, below, count)))
    (All-drop (λ byte. byte < 256) (8 + 2 * k) bytes small) in
    ap (little_bytes 2) (of_z-to_z w16 (little_number 2 (drop (8 + 2 * k) bytes)) made.1) ∙ made.0) in
    let of_words : flat_map word_bytes (map (word_in counts bytes) (range_with_len 0 words))
    ≡ take (2 * words) (drop (n + 2 * 0) bytes) =
    pieces_made word_bytes (word_in counts bytes) bytes n 0 words (λ k least below.
    (two_made (drop (n + 2 * k) bytes) (there (n + 2 * k) (omega (arith, below, count)))
    (All-drop (λ byte. byte < 256) (n + 2 * k) bytes small)).0) in
    let eight : 8 + 2 * 0 ≡ 8 = omega arith in
    let behind : n + 2 * 0 ≡ n = omega arith in
    let counted = flat_map count_bytes (map (count_in bytes) (range_with_len 0 counts)) in
    let worded = flat_map word_bytes (map (word_in counts bytes) (range_with_len 0 words)) in
    ap (λ part. ((part ++ little_bytes 4 (stamp_in bytes)) ++ counted) ++ worded) numbers
    ∙ (ap (λ part. ((take 4 bytes ++ part) ++ counted) ++ worded) stamps
    ∙ (ap (λ front. (front ++ counted) ++ worded) (fronts_joined 4 4 bytes)
    ∙ (ap (λ part. (take 8 bytes ++ part) ++ worded)
    (of_counts ∙ ap (λ k. take (2 * counts) (drop k bytes)) eight)
    ∙ (ap (λ front. front ++ worded) (fronts_joined 8 (2 * counts) bytes)
    ∙ (ap (λ part. take n bytes ++ part) (of_words ∙ ap (λ k. take (2 * words) (drop k bytes)) behind)
    ∙ (fronts_joined n (2 * words) bytes ∙ take_all (n + 2 * words) bytes (omega (arith, count))))))))
