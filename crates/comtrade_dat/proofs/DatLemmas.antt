-- A dat of good records makes their recording.
use Rattle.std.proofs.Common.{◌≡◌, ◌∙◌, ℕ, zero, suc, ◌+◌, ◌-◌, ◌*◌, ◌%◌, ◌^◌, ◌<◌, ◌≤◌, Bool, true, false, ◌||◌, cond, List, [], ◌∷◌, ◌++◌, length, get_or, map, refl, ap, sym, arith, ℤ, pos, Option, Some, None, Result, Ok}
use Rattle.std.proofs.lemmas.Bool.Decides.{Decides-eqb, Decides-int_eq}
use Rattle.std.proofs.lemmas.List.{get_or-map, length-map}
use Rattle.std.proofs.lemmas.List.Elements.{All-head, All-tail}
use Rattle.std.proofs.lemmas.List.FromFn.{fill_by_all}
use Rattle.std.proofs.lemmas.Nat.{mul-le}
use Rattle.std.specs.Bool.{Decides, ◌==◌}
use Rattle.std.specs.List.{All, range_with_len}
use Rattle.std.specs.Prelude.{find}
use Rattle.comtrade_cfg.proofs.SelectionLaws.{selection_good}
use Rattle.comtrade_cfg.specs.Selecting.{coefficients_at}
use Rattle.comtrade_cfg.specs.declared.voltage.Coefficients.{Coefficients}
use Rattle.comtrade_dat.proofs.ReadBackLemmas.{count_read, length_parts, length_record, number_read, record_placed}
use Rattle.comtrade_dat.proofs.JudgingLemmas.{alone}
use Rattle.comtrade_dat.proofs.RecordingLemmas.{at_least, recording_of_good, with_samples}
use Rattle.comtrade_dat.specs.BinaryRecord.{RecordFields, bytes_of, count_in, number_in, record_at, size_with, words_for}
use Rattle.comtrade_dat.specs.ReadBack.{AreGood, DatsReadBack, HasShape, count_of, dat_of, samples_from}
use Rattle.comtrade_dat.specs.Samples.{channel_samples, first_fault, is_missing, is_numbered, is_whole, judged_dat, judged_end, judged_record, none_missing, sample_at}
use Rattle.comtrade_dat.specs.declared.dat_fault.DatFault.{DatFault}
use Rattle.comtrade_dat.specs.declared.dat_fault.DatFault.TheVariants as fault
use Rattle.comtrade_dat.specs.declared.limits.TheConstants.{MISSING_COUNT}
use Rattle.pq_base.specs.Sample.{sample_of}
use Rattle.pq_words.specs.FirstFault.{◌>>=◌, provided}

-- ---- judgements

-- a test of a fact that does not hold
fails : {P : Type 0} (test : Bool) → Decides test P → (P → ⊥) → test ≡ false
fails true decides not = absurd (not (decides.0 refl))
fails false decides not = refl

or_second : (first second : Bool) → second ≡ true → (first || second) ≡ true
or_second true second holds = refl
or_second false second holds = holds

-- nothing is found where no element passes
found_none : (p : ℕ → Bool) (xs : List ℕ) → All (λ x. p x ≡ false) xs → find p xs ≡ None
found_none p [] all = refl
found_none p (x ∷ xs) all =
    ap (λ b. cond b (Some x) (find p xs)) (All-head (λ x. p x ≡ false) x xs all)
    ∙ found_none p xs (All-tail (λ x. p x ≡ false) x xs all)

-- a record of which all parts are good
good_parts : (whole numbered : Bool) (found : Option ℕ) (short misnumbered : DatFault) (at : ℕ) → whole
    ≡ true →
    numbered ≡ true → found ≡ None → (provided whole short (tt {0})
    >>= (λ x. provided numbered misnumbered (tt {0}) >>= (λ y. none_missing at found))) ≡ Ok (tt {0})
good_parts true true None short misnumbered at p q r = refl
good_parts true true (Some x) short misnumbered at p q r = absurd cc
good_parts true false found short misnumbered at p q r = absurd cc
good_parts false numbered found short misnumbered at p q r = absurd cc

-- several judgements that find no fault leave the one after them
all_good : (judged : ℕ → Result (Unit {0}) DatFault) (last : Result (Unit {0}) DatFault) (low n : ℕ) →
    ((k : ℕ) → low ≤ k → k < low + n → judged k ≡ Ok (tt {0})) →
    first_fault (map judged (range_with_len low n) ++ last ∷ []) ≡ last
all_good judged last low zero each = alone last
all_good judged last low (suc n) each =
    ap (λ first. first >>= (λ good. first_fault (map judged (range_with_len (low + 1) n) ++ last ∷ [])))
    (each low (omega arith) (omega arith))
    ∙ all_good judged last (low + 1) n (λ k least below. each k (omega (arith, least)) (omega (arith, below)))

-- what two functions agree on
map_agree : (f g : ℕ → List ℤ) (xs : List ℕ) → All (λ x. f x ≡ g x) xs → map f xs ≡ map g xs
map_agree f g [] all = refl
map_agree f g (x ∷ xs) all =
    ap (λ y. y ∷ map f xs) (All-head (λ x. f x ≡ g x) x xs all)
    ∙ ap (λ ys. g x ∷ ys) (map_agree f g xs (All-tail (λ x. f x ≡ g x) x xs all))

-- ---- records of one shape

none : RecordFields
none = record { number = 0; stamp = 0; counts = []; states = [] }

number_placed : (counts words : ℕ) (records : List RecordFields) (index : ℕ) →
    All (HasShape counts words) records → index < length records →
    number_in (record_at (size_with counts words) (dat_of records) index) ≡ (get_or records index none).number
number_placed counts words records index shapes below =
    ap number_in (record_placed counts words records index none shapes below)
    ∙ number_read (get_or records index none) (shapes index none below).number

count_placed : (counts words : ℕ) (records : List RecordFields) (index position : ℕ) →
    All (HasShape counts words) records → index < length records → position < counts →
    count_in (record_at (size_with counts words) (dat_of records) index) position
    ≡ count_of (get_or records index none) position
count_placed counts words records index position shapes below there =
    let fields = get_or records index none in
    let shape = shapes index none below in
    let inside : position < length fields.counts = omega (arith, there, shape.as_many_counts) in
    ap (λ bytes. count_in bytes position) (record_placed counts words records index none shapes below)
    ∙ count_read fields position (pos 0) inside shape.signed

length_dat : (counts words : ℕ) (records : List RecordFields) → All (HasShape counts words) records →
    length (dat_of records) ≡ size_with counts words * length records
length_dat counts words records shapes = length_parts bytes_of (size_with counts words) records
    (λ k d inside. length_record counts words (get_or records k d) (shapes k d inside))

numbered_placed : (counts words : ℕ) (positions : List ℕ) (records : List RecordFields) (index : ℕ) →
    All (HasShape counts words) records → AreGood positions records → index < length records →
    is_numbered (size_with counts words) (dat_of records) index ≡ true
numbered_placed counts words positions records zero shapes good below = refl
numbered_placed counts words positions records (suc index) shapes good below =
    let size = size_with counts words in
    let dat = dat_of records in
    let earlier : index < length records = omega (arith, below) in
    let one : suc index ≡ index + 1 = omega arith in
    let back : suc index - 1 ≡ index = omega arith in
    let next : index + 1 < length records = omega (arith, below) in
    let here : number_in (record_at size dat (suc index)) ≡ (get_or records (index + 1) none).number =
    ap (λ k. number_in (record_at size dat k)) one
    ∙ number_placed counts words records (index + 1) shapes next in
    let before : number_in (record_at size dat (suc index - 1)) ≡ (get_or records index none).number =
    ap (λ k. number_in (record_at size dat k)) back
    ∙ number_placed counts words records index shapes earlier in
    or_second (suc index == 0) (number_in (record_at size dat (suc index))
    == (number_in (record_at size dat (suc index - 1)) + 1) % 2 ^ 32)
    ((Decides-eqb (number_in (record_at size dat (suc index)))
    ((number_in (record_at size dat (suc index - 1)) + 1) % 2 ^ 32)).1
    (here ∙ (good.numbered index none next ∙ sym (ap (λ n. (n + 1) % 2 ^ 32) before))))

-- each of them is good
record_good : (counts words : ℕ) (positions : List ℕ) (records : List RecordFields) (index : ℕ) →
    All (HasShape counts words) records → AreGood positions records → All (λ p. p < counts) positions →
    index < length records → judged_record (size_with counts words) positions (dat_of records) index
    ≡ Ok (tt {0})
record_good counts words positions records index shapes good there below =
    let size = size_with counts words in
    let dat = dat_of records in
    let bytes = record_at size dat index in
    let same : size ≤ size = omega arith in
    let next : index + 1 ≤ length records = omega (arith, below) in
    let inside : size * (index + 1) ≤ length dat = omega (
      arith,
      length_dat counts words records shapes,
      mul-le size (index + 1) size (length records) same next,
    ) in
    let counted : All (λ p. is_missing bytes p ≡ false) positions =
    λ k d within.
    let p = get_or positions k d in
    fails (is_missing bytes p) (Decides-int_eq (count_in bytes p) MISSING_COUNT)
    (λ missing. good.counted index none below k d within
    (sym (count_placed counts words records index p shapes below (there k d within)) ∙ missing)) in
    good_parts (is_whole size dat index) (is_numbered size dat index) (find (is_missing bytes) positions)
    (fault.Short (index + 1)) (fault.Number (index + 1) (number_in bytes)) (index + 1)
    (at_least (size * (index + 1)) (length dat) inside)
    (numbered_placed counts words positions records index shapes good below)
    (found_none (is_missing bytes) positions counted)

-- and these are the samples of a channel
samples_placed : (counts words : ℕ) (records : List RecordFields) (n position : ℕ) (k : Coefficients) →
    All (HasShape counts words) records → length records ≡ n → position < counts →
    channel_samples k (size_with counts words) position (dat_of records) n
    ≡ samples_from k position records
samples_placed counts words records n position k shapes as_many there =
    let samples : List ℤ = samples_from k position records in
    let count : length samples ≡ n =
    length-map records (λ fields. sample_of k.a k.b (count_of fields position)) ∙ as_many in
    sym (fill_by_all (sample_at k (size_with counts words) position (dat_of records)) samples n (pos 0) count
    (λ i below.
    let inside : i < length records = omega (arith, below, as_many) in
    get_or-map (λ fields. sample_of k.a k.b (count_of fields position)) records i none (pos 0) inside
    ∙ ap (sample_of k.a k.b) (sym (count_placed counts words records i position shapes inside there))))

pub dats_read_back : DatsReadBack
dats_read_back c s records selected shapes as_many good =
    let counts = length c.analogue in
    let words = words_for (length c.status) in
    let size = size_with counts words in
    let dat = dat_of records in
    let there = (selection_good c s selected).there in
    let end : judged_end size dat c.endsamp ≡ Ok (tt {0}) =
    let most : length dat ≤ size * c.endsamp = omega (
      arith,
      length_dat counts words records shapes
          ∙ ap (λ n. size * n) as_many,
    ) in
    ap (λ b. provided b (fault.Long (length dat - size * c.endsamp)) (tt {0}))
    (at_least (length dat) (size * c.endsamp) most) in
    let judged : judged_dat size s.positions dat c.endsamp ≡ Ok (tt {0}) =
    all_good (judged_record size s.positions dat) (judged_end size dat c.endsamp) 0 c.endsamp
    (λ k least below. let inside : k < length records = omega (arith, below, as_many) in
    record_good counts words s.positions records k shapes good there inside)
    ∙ end in
    recording_of_good c s dat judged
    ∙ ap Ok (ap (with_samples c s) (map_agree
    (λ p. channel_samples (coefficients_at c p) size p dat c.endsamp)
    (λ p. samples_from (coefficients_at c p) p records) s.positions
    (λ k d within. samples_placed counts words records c.endsamp (get_or s.positions k d)
    (coefficients_at c (get_or s.positions k d)) shapes as_many (there k d within))))
