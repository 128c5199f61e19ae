-- Records one after another.
use Rattle.std.proofs.Common.{◌≡◌, ℕ, zero, suc, ◌+◌, ◌-◌, ◌*◌, ◌/◌, ◌%◌, ◌<◌, ◌≤◌, List, [], ◌∷◌, ◌++◌, length, get_or, pos, refl, sym, ◌∙◌, ap, arith}
use Rattle.std.specs.List.{flat_map}
use Rattle.std.proofs.lemmas.List.{append-nil, append_assoc, length-append}
use Rattle.std.proofs.lemmas.List.Concat.{flat_map-append}
use Rattle.pq_generate.proofs.DisturbanceLemmas.{none_behind, numbers_append, only_one}
use Rattle.pq_generate.specs.GeneratedRecording.{count_at, dat_text, disturbance_of, disturbances, disturbed_by, on_channels, record_at, record_bytes, records_between, sine}
use Rattle.pq_generate.specs.declared.disturbance.Disturbance.{Disturbance}
use Rattle.pq_words.specs.Steps.{numbers_from}
use Rattle.pq_words.specs.Text.{Text}

-- no records
pub records_none : (ds : List Disturbance) (low : ℕ) → records_between ds low low ≡ []
unfolding records_between numbers_from
records_none ds low = let e : low - low ≡ zero = omega arith in rw e refl

-- those up to a place, and those from there on
pub records_join : (ds : List Disturbance) (low middle high : ℕ) → low ≤ middle → middle ≤ high →
    records_between ds low middle ++ records_between ds middle high ≡ records_between ds low high
unfolding records_between
records_join ds low middle high from to =
    let there : low + (middle - low) ≡ middle = omega arith in
    let whole : middle - low + (high - middle) ≡ high - low = omega arith in
    ap (λ k. flat_map (record_at ds) (numbers_from low (middle - low)) ++ flat_map (record_at ds)
    (numbers_from k (high - middle))) (sym there)
    ∙ sym (flat_map-append (record_at ds) (numbers_from low (middle - low))
    (numbers_from (low + (middle - low)) (high - middle)))
    ∙ ap (flat_map (record_at ds)) (sym (numbers_append low (middle - low) (high - middle)))
    ∙ ap (λ n. flat_map (record_at ds) (numbers_from low n)) whole

-- one record
records_one : (ds : List Disturbance) (i : ℕ) → records_between ds i (i + 1) ≡ record_at ds i
unfolding records_between numbers_from
records_one ds i = let e : i + 1 - i ≡ suc zero = omega arith in rw e (append-nil (record_at ds i))

-- one more record
pub records_push : (ds : List Disturbance) (low i : ℕ) → low ≤ i →
    records_between ds low i ++ record_at ds i ≡ records_between ds low (i + 1)
records_push ds low i from =
    ap (λ bytes. records_between ds low i ++ bytes) (sym (records_one ds i))
    ∙ records_join ds low i (i + 1) from (omega arith)

-- records of the same counts are the same
same_record : (ds es : List Disturbance) (i : ℕ)
    → ((channel : ℕ) → count_at ds channel i ≡ count_at es channel i) → record_at ds i ≡ record_at es i
unfolding record_at
same_record ds es i same = λ t. record_bytes (i + 1) (on_channels (λ channel. same channel t))

same_flat : (ds es : List Disturbance) (low n : ℕ)
    → ((i : ℕ) → low ≤ i → i < low + n → record_at ds i ≡ record_at es i)
    → flat_map (record_at ds) (numbers_from low n) ≡ flat_map (record_at es) (numbers_from low n)
unfolding numbers_from
same_flat ds es low zero same = refl
same_flat ds es low (suc n) same =
    let first : record_at ds low ≡ record_at es low = same low (omega arith) (omega arith) in
    let later : flat_map (record_at ds) (numbers_from (low + 1) n) ≡ flat_map (record_at es)
    (numbers_from (low + 1) n) =
    same_flat ds es (low + 1) n (λ i from below. same i (omega arith) (omega arith)) in
    λ t. first t ++ later t

same_records : (ds es : List Disturbance) (low high : ℕ) → low ≤ high
    → ((i channel : ℕ) → low ≤ i → i < high → count_at ds channel i ≡ count_at es channel i)
    → records_between ds low high ≡ records_between es low high
unfolding records_between
same_records ds es low high ordered same = same_flat ds es low (high - low)
    (λ i from below. same_record ds es i (λ channel. same i channel from (omega arith)))

-- the records of the cycles of an index are those of its disturbance alone
pub records_of_index : (seed index : ℕ) → index < 10
    → records_between (disturbance_of seed index ∷ []) (24 * (3000 * index)) (24 * (3000 * index + 3000))
    ≡ records_between (disturbances seed) (24 * (3000 * index)) (24 * (3000 * index + 3000))
unfolding count_at
records_of_index seed index below = same_records (disturbance_of seed index ∷ []) (disturbances seed)
    (24 * (3000 * index)) (24 * (3000 * index + 3000)) (omega arith)
    (λ i channel from to. sym (only_one seed channel (i / 24) index (get_or sine (i % 24) (pos 0)) below
    (omega arith) (omega arith)))

-- those behind the cycles of the last are the sine's
pub records_behind : (seed : ℕ)
    → records_between [] (24 * 30000) (24 * 30100)
    ≡ records_between (disturbances seed) (24 * 30000) (24 * 30100)
unfolding count_at
records_behind seed = same_records [] (disturbances seed) (24 * 30000) (24 * 30100) (omega arith)
    (λ i channel from to. sym (none_behind seed channel (i / 24) (get_or sine (i % 24) (pos 0))
    (omega arith)))

-- the record of a place in a cycle
pub record_in_cycle : (ds : List Disturbance) (cycle place : ℕ) → place < 24
    → record_at ds (24 * cycle + place)
    ≡ record_bytes (24 * cycle + place + 1)
    (on_channels (λ channel. disturbed_by ds channel cycle (get_or sine place (pos 0))))
unfolding record_at count_at
record_in_cycle ds cycle place below =
    let quotient : (24 * cycle + place) / 24 ≡ cycle = omega arith in
    let rest : (24 * cycle + place) % 24 ≡ place = omega arith in
    λ t. record_bytes (24 * cycle + place + 1)
    (on_channels (λ channel. disturbed_by ds channel (quotient t) (get_or sine (rest t) (pos 0))))

-- one more record of a cycle
pub record_pushed : (ds : List Disturbance) (front bytes : Text) (cycle place : ℕ) → place < 24
    → bytes ≡ record_bytes (24 * cycle + place + 1)
    (on_channels (λ channel. disturbed_by ds channel cycle (get_or sine place (pos 0))))
    → front ++ records_between ds (24 * cycle) (24 * cycle + place) ++ bytes
    ≡ front ++ records_between ds (24 * cycle) (24 * cycle + (place + 1))
record_pushed ds front bytes cycle place below e =
    let far : 24 * cycle + place + 1 ≡ 24 * cycle + (place + 1) = omega arith in
    append_assoc front (records_between ds (24 * cycle) (24 * cycle + place)) bytes
    ∙ ap (λ b. front ++ (records_between ds (24 * cycle) (24 * cycle + place) ++ b))
    (e ∙ sym (record_in_cycle ds cycle place below))
    ∙ ap (λ rest. front ++ rest) (records_push ds (24 * cycle) (24 * cycle + place) (omega arith))
    ∙ ap (λ high. front ++ records_between ds (24 * cycle) high) far

-- and one more cycle
pub cycle_pushed : (ds : List Disturbance) (front : Text) (start cycle : ℕ) → start ≤ cycle
    → front ++ records_between ds (24 * start) (24 * cycle)
    ++ records_between ds (24 * cycle) (24 * (cycle + 1))
    ≡ front ++ records_between ds (24 * start) (24 * (cycle + 1))
cycle_pushed ds front start cycle from =
    append_assoc front (records_between ds (24 * start) (24 * cycle))
    (records_between ds (24 * cycle) (24 * (cycle + 1)))
    ∙ ap (λ rest. front ++ rest)
    (records_join ds (24 * start) (24 * cycle) (24 * (cycle + 1)) (omega arith) (omega arith))

-- the cycles of one more index
pub index_pushed : (seed index : ℕ) → index < 10
    → records_between (disturbances seed) 0 (24 * (3000 * index))
    ++ records_between (disturbance_of seed index ∷ []) (24 * (3000 * index)) (24 * (3000 * index + 3000))
    ≡ records_between (disturbances seed) 0 (24 * (3000 * (index + 1)))
index_pushed seed index below =
    let far : 24 * (3000 * index + 3000) ≡ 24 * (3000 * (index + 1)) = omega arith in
    ap (λ rest. records_between (disturbances seed) 0 (24 * (3000 * index)) ++ rest)
    (records_of_index seed index below)
    ∙ records_join (disturbances seed) 0 (24 * (3000 * index)) (24 * (3000 * index + 3000)) (omega arith)
    (omega arith)
    ∙ ap (records_between (disturbances seed) 0) far

-- ---- lengths

length_flat : (ds : List Disturbance) (low n : ℕ)
    → length (flat_map (record_at ds) (numbers_from low n)) ≡ 14 * n
unfolding record_at numbers_from
length_flat ds low zero = refl
length_flat ds low (suc n) =
    let later : List ℕ = flat_map (record_at ds) (numbers_from (low + 1) n) in
    length-append (record_at ds low) later ∙ omega (arith, length_flat ds (low + 1) n)

length_records : (ds : List Disturbance) (low high : ℕ)
    → length (records_between ds low high) ≡ 14 * (high - low)
unfolding records_between
length_records ds low high = length_flat ds low (high - low)

pub dats_whole : (seed : ℕ) → length (dat_text seed) ≡ 14 * 722400
dats_whole seed = length_records (disturbances seed) 0 722400
