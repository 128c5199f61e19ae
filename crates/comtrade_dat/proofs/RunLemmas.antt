-- A record of a dat does not depend on what comes after it, and is the same in a run that is left after the
-- records before it.
use Rattle.std.proofs.Common.{◌≡◌, ◌∙◌, ℕ, zero, suc, ◌+◌, ◌-◌, ◌*◌, ◌%◌, ◌^◌, ◌<◌, ◌≤◌, Bool, true, false, ◌||◌, List, [], ◌∷◌, ◌++◌, length, drop, take, map, refl, ap, sym, arith, Option, Some, None, Result, Ok}
use Rattle.std.proofs.lemmas.Bool.Decides.{nat_tests}
use Rattle.std.proofs.lemmas.List.{drop-append-le, drop-drop, length-append, length-drop, take-append-le}
use Rattle.std.specs.Bool.{◌==◌}
use Rattle.std.specs.List.{range_with_len}
use Rattle.std.specs.Prelude.{find, if◌then◌else◌}
use Rattle.comtrade_dat.proofs.ChannelLemmas.{ranges_joined}
use Rattle.comtrade_dat.proofs.JudgingLemmas.{first_fault_after, whole_before}
use Rattle.comtrade_dat.proofs.RecordingLemmas.{at_least}
use Rattle.comtrade_dat.specs.BinaryRecord.{count_in, number_in, record_at}
use Rattle.comtrade_dat.specs.Channel.{ChannelRead, read_on}
use Rattle.comtrade_dat.specs.Run.{is_numbered_after, judged_bytes, judged_in, judged_run, number_before, start_at}
use Rattle.comtrade_dat.specs.Samples.{first_fault, is_missing, is_numbered, judged_record, judged_records, none_missing, sample_at}
use Rattle.comtrade_dat.specs.declared.dat_fault.DatFault.{DatFault}
use Rattle.comtrade_dat.specs.declared.dat_fault.DatFault.TheVariants as fault
use Rattle.pq_base.specs.Sample.{sample_of}
use Rattle.pq_words.specs.FirstFault.{◌>>=◌, provided}
use Rattle.pq_words.specs.Text.{Text}

-- ---- records

-- what comes after a record
pub record_longer : (size : ℕ) (dat more : Text) (index : ℕ) → size * (index + 1) ≤ length dat →
    record_at size (dat ++ more) index ≡ record_at size dat index
record_longer size dat more index whole =
    let from = size * index in
    let width = size * (index + 1) - from in
    let before : from ≤ length dat = omega (arith, whole) in
    let behind : width ≤ length (drop from dat) = omega (arith, length-drop from dat, whole) in
    ap (take width) (drop-append-le from dat more before)
    ∙ take-append-le width (drop from dat) more behind

-- what comes before it
pub record_later : (size : ℕ) (dat : Text) (base index : ℕ) →
    record_at size (drop (size * base) dat) index ≡ record_at size dat (base + index)
record_later size dat base index =
    let at : size * base + size * index ≡ size * (base + index) = omega arith in
    let short : size * (index + 1) - size * index ≡ size = omega arith in
    let wide : size * (base + index + 1) - size * (base + index) ≡ size = omega arith in
    ap (take (size * (index + 1) - size * index))
    (drop-drop (size * index) (size * base) dat ∙ ap (λ k. drop k dat) at)
    ∙ ap (λ n. take n (drop (size * (base + index)) dat)) (short ∙ sym wide)

-- ---- sample numbers

-- after the first record
pub number_of_record : (size : ℕ) (before : Option ℕ) (run : Text) (index k : ℕ) → index ≡ k + 1 →
    number_before size before run index ≡ Some (number_in (record_at size run k))
number_of_record size before run index k is =
    let no : (index == 0) ≡ false = grind (arith, nat_tests) in
    let back : index - 1 ≡ k = omega (arith, is) in
    ap (λ b. if b then before else Some (number_in (record_at size run (index - 1)))) no
    ∙ ap (λ k. Some (number_in (record_at size run k))) back

pub number_longer : (size : ℕ) (before : Option ℕ) (dat more : Text) (index : ℕ) →
    size * index ≤ length dat → number_before size before (dat ++ more) index
    ≡ number_before size before dat index
number_longer size before dat more zero whole = refl
number_longer size before dat more (suc k) whole =
    let one : suc k ≡ k + 1 = omega arith in
    let inside : size * (k + 1) ≤ length dat = omega (arith, whole) in
    number_of_record size before (dat ++ more) (suc k) k one
    ∙ (ap (λ bytes. Some (number_in bytes)) (record_longer size dat more k inside)
    ∙ sym (number_of_record size before dat (suc k) k one))

pub number_later : (size : ℕ) (dat : Text) (base index : ℕ) →
    number_before size (number_before size None dat base) (drop (size * base) dat) index
    ≡ number_before size None dat (base + index)
number_later size dat base zero =
    let same : base ≡ base + 0 = omega arith in ap (number_before size None dat) same
number_later size dat base (suc k) =
    let one : suc k ≡ k + 1 = omega arith in
    let later : base + suc k ≡ base + k + 1 = omega arith in
    number_of_record size (number_before size None dat base) (drop (size * base) dat) (suc k) k one
    ∙ (ap (λ bytes. Some (number_in bytes)) (record_later size dat base k)
    ∙ sym (number_of_record size None dat (base + suc k) (base + k) later))

-- ---- judgements

numbered_by : (first : Bool) (number before : ℕ) → (first || (number == (before + 1) % 2 ^ 32))
    ≡ is_numbered_after (if first then None else Some before) number
numbered_by true number before = refl
numbered_by false number before = refl

-- a whole record is judged by its bytes and by the number before it
judged_is : (size : ℕ) (positions : List ℕ) (dat : Text) (index : ℕ) → size * (index + 1) ≤ length dat →
    judged_record size positions dat index
    ≡ judged_bytes positions (number_before size None dat index) (index + 1) (record_at size dat index)
judged_is size positions dat index whole =
    let bytes = record_at size dat index in
    let number = number_in bytes in
    let before = number_in (record_at size dat (index - 1)) in
    let counted : Result (Unit {0}) DatFault = none_missing (index + 1) (find (is_missing bytes) positions) in
    ap (λ (there : Bool). provided there (fault.Short (index + 1)) (tt {0}) >>= (λ whole.
    provided (is_numbered size dat index) (fault.Number (index + 1) number) (tt {0}) >>=
    (λ numbered. counted)))
    (at_least (size * (index + 1)) (length dat) whole)
    ∙ ap (λ (numbered : Bool). provided numbered (fault.Number (index + 1) number) (tt {0})
    >>= (λ numbered. counted)) (numbered_by (index == 0) number before)

pub judged_longer : (size : ℕ) (positions : List ℕ) (dat more : Text) (index : ℕ) →
    size * (index + 1) ≤ length dat → judged_record size positions (dat ++ more) index
    ≡ judged_record size positions dat index
judged_longer size positions dat more index whole =
    let longer : size * (index + 1) ≤ length (dat ++ more) = omega (arith, length-append dat more, whole) in
    let earlier : size * index ≤ length dat = omega (arith, whole) in
    judged_is size positions (dat ++ more) index longer
    ∙ (ap (λ before. judged_bytes positions before (index + 1) (record_at size (dat ++ more) index))
    (number_longer size None dat more index earlier)
    ∙ (ap (judged_bytes positions (number_before size None dat index) (index + 1))
    (record_longer size dat more index whole)
    ∙ sym (judged_is size positions dat index whole)))

pub judged_later : (size : ℕ) (positions : List ℕ) (dat : Text) (base index : ℕ) →
    size * (base + index + 1) ≤ length dat →
    judged_in size positions (start_at size dat base) (drop (size * base) dat) index
    ≡ judged_record size positions dat (base + index)
judged_later size positions dat base index whole =
    ap (λ before. judged_bytes positions before (base + index + 1)
    (record_at size (drop (size * base) dat) index))
    (number_later size dat base index)
    ∙ (ap (judged_bytes positions (number_before size None dat (base + index)) (base + index + 1))
    (record_later size dat base index)
    ∙ sym (judged_is size positions dat (base + index) whole))

-- ---- several records

-- what two functions agree on, from these numbers on
pub ranges_agree : {X : Type 0} (f g : ℕ → X) (low high n : ℕ) →
    ((k : ℕ) → k < n → f (low + k) ≡ g (high + k)) → map f (range_with_len low n)
    ≡ map g (range_with_len high n)
ranges_agree f g low high zero each = refl
ranges_agree f g low high (suc n) each =
    let first : low ≡ low + 0 = omega arith in
    let second : high + 0 ≡ high = omega arith in
    let here : f low ≡ g high = ap f first ∙ (each 0 (omega arith) ∙ ap g second) in
    ap (λ x. x ∷ map f (range_with_len (low + 1) n)) here
    ∙ ap (λ xs. g high ∷ xs) (ranges_agree f g (low + 1) (high + 1) n (λ k below.
    let from : low + 1 + k ≡ low + (k + 1) = omega arith in
    let to : high + (k + 1) ≡ high + 1 + k = omega arith in
    ap f from ∙ (each (k + 1) (omega (arith, below)) ∙ ap g to)))

pub records_longer : (size : ℕ) (positions : List ℕ) (dat more : Text) (n : ℕ) → size * n ≤ length dat →
    judged_records size positions (dat ++ more) n ≡ judged_records size positions dat n
records_longer size positions dat more n whole =
    ranges_agree (judged_record size positions (dat ++ more)) (judged_record size positions dat) 0 0 n
    (λ k below. judged_longer size positions dat more (0 + k)
    (whole_before size (0 + k + 1) n (length dat) (omega (arith, below)) whole))

run_judged : (size : ℕ) (positions : List ℕ) (dat : Text) (base n : ℕ) → size * (base + n) ≤ length dat →
    judged_run size positions (start_at size dat base) (drop (size * base) dat) n
    ≡ map (judged_record size positions dat) (range_with_len base n)
run_judged size positions dat base n whole =
    ranges_agree (judged_in size positions (start_at size dat base) (drop (size * base) dat))
    (judged_record size positions dat) 0 base n
    (λ k below.
    let same : base + (0 + k) ≡ base + k = omega arith in
    judged_later size positions dat base (0 + k)
    (whole_before size (base + (0 + k) + 1) (base + n) (length dat) (omega (arith, below)) whole)
    ∙ ap (judged_record size positions dat) same)

-- after good records the run that is left decides
pub run_decides : (size : ℕ) (positions : List ℕ) (dat : Text) (base n : ℕ) → size * (base + n) ≤ length dat →
    first_fault (judged_records size positions dat base) ≡ Ok (tt {0}) →
    first_fault (judged_records size positions dat (base + n))
    ≡ first_fault (judged_run size positions (start_at size dat base) (drop (size * base) dat) n)
run_decides size positions dat base n whole good =
    let judged = judged_record size positions dat in
    let from : 0 + base ≡ base = omega arith in
    ap first_fault (sym (ranges_joined judged 0 base n))
    ∙ (first_fault_after (judged_records size positions dat base) (map judged (range_with_len (0 + base) n))
    good
    ∙ ap first_fault (ap (λ low. map judged (range_with_len low n)) from
    ∙ sym (run_judged size positions dat base n whole)))

-- ---- samples

pub read_longer : (size : ℕ) (dat more : Text) (n : ℕ) → size * n ≤ length dat →
    (channels : List ChannelRead) →
    map (read_on size (dat ++ more) 0 n) channels ≡ map (read_on size dat 0 n) channels
read_longer size dat more n whole [] = refl
read_longer size dat more n whole (channel ∷ rest) =
    let k = channel.coefficients in
    let p = channel.position in
    let all : n - 0 ≡ n = omega arith in
    let same = ranges_agree (sample_at k size p (dat ++ more)) (sample_at k size p dat) 0 0 (n - 0)
    (λ i below. ap (λ bytes. sample_of k.a k.b (count_in bytes p)) (record_longer size dat more (0 + i)
    (whole_before size (0 + i + 1) n (length dat) (omega (arith, below)) whole))) in
    ap (λ samples. let read : ChannelRead = record channel { samples = channel.samples ++ samples } in
    read ∷ map (read_on size (dat ++ more) 0 n) rest) same
    ∙ ap (λ channels. read_on size dat 0 n channel ∷ channels) (read_longer size dat more n whole rest)

-- a run is read as the records of the dat from its beginning on
pub read_later : (size : ℕ) (dat : Text) (base n : ℕ) (channels : List ChannelRead) →
    map (read_on size (drop (size * base) dat) 0 n) channels ≡ map (read_on size dat base (base + n)) channels
read_later size dat base n [] = refl
read_later size dat base n (channel ∷ rest) =
    let k = channel.coefficients in
    let p = channel.position in
    let run = drop (size * base) dat in
    let all : n - 0 ≡ base + n - base = omega arith in
    let same = ranges_agree (sample_at k size p run) (sample_at k size p dat) 0 base (n - 0)
    (λ i below.
    let here : base + (0 + i) ≡ base + i = omega arith in
    ap (λ bytes. sample_of k.a k.b (count_in bytes p)) (record_later size dat base (0 + i))
    ∙ ap (sample_at k size p dat) here)
    ∙ ap (λ n. map (sample_at k size p dat) (range_with_len base n)) all in
    ap (λ samples. let read : ChannelRead = record channel { samples = channel.samples ++ samples } in
    read ∷ map (read_on size run 0 n) rest) same
    ∙ ap (λ channels. read_on size dat base (base + n) channel ∷ channels) (read_later size dat base n rest)
