-- The recording that a dat makes: that it is one, and what decides where there is none.
use Rattle.std.proofs.Common.{◌≡◌, inl, inr, ◌∙◌, ℕ, ◌+◌, ◌-◌, ◌*◌, ◌/◌, ◌%◌, ◌<◌, ◌≤◌, Bool, true, false, List, [], ◌∷◌, length, get_or, map, nat_le, refl, ap, sym, subst, arith, Ok, Err, ℤ}
use Rattle.std.proofs.lemmas.Nat.{mod_below}
use Rattle.std.proofs.lemmas.Bool.{cases_lt}
use Rattle.std.proofs.lemmas.Bool.Decides.{nat_tests}
use Rattle.std.proofs.lemmas.List.{get_or-map, length-map}
use Rattle.std.proofs.lemmas.List.Elements.{All-map}
use Rattle.std.proofs.lemmas.List.FromFn.{length-map-range_with_len}
use Rattle.std.specs.List.{All}
use Rattle.std.specs.List.Sorted.{IsStrictlyIncreasing}
use Rattle.comtrade_cfg.specs.Bounds.{IsBounded}
use Rattle.comtrade_cfg.specs.Configuration.{Configuration}
use Rattle.comtrade_cfg.specs.Selecting.{Selected}
use Rattle.comtrade_dat.proofs.JudgingLemmas.{alone, fault_among, first_fault_after, first_fault_stays, judged_next}
use Rattle.comtrade_cfg.specs.Selecting.{IsGoodSelection, coefficients_at}
use Rattle.comtrade_dat.specs.Channel.{ChannelRead, all_samples, judged_count, read_on, unread}
use Rattle.comtrade_dat.specs.Samples.{channel_samples, first_fault, is_whole, judged_dat, judged_end, judged_record, judged_records, record_size, recording_of, sample_at, samples_of}
use Rattle.comtrade_dat.specs.declared.dat_fault.DatFault.{DatFault}
use Rattle.comtrade_dat.specs.declared.dat_fault.DatFault.TheVariants as fault
use Rattle.pq_words.specs.declared.limits.TheConstants.{MOST_NUMBER}
use Rattle.pq_base.specs.Recorded.{IsRecording, Recorded}
use Rattle.pq_words.specs.declared.limits.TheConstants.{MOST_MICROVOLTS}
use Rattle.pq_words.specs.FirstFault.{◌>>=◌, provided}
use Rattle.pq_words.specs.Magnitude.{IsWithin}
use Rattle.pq_words.specs.Text.{Text}

-- a fault among the first records is that of the dat
pub fault_of_records : (size : ℕ) (positions : List ℕ) (dat : Text) (e : DatFault) (k n : ℕ) → k ≤ n →
    first_fault (judged_records size positions dat k) ≡ Err e → judged_dat size positions dat n ≡ Err e
fault_of_records size positions dat e k n below found =
    first_fault_stays (judged_records size positions dat n) (judged_end size dat n ∷ []) e
    (fault_among (judged_record size positions dat) e k n below found)

not_below : (a b : ℕ) → b < a → nat_le a b ≡ false
not_below a b below = grind (arith, nat_tests)

pub at_least : (a b : ℕ) → a ≤ b → nat_le a b ≡ true
at_least a b most = grind (arith, nat_tests)

-- whole records and one more are past the end
pub past_whole : (size bytes : ℕ) → 0 < size → bytes < size * (bytes / size + 1)
past_whole size bytes positive =
    let small : bytes % size < size = mod_below bytes size positive in
    let more : size * (bytes / size + 1) ≡ size * (bytes / size) + size = omega arith in
    omega (arith, small, more)

-- after good records, of which no more are whole, or which are n
pub rest_decides : (size : ℕ) (positions : List ℕ) (dat : Text) (n count : ℕ) → count ≤ n →
    (count < n → length dat < size * (count + 1)) →
    first_fault (judged_records size positions dat count) ≡ Ok (tt {0}) →
    judged_dat size positions dat n ≡ judged_count size count (length dat) n
rest_decides size positions dat n count within cut good =
    elim (cases_lt count n) [
      | inl more ↦
          let short : is_whole size dat count ≡ false = not_below (size * (count + 1)) (length dat) (cut more)
          in
          let found : judged_record size positions dat count ≡ Err (fault.Short (count + 1)) =
          rw short refl in
          let below : count + 1 ≤ n = omega (arith, more) in
          fault_of_records size positions dat (fault.Short (count + 1)) (count + 1) n below
          (judged_next (judged_record size positions dat) count good ∙ found)
          ∙ sym (ap (λ (b : Bool). provided b (fault.Short (count + 1)) (tt {0}) >>=
          (λ whole. judged_end size dat n))
          (not_below n count more))
      | inr all ↦
          let same : count ≡ n = omega (arith, within, all) in
          let here = subst (λ k. first_fault (judged_records size positions dat k) ≡ Ok (tt {0})) same good in
          first_fault_after (judged_records size positions dat n) (judged_end size dat n ∷ []) here
          ∙ (alone (judged_end size dat n)
          ∙ ap (λ (b : Bool). provided b (fault.Short (count + 1)) (tt {0}) >>=
          (λ whole. judged_end size dat n))
          (sym (at_least n count all)))
    ]

-- ---- the recording

-- a dat with no fault gives its recording
pub recording_of_good : (c : Configuration) (s : Selected) (dat : Text) →
    judged_dat (record_size c) s.positions dat c.endsamp ≡ Ok (tt {0}) →
    samples_of c s dat ≡ Ok (recording_of c s dat)
unfolding samples_of
recording_of_good c s dat good = ap (λ judged. judged >>= (λ good. Ok (recording_of c s dat))) good

-- and its first fault where it has one
pub fault_of_dat : (c : Configuration) (s : Selected) (dat : Text) (e : DatFault) →
    judged_dat (record_size c) s.positions dat c.endsamp ≡ Err e → samples_of c s dat ≡ Err e
unfolding samples_of
fault_of_dat c s dat e found = ap (λ judged. judged >>= (λ good. Ok (recording_of c s dat))) found

-- where the end is good, all records are there
pub all_there : (size count bytes n : ℕ) → count ≤ n → judged_count size count bytes n ≡ Ok (tt {0}) →
    count ≡ n
all_there size count bytes n within good =
    elim (cases_lt count n) [
      | inl more ↦
          let refused : judged_count size count bytes n ≡ Err (fault.Short (count + 1)) =
          ap (λ (b : Bool). provided b (fault.Short (count + 1)) (tt {0}) >>=
          (λ whole. provided (nat_le bytes (size * n)) (fault.Long (bytes - size * n)) (tt {0})))
          (not_below n count more) in
          absurd cc
      | inr all ↦ omega (arith, within, all)
    ]

-- the positions of the channels at positions
pub positions_unread : (c : Configuration) (positions : List ℕ) →
    map (λ (channel : ChannelRead). channel.position) (map (unread c) positions) ≡ positions
positions_unread c [] = refl
positions_unread c (p ∷ positions) = ap (λ ps. p ∷ ps) (positions_unread c positions)

-- what all channels have read of n records
pub samples_read : (c : Configuration) (size : ℕ) (dat : Text) (n : ℕ) (positions : List ℕ) →
    map (λ (channel : ChannelRead). channel.samples) (map (read_on size dat 0 n) (map (unread c) positions))
    ≡ map (λ p. channel_samples (coefficients_at c p) size p dat n) positions
samples_read c size dat n [] = refl
samples_read c size dat n (p ∷ positions) =
    let all : n - 0 ≡ n = omega arith in
    ap (λ k. channel_samples (coefficients_at c p) size p dat k
    ∷ map (λ (channel : ChannelRead). channel.samples)
    (map (read_on size dat 0 n) (map (unread c) positions))) all
    ∙ ap (λ more. channel_samples (coefficients_at c p) size p dat n ∷ more)
    (samples_read c size dat n positions)

-- so the samples of channels that have read all records are those of the recording
pub samples_of_channels : (c : Configuration) (s : Selected) (dat : Text) (n : ℕ) (after : List ChannelRead)
    (samples : List (List ℤ))
    → n ≡ c.endsamp → after ≡ map (read_on (record_size c) dat 0 n) (map (unread c) s.positions)
    → samples ≡ all_samples after → samples ≡ (recording_of c s dat).samples
samples_of_channels c s dat n after samples all read kept =
    kept
    ∙ (ap all_samples read
    ∙ (samples_read c (record_size c) dat n s.positions
    ∙ ap (λ n. map (λ p. channel_samples (coefficients_at c p) (record_size c) p dat n) s.positions) all))

-- each channel has as many samples as there are records
pub as_many : (c : Configuration) (size : ℕ) (dat : Text) (n : ℕ) (positions : List ℕ) →
    All (λ samples. length samples ≡ n) (map (λ p. channel_samples (coefficients_at c p) size p dat n)
    positions)
as_many c size dat n positions =
    All-map (λ samples. length samples ≡ n) (λ p. channel_samples (coefficients_at c p) size p dat n)
    positions
    (λ k d inside. length-map-range_with_len
    (sample_at (coefficients_at c (get_or positions k d)) size (get_or positions k d) dat) 0 n)

-- numbers rise as positions do
numbers_rise : (positions : List ℕ) → IsStrictlyIncreasing positions →
    IsStrictlyIncreasing (map (λ p. p + 1) positions)
numbers_rise positions rising = λ k below.
    let count : length (map (λ p. p + 1) positions) ≡ length positions = length-map positions (λ p. p + 1) in
    let next : k + 1 < length positions = omega (arith, below, count) in
    let here : k < length positions = omega (arith, next) in
    let low : get_or (map (λ p. p + 1) positions) k 0 ≡ get_or positions k 0 + 1 =
    get_or-map (λ p. p + 1) positions k 0 0 here in
    let high : get_or (map (λ p. p + 1) positions) (k + 1) 0 ≡ get_or positions (k + 1) 0 + 1 =
    get_or-map (λ p. p + 1) positions (k + 1) 0 0 next in
    let rises : get_or positions k 0 < get_or positions (k + 1) 0 = rising k next in
    omega (arith, low, high, rises)

-- the recording of a dat
abbrev pub with_samples : Configuration → Selected → List (List ℤ) → Recorded
with_samples c s samples = record {
  t0 = c.first;
  rate = c.rate;
  lf = c.lf;
  numbers = map (λ p. p + 1) s.positions;
  reference = s.reference;
  samples = samples;
}

-- samples that were read with no fault make a recording
pub is_recording : (c : Configuration) (s : Selected) (samples : List (List ℤ)) → IsBounded c →
    IsGoodSelection c s →
    length samples ≡ length s.positions → All (λ xs. length xs ≡ c.endsamp) samples →
    All (All (IsWithin MOST_MICROVOLTS)) samples →
    IsRecording (with_samples c s samples)
is_recording c s samples bounds good paired even quiet =
    let count = length-map s.positions (λ p. p + 1) in
    let some : 0 < length samples = omega (arith, good.some, paired) in
    let n : length (get_or samples 0 []) ≡ c.endsamp = even 0 [] some in
    record {
      channels = (omega (arith, count, good.some), omega (arith, count, good.few));
      rising = numbers_rise s.positions good.rising;
      numbered = All-map (λ n. (0 < n) × (n ≤ MOST_NUMBER)) (λ p. p + 1) s.positions
          (λ k d inside. (omega arith, omega (arith, good.there k d inside, bounds.analogue)));
      paired = paired ∙ sym count;
      even = λ k inside. even k [] inside ∙ sym n;
      short = omega (arith, n, bounds.endsamp);
      quiet = λ k inside. quiet k [] inside;
      reference = omega (arith, good.reference, count);
      lf = bounds.lf;
      rate = (bounds.slowest, bounds.fastest);
      t0 = bounds.first;
    }
