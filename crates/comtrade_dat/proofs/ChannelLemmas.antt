-- Channels that are read on, block by block.
use Rattle.std.proofs.Common.{◌≡◌, ◌≢◌, ◌∙◌, ℕ, zero, suc, ◌+◌, ◌-◌, ◌<◌, ◌≤◌, Bool, true, false, nat_lt, List, [], ◌∷◌, ◌++◌, length, map, refl, ap, sym, subst, arith}
use Rattle.std.proofs.lemmas.Bool.Decides.{nat_tests}
use Rattle.std.proofs.lemmas.List.{append-nil, append_assoc}
use Rattle.std.proofs.lemmas.List.Elements.{All-cons, All-head, All-nil, All-tail}
use Rattle.std.specs.List.{All, range_with_len}
use Rattle.comtrade_dat.specs.BinaryRecord.{count_in, record_at}
use Rattle.comtrade_dat.specs.Channel.{ChannelRead, HasRead, HaveRead, HaveTaken, read_on}
use Rattle.comtrade_dat.specs.Run.{HaveCounts}
use Rattle.comtrade_dat.specs.Samples.{sample_at}
use Rattle.comtrade_dat.specs.declared.limits.TheConstants.{MISSING_COUNT}
use Rattle.pq_words.specs.Text.{Text}

-- ---- channels

-- what a function gives of numbers, and of those after them
pub ranges_joined : {X : Type 0} (f : ℕ → X) (low m n : ℕ) →
    map f (range_with_len low m) ++ map f (range_with_len (low + m) n) ≡ map f (range_with_len low (m + n))
ranges_joined f low zero n =
    let same : low + 0 ≡ low = omega arith in
    let more : n ≡ 0 + n = omega arith in
    ap (λ a. map f (range_with_len a n)) same ∙ ap (λ k. map f (range_with_len low k)) more
ranges_joined f low (suc m) n =
    let same : low + suc m ≡ low + 1 + m = omega arith in
    let more : suc (m + n) ≡ suc m + n = omega arith in
    ap (λ a. f low ∷ (map f (range_with_len (low + 1) m) ++ map f (range_with_len a n))) same
    ∙ (ap (λ xs. f low ∷ xs) (ranges_joined f (low + 1) m n)
    ∙ ap (λ k. map f (range_with_len low k)) more)

-- a channel read on up to an index, and from there on
pub read_further : (size : ℕ) (dat : Text) (start middle end : ℕ) → start ≤ middle → middle ≤ end →
    (channel : ChannelRead) →
    read_on size dat middle end (read_on size dat start middle channel) ≡ read_on size dat start end channel
read_further size dat start middle end first second channel =
    let f = sample_at channel.coefficients size channel.position dat in
    let from : start + (middle - start) ≡ middle = omega (arith, first) in
    let to : middle - start + (end - middle) ≡ end - start = omega (arith, first, second) in
    let joined : map f (range_with_len start (middle - start)) ++ map f (range_with_len middle (end - middle))
    ≡ map f (range_with_len start (end - start)) =
    ap (λ a. map f (range_with_len start (middle - start)) ++ map f (range_with_len a (end - middle)))
    (sym from)
    ∙ (ranges_joined f start (middle - start) (end - middle)
    ∙ ap (λ n. map f (range_with_len start n)) to) in
    ap (λ samples. let read : ChannelRead = record channel { samples = samples } in read)
    (append_assoc channel.samples (map f (range_with_len start (middle - start)))
    (map f (range_with_len middle (end - middle)))
    ∙ ap (λ xs. channel.samples ++ xs) joined)

-- the same of several channels
pub all_read_further : (size : ℕ) (dat : Text) (start end : ℕ) → start ≤ end → (channels : List ChannelRead) →
    map (read_on size dat start end) (map (read_on size dat 0 start) channels)
    ≡ map (read_on size dat 0 end) channels
all_read_further size dat start end forward [] = refl
all_read_further size dat start end forward (channel ∷ more) =
    ap (λ c. c ∷ map (read_on size dat start end) (map (read_on size dat 0 start) more))
    (read_further size dat 0 start end (omega arith) forward channel)
    ∙ ap (λ cs. read_on size dat 0 end channel ∷ cs) (all_read_further size dat start end forward more)

-- of no records nothing is read
pub none_read_on : (size : ℕ) (dat : Text) (start : ℕ) (channel : ChannelRead) →
    read_on size dat start start channel ≡ channel
none_read_on size dat start channel =
    let none : start - start ≡ 0 = omega arith in
    let f = sample_at channel.coefficients size channel.position dat in
    ap (λ n. let read : ChannelRead = record channel {
      samples = channel.samples ++ map f (range_with_len start n);
    } in read) none
    ∙ ap (λ samples. let read : ChannelRead = record channel { samples = samples } in read)
    (append-nil channel.samples)

-- before the first record nothing is read
pub none_read : (size : ℕ) (dat : Text) (channels : List ChannelRead) → map (read_on size dat 0 0) channels
    ≡ channels
none_read size dat [] = refl
none_read size dat (channel ∷ more) =
    ap (λ samples. let read : ChannelRead = record channel { samples = samples } in
    read ∷ map (read_on size dat 0 0) more) (append-nil channel.samples)
    ∙ ap (λ cs. channel ∷ cs) (none_read size dat more)

-- channels stay where they are
pub positions_stay : (size : ℕ) (dat : Text) (start end : ℕ) (channels : List ChannelRead) →
    map (λ (channel : ChannelRead). channel.position) (map (read_on size dat start end) channels)
    ≡ map (λ (channel : ChannelRead). channel.position) channels
positions_stay size dat start end [] = refl
positions_stay size dat start end (channel ∷ more) =
    ap (λ ps. channel.position ∷ ps) (positions_stay size dat start end more)

-- what holds at all positions holds of all channels
pub of_channels : (P : ℕ → Type 0) (channels : List ChannelRead) (positions : List ℕ) →
    map (λ (channel : ChannelRead). channel.position) channels ≡ positions → All P positions →
    All (λ (channel : ChannelRead). P channel.position) channels
of_channels P [] positions same all = All-nil (λ (channel : ChannelRead). P channel.position)
of_channels P (channel ∷ more) positions same all =
    let ps = map (λ (channel : ChannelRead). channel.position) more in
    let here : All P (channel.position ∷ ps) = subst (All P) (sym same) all in
    All-cons (λ (channel : ChannelRead). P channel.position) channel more
    (All-head P channel.position ps here)
    (of_channels P more ps refl (All-tail P channel.position ps here))

-- what holds of all channels holds at all positions
pub of_positions : (P : ℕ → Type 0) (channels : List ChannelRead) (positions : List ℕ) →
    map (λ (channel : ChannelRead). channel.position) channels ≡ positions →
    All (λ (channel : ChannelRead). P channel.position) channels → All P positions
of_positions P [] positions same all = subst (All P) same (All-nil P)
of_positions P (channel ∷ more) positions same all =
    let ps = map (λ (channel : ChannelRead). channel.position) more in
    subst (All P) same
    (All-cons P channel.position ps
    (All-head (λ (channel : ChannelRead). P channel.position) channel more all)
    (of_positions P more ps refl (All-tail (λ (channel : ChannelRead). P channel.position) channel more all)))

-- channels that threads took records of, where none stopped, have read them
pub all_taken : (size : ℕ) (dat : Text) (start end : ℕ) (olds news : List ChannelRead) →
    length news ≡ length olds → HaveTaken size dat start end olds news →
    All (λ (channel : ChannelRead). channel.has_stopped ≡ false) news → HaveRead size dat start end olds news
all_taken size dat start end [] [] same taken went_on = record {
  value = refl;
  counted = All-nil (λ (channel : ChannelRead). HaveCounts size dat start end channel.position);
}
all_taken size dat start end [] (new ∷ news) same taken went_on = absurd (omega (arith, same))
all_taken size dat start end (old ∷ olds) [] same taken went_on = absurd (omega (arith, same))
all_taken size dat start end (old ∷ olds) (new ∷ news) same taken went_on =
    let some : 0 < suc (length olds) = omega arith in
    let first : HasRead size dat start end old new =
    taken 0 new some (All-head (λ (channel : ChannelRead). channel.has_stopped ≡ false) new news went_on) in
    let more : HaveTaken size dat start end olds news =
    λ i d below. taken (suc i) d (omega (arith, below)) in
    let rest : HaveRead size dat start end olds news =
    all_taken size dat start end olds news (omega (arith, same)) more
    (All-tail (λ (channel : ChannelRead). channel.has_stopped ≡ false) new news went_on) in
    let stays : new.position ≡ old.position = ap (λ (channel : ChannelRead). channel.position) first.value in
    record {
      value = ap (λ c. c ∷ news) first.value ∙ ap (λ cs. read_on size dat start end old ∷ cs) rest.value;
      counted = All-cons (λ (channel : ChannelRead). HaveCounts size dat start end channel.position) new news
          (subst (HaveCounts size dat start end) (sym stays) first.counted) rest.counted;
    }

-- counts of records up to an index, and of those from there on
pub counts_further : (size : ℕ) (dat : Text) (start middle end position : ℕ) →
    HaveCounts size dat start middle position → HaveCounts size dat middle end position →
    HaveCounts size dat start end position
counts_further size dat start middle end position first second index low high =
    at (nat_lt index middle) refl
  where
    at : (b : Bool) → nat_lt index middle ≡ b →
        count_in (record_at size dat index) position ≢ MISSING_COUNT
    at true h = first index low (grind (arith, nat_tests, h))
    at false h = second index (grind (arith, nat_tests, h)) high
