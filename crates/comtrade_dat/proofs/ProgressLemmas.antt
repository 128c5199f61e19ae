-- What was decoded of good bytes, as more come.
use Rattle.std.proofs.Common.{◌≡◌, ◌∙◌, ℕ, ◌+◌, ◌-◌, ◌*◌, ◌/◌, ◌<◌, ◌≤◌, List, ◌++◌, length, drop, take, map, ap, sym, subst, arith, ◌⊎◌, inl, inr, None, Result, Ok, Err}
use Rattle.std.proofs.lemmas.Bool.{cases_lt}
use Rattle.std.proofs.Math.Nat.{mul-div-le}
use Rattle.std.proofs.lemmas.Nat.{mul-le}
use Rattle.std.proofs.lemmas.List.{append_assoc, drop-append-le, length-append, length-drop, take-append-drop, take_all}
use Rattle.std.specs.Prelude.{IsErrAnd}
use Rattle.comtrade_dat.proofs.ChannelLemmas.{all_read_further, positions_stay}
use Rattle.comtrade_dat.proofs.RecordingLemmas.{fault_of_records, rest_decides}
use Rattle.comtrade_dat.proofs.RunLemmas.{number_later, number_longer, read_later, read_longer, records_longer, run_decides}
use Rattle.comtrade_dat.specs.Channel.{ChannelRead, all_positions, judged_count, read_on}
use Rattle.comtrade_dat.specs.Progress.{Ends, GoesOn, HasFault, IsCounted, IsDecoded, IsGoodSoFar, IsInShape}
use Rattle.comtrade_dat.specs.Run.{judged_run, number_before, start_after, start_at}
use Rattle.comtrade_dat.specs.Samples.{first_fault, judged_dat, judged_records}
use Rattle.comtrade_dat.specs.declared.dat_fault.DatFault.{DatFault}
use Rattle.comtrade_dat.specs.declared.dat_fault.DatFault.TheVariants as fault
use Rattle.comtrade_dat.specs.declared.decoded.Decoded.{Decoded}
use Rattle.comtrade_dat.specs.declared.progress.Progress.{Progress}
use Rattle.comtrade_dat.specs.declared.run_start.RunStart.{RunStart}
use Rattle.pq_words.specs.Text.{Text}

-- ---- whole records

-- what was decoded stays where more comes
pub decoded_longer : (size : ℕ) (positions : List ℕ) (unread : List ChannelRead) (d : Decoded)
    (fed more : Text)
    → IsDecoded size positions unread d fed → IsDecoded size positions unread d (fed ++ more)
decoded_longer size positions unread d fed more h = record {
  paired = h.paired;
  whole = omega (arith, h.whole, length-append fed more);
  good = ap first_fault (records_longer size positions fed more d.next.index h.whole) ∙ h.good;
  read = h.read ∙ sym (read_longer size fed more d.next.index h.whole unread);
  next = h.next
      ∙ ap (λ before. let start : RunStart = record { index = d.next.index; before = before } in start)
      (sym (number_longer size None fed more d.next.index h.whole));
}

pub fault_longer : (size : ℕ) (positions : List ℕ) (n : ℕ) (fed more : Text) (e : DatFault)
    → HasFault size positions n fed e → HasFault size positions n (fed ++ more) e
fault_longer size positions n fed more e (k, within, whole, found) = (
  k,
  within,
  omega (arith, whole, length-append fed more),
  ap first_fault (records_longer size positions fed more k whole) ∙ found,
)

-- so many more records are there
run_whole : (size base count : ℕ) (dat run : Text) → size * base ≤ length dat → run ≡ drop (size * base) dat
    → size * count ≤ length run → size * (base + count) ≤ length dat
run_whole size base count dat run whole is more =
    let left : length run ≡ length dat - size * base = ap length is ∙ length-drop (size * base) dat in
    let sum : size * (base + count) ≡ size * base + size * count = omega arith in
    omega (arith, whole, left, more, sum)

-- the run that is left decides
run_judged : (size : ℕ) (positions : List ℕ) (unread : List ChannelRead) (d : Decoded) (dat run : Text)
    (count : ℕ)
    → IsDecoded size positions unread d dat → run ≡ drop (size * d.next.index) dat
    → size * count ≤ length run → first_fault (judged_records size positions dat (d.next.index + count))
    ≡ first_fault (judged_run size positions d.next run count)
run_judged size positions unread d dat run count h is more =
    let base = d.next.index in
    run_decides size positions dat base count (run_whole size base count dat run h.whole is more) h.good
    ∙ (ap (λ start. first_fault (judged_run size positions start (drop (size * base) dat) count))
    (sym h.next)
    ∙ ap (λ run. first_fault (judged_run size positions d.next run count)) (sym is))

-- its first records are good, and are read
pub decoded_further : (size : ℕ) (positions : List ℕ) (unread : List ChannelRead) (d further : Decoded)
    (dat run : Text) (count : ℕ)
    → IsDecoded size positions unread d dat → run ≡ drop (size * d.next.index) dat
    → size * count ≤ length run
    → first_fault (judged_run size positions d.next run count) ≡ Ok (tt {0})
    → further.channels.items ≡ map (read_on size run 0 count) d.channels.items
    → further.next ≡ start_after size d.next run count → IsDecoded size positions unread further dat
decoded_further size positions unread d further dat run count h is more good read next =
    let base = d.next.index in
    let all = base + count in
    let forward : base ≤ all = omega arith in
    let index : further.next.index ≡ all = ap (λ (start : RunStart). start.index) next in
    let judged : first_fault (judged_records size positions dat all) ≡ Ok (tt {0}) =
    run_judged size positions unread d dat run count h is more ∙ good in
    let channels : further.channels.items ≡ map (read_on size dat 0 all) unread =
    read
    ∙ (ap (λ run. map (read_on size run 0 count) d.channels.items) is
    ∙ (ap (map (read_on size (drop (size * base) dat) 0 count)) h.read
    ∙ (read_later size dat base count (map (read_on size dat 0 base) unread)
    ∙ all_read_further size dat base all forward unread))) in
    let before : number_before size d.next.before run count ≡ number_before size None dat all =
    ap (λ (start : RunStart). number_before size start.before run count) h.next
    ∙ (ap (λ run. number_before size (number_before size None dat base) run count) is
    ∙ number_later size dat base count) in
    let start : further.next ≡ start_at size dat all = next
    ∙ ap (λ before. let start : RunStart = record { index = all; before = before } in start) before in
    record {
      paired = h.paired;
      whole = subst (λ k. size * k ≤ length dat) (sym index)
          (run_whole size base count dat run h.whole is more);
      good = ap (λ k. first_fault (judged_records size positions dat k)) index ∙ judged;
      read = channels ∙ ap (λ k. map (read_on size dat 0 k) unread) (sym index);
      next = start ∙ ap (start_at size dat) (sym index);
    }

-- one of its first records is at fault
pub fault_further : (size : ℕ) (positions : List ℕ) (unread : List ChannelRead) (d : Decoded) (n : ℕ)
    (dat run : Text) (count : ℕ) (e : DatFault)
    → IsDecoded size positions unread d dat → run ≡ drop (size * d.next.index) dat
    → size * count ≤ length run → d.next.index + count ≤ n
    → first_fault (judged_run size positions d.next run count) ≡ Err e → HasFault size positions n dat e
fault_further size positions unread d n dat run count e h is more within found = (
  d.next.index + count,
  within,
  run_whole size d.next.index count dat run h.whole is more,
  run_judged size positions unread d dat run count h is more ∙ found,
)

-- ---- bytes

-- what is left of a dat after its whole records, and more of it
pub left_longer : (at : ℕ) (fed more left : Text) → at ≤ length fed → left ≡ drop at fed → left ++ more
    ≡ drop at (fed ++ more)
left_longer at fed more left inside is = ap (λ l. l ++ more) is ∙ sym (drop-append-le at fed more inside)

-- good bytes leave their channels where they are
pub in_shape : (size : ℕ) (positions : List ℕ) (n : ℕ) (unread : List ChannelRead) (p : Progress) (fed : Text)
    → IsGoodSoFar size positions n unread p fed → IsInShape size positions n p
in_shape size positions n unread p fed h = record {
  paired = ap all_positions h.decoded.read
      ∙ (positions_stay size fed 0 p.decoded.next.index unread ∙ h.decoded.paired);
  within = h.within;
  short = h.short;
  closed = h.closed;
}

-- where a record is cut off, one is still to come
pub still_open : (size : ℕ) (positions : List ℕ) (n : ℕ) (unread : List ChannelRead) (p : Progress)
    (fed : Text)
    → IsGoodSoFar size positions n unread p fed → 0 < length p.cut.items → p.decoded.next.index < n
still_open size positions n unread p fed h some =
    elim (cases_lt p.decoded.next.index n) [
      | inl more ↦ more
      | inr full ↦ let none : length p.cut.items ≡ 0 = ap length (h.closed full) in
          absurd (omega (arith, none, some))
    ]

-- the record that was cut off, with what it lacked or a part of it
pub cut_longer : (size : ℕ) (positions : List ℕ) (n : ℕ) (unread : List ChannelRead) (p : Progress)
    (fed more : Text)
    → IsGoodSoFar size positions n unread p fed → p.decoded.next.index < n
    → p.cut.items ++ more ≡ drop (size * p.decoded.next.index) (fed ++ more)
cut_longer size positions n unread p fed more h to_come =
    left_longer (size * p.decoded.next.index) fed more p.cut.items h.decoded.whole (h.cut to_come)

-- the record that is cut off is longer, and not yet whole
pub cut_still : (size : ℕ) (positions : List ℕ) (n : ℕ) (unread : List ChannelRead) (p later : Progress)
    (fed more : Text)
    → IsGoodSoFar size positions n unread p fed → 0 < length p.cut.items → later.decoded ≡ p.decoded
    → later.cut.items ≡ p.cut.items ++ more → length p.cut.items + length more < size
    → IsGoodSoFar size positions n unread later (fed ++ more)
cut_still size positions n unread p later fed more h some stays longer short =
    let to_come = still_open size positions n unread p fed h some in
    let index : later.decoded.next.index ≡ p.decoded.next.index = ap (λ (d : Decoded). d.next.index) stays in
    record {
      decoded = subst (λ (d : Decoded). IsDecoded size positions unread d (fed ++ more)) (sym stays)
          (decoded_longer size positions unread p.decoded fed more h.decoded);
      within = omega (arith, index, h.within);
      cut = λ to_come_. longer ∙ (cut_longer size positions n unread p fed more h to_come
          ∙ ap (λ k. drop (size * k) (fed ++ more)) (sym index));
      short = omega (arith, ap length longer, length-append p.cut.items more, short);
      closed = λ full. absurd (omega (arith, full, index, to_come));
    }

-- so many whole records are in a run
pub whole_run : (size count bytes : ℕ) → count ≤ bytes / size → size * count ≤ bytes
whole_run size count bytes few =
    let same : size ≤ size = omega arith in
    let most : size * (bytes / size) ≤ bytes = mul-div-le bytes size in
    omega (arith, mul-le size count size (bytes / size) same few, most)

-- ---- what comes of a run

pub refused : (good : Type 0) (faulty : DatFault → Type 0) (result : Result (Unit {0}) DatFault)
    (e : DatFault)
    → IsErrAnd result (λ x. x ≡ e) → (e ≡ fault.OutOfMemory) ⊎ faulty e → GoesOn result good faulty
refused good faulty (Ok done) e is at = absurd is
refused good faulty (Err found) e is at = subst (λ x. (x ≡ fault.OutOfMemory) ⊎ faulty x) (sym is) at

pub faulty_run : (size : ℕ) (positions : List ℕ) (n : ℕ) (unread : List ChannelRead) (p : Progress)
    (fed more run : Text) (count : ℕ) (e : DatFault)
    → IsGoodSoFar size positions n unread p fed
    → run ≡ drop (size * p.decoded.next.index) (fed ++ more) → size * count ≤ length run
    → p.decoded.next.index + count ≤ n
    → (e ≡ fault.OutOfMemory) ⊎ (first_fault (judged_run size positions p.decoded.next run count) ≡ Err e)
    → (e ≡ fault.OutOfMemory) ⊎ HasFault size positions n (fed ++ more) e
faulty_run size positions n unread p fed more run count e h is whole within (inl free) = inl free
faulty_run size positions n unread p fed more run count e h is whole within (inr found) =
    inr (fault_further size positions unread p.decoded n (fed ++ more) run count e
    (decoded_longer size positions unread p.decoded fed more h.decoded) is whole within found)

-- ---- two pieces

pub faulty_longer : (size : ℕ) (positions : List ℕ) (n : ℕ) (fed more : Text) (e : DatFault)
    → (e ≡ fault.OutOfMemory) ⊎ HasFault size positions n fed e
    → (e ≡ fault.OutOfMemory) ⊎ HasFault size positions n (fed ++ more) e
faulty_longer size positions n fed more e (inl free) = inl free
faulty_longer size positions n fed more e (inr found) = inr (fault_longer size positions n fed more e found)

-- a piece in two parts
pub parts_joined : (fed piece : Text) (k : ℕ) → (fed ++ take k piece) ++ take (length piece - k)
    (drop k piece)
    ≡ fed ++ piece
parts_joined fed piece k =
    append_assoc fed (take k piece) (take (length piece - k) (drop k piece))
    ∙ (ap (λ l. fed ++ (take k piece ++ l))
    (take_all (length piece - k) (drop k piece) (omega (arith, length-drop k piece)))
    ∙ ap (λ l. fed ++ l) (take-append-drop k piece))

-- what comes of bytes does not depend on how they are cut into pieces
pub good_after : (size : ℕ) (positions : List ℕ) (n : ℕ) (unread : List ChannelRead) (p : Progress)
    (all fed : Text) (result : Result (Unit {0}) DatFault) → fed ≡ all
    → GoesOn result (IsGoodSoFar size positions n unread p fed) (HasFault size positions n fed)
    → GoesOn result (IsGoodSoFar size positions n unread p all) (HasFault size positions n all)
good_after size positions n unread p all fed result same goes =
    subst (λ l. GoesOn result (IsGoodSoFar size positions n unread p l) (HasFault size positions n l))
    same goes

-- ---- the end

-- where no more comes, the fault of a record is that of the dat
pub fault_decides : (size : ℕ) (positions : List ℕ) (n : ℕ) (fed : Text) (e : DatFault)
    → (e ≡ fault.OutOfMemory) ⊎ HasFault size positions n fed e
    → (e ≡ fault.OutOfMemory) ⊎ (judged_dat size positions fed n ≡ Err e)
fault_decides size positions n fed e (inl free) = inl free
fault_decides size positions n fed e (inr (k, within, whole, found)) =
    inr (fault_of_records size positions fed e k n within found)

-- and the number of bytes decides on good records
pub count_decides : (size : ℕ) (positions : List ℕ) (n : ℕ) (unread : List ChannelRead) (p : Progress)
    (fed : Text)
    → IsCounted size positions n unread p fed
    → judged_dat size positions fed n ≡ judged_count size p.decoded.next.index p.bytes n
count_decides size positions n unread p fed h =
    let at = size * p.decoded.next.index in
    let next : size * (p.decoded.next.index + 1) ≡ at + size = omega arith in
    rest_decides size positions fed n p.decoded.next.index h.good.within (λ to_come.
    let left : length p.cut.items ≡ length fed - at = ap length (h.good.cut to_come) ∙ length-drop at fed in
    omega (arith, left, h.good.short, h.good.decoded.whole, next)) h.good.decoded.good
    ∙ ap (λ bytes. judged_count size p.decoded.next.index bytes n) (sym h.bytes)

pub ended : (size : ℕ) (positions : List ℕ) (n : ℕ) (unread : List ChannelRead) (fed : Text)
    (result : Result Decoded DatFault) (e : DatFault)
    → IsErrAnd result (λ x. x ≡ e) → (e ≡ fault.OutOfMemory) ⊎ (judged_dat size positions fed n ≡ Err e)
    → Ends size positions n unread fed result
ended size positions n unread fed (Ok done) e is at = absurd is
ended size positions n unread fed (Err found) e is at =
    subst (λ x. (x ≡ fault.OutOfMemory) ⊎ (judged_dat size positions fed n ≡ Err x)) (sym is) at
