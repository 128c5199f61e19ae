-- What it means that bytes of a dat were decoded, as they come in pieces.
use Rattle.std.specs.Prelude.{◌≡◌, ◌⊎◌, ℕ, ◌*◌, ◌<◌, ◌≤◌, List, [], ◌++◌, length, drop, map, Option, Some, None, Result, Ok, Err}
use Rattle.comtrade_dat.specs.Channel.{ChannelRead, all_positions, read_on}
use Rattle.comtrade_dat.specs.Run.{start_at}
use Rattle.comtrade_dat.specs.Samples.{first_fault, judged_dat, judged_records}
use Rattle.comtrade_dat.specs.declared.dat_fault.DatFault.{DatFault}
use Rattle.comtrade_dat.specs.declared.dat_fault.DatFault.TheVariants as fault
use Rattle.comtrade_dat.specs.declared.decoded.Decoded.{Decoded}
use Rattle.comtrade_dat.specs.declared.progress.Progress.{Progress}
use Rattle.pq_words.specs.Text.{Text}

-- ---- whole records

-- so many records of these bytes are good, and the channels, which were unread, have read them
pub record IsDecoded (size : ℕ) (positions : List ℕ) (unread : List ChannelRead) (d : Decoded) (fed : Text)
    : Type 0 where
  pub paired : all_positions unread ≡ positions
  pub whole : size * d.next.index ≤ length fed
  pub good : first_fault (judged_records size positions fed d.next.index) ≡ Ok (tt {0})
  pub read : d.channels.items ≡ map (read_on size fed 0 d.next.index) unread
  pub next : d.next ≡ start_at size fed d.next.index

-- a whole record of these bytes, among the first n, has this fault, and none before it has one
abbrev pub HasFault : ℕ → List ℕ → ℕ → Text → DatFault → Type 0
HasFault size positions n fed e =
    (k : ℕ) × (k ≤ n) × (size * k ≤ length fed)
    × (first_fault (judged_records size positions fed k) ≡ Err e)

-- ---- bytes

-- the whole records of these bytes are decoded, but no more than n, and the bytes after them are kept where a
-- record is still to come
pub record IsGoodSoFar (size : ℕ) (positions : List ℕ) (n : ℕ) (unread : List ChannelRead) (p : Progress)
    (fed : Text)
    : Type 0 where
  pub decoded : IsDecoded size positions unread p.decoded fed
  pub within : p.decoded.next.index ≤ n
  pub cut : p.decoded.next.index < n → p.cut.items ≡ drop (size * p.decoded.next.index) fed
  pub short : length p.cut.items < size
  pub closed : n ≤ p.decoded.next.index → p.cut.items ≡ []

-- what is fed after good bytes: all is good, or a record has this fault, or there was no memory
abbrev pub GoesOn : Result (Unit {0}) DatFault → Type 0 → (DatFault → Type 0) → Type 0
GoesOn (Ok done) good faulty = good
GoesOn (Err e) good faulty = (e ≡ fault.OutOfMemory) ⊎ faulty e

-- whatever the good bytes were, they go on with this piece
abbrev pub GoesOnWith : ℕ → List ℕ → ℕ → Progress → Text → Progress → Result (Unit {0}) DatFault → Type 0
GoesOnWith size positions n old piece new result =
    (unread : List ChannelRead) (fed : Text) → IsGoodSoFar size positions n unread old fed →
    GoesOn result (IsGoodSoFar size positions n unread new (fed ++ piece))
    (HasFault size positions n (fed ++ piece))

-- some bytes were good so far
abbrev pub IsGoing : ℕ → List ℕ → ℕ → Progress → Type 0
IsGoing size positions n p =
    (unread : List ChannelRead) × (fed : Text) × IsGoodSoFar size positions n unread p fed

-- what a call needs of good bytes: channels at these positions, a record that is still to come where one is
-- cut off
pub record IsInShape (size : ℕ) (positions : List ℕ) (n : ℕ) (p : Progress) : Type 0 where
  pub paired : all_positions p.decoded.channels.items ≡ positions
  pub within : p.decoded.next.index ≤ n
  pub short : length p.cut.items < size
  pub closed : n ≤ p.decoded.next.index → p.cut.items ≡ []

-- ---- all that was fed

-- good bytes, and how many they are
pub record IsCounted (size : ℕ) (positions : List ℕ) (n : ℕ) (unread : List ChannelRead) (p : Progress)
    (fed : Text)
    : Type 0 where
  pub good : IsGoodSoFar size positions n unread p fed
  pub bytes : p.bytes ≡ length fed

-- these bytes were fed: they are good so far, or the fault is that of the first record that has one, or there
-- was no memory
abbrev pub IsFedWith : ℕ → List ℕ → ℕ → List ChannelRead → Progress → Text → Option DatFault → Type 0
IsFedWith size positions n unread p fed None = IsCounted size positions n unread p fed
IsFedWith size positions n unread p fed (Some e) =
    (e ≡ fault.OutOfMemory) ⊎ HasFault size positions n fed e

abbrev pub IsFed : ℕ → List ℕ → ℕ → List ChannelRead → Progress → Text → Type 0
IsFed size positions n unread p fed = IsFedWith size positions n unread p fed p.fault

-- whatever was fed before, this piece was fed after it
abbrev pub IsFedOn : ℕ → List ℕ → ℕ → Progress → Text → Progress → Type 0
IsFedOn size positions n old piece new =
    (unread : List ChannelRead) (fed : Text) → IsFed size positions n unread old fed →
    IsFed size positions n unread new (fed ++ piece)

-- some bytes were fed
abbrev pub WasFed : ℕ → List ℕ → ℕ → Progress → Type 0
WasFed size positions n p =
    (unread : List ChannelRead) × (fed : Text) × IsFed size positions n unread p fed

-- ---- the end

-- n records that are all of these bytes
pub record IsWhole (size : ℕ) (positions : List ℕ) (n : ℕ) (unread : List ChannelRead) (d : Decoded)
    (fed : Text)
    : Type 0 where
  pub decoded : IsDecoded size positions unread d fed
  pub all : d.next.index ≡ n
  pub judged : judged_dat size positions fed n ≡ Ok (tt {0})

-- what the end gives: these records, or the fault of the dat, or there was no memory
abbrev pub Ends : ℕ → List ℕ → ℕ → List ChannelRead → Text → Result Decoded DatFault → Type 0
Ends size positions n unread fed (Ok d) = IsWhole size positions n unread d fed
Ends size positions n unread fed (Err e) =
    (e ≡ fault.OutOfMemory) ⊎ (judged_dat size positions fed n ≡ Err e)

-- the same whatever was fed
abbrev pub EndsAll : ℕ → ℕ → Progress → Result Decoded DatFault → Type 0
EndsAll size n p result =
    (positions : List ℕ) (unread : List ChannelRead) (fed : Text) → IsFed size positions n unread p fed →
    Ends size positions n unread fed result
