-- What contracts see of a selected channel that is being read: where its counts lie, and its samples so far.
use Rattle.std.specs.Prelude.{◌≡◌, ℕ, ◌+◌, ◌*◌, ◌-◌, ◌^◌, ◌<◌, ◌≤◌, Bool, false, nat_le, List, [], ◌++◌, All, length, map, slice_index_or, ℤ, Result, unsigned_abs}
use Rattle.std.specs.List.{range_with_len}
use Rattle.comtrade_cfg.specs.Configuration.{Configuration}
use Rattle.comtrade_cfg.specs.Selecting.{AreWithinLimit, coefficients_at}
use Rattle.comtrade_cfg.specs.declared.voltage.Coefficients.{Coefficients}
use Rattle.comtrade_dat.specs.Run.{HaveCounts}
use Rattle.comtrade_dat.specs.Samples.{sample_at}
use Rattle.comtrade_dat.specs.declared.dat_fault.DatFault.{DatFault}
use Rattle.comtrade_dat.specs.declared.dat_fault.DatFault.TheVariants as fault
use Rattle.pq_words.specs.declared.limits.TheConstants.{MOST_MICROVOLTS}
use Rattle.pq_words.specs.Magnitude.{IsWithin}
use Rattle.pq_words.specs.FirstFault.{◌>>=◌, provided}
use Rattle.pq_words.specs.Text.{Text}

-- coefficients under which no count makes picovolts that need more than 64 bits
pub record AreSmall (k : Coefficients) : Type 0 where
  pub a : unsigned_abs k.a ≤ 2 ^ 46
  pub b : unsigned_abs k.b ≤ 2 ^ 62

-- the counts of these positions lie in a record of this size, which has one count at least
pub record IsLayout (size : ℕ) (positions : List ℕ) : Type 0 where
  pub least : 10 ≤ size
  pub small : size < 2 ^ 16
  pub room : All (λ p. 10 + 2 * p ≤ size) positions

-- a channel by its position, its samples so far, and whether it stopped: a record had no count, or there was
-- no memory
pub record ChannelRead : Type 0 where
  pub position : ℕ
  pub coefficients : Coefficients
  pub samples : List ℤ
  pub has_stopped : Bool

-- the positions and the samples of several channels
abbrev pub all_positions : List ChannelRead → List ℕ
all_positions channels = map (λ channel. channel.position) channels

abbrev pub all_samples : List ChannelRead → List (List ℤ)
all_samples channels = map (λ channel. channel.samples) channels

-- the samples of so many records from an index on, of a channel with these coefficients at a position
abbrev pub samples_from : Coefficients → ℕ → ℕ → Text → ℕ → ℕ → List ℤ
samples_from k size position dat start count =
    map (sample_at k size position dat) (range_with_len start count)

-- a channel after the records from an index to another, which is not included
abbrev pub read_on : ℕ → Text → ℕ → ℕ → ChannelRead → ChannelRead
read_on size dat start end channel = record channel {
  samples = channel.samples
      ++ samples_from channel.coefficients size channel.position dat start (end - start);
}

-- a channel took the samples of these records, which all have a count
pub record HasRead (size : ℕ) (dat : Text) (start end : ℕ) (old new : ChannelRead) : Type 0 where
  pub value : new ≡ read_on size dat start end old
  pub counted : HaveCounts size dat start end old.position

-- the same of several channels
pub record HaveRead (size : ℕ) (dat : Text) (start end : ℕ) (olds news : List ChannelRead) : Type 0 where
  pub value : news ≡ map (read_on size dat start end) olds
  pub counted : All (λ (channel : ChannelRead). HaveCounts size dat start end channel.position) news

-- a thread took these records of a channel, or the channel stopped
abbrev pub HasTaken : ℕ → Text → ℕ → ℕ → ChannelRead → ChannelRead → Type 0
HasTaken size dat start end old new = new.has_stopped ≡ false → HasRead size dat start end old new

-- the same of several channels
abbrev pub HaveTaken : ℕ → Text → ℕ → ℕ → List ChannelRead → List ChannelRead → Type 0
HaveTaken size dat start end olds news = (i : ℕ) (d : ChannelRead) → i < length olds →
    HasTaken size dat start end (slice_index_or olds i d) (slice_index_or news i d)

-- a channel whose coefficients and samples are within the limits
pub record IsChannel (c : ChannelRead) : Type 0 where
  pub limit : AreWithinLimit c.coefficients
  pub quiet : All (IsWithin MOST_MICROVOLTS) c.samples

-- a channel with these coefficients, before the first record
abbrev pub unread_with : Coefficients → ℕ → ChannelRead
unread_with coefficients position = record {
  position = position;
  coefficients = coefficients;
  samples = [];
  has_stopped = false;
}

-- the channel at a position of a configuration, before the first record
abbrev pub unread : Configuration → ℕ → ChannelRead
unread c position = unread_with (coefficients_at c position) position

-- after so many good records, of so many bytes: where not all n are there, the first that is cut off; else
-- the bytes that are left
abbrev pub judged_count : ℕ → ℕ → ℕ → ℕ → Result (Unit {0}) DatFault
judged_count size count bytes n = do
  whole ← provided (nat_le n count) (fault.Short (count + 1)) (tt {0})
  provided (nat_le bytes (size * n)) (fault.Long (bytes - size * n)) (tt {0})
