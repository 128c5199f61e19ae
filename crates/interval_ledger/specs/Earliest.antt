-- The subject: the channel whose first window left stands first, by one number a channel. All of it is
-- profile.
use Rattle.std.specs.Prelude.{◌≡◌, ℕ, ◌<◌, ◌≤◌, List, length, slice_index, slice_set, Option, None, Some}

-- among first starts, the one at c lies below a place, below each before it, and not above any after it
pub record IsFirstLeast (starts : List ℕ) (until c : ℕ) : Type 0 where
  pub inside : c < length starts
  pub below : slice_index starts c < until
  pub earlier : (k : ℕ) → k < c → slice_index starts c < slice_index starts k
  pub later : (k : ℕ) → c < k → k < length starts → slice_index starts c ≤ slice_index starts k

-- they differ at one index at most
abbrev pub DifferAt : ℕ → List ℕ → List ℕ → Type 0
DifferAt c old new = new ≡ slice_set old c (slice_index new c)

-- none of them lies below a place
abbrev pub NoneBelow : List ℕ → ℕ → Type 0
NoneBelow starts until = (k : ℕ) → k < length starts → until ≤ slice_index starts k

-- the first of so many that is the least below a place, or that there is none and the least is the place
abbrev pub IsLeastSoFar : List ℕ → ℕ → ℕ → ℕ → Option ℕ → Type 0
IsLeastSoFar starts until n least None =
    (least ≡ until) × ((k : ℕ) → k < n → until ≤ slice_index starts k)
IsLeastSoFar starts until n least (Some c) =
    (least ≡ slice_index starts c) × (c < n) × (least < until)
    × ((k : ℕ) → k < c → least < slice_index starts k)
    × ((k : ℕ) → c < k → k < n → least ≤ slice_index starts k)
