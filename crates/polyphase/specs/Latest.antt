-- What contracts see of the latest values, and the counts that are kept of them.
use Rattle.std.specs.Prelude.{◌≡◌, ℕ, ◌+◌, ◌≤◌, Bool, true, false, List, length, Option, Some, None, replicate, slice_set, take, if◌then◌else◌}
use Rattle.std.specs.List.{count_by}
use Rattle.event_detect.specs.declared.kind.Kind.{Kind}
use Rattle.event_detect.specs.declared.limits.Class.{Class}
use Rattle.event_detect.specs.declared.limits.Limits.{Limits}
use Rattle.event_detect.specs.Threshold.{class_of}
use Rattle.polyphase.specs.declared.counts.Counts.{Counts}
use Rattle.polyphase.specs.PolyphaseEvent.{IsChannelCount, begins, is_there_and}

-- the thresholds, and the latest value of each channel
pub record LatestView : Type 0 where
  pub limits : Limits
  pub values : List (Option ℕ)

-- no latest values yet, of so many channels
abbrev pub no_values : ℕ → Limits → LatestView
no_values channels limits = record { limits = limits; values = replicate channels None }

-- the latest value of the channel at a position is now this one
abbrev pub with_value : LatestView → ℕ → ℕ → LatestView
with_value latest position value =
    record { limits = latest.limits; values = slice_set latest.values position (Some value) }

-- the class of a value within all thresholds
abbrev pub calm : Class
calm = record {
  below_dip = false;
  clear_dip = true;
  above_swell = false;
  clear_swell = true;
  below_interruption = false;
  clear_interruption = true;
}

-- of no kind an event would begin with the one set of values and not with the other
abbrev pub BeginAlike : LatestView → LatestView → Type 0
BeginAlike old new = (kind : Kind) → begins kind new.limits new.values ≡ begins kind old.limits old.values

-- how many of the values are there and have a class that passes
abbrev pub count_of : (Class → Bool) → Limits → List (Option ℕ) → ℕ
count_of test limits values = count_by (is_there_and (λ v. test (class_of limits v))) values

-- how many values are there, and how many of them are past each threshold, or back
abbrev pub counts_of : Limits → List (Option ℕ) → Counts
counts_of limits values = record {
  there = count_of (λ class. true) limits values;
  below_dip = count_of (λ class. class.below_dip) limits values;
  clear_dip = count_of (λ class. class.clear_dip) limits values;
  above_swell = count_of (λ class. class.above_swell) limits values;
  clear_swell = count_of (λ class. class.clear_swell) limits values;
  below_interruption = count_of (λ class. class.below_interruption) limits values;
  clear_interruption = count_of (λ class. class.clear_interruption) limits values;
}

-- the counts of no value
abbrev pub no_counts : Counts
no_counts = record {
  there = 0;
  below_dip = 0;
  clear_dip = 0;
  above_swell = 0;
  clear_swell = 0;
  below_interruption = 0;
  clear_interruption = 0;
}

abbrev pub one_if : Bool → ℕ
one_if b = if b then 1 else 0

-- counts with one value more, of this class
abbrev pub with_class : Counts → Class → Counts
with_class counts class = record {
  there = counts.there + 1;
  below_dip = counts.below_dip + one_if class.below_dip;
  clear_dip = counts.clear_dip + one_if class.clear_dip;
  above_swell = counts.above_swell + one_if class.above_swell;
  clear_swell = counts.clear_swell + one_if class.clear_swell;
  below_interruption = counts.below_interruption + one_if class.below_interruption;
  clear_interruption = counts.clear_interruption + one_if class.clear_interruption;
}

-- a value of this class is among those that are counted
pub record IsAmong (class : Class) (counts : Counts) : Type 0 where
  pub there : 1 ≤ counts.there
  pub below_dip : one_if class.below_dip ≤ counts.below_dip
  pub clear_dip : one_if class.clear_dip ≤ counts.clear_dip
  pub above_swell : one_if class.above_swell ≤ counts.above_swell
  pub clear_swell : one_if class.clear_swell ≤ counts.clear_swell
  pub below_interruption : one_if class.below_interruption ≤ counts.below_interruption
  pub clear_interruption : one_if class.clear_interruption ≤ counts.clear_interruption

-- each count is at most so great
pub record AreAtMost (most : ℕ) (counts : Counts) : Type 0 where
  pub there : counts.there ≤ most
  pub below_dip : counts.below_dip ≤ most
  pub clear_dip : counts.clear_dip ≤ most
  pub above_swell : counts.above_swell ≤ most
  pub clear_swell : counts.clear_swell ≤ most
  pub below_interruption : counts.below_interruption ≤ most
  pub clear_interruption : counts.clear_interruption ≤ most

-- the counts are those of the first values, one for each channel
pub record IsCounted (limits : Limits) (channels : ℕ) (values : List (Option ℕ))
    (counts : Counts) : Type 0 where
  pub channels_in_range : IsChannelCount channels
  pub room : channels ≤ length values
  pub counted : counts ≡ counts_of limits (take channels values)
