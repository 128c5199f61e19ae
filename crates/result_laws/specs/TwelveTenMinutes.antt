-- The subject: the law that a 2-hour interval is twelve 10-minute intervals, without a gap (4.5).
-- Sections are those of IEC 61000-4-30:2015; "profile" marks a choice of this project.
use Rattle.std.specs.Prelude.{◌≡◌, ℕ, ◌+◌, ◌≤◌, Bool, List, length, map, All, Contains, ℤ, pos, ◌+ℤ◌, Some, IfSome, option_map, slice_get}
use Rattle.std.specs.List.{list_any}
use Rattle.event_detect.specs.declared.limits.Limits.{Limits}
use Rattle.fixed_rms.specs.Root.{root_mean}
use Rattle.pq_base.specs.Recorded.{Recorded, IsRecording, sample_count}
use Rattle.pq_items.specs.declared.item.Item.{Item}
use Rattle.pq_items.specs.declared.item.Item.TheVariants.{TwoHour}
use Rattle.pq_items.specs.ItemTable.{rank_of, channel_of, start_of, end_of, tick_of, value_of, has_mark}
use Rattle.pq_sequence.specs.MeasuredRecording.{clock_of}
use Rattle.pq_sequence.specs.SequentialResult.{sequential}
use Rattle.pq_time.specs.Tick.{tick_place}
use Rattle.pq_words.specs.Steps.{steps_from}

-- a 10-minute item of the channel
pub record IsTenMinutes (channel : ℕ) (ten : Item) : Type 0 where
  pub kind : rank_of ten ≡ 3
  pub same_channel : channel_of ten ≡ channel

-- the place of a tick among the samples of a recording
abbrev pub place_in : Recorded → ℤ → ℕ
place_in r tick = tick_place (clock_of r) (sample_count r) tick

-- an item lasts from a tick to the 10-minute tick after it: it begins at the tick's place or after it, and
-- ends at the next one's place or after it (4.5; which basic intervals it has: profile)
pub record LastsFrom (r : Recorded) (tick : ℤ) (item : Item) : Type 0 where
  pub begins : place_in r tick ≤ start_of item
  pub ends : place_in r (tick +ℤ pos 600) ≤ end_of item

-- each of some items ends at the start of the next or after it
abbrev pub HaveNoGap : List Item → Type 0
HaveNoGap items = (k : ℕ) (item next : Item) → slice_get items k ≡ Some item →
    slice_get items (k + 1) ≡ Some next → start_of next ≤ end_of item

-- these items make up a 2-hour item of a result, of the channel and the tick
pub record AreTwelve (r : Recorded) (result : List Item) (channel : ℕ) (tick : ℤ) (start end value : ℕ)
    (flagged : Bool) (tens : List Item) : Type 0 where
  -- they are twelve 10-minute items of the result and of the channel: that of the tick, and those of the
  -- eleven 10-minute ticks after it (4.5)
  pub twelve : length tens ≡ 12
  pub there : All (Contains result) tens
  pub kind : All (IsTenMinutes channel) tens
  pub ticks : map tick_of tens ≡ map Some (steps_from tick 600 12)
  -- each lasts from its tick to the next, and there is no gap between them
  pub lasting : All (λ ten. IfSome (tick_of ten) (λ t. LastsFrom r t ten)) tens
  pub no_gap : HaveNoGap tens
  -- the first begins where the 2-hour item does, and the last ends where it ends (4.5)
  pub first : option_map start_of (slice_get tens 0) ≡ Some start
  pub last : option_map end_of (slice_get tens 11) ≡ Some end
  -- its value is the root of the mean square of theirs (4.5), and it is flagged exactly where one of them is
  -- (4.7)
  pub root : value ≡ root_mean (map value_of tens)
  pub flag : flagged ≡ list_any has_mark tens

-- a 2-hour item of a result, of any recording and under any limits, is made of twelve 10-minute items of it
abbrev pub TwoHoursHaveTwelve : Type 0
TwoHoursHaveTwelve = (r : Recorded) (limits : Limits) (channel : ℕ) (tick : ℤ) (start end value : ℕ)
    (flagged : Bool) → IsRecording r →
    Contains (sequential r limits) (TwoHour channel tick start end value flagged) →
    (tens : List Item) × AreTwelve r (sequential r limits) channel tick start end value flagged tens
