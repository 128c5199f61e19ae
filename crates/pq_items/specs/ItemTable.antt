-- The subject: what an item says, kind by kind. All of it is profile.
use Rattle.std.specs.Prelude.{ℕ, ℤ, Bool, Option, Some, None}
use Rattle.pq_items.specs.declared.item.Item.{Item}
use Rattle.pq_items.specs.declared.item.Item.TheVariants.{Frequency, Basic, Short, Ten, TwoHour, Dip, Swell, Interruption}

-- an item's entry in the table
pub record Entry : Type 0 where
  -- the rank of its kind, from frequency to interruption
  pub rank : ℕ
  -- the number of its channel; 0 for frequency
  pub channel : ℕ
  -- the place at which it starts, and the one at which it ends
  pub start : ℕ
  pub end : ℕ
  -- the tick at which it begins, a UTC second, if its kind begins at ticks
  pub tick : Option ℤ
  -- microhertz for frequency, else microvolts
  pub value : ℕ
  -- how many cycles, basic intervals or records it is made of; 0 for an event
  pub count : ℕ
  -- whether it is flagged, or open
  pub mark : Bool

-- the entry with these fields
abbrev pub entry : ℕ → ℕ → ℕ → ℕ → Option ℤ → ℕ → ℕ → Bool → Entry
entry rank channel start end tick value count mark = record {
  rank = rank;
  channel = channel;
  start = start;
  end = end;
  tick = tick;
  value = value;
  count = count;
  mark = mark;
}

-- the table
abbrev pub entry_of : Item → Entry
entry_of (Frequency tick start end cycles microhertz flagged) =
    entry 0 0 start end (Some tick) microhertz cycles flagged
entry_of (Basic channel start end cycles value flagged) = entry 1 channel start end None value cycles flagged
entry_of (Short channel start end value flagged) = entry 2 channel start end None value 15 flagged
entry_of (Ten channel tick start end basics value flagged) =
    entry 3 channel start end (Some tick) value basics flagged
entry_of (TwoHour channel tick start end value flagged) =
    entry 4 channel start end (Some tick) value 12 flagged
entry_of (Dip channel start end value is_open) = entry 5 channel start end None value 0 is_open
entry_of (Swell channel start end value is_open) = entry 6 channel start end None value 0 is_open
entry_of (Interruption channel start end value is_open) = entry 7 channel start end None value 0 is_open

abbrev pub rank_of : Item → ℕ
rank_of item = (entry_of item).rank

abbrev pub channel_of : Item → ℕ
channel_of item = (entry_of item).channel

abbrev pub start_of : Item → ℕ
start_of item = (entry_of item).start

abbrev pub end_of : Item → ℕ
end_of item = (entry_of item).end

abbrev pub tick_of : Item → Option ℤ
tick_of item = (entry_of item).tick

abbrev pub value_of : Item → ℕ
value_of item = (entry_of item).value

abbrev pub count_of : Item → ℕ
count_of item = (entry_of item).count

abbrev pub has_mark : Item → Bool
has_mark item = (entry_of item).mark
