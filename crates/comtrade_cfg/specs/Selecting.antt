-- Which channels are measured: those in V or kV that are wanted, and the reference among them (profile).
use Rattle.std.specs.Prelude.{◌≡◌, ℕ, ◌+◌, ◌-◌, ◌*◌, ◌<◌, ◌≤◌, Bool, true, false, not, ◌&&◌, ◌==◌, nat_le, nat_lt, if◌then◌else◌, List, [], ◌∷◌, ◌++◌, length, filter, slice_get, ℤ, pos, unsigned_abs, Option, Some, None, option_map, unwrap_or, is_some, Result, Ok, Err, position, codes, IsTrue}
use Rattle.std.specs.Borrow.{Bor}
use Rattle.std.specs.Option.{ok_or, option_map_or}
use Rattle.std.specs.List.{All, list_any, range_with_len}
use Rattle.std.specs.List.Sorted.{IsStrictlyIncreasing}
use Rattle.std.specs.Str.{str_eq_ignore_ascii_case}
use Rattle.pq_words.specs.Text.{Text}
use Rattle.pq_words.specs.FirstFault.{◌>>=◌, provided, GivesUnless}
use Rattle.pq_base.specs.Decimal.{decimal_of, shifted}
use Rattle.comtrade_cfg.specs.declared.limits.TheConstants.{MOST_PICOVOLTS}
use Rattle.pq_words.specs.declared.limits.TheConstants.{MOST_SELECTED}
use Rattle.comtrade_cfg.specs.declared.cfg.Analogue.{Analogue}
use Rattle.comtrade_cfg.specs.declared.cfg.Cfg.{Cfg}
use Rattle.comtrade_cfg.specs.declared.voltage.Coefficients.{Coefficients}
use Rattle.comtrade_cfg.specs.declared.selection.Selection.{Selection}
use Rattle.comtrade_cfg.specs.declared.select_fault.SelectFault.{SelectFault}
use Rattle.comtrade_cfg.specs.declared.select_fault.SelectFault.TheVariants as fault
use Rattle.comtrade_cfg.specs.Configuration.{Configuration, cfg_view}

-- the power of ten of the picovolts in a unit of voltage: V or kV, without regard to case
abbrev pub unit_power : Text → Option ℕ
unit_power unit =
    if str_eq_ignore_ascii_case unit (codes "V") then Some 12
    else (if str_eq_ignore_ascii_case unit (codes "kV") then Some 15 else None)

-- a decimal coefficient in whole picovolts
abbrev pub picovolts : ℕ → Text → ℤ
picovolts power text = option_map_or (λ x. shifted x power) (decimal_of text) (pos 0)

-- the coefficients of a channel in V or kV, in whole picovolts: the count x stands for a * x + b
abbrev pub coefficients_of : Analogue → Coefficients
coefficients_of c =
    let power = unwrap_or (unit_power c.unit) 0 in
    record { a = picovolts power c.a; b = picovolts power c.b }

-- the greatest magnitude of a sample that a count may make, in picovolts
abbrev pub greatest_of : Coefficients → ℕ
greatest_of k = unsigned_abs k.a * 32767 + unsigned_abs k.b

-- no count makes a sample past the limit
abbrev pub AreWithinLimit : Coefficients → Type 0
AreWithinLimit k = greatest_of k ≤ MOST_PICOVOLTS

-- the same of a channel, as a test
abbrev pub is_within_value_limit : Analogue → Bool
is_within_value_limit c =
    let k = coefficients_of c in nat_le (greatest_of k) MOST_PICOVOLTS

-- the channel of a number, from 1
abbrev pub channel_numbered : List Analogue → ℕ → Option Analogue
channel_numbered channels n = if n == 0 then None else slice_get channels (n - 1)

-- the channel of this number is there and in V or kV
abbrev pub is_voltage_channel : List Analogue → ℕ → Bool
is_voltage_channel channels n = option_map_or (λ c. is_some (unit_power c.unit)) (channel_numbered channels n)
    false

-- the numbers of all channels in V or kV, rising
abbrev pub voltage_channels : List Analogue → List ℕ
voltage_channels channels = filter (is_voltage_channel channels) (range_with_len 1 (length channels))

-- the number is one of these
abbrev pub is_among : List ℕ → ℕ → Bool
is_among numbers n = list_any (λ m. m == n) numbers

-- the wanted numbers judged from left to right, after the good ones so far
abbrev pub chosen_after : List Analogue → List ℕ → List ℕ → Result (List ℕ) SelectFault
chosen_after channels good [] = Ok good
chosen_after channels good (n ∷ wanted) = do
  once ← provided (is_voltage_channel channels n && not (is_among good n)) (fault.Channel n) n
  room ← provided (nat_lt (length good) MOST_SELECTED) fault.TooMany n
  chosen_after channels (good ++ n ∷ []) wanted

-- the positions of the chosen channels in the list of all, rising
abbrev pub positions_of : List Analogue → List ℕ → List ℕ
positions_of channels numbers = filter (λ p. is_among numbers (p + 1)) (range_with_len 0 (length channels))

-- the line of the first chosen channel past the value limit is the fault; the first analogue channel line is
-- line 3
abbrev pub values_within_limit : List Analogue → List ℕ → Result (Unit {0}) SelectFault
values_within_limit channels [] = Ok tt
values_within_limit channels (p ∷ positions) =
    if option_map_or is_within_value_limit (slice_get channels p) true then values_within_limit channels
    positions
    else Err (fault.Value (p + 3))

-- a selection without where it lies in memory
pub record Selected : Type 0 where
  pub positions : List ℕ
  pub reference : ℕ

-- the least chosen channel is the reference where none is named
abbrev pub reference_index : List ℕ → Option ℕ → Result ℕ SelectFault
reference_index positions None = Ok 0
reference_index positions (Some r) = ok_or (position (λ p. p + 1 == r) positions) (fault.Channel r)

-- the selection, or its first fault
unfoldable pub selected_of : Configuration → Option (List ℕ) → Option ℕ → Result Selected SelectFault
selected_of c wanted reference = do
  chosen ← chosen_after c.analogue [] (unwrap_or wanted (voltage_channels c.analogue))
  some ← provided (not (length chosen == 0)) (fault.Channel 0) chosen
  let positions : List ℕ = positions_of c.analogue chosen
  index ← reference_index positions reference
  values ← values_within_limit c.analogue positions
  Ok (record { positions = positions; reference = index })

-- what a part of selecting may answer: the value, the first fault, or want of memory
abbrev pub Gives : {X : Type 0} → Result X SelectFault → Result X SelectFault → Type 0
Gives result read = GivesUnless fault.OutOfMemory (λ x. x) result read

-- the same of a value that is seen by a view
abbrev pub GivesView : {X Y : Type 0} → (X → Y) → Result X SelectFault → Result Y SelectFault → Type 0
GivesView view result read = GivesUnless fault.OutOfMemory view result read

-- what a selection in memory says
abbrev pub selection_view : Selection → Selected
selection_view s = record { positions = s.positions.items; reference = s.reference }

-- the wanted numbers as contracts see them
abbrev pub wanted_view : Option (Bor (List ℕ)) → Option (List ℕ)
wanted_view wanted = option_map (λ numbers. numbers.now) wanted

-- what they select of a cfg in memory
abbrev pub selected_by : Cfg → Option (Bor (List ℕ)) → Option ℕ → Result Selected SelectFault
selected_by cfg wanted reference = selected_of (cfg_view cfg) (wanted_view wanted) reference

-- what `select` may answer: the selection, the first fault, or want of memory
abbrev pub GivesSelection : Result Selection SelectFault → Result Selected SelectFault → Type 0
GivesSelection result read = GivesView selection_view result read

-- a selection that `select` gives of a configuration: some wanted numbers and some reference select it
abbrev pub IsSelected : Configuration → Selected → Type 0
IsSelected c s = (wanted : Option (List ℕ)) × (reference : Option ℕ) ×
    (selected_of c wanted reference ≡ Ok s)

-- the coefficients of the channel at a position
abbrev pub coefficients_at : Configuration → ℕ → Coefficients
coefficients_at c position = option_map_or coefficients_of (slice_get c.analogue position)
    (record { a = pos 0; b = pos 0 })

-- what holds of a selection that is given
pub record IsGoodSelection (c : Configuration) (s : Selected) : Type 0 where
  -- 1 to 16 channels
  pub some : 0 < length s.positions
  pub few : length s.positions ≤ MOST_SELECTED
  -- their positions rise, and are those of analogue channels in V or kV
  pub rising : IsStrictlyIncreasing s.positions
  pub there : All (λ p. p < length c.analogue) s.positions
  pub volts : All (λ p. IsTrue (is_voltage_channel c.analogue (p + 1))) s.positions
  -- no count of theirs makes a sample past the limit
  pub within : All (λ p. AreWithinLimit (coefficients_at c p)) s.positions
  -- one of them is the reference
  pub reference : s.reference < length s.positions

-- the law of selecting
abbrev pub GivesGoodSelections : Type 0
GivesGoodSelections = (c : Configuration) (s : Selected) → IsSelected c s → IsGoodSelection c s
