-- The subject: the values of options (profile).
use Rattle.std.specs.Prelude.{ℕ, ◌≤◌, ◌&&◌, nat_le, if◌then◌else◌, List, [], ◌∷◌, ◌++◌, Option, None, Some, option_and_then, option_map, Result, Ok, Err, codes}
use Rattle.std.specs.Borrow.{Bor}
use Rattle.std.specs.Option.{ok_or}
use Rattle.std.specs.Str.{bytes_eq}
use Rattle.std.specs.declared.alloc.Global.{Global}
use Rattle.std.specs.declared.vec.Vec.{Vec}
use Rattle.clap.specs.Words.{Row, first_of}
use Rattle.command_words.specs.declared.channels.TheConstants.{MOST_CHANNEL}
use Rattle.command_words.specs.declared.command.Part.{Part}
use Rattle.command_words.specs.declared.command.Part.TheVariants as part
use Rattle.command_words.specs.declared.command.WordsFault.{WordsFault}
use Rattle.command_words.specs.declared.command.WordsFault.TheVariants as fault
use Rattle.command_words.specs.declared.generated.TheConstants.{MOST_SEED}
use Rattle.command_words.specs.declared.thresholds.TheConstants.{USUAL_DIP, USUAL_HYSTERESIS, USUAL_INTERRUPTION, USUAL_SWELL}
use Rattle.event_detect.specs.declared.limits.Settings.{Settings}
use Rattle.event_detect.specs.declared.limits.TheConstants.{MOST_THOUSANDTHS, MOST_UDIN}
use Rattle.pq_words.specs.FirstFault.{◌>>=◌, GivesUnless}
use Rattle.pq_words.specs.Text.{Text, digits_between, parted_at}

-- what a function gives is what is read, unless it finds no memory
abbrev pub Gives : {A : Type 0} → Result A WordsFault → Result A WordsFault → Type 0
Gives result read = GivesUnless fault.OutOfMemory (λ x. x) result read

-- the same of a value that is seen by a view
abbrev pub GivesView : {X Y : Type 0} → (X → Y) → Result X WordsFault → Result Y WordsFault → Type 0
GivesView view result read = GivesUnless fault.OutOfMemory view result read

-- a text that may be left out, as it is held
abbrev pub text_view : Option (Bor Text) → Option Text
text_view text = option_map (λ t. t.now) text

-- numbers that may be left out, as they are held
abbrev pub numbers_view : Option (Vec ℕ Global) → Option (List ℕ)
numbers_view numbers = option_map (λ v. v.items) numbers

-- what isn't there is not understood
abbrev pub understood : {A : Type 0} → Option A → Result A WordsFault
understood found = ok_or found fault.NotUnderstood

-- a text that may be left out
abbrev pub optional : {A : Type 0} → (Text → Result A WordsFault) → Option Text → Result (Option A) WordsFault
optional read None = Ok None
optional read (Some text) = do
  x ← read text
  Ok (Some x)

pub record IsBetween (low high n : ℕ) : Type 0 where
  pub least : low ≤ n
  pub most : n ≤ high

-- the number that one to so many digits write, within its range
abbrev pub number_between : ℕ → ℕ → ℕ → Text → Result ℕ WordsFault
number_between digits least most text = understood (option_and_then
    (λ n. if nat_le least n && nat_le n most then Some n else None) (digits_between 1 digits text))

-- thousandths of the declared voltage: one to four digits, at most 2000; the usual value where there is no
-- text
abbrev pub thousandths_or : ℕ → Option Text → Result ℕ WordsFault
thousandths_or usual None = Ok usual
thousandths_or usual (Some text) = number_between 4 0 MOST_THOUSANDTHS text

-- the settings of a declared voltage in millivolts where no other option is given
abbrev pub usual_settings : ℕ → Settings
usual_settings udin_mv = record {
  udin_mv = udin_mv;
  dip = USUAL_DIP;
  swell = USUAL_SWELL;
  interruption = USUAL_INTERRUPTION;
  hysteresis = USUAL_HYSTERESIS;
}

-- the number of a channel: one to three digits, from 1 to 999
abbrev pub channel_of : Text → Result ℕ WordsFault
channel_of text = number_between 3 1 MOST_CHANNEL text

-- the numbers of channels that texts write, after those so far
abbrev pub channels_after : List ℕ → List Text → Result (List ℕ) WordsFault
channels_after so_far [] = Ok so_far
channels_after so_far (text ∷ texts) = do
  n ← channel_of text
  channels_after (so_far ++ n ∷ []) texts

-- one or more, parted by commas
abbrev pub channels_of : Text → Result (List ℕ) WordsFault
channels_of text = channels_after [] (parted_at 44 text)

-- the file of a generated recording
abbrev pub part_of : Text → Result Part WordsFault
part_of text =
    if bytes_eq text (codes "cfg") then Ok part.Cfg
    else (if bytes_eq text (codes "dat") then Ok part.Dat else Err fault.NotUnderstood)

-- the seed: one to twenty digits, at most 2^64 - 1
abbrev pub seed_of : List Row → Result ℕ WordsFault
seed_of rows = do
  seed ← understood (first_of (codes "seed") rows)
  number_between 20 0 MOST_SEED seed

-- the settings: the declared voltage is one to ten digits, from 1 to 1,000,000,000 millivolts
unfoldable pub settings_of : List Row → Result Settings WordsFault
settings_of rows = do
  udin ← understood (first_of (codes "udin") rows)
  udin_mv ← number_between 10 1 MOST_UDIN udin
  dip ← thousandths_or USUAL_DIP (first_of (codes "dip") rows)
  swell ← thousandths_or USUAL_SWELL (first_of (codes "swell") rows)
  interruption ← thousandths_or USUAL_INTERRUPTION (first_of (codes "interruption") rows)
  hysteresis ← thousandths_or USUAL_HYSTERESIS (first_of (codes "hysteresis") rows)
  Ok (record {
    udin_mv = udin_mv;
    dip = dip;
    swell = swell;
    interruption = interruption;
    hysteresis = hysteresis;
  })
