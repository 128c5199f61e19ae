-- The order of faults, without an order of reading (profile): what is said of a line depends on the lines up
-- to it alone, and a fault at a line stands only where no line before it is at fault.
use Rattle.std.specs.Prelude.{◌≡◌, ℕ, ◌+◌, ◌<◌, List, length, take, Result, Err}
use Rattle.pq_words.specs.Text.{Text}
use Rattle.cfg_fields.specs.declared.fault.CfgFault.{CfgFault}
use Rattle.cfg_fields.specs.declared.fault.CfgFault.TheVariants as fault
use Rattle.cfg_fields.specs.Fields.{line_of_fault}
use Rattle.comtrade_cfg.specs.Configuration.{Configuration}
use Rattle.comtrade_cfg.specs.CfgText.{configuration_ahead}

-- what lines say, or their first fault
abbrev pub said_by : List Text → Result Configuration CfgFault
said_by lines = configuration_ahead (record { number = 1; lines = lines })

-- none of these lines is at fault: at most the one after them is missing
abbrev pub HasNoFault : List Text → Type 0
HasNoFault lines = (e : CfgFault) → said_by lines ≡ Err e → e ≡ fault.Line (length lines + 1)

-- the law of the order of faults
pub record OrdersFaults : Type 0 where
  -- a fault is told again of all lines that agree up to its line
  pub same : (lines others : List Text) (e : CfgFault) → said_by lines ≡ Err e →
      take (line_of_fault e) others ≡ take (line_of_fault e) lines → said_by others ≡ Err e
  -- and none of the lines before it is at fault
  pub first : (lines : List Text) (e : CfgFault) (k : ℕ) → said_by lines ≡ Err e → k < line_of_fault e →
      HasNoFault (take k lines)
