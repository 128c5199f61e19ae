-- How large the parts of a configuration are that some text says (profile).
use Rattle.std.specs.Prelude.{◌≡◌, ◌⊎◌, ◌*◌, ◌^◌, ◌<◌, ◌≤◌, length}
use Rattle.std.specs.Option.{ForSome}
use Rattle.pq_words.specs.declared.limits.TheConstants.{LEAST_SAMPLES_IN_CYCLE, MOST_NANOSECONDS, MOST_RATE, MOST_SAMPLES}
use Rattle.pq_words.specs.Magnitude.{IsWithin}
use Rattle.cfg_fields.specs.declared.limits.TheConstants.{MOST_CHANNELS}
use Rattle.comtrade_cfg.specs.Configuration.{Configuration}
use Rattle.comtrade_cfg.specs.CfgText.{IsConfiguration, offset_of}

-- the bounds of a configuration that some text says
pub record IsBounded (c : Configuration) : Type 0 where
  pub lf : (c.lf ≡ 50) ⊎ (c.lf ≡ 60)
  pub slowest : LEAST_SAMPLES_IN_CYCLE * c.lf * 10 ^ 6 ≤ c.rate
  pub fastest : c.rate ≤ MOST_RATE
  pub endsamp : c.endsamp ≤ MOST_SAMPLES
  pub analogue : length c.analogue ≤ MOST_CHANNELS
  pub status : length c.status ≤ MOST_CHANNELS
  pub first : IsWithin MOST_NANOSECONDS c.first
  pub trigger : IsWithin MOST_NANOSECONDS c.trigger
  pub offset : IsWithin 899 (offset_of c.zone)
  pub quality : ForSome c.zone (λ z. z.quality < 16)

-- the law: each such configuration is bounded
abbrev pub ConfigurationsAreBounded : Type 0
ConfigurationsAreBounded = (c : Configuration) → IsConfiguration c → IsBounded c
