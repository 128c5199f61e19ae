-- The subject: the limits of settings, or their refusal (profile).
use Rattle.std.specs.Prelude.{◌+◌, ◌-◌, ◌&&◌, Bool, nat_le, nat_lt, if◌then◌else◌, Result, Ok, Err}
use Rattle.event_detect.specs.Threshold.{limits_of}
use Rattle.event_detect.specs.declared.limits.Limits.{Limits}
use Rattle.event_detect.specs.declared.limits.Settings.{Settings}
use Rattle.status_text.specs.declared.status.Status.{Status}
use Rattle.status_text.specs.declared.status.Status.TheVariants as status

-- there is hysteresis, an interruption ends below the dip threshold, and a dip ends below the end of a swell
abbrev pub are_sound : Settings → Bool
are_sound settings = nat_le 1 settings.hysteresis
    && (nat_lt (settings.interruption + settings.hysteresis) settings.dip
    && nat_lt (settings.dip + settings.hysteresis) (settings.swell - settings.hysteresis))

-- the limits of sound settings; others are refused
unfoldable pub settings_limits : Settings → Result Limits Status
settings_limits settings =
    if are_sound settings then Ok (limits_of settings) else Err status.BadLimits
