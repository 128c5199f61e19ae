use Rattle.std.proofs.Common.{◌≡◌, ◌++◌, take, map}
use Rattle.comtrade_cfg.specs.Canonical.{behind_commas}
use Rattle.comtrade_cfg.proofs.print_channels.push_behind_commas.Given as goal

-- the fields so far
abbrev pub invariant-loop-field : goal.invariant-loop-field
invariant-loop-field l = l.text.items ≡ l.initial.text.items
    ++ behind_commas (map (λ field. field.now) (take l.field-index l.fields))
