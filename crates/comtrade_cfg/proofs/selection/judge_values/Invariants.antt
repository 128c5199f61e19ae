use Rattle.std.proofs.Common.{◌≡◌, ◌+◌, ◌-◌, length}
use Rattle.std.specs.Prelude.{filter}
use Rattle.std.specs.List.{range_with_len}
use Rattle.comtrade_cfg.specs.Selecting.{values_within_limit, positions_of, is_among}
use Rattle.comtrade_cfg.proofs.selection.judge_values.Given as goal

abbrev pub invariant-loop-position : goal.invariant-loop-position
invariant-loop-position l =
    values_within_limit l.channels (filter (λ p. is_among l.chosen (p + 1))
    (range_with_len l.position (length l.channels - l.position)))
    ≡ values_within_limit l.channels (positions_of l.channels l.chosen)
