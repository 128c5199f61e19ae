use Rattle.std.proofs.Common.{◌∙◌, sym, subst}
use Rattle.supply_events.specs.FirstStart.{TakesNext}
use Rattle.supply_events.proofs.NextLemmas.{got, not_over, nothing_left, one_taken, still_rise}
use Rattle.supply_events.proofs.merged.take_next.Goals as goal

-- no channel has a window
pub returns-in_err-position-clause-taken : goal.returns-in_err-position-clause-taken
returns-in_err-position-clause-taken c =
    let channels = c.args.channels.now in
    let none = nothing_left channels c.in_err-position.ensures in
    subst (TakesNext channels channels) (sym c.from_residual.ensures) (none, none)

-- the channel that was found has one
pub returns-in_err-window-clause-taken : goal.returns-in_err-window-clause-taken
returns-in_err-window-clause-taken c =
    let found = c.in_ok-position.ensures in
    let is = got c.args.channels.now _ _ found.1.inside c.index-channels-position.is in
    absurd (not_over c.args.channels.now _ _ found.0 _ found.1 is
    (c.index-channels-position.is ∙ c.in_err-window.ensures.0))

-- it is the first of those that were left
pub returns-clause-taken : goal.returns-clause-taken
returns-clause-taken c =
    let found = c.in_ok-position.ensures in
    let is = got c.args.channels.now _ _ found.1.inside c.index-channels-position.is in
    one_taken c.args.channels.now c.in_ok-position.position found.0 c.in_ok-window.window _ c.take.new.self
    c.requires.rise found.1 is (c.index-channels-position.is ∙ c.in_ok-window.ensures)

-- the others rise still
pub returns-clause-rise : goal.returns-clause-rise
returns-clause-rise c =
    let found = c.in_ok-position.ensures in
    let is = got c.args.channels.now _ _ found.1.inside c.index-channels-position.is in
    still_rise c.args.channels.now c.in_ok-position.position c.in_ok-window.window _ c.take.new.self
    c.requires.rise is (c.index-channels-position.is ∙ c.in_ok-window.ensures)
