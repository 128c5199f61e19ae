use Rattle.std.proofs.Common.{sym, ◌∙◌, ap, arith}
use Rattle.interval_ledger.specs.Merging.{first_left}
use Rattle.interval_ledger.proofs.StateLaws.{channel_there, window_alone, window_counts, window_fewer, window_kept, window_merges}
use Rattle.interval_ledger.proofs.merging.Merging.merge_window.Goals as goal

-- the channel is one of the recording
pub add_window-requires : goal.add_window-requires
add_window-requires g c =
    let s = c.args.self.now in
    let inside = channel_there s c.args.until c.args.position c.requires.until c.requires.first in
    let many = c.requires.posted.posted.many in
    let count = c.requires.at.known.watching.channels_same in
    omega (arith, inside, many, count)

-- the window is merged
pub returns-clause-at : goal.returns-clause-at
returns-clause-at g c =
    window_merges c.args.self.now c.args.until c.args.position c.requires.until c.requires.first
    c.in-Some.window c.add_window.new.self c.take_window.new.channels
    (ap (λ xs. first_left xs c.args.position) (sym c.deref.ensures.value)
    ∙ sym c.first_left.ensures
    ∙ c.in-Some.is)
    c.add_window.ensures.name c.take_window.ensures c.requires.posted c.requires.at
    c.in_ok-add_window.ensures.value

pub returns-clause-same : goal.returns-clause-same
returns-clause-same g c =
    window_kept c.args.self.now c.args.until c.args.position c.requires.until c.requires.first
    c.in-Some.window c.add_window.new.self c.take_window.new.channels
    (ap (λ xs. first_left xs c.args.position) (sym c.deref.ensures.value)
    ∙ sym c.first_left.ensures
    ∙ c.in-Some.is)
    c.add_window.ensures.name c.take_window.ensures

-- no other channel is touched
pub returns-clause-others : goal.returns-clause-others
returns-clause-others g c =
    window_alone c.args.self.now c.args.until c.args.position c.requires.until c.requires.first
    c.in-Some.window c.add_window.new.self c.take_window.new.channels
    (ap (λ xs. first_left xs c.args.position) (sym c.deref.ensures.value)
    ∙ sym c.first_left.ensures
    ∙ c.in-Some.is)
    c.add_window.ensures.name c.take_window.ensures

-- one less is left
pub returns-clause-fewer : goal.returns-clause-fewer
returns-clause-fewer g c =
    window_fewer c.args.self.now c.args.until c.args.position c.requires.until c.requires.first
    c.in-Some.window c.add_window.new.self c.take_window.new.channels
    (ap (λ xs. first_left xs c.args.position) (sym c.deref.ensures.value)
    ∙ sym c.first_left.ensures
    ∙ c.in-Some.is)
    c.add_window.ensures.name c.take_window.ensures

-- and one more is merged
pub returns-clause-ticks : goal.returns-clause-ticks
returns-clause-ticks g c =
    let one = window_counts c.args.self.now c.args.until c.args.position c.requires.until c.requires.first
    c.in-Some.window c.add_window.new.self c.take_window.new.channels
    (ap (λ xs. first_left xs c.args.position) (sym c.deref.ensures.value)
    ∙ sym c.first_left.ensures
    ∙ c.in-Some.is)
    c.add_window.ensures.name c.take_window.ensures in
    let tick = c.tick.ensures in record {
      rises = omega (arith, one);
      ticks = omega (arith, one, tick);
    }
