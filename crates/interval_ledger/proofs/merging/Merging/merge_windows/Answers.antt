use Rattle.std.proofs.Common.{◌≡◌, ◌∙◌, ◌<◌, ap, arith, length, slice_index, slice_set, sym, rules}
use Rattle.std.proofs.lemmas.List.{get_or-map, length-map}
use Rattle.interval_ledger.specs.Channel.{first_start, first_starts}
use Rattle.interval_ledger.proofs.KeptLaws.{as_many}
use Rattle.interval_ledger.proofs.JoinLaws.{items_none, items_twice}
use Rattle.interval_ledger.proofs.StateLaws.{may_stays, merges_none, merges_twice, posted_kept}
use Rattle.interval_ledger.proofs.merging.Merging.merge_windows.Goals as goal

-- none yet
pub loop-position-init : goal.loop-position-init
loop-position-init g c = record {
  posted = c.requires.posted;
  at = c.requires.at;
  until = c.requires.until;
  same = merges_none c.args.self.now;
  ticks = items_none c.args.self.now c.args.steps.now;
  starts = search rules;
}

-- one more
pub loop-position-preserved : goal.loop-position-preserved
loop-position-preserved g c =
    let old = c.loop-position.self in
    let new = c.merge_window.new.self in
    let so_far = c.loop-position.invariant in
    let said = c.merge_window.ensures in
    let position = c.in-Some.position in
    let start = c.first_start.result in
    let channels = new.channels.items in
    let first = c.in-Some.ensures.value in
    let within = first.inside in
    let as_long = ap length so_far.starts in
    let inside : position < length channels =
    omega (
      arith,
      within,
      as_long,
      length-map old.channels.items first_start,
      as_many old.channels.items channels said.same.posted.values_same,
    ) in
    let at : slice_index (first_starts channels) position ≡ start =
    get_or-map first_start channels position c.index.result.now 0 inside
    ∙ ap first_start (sym c.index.ensures)
    ∙ sym c.first_start.ensures in
    record {
      posted = posted_kept old new said.same.posted so_far.posted;
      at = said.at;
      until = may_stays old new c.args.until said.same so_far.until;
      same = merges_twice c.args.self.now old new so_far.same said.same;
      ticks = items_twice c.args.self.now old new c.args.steps.now c.loop-position.steps
          c.merge_window.new.steps so_far.ticks said.ticks;
      starts = ap (λ starts. slice_set starts position start) so_far.starts
          ∙ ap (slice_set (first_starts old.channels.items) position) (sym at)
          ∙ sym c.in_ok-merge_window.ensures.others;
    }

-- memory is short
pub returns-in_err-merge_window-clause-same : goal.returns-in_err-merge_window-clause-same
returns-in_err-merge_window-clause-same g c =
    merges_twice c.args.self.now c.loop-position.self c.merge_window.new.self
    c.loop-position.invariant.same c.merge_window.ensures.same

pub returns-in_err-merge_window-clause-ticks : goal.returns-in_err-merge_window-clause-ticks
returns-in_err-merge_window-clause-ticks g c =
    items_twice c.args.self.now c.loop-position.self c.merge_window.new.self c.args.steps.now
    c.loop-position.steps c.merge_window.new.steps c.loop-position.invariant.ticks
    c.merge_window.ensures.ticks
