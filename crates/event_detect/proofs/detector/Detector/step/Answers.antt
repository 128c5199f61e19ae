-- Each way through the function is one of the ways of a step.
use Rattle.std.proofs.Common.{Some, None, sym}
use Rattle.event_detect.specs.Detector.{condition, running_view}
use Rattle.event_detect.proofs.DetectorLaws.{parts, idle_ends, idle_begins, idle_stays, running_ends, running_stops, running_stays, running_goes_on}
use Rattle.event_detect.proofs.detector.Detector.step.Goals as goal

-- none runs, and one begins
pub returns-then-begins-clause-value : goal.returns-then-begins-clause-value
returns-then-begins-clause-value c =
    let kind = c.self.inside.kind in
    let fed = condition c.args.begins c.args.ends c.args.channel c.args.window in
    idle_ends c.args.self.now kind fed (parts kind c.self.inside.running None c.args.self.now c.in_default.is
    c.self.view_is)

pub returns-then-begins-clause-seen : goal.returns-then-begins-clause-seen
returns-then-begins-clause-seen c =
    let kind = c.self.inside.kind in
    let fed = condition c.args.begins c.args.ends c.args.channel c.args.window in
    idle_begins c.args.self.now kind fed (parts kind c.self.inside.running None c.args.self.now
    c.in_default.is c.self.view_is) c.if-begins.true

-- none runs, and none begins
pub returns-else-begins-clause-value : goal.returns-else-begins-clause-value
returns-else-begins-clause-value c =
    let kind = c.self.inside.kind in
    let fed = condition c.args.begins c.args.ends c.args.channel c.args.window in
    idle_ends c.args.self.now kind fed (parts kind c.self.inside.running None c.args.self.now c.in_default.is
    c.self.view_is)

pub returns-else-begins-clause-seen : goal.returns-else-begins-clause-seen
returns-else-begins-clause-seen c =
    let kind = c.self.inside.kind in
    let fed = condition c.args.begins c.args.ends c.args.channel c.args.window in
    idle_stays c.args.self.now kind fed (parts kind c.self.inside.running None c.args.self.now c.in_default.is
    c.self.view_is) c.if-begins.false

-- one runs, and ends
pub returns-then-ends-clause-value : goal.returns-then-ends-clause-value
returns-then-ends-clause-value c =
    let kind = c.self.inside.kind in
    let kept = c.in-Some.running in
    let next = running_view c.with-running.result in
    let fed = condition c.args.begins c.args.ends c.args.channel c.args.window in
    running_ends c.args.self.now kind (running_view kept) next fed c.event.result
    (parts kind c.self.inside.running (Some kept) c.args.self.now c.in-Some.is c.self.view_is)
    c.if-ends.true (sym c.with-running.ensures) c.event.ensures

pub returns-then-ends-clause-seen : goal.returns-then-ends-clause-seen
returns-then-ends-clause-seen c =
    let kind = c.self.inside.kind in
    let kept = c.in-Some.running in
    let fed = condition c.args.begins c.args.ends c.args.channel c.args.window in
    running_stops c.args.self.now kind (running_view kept) fed
    (parts kind c.self.inside.running (Some kept) c.args.self.now c.in-Some.is c.self.view_is)
    c.if-ends.true

-- one runs, and goes on
pub returns-clause-value : goal.returns-clause-value
returns-clause-value c =
    let kind = c.self.inside.kind in
    let kept = c.in-Some.running in
    let fed = condition c.args.begins c.args.ends c.args.channel c.args.window in
    running_stays c.args.self.now kind (running_view kept) fed
    (parts kind c.self.inside.running (Some kept) c.args.self.now c.in-Some.is c.self.view_is)
    c.if-ends.false

pub returns-clause-seen : goal.returns-clause-seen
returns-clause-seen c =
    let kind = c.self.inside.kind in
    let kept = c.in-Some.running in
    let next = running_view c.with-running.result in
    let fed = condition c.args.begins c.args.ends c.args.channel c.args.window in
    running_goes_on c.args.self.now kind (running_view kept) next fed
    (parts kind c.self.inside.running (Some kept) c.args.self.now c.in-Some.is c.self.view_is)
    c.if-ends.false (sym c.with-running.ensures)
