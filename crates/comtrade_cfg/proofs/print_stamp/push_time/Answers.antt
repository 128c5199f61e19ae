use Rattle.std.proofs.Common.{◌≡◌, sym, FitsSigned, w64}
use Rattle.std.proofs.lemmas.Int.{to_z-of_z}
use Rattle.pq_time.specs.Printed.{printed_moment}
use Rattle.comtrade_cfg.proofs.PrintLemmas.{time_whole, time_full}
use Rattle.comtrade_cfg.proofs.print_stamp.push_time.Goals as goal

-- with the last three digits
pub returns-in_ok-extend_from_slice-2 : goal.returns-in_ok-extend_from_slice-2
returns-in_ok-extend_from_slice-2 c =
    let fits : FitsSigned w64 c.args.written = c.ranges.written in
    let shown : c.print_moment-shown.result ≡ printed_moment c.args.written =
    simp to_z-of_z at c.print_moment-shown.ensures in
    time_full c.args.text.now.items c.extend_from_slice.new.self.items _ c.print_moment-shown.result
    c.args.written shown (sym c.if-not-ends_with.ensures.value) c.in_ok-extend_from_slice.ensures.items
    c.in_ok-extend_from_slice-2.ensures.items

-- without them
pub returns-else-not-ends_with : goal.returns-else-not-ends_with
returns-else-not-ends_with c =
    let fits : FitsSigned w64 c.args.written = c.ranges.written in
    let shown : c.print_moment-shown.result ≡ printed_moment c.args.written =
    simp to_z-of_z at c.print_moment-shown.ensures in
    time_whole c.args.text.now.items _ c.print_moment-shown.result c.args.written shown
    (sym c.if-not-ends_with.ensures.value) c.in_ok-extend_from_slice.ensures.items
