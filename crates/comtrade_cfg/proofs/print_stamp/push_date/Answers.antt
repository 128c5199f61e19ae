use Rattle.std.proofs.Common.{◌≡◌, FitsSigned, w64}
use Rattle.std.proofs.lemmas.Int.{to_z-of_z}
use Rattle.pq_time.specs.Printed.{printed_moment}
use Rattle.comtrade_cfg.proofs.PrintLemmas.{date_pieces}
use Rattle.comtrade_cfg.proofs.print_stamp.push_date.Goals as goal

-- the parts of the printed moment
pub returns : goal.returns
returns c =
    let fits : FitsSigned w64 c.args.written = c.ranges.written in
    let shown : c.print_moment-shown.result ≡ printed_moment c.args.written =
    simp to_z-of_z at c.print_moment-shown.ensures in
    date_pieces c.args.text.now.items c.extend_from_slice.new.self.items c.extend_from_slice-2.new.self.items
    c.extend_from_slice-3.new.self.items c.extend_from_slice-4.new.self.items _
    c.print_moment-shown.result c.args.written
    shown c.in_ok-extend_from_slice.ensures.items c.in_ok-extend_from_slice-2.ensures.items
    c.in_ok-extend_from_slice-3.ensures.items c.in_ok-extend_from_slice-4.ensures.items
    c.in_ok-extend_from_slice-5.ensures.items
