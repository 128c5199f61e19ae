use Rattle.std.proofs.Common.{◌≡◌, ◌⊎◌, ◌+◌, ◌-◌, ◌<◌, ◌++◌, length, drop, take, refl, subst, rules}
use Rattle.comtrade_dat.proofs.ProgressLemmas.{cut_still, faulty_longer, good_after, in_shape, parts_joined, refused}
use Rattle.comtrade_dat.specs.Progress.{HasFault}
use Rattle.comtrade_dat.specs.declared.dat_fault.DatFault.TheVariants as fault
use Rattle.comtrade_dat.proofs.progress.Progress.decode.Goals as goal

pub decode_run-requires-clause-shape : goal.decode_run-requires-clause-shape
decode_run-requires-clause-shape g c =
    let going = c.requires.going in
    in_shape c.args.size c.args.positions.now c.args.n going.0 c.args.self.now going.1 going.2

-- the record that is cut off lacks more than this piece
pub returns-then-piece-missing-clause-good : goal.returns-then-piece-missing-clause-good
returns-then-piece-missing-clause-good g c = λ unread fed h.
    let some : 0 < length c.args.self.now.cut.items = search rules in
    let short : length c.args.self.now.cut.items + length c.args.piece.now < c.args.size = search rules in
    cut_still c.args.size c.args.positions.now c.args.n unread c.args.self.now _ fed c.args.piece.now h
    some refl
    c.in_ok-extend_from_slice.ensures.items short

pub decode_cut-requires-clause-shape : goal.decode_cut-requires-clause-shape
decode_cut-requires-clause-shape g c =
    let going = c.requires.going in
    in_shape c.args.size c.args.positions.now c.args.n going.0 c.args.self.now going.1 going.2

-- the record that was cut off is at fault, or there was no memory
pub returns-in_err-decode_cut-clause-good : goal.returns-in_err-decode_cut-clause-good
returns-in_err-decode_cut-clause-good g c = λ unread fed h.
    let size = c.args.size in
    let positions = c.args.positions.now in
    let n = c.args.n in
    let piece = c.args.piece.now in
    let missing = size - c.len.result in
    let e = c.in_err-decode_cut.field-0.0 in
    refused _ _ c.from_residual-in_err-decode_cut.result e c.from_residual-in_err-decode_cut.ensures.1
    (subst (λ all. (e ≡ fault.OutOfMemory) ⊎ HasFault size positions n all e)
    (parts_joined fed piece missing)
    (faulty_longer size positions n (fed ++ take missing piece)
    (take (length piece - missing) (drop missing piece)) e
    (c.in_err-decode_cut.ensures.good unread fed h)))

pub decode_run-requires-2-clause-shape : goal.decode_run-requires-2-clause-shape
decode_run-requires-2-clause-shape g c =
    let going = c.requires.going in
    in_shape c.args.size c.args.positions.now c.args.n going.0 c.decode_cut.new.self
    (going.1 ++ take (c.args.size - c.len.result) c.args.piece.now)
    (c.in_ok-decode_cut.ensures.good going.0 going.1 going.2)

-- it is good, and the records after it go on
pub returns-clause-good : goal.returns-clause-good
returns-clause-good g c = λ unread fed h.
    let piece = c.args.piece.now in
    let missing = c.args.size - c.len.result in
    good_after c.args.size c.args.positions.now c.args.n unread c.decode_run-2.new.self (fed ++ piece) _
    c.decode_run-2.result (parts_joined fed piece missing)
    (c.decode_run-2.ensures.good unread (fed ++ take missing piece)
    (c.in_ok-decode_cut.ensures.good unread fed h))
