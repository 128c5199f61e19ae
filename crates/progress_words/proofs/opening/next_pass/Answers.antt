use Rattle.std.proofs.Common.{rules, ap, ◌<◌}
use Rattle.progress_words.specs.PassView.{reader_part}
use Rattle.progress_words.proofs.LaneMaking.{makes_lane}
use Rattle.progress_words.proofs.opening.next_pass.Goals as goal

pub split_seat-seat-requires : goal.split_seat-seat-requires
split_seat-seat-requires g c =
    let words = c.args.words.now in let knows = c.requires.reader.1 in
    let l : c.args.lane < words.board.shared.key.lanes = rw (← words.lanes) c.requires.lane in
    let splits = ap (λ v. (reader_part v.role).splits) knows in
    let made = ap (λ v. (reader_part v.role).lanes_made) knows in (
      c.requires.reader.0,
      search rules,
      makes_lane _ g.V.Shared.reach g.V.Shared.name _ _ _ c.args.reader.now.reads splits (rw made l),
    )
