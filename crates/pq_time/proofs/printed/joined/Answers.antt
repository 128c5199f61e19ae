use Rattle.std.proofs.Common.{length, sym, ◌∙◌, ap, refl}
use Rattle.pq_time.proofs.PrintedLemmas.{put_together}
use Rattle.pq_time.proofs.printed.joined.Goals as goal

-- the date has ten bytes
pub returns : goal.returns
returns c = put_together c.args.date c.args.time c.copy_from_slice.new.self c.copy_from_slice-2.new.self _
    c.copy_from_slice.ensures.after c.copy_from_slice-2.ensures.after
    (sym (ap length c.copy_from_slice.ensures.after) ∙ c.copy_from_slice.ensures.len) refl
