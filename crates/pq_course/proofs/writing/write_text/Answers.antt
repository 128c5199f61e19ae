use Rattle.std.proofs.Common.{take, drop, sym}
use Rattle.std.proofs.lemmas.List.{take-append-drop}
use Rattle.pq_course.proofs.writing.write_text.Goals as goal

-- a failed write: the count rose, and a front was taken
pub returns-in-Err : goal.returns-in-Err
returns-in-Err g c =
    let e = c.in-Err.ensures in
    record {
      rose = e.cause.failed;
      number = c.faults.ensures;
      taken = (
        take e.err.count c.args.text.now,
        drop e.err.count c.args.text.now,
        sym (take-append-drop _ _),
        e.err.bytes,
      );
      counted = e.counted;
    }
