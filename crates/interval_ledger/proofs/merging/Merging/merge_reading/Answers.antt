use Rattle.std.proofs.Common.{refl, arith}
use Rattle.interval_ledger.proofs.StateLaws.{kept_by, reading_counts, reading_fewer, reading_inside, reading_merges, room_merging}
use Rattle.interval_ledger.proofs.merging.Merging.merge_reading.Goals as goal

-- it is posted
pub next_index-self-requires : goal.next_index-self-requires
next_index-self-requires g c =
    let inside = reading_inside c.args.self.now c.args.reading c.requires.next in
    omega (arith, inside, c.count.ensures)

-- the reading is merged
pub returns-clause-at : goal.returns-clause-at
returns-clause-at g c =
    reading_merges c.args.self.now c.args.reading c.requires.next c.add_reading.new.self
    c.next_index-self.result c.next_index-self.ensures c.add_reading.ensures.name c.requires.posted
    c.requires.at c.requires.none c.in_ok-add_reading.ensures.value

pub returns-clause-same : goal.returns-clause-same
returns-clause-same g c = record {
  posted = kept_by c.args.self.now _ c.add_reading.ensures.name refl refl refl;
  mark_same = refl;
}

-- one less is left
pub returns-clause-fewer : goal.returns-clause-fewer
returns-clause-fewer g c =
    reading_fewer c.args.self.now c.args.reading c.requires.next c.add_reading.new.self
    c.next_index-self.result c.next_index-self.ensures c.add_reading.ensures.name

-- and one more is merged
pub returns-clause-ticks : goal.returns-clause-ticks
returns-clause-ticks g c =
    let one = reading_counts c.args.self.now c.args.reading c.requires.next c.add_reading.new.self
    c.next_index-self.result c.next_index-self.ensures c.add_reading.ensures.name in
    let tick = c.tick.ensures in record {
      rises = omega (arith, one);
      ticks = omega (arith, one, tick);
    }

-- memory is short
pub returns-in_err-add_reading-clause-at : goal.returns-in_err-add_reading-clause-at
returns-in_err-add_reading-clause-at g c =
    room_merging c.args.self.now c.add_reading.new.self c.requires.at c.in_err-add_reading.ensures.err

pub returns-in_err-add_reading-clause-same : goal.returns-in_err-add_reading-clause-same
returns-in_err-add_reading-clause-same g c = record {
  posted = kept_by c.args.self.now _ c.add_reading.ensures.name refl refl refl;
  mark_same = refl;
}
