use Rattle.std.proofs.Common.{◌∙◌, ◌+◌, false, [], ◌∷◌, length, take, ap, sym, subst, arith, inl}
use Rattle.std.proofs.Math.Seq.{take-length}
use Rattle.std.specs.List.{All}
use Rattle.lane_workers.proofs.RunLaws.{broke_off, counts_on, front_broken, next_in_range, one_next, rose_later, several_printed, stays, stays_alone, take_next}
use Rattle.lane_workers.specs.Printing.{BreaksAmong, is_failed}
use Rattle.lane_workers.specs.Running.{HasRun}
use Rattle.pq_base.specs.Recorded.{sample_count}
use Rattle.pq_items.specs.ItemRange.{IsItemInRange}
use Rattle.progress_words.specs.PassView.{reader_part}
use Rattle.progress_words.specs.Words.{reader_of}
use Rattle.query_session.specs.Session.{AreWords, result_of, view_of}
use Rattle.lane_workers.proofs.printing.print_next.Goals as goal

-- the items are of the result
pub print-requires : goal.print-requires
print-requires g c =
    let old = c.args.session.now in
    let n = c.next_several-next in
    subst (All IsItemInRange) (sym c.as_slice.ensures.value)
    (next_in_range (view_of old).name.recording (view_of old).name.limits old.cursor n.new.items.items
    c.requires.recording n.ensures.gives.next)

-- the printer broke off in one of them
pub returns-in-Err-clause-gives : goal.returns-in-Err-clause-gives
returns-in-Err-clause-gives g c =
    let h = c.requires.printing in
    let old = c.args.session.now in
    let n = c.next_several-next in
    let xs = n.new.items.items in
    let way = g.P.Printer in
    let p = c.args.printer.now in
    let q = c.print.new.self in
    let now = c.broken_off.new.session in
    let t = stays_alone old n.new.self (old.cursor + length xs) n.result n.ensures.gives.answers in
    let broken = subst (λ slice. BreaksAmong (way.printed p) slice (way.broke q)) c.as_slice.ensures.value
    c.in-Err.ensures.broke in
    let broke = front_broken (result_of old) xs old.cursor (way.printed p) (way.broke q) n.ensures.gives.next
    h.prints broken in
    subst (HasRun way old now p q) (sym c.broken_off.ensures.value)
    (broke_off way old n.new.self now p q c.print.result c.in-Err.fault c.in-Err.is
    c.print.ensures.made c.print.ensures.count c.print.ensures.counted
    c.print.ensures.failed t.name c.broken_off.ensures.view c.broken_off.ensures.idle broke)

-- and so is the item after them
pub print-requires-in-Item : goal.print-requires-in-Item
print-requires-in-Item g c =
    let old = c.args.session.now in
    let k = old.cursor + length c.next_several-next.new.items.items in
    next_in_range (view_of old).name.recording (view_of old).name.limits k (c.in-Item.item ∷ [])
    c.requires.recording (one_next (result_of old) k c.in-Item.item c.in-Item.ensures.gives.answers.1)

-- it is printed
pub returns-in-Ok-clause-gives : goal.returns-in-Ok-clause-gives
returns-in-Ok-clause-gives g c =
    let h = c.requires.printing in
    let old = c.args.session.now in
    let all = result_of old in
    let n = c.next_several-next in
    let xs = n.new.items.items in
    let k = old.cursor + length xs in
    let way = g.P.Printer in
    let p = c.args.printer.now in
    let q = c.print.new.self in
    let r = c.print-in-Item.new.self in
    let t = stays_alone old n.new.self k n.result n.ensures.gives.answers in
    let printed = several_printed all xs c.as_slice.result.now old.cursor (way.printed p) (way.printed q)
    c.as_slice.ensures.value n.ensures.gives.next c.in_default.ensures.printed h.prints in
    let next = take_next all k c.in-Item.item c.in-Item.ensures.gives.answers.1 in
    let first = c.print.ensures.count in
    let second = c.print-in-Item.ensures.count in record {
      made_with = c.print-in-Item.ensures.made ∙ c.print.ensures.made;
      rises = omega (arith, first, second);
      counted = counts_on way.counts_each (way.count p) (way.count q) (way.count r) false
          c.in_default.ensures.counted c.in-Ok.ensures.counted;
      name = t.name;
      idle = n.ensures.idle;
      alone = t.alone h.alone;
      prints = subst (λ j. way.printed r (take j all)) (sym c.in-Item.ensures.gives.cursor)
          (subst (way.printed r) next (c.in-Ok.ensures.printed (take k all) printed));
    }

-- the printer broke off in it
pub returns-in-Err-print-clause-gives : goal.returns-in-Err-print-clause-gives
returns-in-Err-print-clause-gives g c =
    let h = c.requires.printing in
    let old = c.args.session.now in
    let all = result_of old in
    let n = c.next_several-next in
    let xs = n.new.items.items in
    let k = old.cursor + length xs in
    let x = c.in-Item.item in
    let way = g.P.Printer in
    let p = c.args.printer.now in
    let q = c.print.new.self in
    let r = c.print-in-Item.new.self in
    let now = c.broken_off-in-Err-print.new.session in
    let t = stays_alone old n.new.self k n.result n.ensures.gives.answers in
    let printed = several_printed all xs c.as_slice.result.now old.cursor (way.printed p) (way.printed q)
    c.as_slice.ensures.value n.ensures.gives.next c.in_default.ensures.printed h.prints in
    let first = c.print.ensures.count in
    let second = c.print-in-Item.ensures.count in
    subst (HasRun way old now p r) (sym c.broken_off-in-Err-print.ensures.value)
    (broke_off way old n.new.self now p r c.print-in-Item.result c.in-Err-print.fault c.in-Err-print.is
    (c.print-in-Item.ensures.made ∙ c.print.ensures.made) (omega (arith, first, second))
    (counts_on way.counts_each (way.count p) (way.count q) (way.count r) (is_failed c.print-in-Item.result)
    c.in_default.ensures.counted c.print-in-Item.ensures.counted)
    (λ e. rose_later (way.count p) (way.count q) (way.count r) first (c.print-in-Item.ensures.failed e))
    t.name c.broken_off-in-Err-print.ensures.view c.broken_off-in-Err-print.ensures.idle
    (front_broken all (x ∷ []) k (way.printed q) (way.broke r)
    (one_next all k x c.in-Item.ensures.gives.answers.1) printed c.in-Err-print.ensures.broke))

-- all is printed
pub returns-in-End-clause-gives : goal.returns-in-End-clause-gives
returns-in-End-clause-gives g c =
    let h = c.requires.printing in
    let old = c.args.session.now in
    let all = result_of old in
    let n = c.next_several-next in
    let xs = n.new.items.items in
    let k = old.cursor + length xs in
    let way = g.P.Printer in
    let p = c.args.printer.now in
    let q = c.print.new.self in
    let t = stays_alone old n.new.self k n.result n.ensures.gives.answers in
    let answers = c.in-End.ensures.gives.answers in
    let printed = several_printed all xs c.as_slice.result.now old.cursor (way.printed p) (way.printed q)
    c.as_slice.ensures.value n.ensures.gives.next c.in_default.ensures.printed h.prints in record {
      made_with = c.print.ensures.made;
      rises = c.print.ensures.count;
      counted = c.in_default.ensures.counted;
      name = t.name;
      idle = n.ensures.idle;
      runs_to = (
        subst (way.printed q) (ap (λ j. take j all) answers.2 ∙ take-length all) printed,
        c.in-End.ensures.gives.cursor ∙ answers.2,
        subst (λ name. AreWords (reader_of n.new.self.pass) (sample_count name.recording)) (sym t.name)
            answers.1,
      );
    }

-- want of memory for what is next
pub returns-in-OutOfMemory-clause-gives : goal.returns-in-OutOfMemory-clause-gives
returns-in-OutOfMemory-clause-gives g c =
    let h = c.requires.printing in
    let old = c.args.session.now in
    let all = result_of old in
    let n = c.next_several-next in
    let xs = n.new.items.items in
    let k = old.cursor + length xs in
    let way = g.P.Printer in
    let p = c.args.printer.now in
    let q = c.print.new.self in
    let now = c.halted.new.session in
    let halted = c.halted.ensures.view in
    let t = stays_alone old n.new.self k n.result n.ensures.gives.answers in
    let printed = several_printed all xs c.as_slice.result.now old.cursor (way.printed p) (way.printed q)
    c.as_slice.ensures.value n.ensures.gives.next c.in_default.ensures.printed h.prints in
    subst (HasRun way old now p q) (sym c.halted.ensures.value) record {
      made_with = c.print.ensures.made;
      rises = c.print.ensures.count;
      counted = c.in_default.ensures.counted;
      name = ap (λ v. v.name) halted ∙ t.name;
      idle = c.halted.ensures.idle;
      runs_to = (inl (k, printed), ap (λ v. (reader_part v.role).wrote_stop) halted);
    }

-- the session waits
pub returns-in_default-next-clause-gives : goal.returns-in_default-next-clause-gives
returns-in_default-next-clause-gives g c =
    let h = c.requires.printing in
    let old = c.args.session.now in
    let all = result_of old in
    let n = c.next_several-next in
    let xs = n.new.items.items in
    let k = old.cursor + length xs in
    let way = g.P.Printer in
    let p = c.args.printer.now in
    let q = c.print.new.self in
    let t = stays_alone old n.new.self k n.result n.ensures.gives.answers in
    let printed = several_printed all xs c.as_slice.result.now old.cursor (way.printed p) (way.printed q)
    c.as_slice.ensures.value n.ensures.gives.next c.in_default.ensures.printed h.prints in
    let at = n.ensures.gives.cursor ∙ stays n.result k c.in_default-next.not-Item in record {
      made_with = c.print.ensures.made;
      rises = c.print.ensures.count;
      counted = c.in_default.ensures.counted;
      name = t.name;
      idle = n.ensures.idle;
      alone = t.alone h.alone;
      prints = subst (λ j. way.printed q (take j all)) (sym at) printed;
    }
