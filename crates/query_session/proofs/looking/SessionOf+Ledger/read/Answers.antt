use Rattle.std.proofs.Common.{◌≡◌, ◌≤◌, ◌<◌, ℕ, sym, ap, ◌∙◌, subst, length, slice_index}
use Rattle.interval_ledger.specs.declared.ledger.Ledger.{Ledger}
use Rattle.interval_ledger.specs.declared.subject.Subject.{Subject}
use Rattle.interval_ledger.specs.Ledger.{reach_of, subject_of}
use Rattle.lanes.specs.Lane.{lane_count}
use Rattle.pq_base.specs.Recorded.{sample_count}
use Rattle.pq_sequence.specs.SequentialResult.{sequential}
use Rattle.progress_words.specs.PassView.{reader_part}
use Rattle.query_session.specs.Bounds.{HasBounds}
use Rattle.query_session.specs.Reading.{cursor_after}
use Rattle.query_session.specs.Stage.{HasSeen, MayAdvance, held_in, seen_in}
use Rattle.query_session.proofs.HoldLaws.{within_reaches, may_give, none_seen, none_held, all_at_end}
use Rattle.query_session.proofs.ReadLaws.{cursor_within}
use Rattle.query_session.proofs.looking.SessionOf+Ledger.read.Goals as goal

pub read_ledger-next-requires-clause-within : goal.read_ledger-next-requires-clause-within
read_ledger-next-requires-clause-within c =
    let s = c.args.self.now in
    let v = s.pass.seat.me.0 in
    let h = c.in-Holding in
    let was = sym c.replace-stage.ensures.value ∙ h.is in
    within_reaches h.ledger v.name (reader_part v.role).words_read h.lane h.word
    (s.may h.ledger (ap held_in was)) s.lanes (s.looked h.lane h.word (ap seen_in was))

pub give_reader-requires-clause-may : goal.give_reader-requires-clause-may
give_reader-requires-clause-may c =
    let s = c.args.self.now in
    let v = s.pass.seat.me.0 in
    let h = c.in-Holding in
    let was = sym c.replace-stage.ensures.value ∙ h.is in
    may_give _ h.ledger c.read_ledger-next.new.ledger v (s.holds ∙ ap held_in was)
    c.read_ledger-next.ensures.keeps

pub invariant_of-self : goal.invariant_of-self
invariant_of-self c =
    let s = c.args.self.now in
    let v = s.pass.seat.me.0 in
    let h = c.in-Holding in
    let was = sym c.replace-stage.ensures.value ∙ h.is in
    let named = (s.may h.ledger (ap held_in was)).0 in
    let new = c.give_reader.new.pass in let now = c.give_reader.ensures.1 in
    let idle = c.replace-stage.ensures.after in
    let within = subst (λ (n : Subject). s.cursor ≤ length (sequential n.recording n.limits))
    (sym named) s.within in
    let moved = cursor_within h.ledger c.read_ledger-next.new.ledger h.lane h.word s.cursor
    c.read_ledger-next.result within c.read_ledger-next.ensures.answers in record {
      holds = ap (λ w. w.held_value) now ∙ ap held_in (sym idle);
      looked = subst (λ p. HasSeen p (reader_part new.seat.me.0.role).words_read) (sym idle)
          (none_seen (reader_part new.seat.me.0.role).words_read);
      may = subst (λ p. MayAdvance {V = Ledger} {N = Subject} reach_of subject_of p new.seat.me.0.name
          (reader_part new.seat.me.0.role).words_read) (sym idle)
          (none_held new.seat.me.0.name (reader_part new.seat.me.0.role).words_read);
      lanes = ap (λ w. length (reader_part w.role).words_read) now
          ∙ (s.lanes ∙ ap (λ w. lane_count w.name.recording) (sym now));
      bounds = subst (λ w. HasBounds w.name.recording w.name.limits) (sym now) s.bounds;
      end = s.end ∙ ap (λ w. sample_count w.name.recording) (sym now);
      within = subst (λ k. k ≤ length (sequential new.seat.me.0.name.recording new.seat.me.0.name.limits))
          (sym c.move_on-self.ensures)
          (subst (λ (n : Subject). cursor_after s.cursor c.read_ledger-next.result ≤ length
          (sequential n.recording n.limits)) (named ∙ ap (λ w. w.name) (sym now)) moved);
    }

pub returns-clause-reads : goal.returns-clause-reads
returns-clause-reads c =
    let s = c.args.self.now in
    let v = s.pass.seat.me.0 in
    let h = c.in-Holding in
    let was = sym c.replace-stage.ensures.value ∙ h.is in
    let now = c.give_reader.ensures.1 in record {
      lane = h.lane;
      word = h.word;
      held = h.ledger;
      left = c.read_ledger-next.new.ledger;
      was = was;
      keeps = c.read_ledger-next.ensures.keeps;
      answers = c.read_ledger-next.ensures.answers;
      view = now;
      idle = c.replace-stage.ensures.after;
      cursor = c.move_on-self.ensures;
      ended = λ e. subst (λ w. (k : ℕ) → k < length (reader_part w.role).words_read → slice_index
          (reader_part w.role).words_read k ≡ sample_count v.name.recording) (sym now)
          (all_at_end h.ledger c.read_ledger-next.new.ledger v.name
          (reader_part v.role).words_read h.lane h.word s.cursor c.read_ledger-next.result s.bounds
          (s.may h.ledger (ap held_in was)) (s.looked h.lane h.word (ap seen_in was))
          c.read_ledger-next.ensures.answers e);
    }
