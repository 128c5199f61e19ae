use Rattle.std.proofs.Common.{rules, ◌≡◌, length, sym, ap, ◌∙◌, subst}
use Rattle.interval_ledger.specs.declared.ledger.Ledger.{Ledger}
use Rattle.interval_ledger.specs.declared.subject.Subject.{Subject}
use Rattle.interval_ledger.specs.Ledger.{reach_of, subject_of}
use Rattle.lanes.specs.Lane.{lane_count}
use Rattle.progress_words.specs.PassView.{reader_part}
use Rattle.query_session.specs.Least.{IsLeast}
use Rattle.query_session.specs.Stage.{CoversReads, seen_in}
use Rattle.query_session.proofs.HoldLaws.{seen_is, held_is}
use Rattle.query_session.proofs.looking.SessionOf+Ledger.grab.Goals as goal

pub invariant_of-self-in-Held : goal.invariant_of-self-in-Held
invariant_of-self-in-Held c =
    let s = c.args.self.now in
    let v = s.pass.seat.me.0 in
    let lane = c.in-Looked.lane in
    let word = c.in-Looked.word in
    let u = c.in-Held.ledger in let new = c.take_reader.new.pass in let view = c.in-Held.ensures.view.1 in
    let least = s.looked lane word (ap seen_in c.in-Looked.is) in
    let role : new.seat.me.0.role ≡ v.role = ap (λ w. w.role) view in
    let name : new.seat.me.0.name ≡ v.name = ap (λ w. w.name) view in
    let covers : CoversReads {V = Ledger} {N = Subject} reach_of subject_of u v.name
    (reader_part v.role).words_read = (c.in-Held.ensures.name, c.in-Held.ensures.reads) in record {
      holds = ap (λ w. w.held_value) view;
      looked = seen_is (λ a b. IsLeast (length (reader_part new.seat.me.0.role).words_read)
          (reader_part new.seat.me.0.role).words_read a b) lane word
          (subst (λ r. IsLeast (length (reader_part r).words_read) (reader_part r).words_read lane word)
          (sym role) least);
      may = held_is (λ z. CoversReads {V = Ledger} {N = Subject} reach_of subject_of z new.seat.me.0.name
          (reader_part new.seat.me.0.role).words_read) u
          (subst (λ n. CoversReads {V = Ledger} {N = Subject} reach_of subject_of u n
          (reader_part new.seat.me.0.role).words_read) (sym name)
          (subst (λ r. CoversReads {V = Ledger} {N = Subject} reach_of subject_of u v.name
          (reader_part r).words_read) (sym role) covers));
      lanes = ap (λ r. length (reader_part r).words_read) role
          ∙ (s.lanes ∙ ap (λ (n : Subject). lane_count n.recording) (sym name));
      bounds = search rules;
      end = search rules;
      within = search rules;
    }
