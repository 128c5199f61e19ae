-- What a step of one pass keeps of the part on the stop word.
use Rattle.std.proofs.Common.{◌≡◌, ℕ, ◌+◌, ◌<◌, ◌≤◌, List, get_or, set, Option, true, refl, sym, ap, ◌∙◌, arith}
use mathlib.Core.Logic.{dite}
use mathlib.Core.Option.{some, some-injective}
use native.Mathlib.Decide.{ℕ_discrete}
use lib.ListN.{get_elem?}
use Rattle.atomic_table.specs.Table.{State}
use Rattle.atomic_table.proofs.Lists.{set_here, set_else}
use Rattle.progress_words.specs.declared.pass_view.PassView.{PassView}
use Rattle.progress_words.specs.declared.pass_view.ReaderView.{ReaderView}
use Rattle.progress_words.specs.declared.pass_view.Role.{Role}
use Rattle.progress_words.specs.declared.pass_view.Role.TheVariants.{Raises, Reads}
use Rattle.progress_words.specs.PassView.{reader_part}
use Rattle.progress_words.specs.Rule.{HasStop}
use Rattle.progress_words.specs.Seat.{IsStopWritten, Standing}
use Rattle.progress_words.proofs.Lists.{inside}
use Rattle.progress_words.proofs.Parts.{moved, stands}
use Rattle.progress_words.proofs.Views.{each_set, each_reader_set}

-- a role whose reader's part wrote the stop word is a reader's
pub writer_reads : (role : Role) → (reader_part role).wrote_stop ≡ true → role ≡ Reads (reader_part role)
writer_reads (Reads p) e = refl
writer_reads (Raises p) e = cc

module _ {V N : Type 0} where
  -- who wrote the stop word has written it still
  pub written_stays : (views : List (PassView V N)) (id : ℕ) (v w : PassView V N)
      → get_elem? views id ≡ some v
      → ((reader_part v.role).wrote_stop ≡ true → (reader_part w.role).wrote_stop ≡ true)
      → IsStopWritten views → IsStopWritten (set views id w)
  written_stays views id v w at keep x = dite (ℕ_discrete x.seat id)
      (λ e. let is : x.view ≡ v = some-injective x.view v (sym x.at ∙ (ap (get_elem? views) e ∙ at)) in
      let part : reader_part v.role ≡ x.part =
      ap reader_part (ap (λ (d : PassView V N). d.role) (sym is) ∙ x.reads) in
      let wrote = keep (ap (λ (p : ReaderView). p.wrote_stop) part ∙ x.wrote) in
      record {
        seat = id;
        view = w;
        part = reader_part w.role;
        at = set_here views id w (inside views id v at);
        reads = writer_reads w.role wrote;
        wrote = wrote;
      })
      (λ e. record {
        seat = x.seat;
        view = x.view;
        part = x.part;
        at = set_else views id x.seat w e ∙ x.at;
        reads = x.reads;
        wrote = x.wrote;
      })

module _ {V N : Type 0} (n : ℕ) (reach : V → ℕ → ℕ) (name : V → N) (opening : V)
    (s : State (Option V) (PassView V N)) (t : Standing V) (id : ℕ) (v w : PassView V N) (ws : List ℕ) where
  -- how the stop word may go in a step of the pass id
  pub record StopGoes : Type 0 where
    pub bit : get_or ws (n + 1) 0 ≤ 1
    pub rises : get_or s.words (n + 1) 0 ≡ 1 → get_or ws (n + 1) 0 ≡ 1
    pub found : w.stop_found ≡ 1 → get_or ws (n + 1) 0 ≡ 1
    pub wrote : (q : ReaderView) → w.role ≡ Reads q → q.wrote_stop ≡ true → get_or ws (n + 1) 0 ≡ 1
    pub writer : 0 < get_or ws (n + 1) 0 → IsStopWritten (set s.views id w)

  pub stop_goes : (homes : List (mathlib.Core.Option.Option (Option V))) (u : V) (holder : ℕ)
      → StopGoes → HasStop n reach name opening s t
      → HasStop n reach name opening (moved s ws homes id w) (stands t u holder)
  stop_goes homes u holder x h = record {
    bit = x.bit;
    found = each_set s.views id w (λ _ d. d.stop_found ≡ 1 → get_or ws (n + 1) 0 ≡ 1)
        (λ j d _ at e. x.rises (h.found j d at e)) x.found;
    wrote = each_reader_set s.views id w (λ _ p. p.wrote_stop ≡ true → get_or ws (n + 1) 0 ≡ 1)
        (λ j d _ at p is e. x.rises (h.wrote j d at p is e)) x.wrote;
    writer = x.writer;
  }

  -- the stop word stays, and the pass id has written it where it had before
  pub stop_stays : get_elem? s.views id ≡ some v → HasStop n reach name opening s t
      → get_or s.words (n + 1) 0 ≡ get_or ws (n + 1) 0
      → (reader_part w.role).wrote_stop ≡ (reader_part v.role).wrote_stop
      → (w.stop_found ≡ 1 → get_or s.words (n + 1) 0 ≡ 1) → StopGoes
  stop_stays at h same wrote found = record {
    bit = let a = h.bit in omega arith;
    rises = λ e. sym same ∙ e;
    found = λ e. sym same ∙ found e;
    wrote = λ q is e. let now : (reader_part w.role).wrote_stop ≡ true =
        ap (λ r. (reader_part r).wrote_stop) is ∙ e in
        let was = sym wrote ∙ now in sym same
        ∙ h.wrote id v at (reader_part v.role) (writer_reads v.role was) was;
    writer = λ z. written_stays s.views id v w at (λ e. wrote ∙ e) (h.writer (omega arith));
  }
