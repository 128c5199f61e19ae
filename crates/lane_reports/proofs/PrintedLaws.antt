-- What was printed of a report: a front of its header, or as many rows as a run of the lanes came to.
use Rattle.std.proofs.Common.{◌≡◌, ◌⊎◌, ℕ, Bool, List, Option, inl, inr, Err, refl, sym, ap, ◌∙◌, subst}
use Rattle.std.specs.Io.KnownBytes.{Appends}
use Rattle.interval_ledger.specs.declared.ledger.Ledger.{Ledger}
use Rattle.interval_ledger.specs.declared.subject.Subject.{Subject}
use Rattle.lane_reports.specs.PrintedReport.{HandsOver, IsLeftOff, IsRunPrinted}
use Rattle.lane_reports.proofs.RowLaws.{header_front, rows_cut_off, rows_taken}
use Rattle.lane_workers.specs.Running.{BrokeInPrefix, PrintedPrefix, Runs}
use Rattle.lane_workers.specs.declared.printer.PrintFault.TheVariants as fault
use Rattle.lane_workers.specs.declared.ran.Ran.{Ran}
use Rattle.lane_workers.specs.declared.ran.Ran.TheVariants as ran
use Rattle.pq_base.specs.Outside.{AppendsFront}
use Rattle.pq_course.specs.Parts.{IsCutOff}
use Rattle.pq_course.specs.TopCall.{HasTakenFront, Writing}
use Rattle.pq_items.specs.declared.item.Item.{Item}
use Rattle.pq_report.specs.ReportText.{header, rows_text}
use Rattle.pq_time.specs.declared.clock.Clock.{Clock}
use Rattle.pq_words.specs.Text.{Text}
use Rattle.progress_words.specs.declared.shared.Shared.{Ghosts}
use Rattle.query_session.specs.declared.session.SessionOf.{SessionOf}
use Rattle.query_session.specs.Session.{result_of}

-- ---- the header

-- a write of it failed
pub header_cut_off : (clock : Clock) (items : List Item) (w : Writing) (faults : ℕ) →
    HandsOver header w (Err fault.Failed) → faults ≡ w.after → IsCutOff w (rows_text clock items) faults
header_cut_off clock items w faults h number = record {
  rose = h.failed refl;
  number = number;
  taken = header_front clock items w h.front;
  counted = h.counted;
}

-- there was no memory for it
pub header_left_off : (clock : Clock) (items : List Item) (w : Writing) →
    HandsOver header w (Err fault.OutOfMemory) → IsLeftOff w (rows_text clock items)
header_left_off clock items w h =
    record { taken = header_front clock items w h.front; counted = h.counted }

-- ---- a run of the lanes, by a printer with a clock over a sink

module _ {P : Type 0} (clock_in : P → Clock) (taken_in : P → Option Text) (count : P → ℕ) (each : Bool)
    (before : Option Text) where
  abbrev has_printed : P → List Item → Type 0
  has_printed p items = Appends before (taken_in p) (rows_text (clock_in p) items)

  abbrev has_broken_off : P → List Item → Type 0
  has_broken_off p items = AppendsFront before (taken_in p) (rows_text (clock_in p) items)

  abbrev written : P → P → Writing
  written first last = record {
    taken_before = before;
    taken_after = taken_in last;
    before = count first;
    after = count last;
    each = each;
  }

  -- what was taken where memory ran out
  left_off : (items : List Item) (first last : P) →
      PrintedPrefix has_printed items last ⊎ BrokeInPrefix has_broken_off items last →
      HasTakenFront (written first last) (rows_text (clock_in last) items)
  left_off items first last (inl (k, taken)) = rows_taken (clock_in last) items k (written first last) taken
  left_off items first last (inr (k, front)) =
      rows_cut_off (clock_in last) items k (written first last) front

  module _ {M : Type 0} (made : P → M) {g : Ghosts Ledger Subject} (start now : SessionOf Ledger g)
      (first last : P) where
    printed_by : (result : Ran) →
        Runs made has_printed has_broken_off count each start now first last result →
        IsRunPrinted (rows_text (clock_in last) (result_of start)) (written first last) result
    printed_by ran.All r = record { taken = r.runs_to.0; counted = r.counted }
    printed_by ran.Failed r = record {
      rose = r.runs_to.0;
      number = refl;
      taken = rows_cut_off (clock_in last) (result_of start) r.runs_to.1.0 (written first last)
          r.runs_to.1.1;
      counted = r.counted;
    }
    printed_by ran.OutOfMemory r =
        record { taken = left_off (result_of start) first last r.runs_to.0; counted = r.counted }

    -- a run printed as far as it came, with the clock that the printer was made with
    pub run_printed : (clock_made : M → Clock) → ((p : P) → clock_made (made p) ≡ clock_in p) →
        (result : Ran) → Runs made has_printed has_broken_off count each start now first last result →
        IsRunPrinted (rows_text (clock_in first) (result_of start)) (written first last) result
    run_printed clock_made is result r =
        let same : clock_in last ≡ clock_in first =
        sym (is last) ∙ (ap clock_made r.made_with ∙ is first) in
        subst (λ clock. IsRunPrinted (rows_text clock (result_of start)) (written first last) result) same
        (printed_by result r)
