-- What contracts see of a report that is printed row by row, by what its sink tells (profile).
use Rattle.std.specs.Prelude.{◌≡◌, ◌≤◌, false, Option, Result, Err, OnOk, OnErr}
use Rattle.event_detect.specs.declared.limits.Limits.{Limits}
use Rattle.interval_ledger.specs.declared.ledger.Ledger.{Ledger}
use Rattle.interval_ledger.specs.declared.subject.Subject.{Subject}
use Rattle.lane_workers.specs.Printing.{is_failed}
use Rattle.lane_workers.specs.declared.printer.PrintFault.{PrintFault}
use Rattle.lane_workers.specs.declared.printer.PrintFault.TheVariants as fault
use Rattle.lane_workers.specs.declared.ran.Ran.{Ran}
use Rattle.lane_workers.specs.declared.ran.Ran.TheVariants as ran
use Rattle.pq_base.specs.Causes.{CountsOnce, Rose}
use Rattle.pq_base.specs.Outside.{AppendsFront}
use Rattle.pq_base.specs.Recorded.{Recorded}
use Rattle.pq_base.specs.declared.sink.Sink as sink
use Rattle.pq_course.specs.Parts.{IsCutOff, IsWhole}
use Rattle.pq_course.specs.TopCall.{Writing, HasTaken, HasTakenFront, writing_of}
use Rattle.pq_report.specs.ReportText.{rows_text}
use Rattle.pq_sequence.specs.MeasuredRecording.{clock_of}
use Rattle.pq_sequence.specs.SequentialResult.{sequential}
use Rattle.pq_time.specs.declared.clock.Clock.{Clock}
use Rattle.pq_words.specs.Text.{Text}
use Rattle.progress_words.specs.declared.shared.Shared.{Ghosts}
use Rattle.query_session.specs.Session.{result_of}
use Rattle.query_session.specs.declared.session.SessionOf.{SessionOf}
use Rattle.status_text.specs.declared.status.Status.{Status}
use Rattle.status_text.specs.declared.status.Status.TheVariants as status

-- a front of the text was taken, and no call of the sink failed
pub record IsLeftOff (w : Writing) (text : Text) : Type 0 where
  pub taken : HasTakenFront w text
  pub counted : CountsOnce w.each w.before w.after false

-- what printing a text answers: it is done, it failed at a front of it, or memory ran out at a front of it
abbrev pub IsPrinted : Text → Writing → Status → Type 0
IsPrinted text w status.Done = IsWhole w text
IsPrinted text w (status.WriteFault faults) = IsCutOff w text faults
IsPrinted text w status.OutOfMemory = IsLeftOff w text
IsPrinted text w _ = ⊥

-- the same of the report of a recording under limits: the rows of its sequential result
abbrev pub IsReportPrinted : Recorded → Limits → Writing → Status → Type 0
IsReportPrinted r limits w s = IsPrinted (rows_text (clock_of r) (sequential r limits)) w s

-- ---- how it is printed

-- what a sink tells, from these bytes on
abbrev pub since : Option Text → Writing → Writing
since before w = record w { taken_before = before }

-- how far a run of the lanes printed a text
abbrev pub IsRunPrinted : Text → Writing → Ran → Type 0
IsRunPrinted text w ran.All = IsWhole w text
IsRunPrinted text w ran.Failed = IsCutOff w text w.after
IsRunPrinted text w ran.OutOfMemory = IsLeftOff w text

-- how far a run of a session's chain printed the rows of its result to a sink, after these bytes
module _ {g : Ghosts Ledger Subject} {O : Type 0} where
  abbrev pub Prints : sink.Ghosts O → Option Text → Clock → SessionOf Ledger g → O → O → Ran → Type 0
  Prints told before clock session old new ran =
      IsRunPrinted (rows_text clock (result_of session)) (since before (writing_of told old new)) ran

-- one part of a text was handed over, or a front of it where a write failed or memory ran out
pub record HandsOver (part : Text) (w : Writing) (result : Result (Unit {0}) PrintFault) : Type 0 where
  pub taken : OnOk result (HasTaken w part)
  pub front : OnErr result (AppendsFront w.taken_before w.taken_after part)
  pub later : w.before ≤ w.after
  pub failed : result ≡ Err fault.Failed → Rose w.before w.after
  pub counted : CountsOnce w.each w.before w.after (is_failed result)
