-- What contracts see of a run: what its session was given, what its printer printed, and how it ends. All of
-- it is profile.
use Rattle.std.specs.Prelude.{◌≡◌, ℕ, ◌≤◌, ◌⊎◌, Bool, true, false, List, [], length, take, Option, Some, None}
use Rattle.interval_ledger.specs.declared.ledger.Ledger.{Ledger}
use Rattle.interval_ledger.specs.declared.subject.Subject.{Subject}
use Rattle.lane_workers.specs.declared.printer.PrintFault.{PrintFault}
use Rattle.lane_workers.specs.declared.printer.PrintFault.TheVariants as fault
use Rattle.lane_workers.specs.declared.printer.Printer as printer
use Rattle.lane_workers.specs.declared.ran.Ran.{Ran}
use Rattle.lane_workers.specs.declared.ran.Ran.TheVariants as ran
use Rattle.pq_base.specs.Causes.{CountsOnce, Rose}
use Rattle.pq_base.specs.Recorded.{Recorded, IsRecording}
use Rattle.pq_items.specs.declared.item.Item.{Item}
use Rattle.progress_words.specs.declared.shared.Shared.{Ghosts}
use Rattle.progress_words.specs.PassView.{IsAlone as IsReaderAlone}
use Rattle.progress_words.specs.Words.{reader_of}
use Rattle.query_session.specs.declared.chain.ChainOf.{ChainOf}
use Rattle.query_session.specs.declared.session.SessionOf.{SessionOf}
use Rattle.query_session.specs.Session.{AreWords, IsIdle, IsSessionOf, result_of, samples_of, view_of}

-- ---- sessions

module _ {g : Ghosts Ledger Subject} where
  -- the recording of a session
  abbrev pub recording_of : SessionOf Ledger g → Recorded
  recording_of s = (view_of s).name.recording

  -- the session was never split and hasn't halted the chain, so nobody has
  abbrev pub IsAlone : SessionOf Ledger g → Type 0
  IsAlone s = IsReaderAlone (reader_of s.pass)

  -- of each lane the session last read the number of samples
  abbrev pub ReadEnds : SessionOf Ledger g → Type 0
  ReadEnds s = AreWords (reader_of s.pass) (samples_of s)

  -- the session has halted the chain
  abbrev pub HasHalted : SessionOf Ledger g → Type 0
  HasHalted s = (reader_of s.pass).wrote_stop ≡ true

-- ---- how a run ends

-- how it ends where the printer broke off
abbrev pub run_of : PrintFault → Ran
run_of fault.Failed = ran.Failed
run_of fault.OutOfMemory = ran.OutOfMemory

-- the printer failed
abbrev pub is_failed_run : Ran → Bool
is_failed_run ran.Failed = true
is_failed_run _ = false

-- the printer has printed a front of these items; it broke off in one
abbrev pub PrintedPrefix : {P : Type 0} → (P → List Item → Type 0) → List Item → P → Type 0
PrintedPrefix printed items p = (k : ℕ) × printed p (take k items)

abbrev pub BrokeInPrefix : {P : Type 0} → (P → List Item → Type 0) → List Item → P → Type 0
BrokeInPrefix broke items p = (k : ℕ) × broke p (take k items)

module _ {g : Ghosts Ledger Subject} {P M : Type 0} (made : P → M) (printed broke : P → List Item → Type 0)
    (count : P → ℕ) (each : Bool) where
  -- all: the whole result is printed, the session was given all of it, and last read the number of samples of
  -- every lane; failed: the count of faults rose, and the printer broke off in a front of the result; want of
  -- memory: the printer broke off in a front, or has printed one; in both the session has halted the chain
  abbrev pub RunsTo : SessionOf Ledger g → SessionOf Ledger g → P → P → Ran → Type 0
  RunsTo start now first last ran.All =
      printed last (result_of start) × (now.cursor ≡ length (result_of start)) × ReadEnds now
  RunsTo start now first last ran.Failed =
      Rose (count first) (count last) × BrokeInPrefix broke (result_of start) last × HasHalted now
  RunsTo start now first last ran.OutOfMemory =
      (PrintedPrefix printed (result_of start) last ⊎ BrokeInPrefix broke (result_of start) last)
      × HasHalted now

  -- whatever it answers, the printer has what it was made with, its count never falls, and rises once only
  -- where it failed, if it counts each; and the session is idle, of the same recording and limits
  pub record Runs (start now : SessionOf Ledger g) (first last : P) (ran : Ran) : Type 0 where
    pub made_with : made last ≡ made first
    pub rises : count first ≤ count last
    pub counted : CountsOnce each (count first) (count last) (is_failed_run ran)
    pub name : (view_of now).name ≡ (view_of start).name
    pub idle : IsIdle now
    pub runs_to : RunsTo start now first last ran

-- ---- by the meanings of a printer

module _ {g : Ghosts Ledger Subject} {P M : Type 0} (p : printer.Ghosts P M) where
  -- how a run ends
  abbrev pub HasRun : SessionOf Ledger g → SessionOf Ledger g → P → P → Ran → Type 0
  HasRun start now first last ran =
      Runs p.made p.printed p.broke p.count p.counts_each start now first last ran

  -- what a caller may begin with
  pub record CanPrint (chain : ChainOf Ledger Subject) (start : SessionOf Ledger g) (first : P) : Type 0 where
    pub mine : IsSessionOf chain start
    pub idle : IsIdle start
    pub alone : IsAlone start
    pub recording : IsRecording (recording_of start)
    pub cursor : start.cursor ≡ 0
    pub printed : p.printed first []

  -- and what it ends with
  abbrev pub HasPrinted : ChainOf Ledger Subject → SessionOf Ledger g → SessionOf Ledger g → P → P → Ran →
      Type 0
  HasPrinted chain start now first last ran = IsSessionOf chain now × HasRun start now first last ran

  -- while it goes on, as many items are printed as the session was given
  pub record IsPrinting (start now : SessionOf Ledger g) (first last : P) : Type 0 where
    pub made_with : p.made last ≡ p.made first
    pub rises : p.count first ≤ p.count last
    pub counted : CountsOnce p.counts_each (p.count first) (p.count last) false
    pub name : (view_of now).name ≡ (view_of start).name
    pub idle : IsIdle now
    pub alone : IsAlone now
    pub prints : p.printed last (take now.cursor (result_of start))

  -- a turn: the run goes on, or it has ended
  abbrev pub TurnGives : SessionOf Ledger g → SessionOf Ledger g → P → P → Option Ran → Type 0
  TurnGives start now first last None = IsPrinting start now first last
  TurnGives start now first last (Some ran) = HasRun start now first last ran
