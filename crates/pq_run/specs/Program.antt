-- The subject: what the program answers, and what it tells of it (profile).
use Rattle.std.specs.Prelude.{◌≡◌, ℕ, List, String}
use Rattle.std.specs.declared.alloc.Global.{Global}
use Rattle.pq_base.specs.declared.shelf.Shelf as shelf
use Rattle.pq_base.specs.declared.sink.Sink as sink
use Rattle.pq_course.specs.Telling.{IsTold, line_of}
use Rattle.pq_course.specs.TopCall.{Call, IsTopCall, Writing, call_of, writing_of}
use Rattle.pq_run.specs.Commands.{run_course}
use Rattle.pq_run.specs.declared.streams.Streams.{Streams}
use Rattle.status_text.specs.StatusText.{code_of}
use Rattle.status_text.specs.declared.status.Status.{Status}

-- a run of the program: its top call, and what its second sink tells
pub record ProgramRun : Type 0 where
  pub call : Call
  pub tells : Writing

abbrev pub run_of : {K O E : Type 0} → shelf.Ghosts K → sink.Ghosts O → sink.Ghosts E
    → K → K → Streams O E → Streams O E → ProgramRun
run_of files bytes lines old_shelf new_shelf old new = record {
  call = call_of files bytes old_shelf new_shelf old.out new.out;
  tells = writing_of lines old.err new.err;
}

-- the code is that of a status that the top call may have, and the line of that status was told
pub record IsRun (words : List (String Global)) (run : ProgramRun) (code : ℕ) : Type 0 where
  pub status : Status
  pub kept : IsTopCall (run_course words) run.call status
  pub coded : code ≡ code_of status
  pub told : IsTold (line_of status) run.tells
