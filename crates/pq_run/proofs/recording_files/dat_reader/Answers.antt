use Rattle.pq_run.proofs.SelectionLemmas.{said_and_selected}
use Rattle.pq_run.specs.RecordingFiles.{selected_cfg_view}
use Rattle.pq_run.proofs.recording_files.dat_reader.Goals as goal

pub open-requires-clause-said : goal.open-requires-clause-said
open-requires-clause-said c =
    (said_and_selected (selected_cfg_view c.args.selected.now) c.requires).said

pub open-requires-clause-selected : goal.open-requires-clause-selected
open-requires-clause-selected c =
    (said_and_selected (selected_cfg_view c.args.selected.now) c.requires).chosen
