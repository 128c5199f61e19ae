use Rattle.std.proofs.Common.{◌≡◌, ◌⊎◌, [], Result, Ok, Err, subst, sym, ap₂}
use Rattle.command_words.specs.Commands.{Measurement, measuring_view}
use Rattle.pq_course.proofs.ReadingLemmas.{after_file, ends_refused, goes_on_good, out_of_memory, quiet}
use Rattle.pq_course.specs.Judged.{goes_on}
use Rattle.pq_course.specs.Parts.{IsRead}
use Rattle.pq_course.specs.TopCall.{Reading, reading_of}
use Rattle.pq_course.specs.declared.input_file.InputFile.TheVariants as file
use Rattle.pq_run.proofs.RecordingLemmas.{is_err_for, recorded_for}
use Rattle.pq_run.specs.RecordingFiles.{SelectedConfiguration, cfg_course, dat_course, dat_recording, recording_course, selected_cfg_view, selected_configuration}
use Rattle.pq_words.specs.Text.{Text}
use Rattle.status_text.specs.declared.status.Status.{Status}
use Rattle.status_text.specs.declared.status.Status.TheVariants as status
use Rattle.pq_run.proofs.recording_files.read_recording.Goals as goal

-- ---- the cfg

-- it can't be had
pub returns-in_err-cfg-clause-value : goal.returns-in_err-cfg-clause-value
returns-in_err-cfg-clause-value g c =
    let m : Measurement = measuring_view c.args.measuring.now in
    is_err_for (recording_course m) _ c.from_residual.result c.in_err-cfg.field-0.0 c.from_residual.ensures.1
    (λ go. c.in_err-cfg.ensures.value (cfg_course m go))

-- it is refused
pub returns-in_err-selected-clause-value : goal.returns-in_err-selected-clause-value
returns-in_err-selected-clause-value g c =
    let told = g.K.Shelf in
    let m : Measurement = measuring_view c.args.measuring.now in
    let cfg : Text = c.in_ok-cfg.cfg in
    let why : Status = c.in_err-selected.field-0.0 in
    let r : Reading = reading_of told c.read_file.new.shelf c.read_file.new.shelf in
    let found : (why ≡ status.OutOfMemory) ⊎ (selected_configuration m.channels m.reference cfg ≡ Err why) =
    subst (λ (read : Result SelectedConfiguration Status). (why ≡ status.OutOfMemory) ⊎ (read ≡ Err why))
    (ap₂ (λ w b. selected_configuration w m.reference b) c.wanted_numbers-wanted.ensures c.bytes.ensures)
    c.in_err-selected.ensures.value in
    is_err_for (recording_course m) _ c.from_residual-in_err-selected.result why
    c.from_residual-in_err-selected.ensures.1
    (λ go. after_file told c.args.shelf.now c.read_file.new.shelf c.read_file.new.shelf file.Cfg m.cfg
    (cfg_course m go) cfg (Err why) c.in_ok-cfg.ensures.value c.in_ok-cfg.ensures.files
    (ends_refused (selected_configuration m.channels m.reference cfg) why _ r found
    c.in_err-selected.ensures.refuses (quiet told c.read_file.new.shelf)))

-- ---- the dat

-- there is no memory for its reader
pub returns-in_err-reader-clause-value : goal.returns-in_err-reader-clause-value
returns-in_err-reader-clause-value g c =
    let told = g.K.Shelf in
    let m : Measurement = measuring_view c.args.measuring.now in
    let cfg : Text = c.in_ok-cfg.cfg in
    let s : SelectedConfiguration = selected_cfg_view c.in_ok-selected.selected in
    let why : Status = c.in_err-reader.field-0.0 in
    let r : Reading = reading_of told c.read_file.new.shelf c.read_file.new.shelf in
    let good : selected_configuration m.channels m.reference cfg ≡ Ok s =
    subst (λ (read : Result SelectedConfiguration Status). read ≡ Ok s)
    (ap₂ (λ w b. selected_configuration w m.reference b) c.wanted_numbers-wanted.ensures c.bytes.ensures)
    c.in_ok-selected.ensures.value in
    let wants = c.in_err-reader.ensures.err in
    let memory : why ≡ status.OutOfMemory = cc in
    is_err_for (recording_course m) _ c.from_residual-in_err-reader.result why
    c.from_residual-in_err-reader.ensures.1
    (λ go. after_file told c.args.shelf.now c.read_file.new.shelf c.read_file.new.shelf file.Cfg m.cfg
    (cfg_course m go) cfg (Err why) c.in_ok-cfg.ensures.value c.in_ok-cfg.ensures.files
    (goes_on_good (selected_configuration m.channels m.reference cfg) s _ r (Err why) good
    (subst (λ x. IsRead (dat_course m s go) r (Err x)) (sym memory)
    (out_of_memory (dat_course m s go) r (quiet told c.read_file.new.shelf)))))

-- it can't be had
pub returns-in_err-feed_dat-clause-value : goal.returns-in_err-feed_dat-clause-value
returns-in_err-feed_dat-clause-value g c =
    let told = g.K.Shelf in
    let m : Measurement = measuring_view c.args.measuring.now in
    let cfg : Text = c.in_ok-cfg.cfg in
    let s : SelectedConfiguration = selected_cfg_view c.in_ok-selected.selected in
    let why : Status = c.in_err-feed_dat.field-0.0 in
    let good : selected_configuration m.channels m.reference cfg ≡ Ok s =
    subst (λ (read : Result SelectedConfiguration Status). read ≡ Ok s)
    (ap₂ (λ w b. selected_configuration w m.reference b) c.wanted_numbers-wanted.ensures c.bytes.ensures)
    c.in_ok-selected.ensures.value in
    is_err_for (recording_course m) _ c.from_residual-in_err-feed_dat.result why
    c.from_residual-in_err-feed_dat.ensures.1
    (λ go. after_file told c.args.shelf.now c.read_file.new.shelf c.feed_dat.new.shelf file.Cfg m.cfg
    (cfg_course m go) cfg (Err why) c.in_ok-cfg.ensures.value c.in_ok-cfg.ensures.files
    (goes_on_good (selected_configuration m.channels m.reference cfg) s _
    (reading_of told c.read_file.new.shelf c.feed_dat.new.shelf) (Err why) good
    (c.in_err-feed_dat.ensures.value (λ dat. goes_on (dat_recording s dat) go))))

-- the configuration is that of some cfg
pub dat_reader-requires : goal.dat_reader-requires
dat_reader-requires g c = (_, _, _, c.in_ok-selected.ensures.value)

-- its recording, or its refusal
pub returns-clause-value : goal.returns-clause-value
returns-clause-value g c =
    let m : Measurement = measuring_view c.args.measuring.now in
    let cfg : Text = c.in_ok-cfg.cfg in
    let s : SelectedConfiguration = selected_cfg_view c.in_ok-selected.selected in
    let good : selected_configuration m.channels m.reference cfg ≡ Ok s =
    subst (λ (read : Result SelectedConfiguration Status). read ≡ Ok s)
    (ap₂ (λ w b. selected_configuration w m.reference b) c.wanted_numbers-wanted.ensures c.bytes.ensures)
    c.in_ok-selected.ensures.value in
    let dat = c.in_ok-feed_dat.ensures.value in
    let gives = c.dat_recording.ensures.value s dat.bytes
    (dat.fed s.configuration s.selected [] c.in_ok-reader.ensures.fed) in
    recorded_for g.K.Shelf c.args.shelf.now c.read_file.new.shelf c.feed_dat.new.shelf m cfg dat.bytes s
    c.dat_recording.result c.in_ok-cfg.ensures.value c.in_ok-cfg.ensures.files good dat.read
    c.in_ok-feed_dat.ensures.files gives c.dat_recording.ensures.refuses
