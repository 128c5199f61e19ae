-- The files of a recording that were read, and how a course goes on from it.
use Rattle.std.proofs.Common.{◌≡◌, Result, Ok, Err, refl, subst, sym}
use Rattle.std.specs.Prelude.{IfErr, IsErrAnd}
use Rattle.command_words.specs.Commands.{Measurement}
use Rattle.pq_base.specs.Recorded.{Recorded}
use Rattle.pq_base.specs.declared.shelf.Shelf as shelf
use Rattle.pq_course.proofs.CourseLemmas.{asked_none}
use Rattle.pq_course.proofs.ReadingLemmas.{IsQuiet, after_file, ends_refused, goes_on_good, held_since, job, quiet, read_until, reading_since}
use Rattle.pq_course.specs.Judged.{goes_on}
use Rattle.pq_course.specs.Parts.{HasBytes, IsRead, IsReadFor, rest_until}
use Rattle.pq_course.specs.TopCall.{Reading, reading_of}
use Rattle.pq_course.specs.Verdict.{Course, Ends, Job}
use Rattle.pq_course.specs.declared.input_file.InputFile.TheVariants as file
use Rattle.pq_run.specs.RecordingFiles.{Gives, SelectedConfiguration, cfg_course, dat_recording, recording_course, selected_configuration}
use Rattle.pq_words.specs.Text.{Text}
use Rattle.status_text.specs.Refusals.{IsRefusing}
use Rattle.status_text.specs.declared.status.Status.{Status}

-- ---- parts

-- a result that is this error
pub is_err_for : {A : Type 0} (way : (A → Course Status) → Course Status) (r : Reading)
    (result : Result A Status) (s : Status)
    → IsErrAnd result (λ e. e ≡ s) → IsReadFor way r (Err s) → IsReadFor way r result
is_err_for way r (Ok x) s is e = absurd is
is_err_for way r (Err found) s is e = subst (λ x. IsReadFor way r (Err x)) (sym is) e

-- what was judged: its text is the job, or it is refused
pub judged_text : (judged result : Result Text Status) (r : Reading)
    → Gives result judged → IfErr result IsRefusing → IsQuiet r
    → IsRead (goes_on judged (λ text. Ends (Job text))) r result
judged_text judged (Ok text) r gives refuses q = goes_on_good judged text _ r (Ok text) gives (job text r q)
judged_text judged (Err why) r gives refuses q = ends_refused judged why _ r gives refuses q

-- nothing more is read after a part
pub quiet_after : {K : Type 0} (told : shelf.Ghosts K) (a b : K)
    → IsQuiet (rest_until (reading_of told a b) (told.asked b) (told.faults b))
quiet_after told a b = record { names = asked_none (told.asked b); faults = refl }

-- what was read later was read over the files that there were
pub read_since : {K : Type 0} (told : shelf.Ghosts K) (a b c : K) (course : Course Status)
    (result : Result Text Status) → told.files b ≡ told.files a
    → IsRead course (reading_of told b c) result → IsRead course (reading_since told a b c) result
read_since told a b c course result same read =
    subst (λ fs. IsRead course (record (reading_of told b c) { files = fs }) result) same read

-- ---- a recording

-- the cfg and the dat were read, and the dat judged
pub recorded_for : {K : Type 0} (told : shelf.Ghosts K) (a b c : K) (m : Measurement) (cfg dat : Text)
    (s : SelectedConfiguration) (result : Result Recorded Status)
    → HasBytes file.Cfg m.cfg (reading_of told a b) cfg → told.files b ≡ told.files a
    → selected_configuration m.channels m.reference cfg ≡ Ok s
    → HasBytes file.Dat m.dat (reading_of told b c) dat → told.files c ≡ told.files b
    → Gives result (dat_recording s dat) → IfErr result IsRefusing
    → IsReadFor (recording_course m) (reading_of told a c) result
recorded_for told a b c m cfg dat s (Ok recorded) held same good later stayed gives refuses =
    λ go asked count result rest.
    let second : Reading = reading_since told a b c in
    read_until file.Cfg m.cfg (cfg_course m go) cfg (reading_of told a b) asked count result held
    (goes_on_good (selected_configuration m.channels m.reference cfg) s _
    (rest_until (reading_of told a b) asked count) result good
    (read_until file.Dat m.dat (λ bytes. goes_on (dat_recording s bytes) go) dat second asked count result
    (held_since told a b c file.Dat m.dat dat later same)
    (goes_on_good (dat_recording s dat) recorded go (rest_until second asked count) result gives rest)))
recorded_for told a b c m cfg dat s (Err why) held same good later stayed gives refuses =
    λ go. after_file told a b c file.Cfg m.cfg (cfg_course m go) cfg (Err why) held same
    (goes_on_good (selected_configuration m.channels m.reference cfg) s _ (reading_of told b c) (Err why) good
    (after_file told b c c file.Dat m.dat (λ bytes. goes_on (dat_recording s bytes) go) dat (Err why) later
    stayed (ends_refused (dat_recording s dat) why go (reading_of told c c) gives refuses (quiet told c))))
