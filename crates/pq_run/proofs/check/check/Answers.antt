use Rattle.std.proofs.Common.{◌≡◌, ◌⊎◌, Result, Ok, Err, refl, subst}
use Rattle.comtrade_cfg.specs.CfgText.{configuration_of}
use Rattle.comtrade_cfg.specs.Configuration.{Configuration, cfg_view}
use Rattle.cfg_fields.specs.declared.fault.CfgFault.TheVariants as fault
use Rattle.pq_course.proofs.ReadingLemmas.{after_file, cfg_refuses, ends_refused, found_good, found_refused, goes_on_good, is_err, job, out_of_memory, quiet}
use Rattle.pq_run.specs.Check.{canonical_course}
use Rattle.pq_course.specs.Parts.{IsRead}
use Rattle.status_text.specs.Refusals.{cfg_refusal, or_refused}
use Rattle.pq_course.specs.TopCall.{Reading, reading_of}
use Rattle.pq_course.specs.Verdict.{Ends, Job}
use Rattle.status_text.specs.declared.status.Status.{Status}
use Rattle.status_text.specs.declared.status.Status.TheVariants as status
use Rattle.pq_words.specs.Text.{Text}
use Rattle.pq_run.proofs.check.check.Goals as goal

-- the cfg can't be had
pub returns-in_err-cfg : goal.returns-in_err-cfg
returns-in_err-cfg g c = is_err _ _ c.from_residual.result c.in_err-cfg.field-0.0 c.from_residual.ensures.1
    (c.in_err-cfg.ensures.value canonical_course)

-- it is refused
pub returns-in_err-cfg-2 : goal.returns-in_err-cfg-2
returns-in_err-cfg-2 g c =
    let told = g.K.Shelf in
    let bytes : Text = c.in_ok-cfg.cfg in
    let read : Result Configuration Status = or_refused cfg_refusal (configuration_of bytes) in
    let why = c.in_err-cfg-2.field-0.0 in
    let s : Status = cfg_refusal why in
    let r : Reading = reading_of told c.read_file.new.shelf c.read_file.new.shelf in
    let said : (why ≡ fault.OutOfMemory) ⊎ (configuration_of bytes ≡ Err why) =
    subst (λ (b : Text). (why ≡ fault.OutOfMemory) ⊎ (configuration_of b ≡ Err why)) c.bytes.ensures
    c.in_err-cfg-2.ensures.value in
    let found : (s ≡ status.OutOfMemory) ⊎ (read ≡ Err s) =
    found_refused cfg_refusal fault.OutOfMemory why s (configuration_of bytes) said refl refl in
    let ends : IsRead (canonical_course bytes) r (Err s) =
    ends_refused read s _ r found (cfg_refuses why) (quiet told c.read_file.new.shelf) in
    is_err _ _ c.from_residual-in_err-cfg-2.result s c.from_residual-in_err-cfg-2.ensures.1
    (after_file told c.args.shelf.now c.read_file.new.shelf c.read_file.new.shelf _ c.args.cfg.now
    canonical_course bytes (Err s) c.in_ok-cfg.ensures.value c.in_ok-cfg.ensures.files ends)

-- there is no memory for its canonical text
pub returns-in_err-text : goal.returns-in_err-text
returns-in_err-text g c =
    let told = g.K.Shelf in
    let bytes : Text = c.in_ok-cfg.cfg in
    is_err _ _ c.from_residual-in_err-text.result status.OutOfMemory c.from_residual-in_err-text.ensures.1
    (after_file told c.args.shelf.now c.read_file.new.shelf c.read_file.new.shelf _ c.args.cfg.now
    canonical_course bytes (Err status.OutOfMemory) c.in_ok-cfg.ensures.value c.in_ok-cfg.ensures.files
    (out_of_memory (canonical_course bytes) _ (quiet told c.read_file.new.shelf)))

-- it is good, and this is its canonical text
pub returns : goal.returns
returns g c =
    let told = g.K.Shelf in
    let bytes : Text = c.in_ok-cfg.cfg in
    let text : Text = c.in_ok-text.text in
    let said : Configuration = cfg_view c.in_ok-cfg-2.cfg in
    let read : Result Configuration Status = or_refused cfg_refusal (configuration_of bytes) in
    let r : Reading = reading_of told c.read_file.new.shelf c.read_file.new.shelf in
    let good : configuration_of bytes ≡ Ok said =
    subst (λ (b : Text). configuration_of b ≡ Ok said) c.bytes.ensures c.in_ok-cfg-2.ensures.value in
    let ends : IsRead (canonical_course bytes) r (Ok text) =
    goes_on_good read said _ r (Ok text) (found_good cfg_refusal (configuration_of bytes) said good)
    (subst (λ (t : Text). IsRead (Ends (Job t)) r (Ok text)) c.in_ok-text.ensures.value
    (job text r (quiet told c.read_file.new.shelf))) in
    after_file told c.args.shelf.now c.read_file.new.shelf c.read_file.new.shelf _ c.args.cfg.now
    canonical_course bytes (Ok text) c.in_ok-cfg.ensures.value c.in_ok-cfg.ensures.files ends
