-- The subject: the course of the command `check`, whose job is the canonical text of a cfg (profile).
use Rattle.comtrade_cfg.specs.Canonical.{canonical_text}
use Rattle.comtrade_cfg.specs.CfgText.{configuration_of}
use Rattle.pq_course.specs.InputFile.{asks_for}
use Rattle.status_text.specs.Refusals.{cfg_refusal, or_refused}
use Rattle.pq_course.specs.Judged.{goes_on}
use Rattle.pq_course.specs.Verdict.{Job, Course, Ends}
use Rattle.pq_course.specs.declared.input_file.InputFile.TheVariants as file
use Rattle.status_text.specs.declared.status.Status.{Status}
use Rattle.pq_words.specs.Text.{Text}

-- the canonical text of what a cfg says, or the cfg's refusal
abbrev pub canonical_course : Text → Course Status
canonical_course cfg = goes_on (or_refused cfg_refusal (configuration_of cfg)) (λ c.
    Ends (Job (canonical_text c)))

-- the cfg is asked for
abbrev pub check_course : Text → Course Status
check_course cfg_name = asks_for file.Cfg cfg_name canonical_course
