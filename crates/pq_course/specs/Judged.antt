-- The subject: how a course goes on after what is judged (profile).
use Rattle.std.specs.Prelude.{Result, Ok, Err}
use Rattle.pq_course.specs.Verdict.{Refused, Course, Ends}
use Rattle.status_text.specs.declared.status.Status.{Status}

-- what is good goes on, and a refusal ends the course
abbrev pub goes_on : {A : Type 0} → Result A Status → (A → Course Status) → Course Status
goes_on (Ok x) go = go x
goes_on (Err why) go = Ends (Refused why)
