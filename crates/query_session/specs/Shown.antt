-- The subject: what the table of a chain shows of the core, as a law. The counts and the mark are the
-- ledger's; the words, the turn and the stop word are the table's; what a session has read, and how often, is
-- its pass's. A cursor, and what a lane or a session is at, stand in seats and sessions alone: the law holds
-- whatever they are.
use Rattle.std.specs.Prelude.{◌≡◌, ℕ, ◌≤◌, ◌==◌, List, [], ◌∷◌, length, take, suc, slice_get, Option, Some}
use mathlib.Core.Option.{some}
use lib.ListN.{get_elem?}
use Rattle.atomic_table.specs.Table.{State}
use Rattle.chain_core.specs.Core.{Core, View}
use Rattle.chain_core.specs.MeasuredOf.{measured_of}
use Rattle.chain_core.specs.Phases.{Phases}
use Rattle.chain_core.specs.SoundCore.{IsSound}
use Rattle.event_detect.specs.declared.limits.Limits.{Limits}
use Rattle.interval_ledger.specs.declared.ledger.Ledger.{Ledger}
use Rattle.interval_ledger.specs.declared.subject.Subject.{Subject}
use Rattle.interval_ledger.specs.Ledger.{reach_of, subject_of, view_of}
use Rattle.lanes.specs.Lane.{lane_count}
use Rattle.pq_base.specs.Recorded.{Recorded}
use Rattle.pq_sequence.specs.SequentialResult.{sequential}
use Rattle.progress_words.specs.declared.pass_view.PassView.{PassView}
use Rattle.progress_words.specs.declared.pass_view.Role.{Role}
use Rattle.progress_words.specs.declared.pass_view.Role.TheVariants.{Raises, Reads}
use Rattle.progress_words.specs.Rule.{MeetsRule}
use Rattle.progress_words.specs.Seat.{EachLane, EachPass, stop_word, turn_word, word_of}
use Rattle.query_session.specs.Chain.{subject}

-- a table of a chain
abbrev pub Table : Type 0
Table = State (Option Ledger) (PassView Ledger Subject)

-- what a pass has read, before others, if it is a session's
abbrev pub with_session : ℕ → Role → List View → List View
with_session cursor (Reads p) others = record { cursor = cursor; words = p.words_read } ∷ others
with_session cursor (Raises p) others = others

-- what the sessions have read, in the order of their seats, with cursors by seat
abbrev pub sessions_of : (ℕ → ℕ) → List (PassView Ledger Subject) → List View
sessions_of cursors [] = []
sessions_of cursors (v ∷ views) =
    with_session (cursors 0) v.role (sessions_of (λ seat. cursors (suc seat)) views)

-- how often a pass has loaded each lane's word, before others, if it is a session's
abbrev pub with_loads : Role → List (List ℕ) → List (List ℕ)
with_loads (Reads p) others = p.loads ∷ others
with_loads (Raises p) others = others

-- how often the sessions have loaded each lane's word, in the order of their seats. No answer of the core
-- depends on it, so it is no part of the core
abbrev pub loads_of : List (PassView Ledger Subject) → List (List ℕ)
loads_of [] = []
loads_of (v ∷ views) = with_loads v.role (loads_of views)

-- the core that a table of so many lanes shows, where the ledger is this one, for these cursors and phases
abbrev pub core_shown : ℕ → Table → Ledger → (ℕ → ℕ) → Phases → Core
core_shown n s u cursors p = record {
  phases = record p { turn = turn_word n s; is_halted = stop_word n s == 1 };
  numbers = record {
    counts = (view_of u).counts;
    words = take n s.words;
    mark = (view_of u).mark;
    views = sessions_of cursors s.views;
  };
}

-- the ledger, at home while the turn is free and else as its holder took it, and all passes are of the
-- recording and the limits; each lane's pass has the lane's word; the facts of every core hold of the core
-- that is shown; and each of its sessions has a number of loads of each lane
pub record ShowsCore (r : Recorded) (limits : Limits) (s : Table) (cursors : ℕ → ℕ) (p : Phases)
    : Type 0 where
  pub ledger : Ledger
  pub named : subject_of ledger ≡ subject r limits
  pub names : EachPass s.views (λ _ v. v.name ≡ subject r limits)
  pub at_home : turn_word (lane_count r) s ≡ 0 → get_elem? s.homes 0 ≡ some (some (Some ledger))
  pub out : EachPass s.views (λ _ v. (u : Ledger) → v.held_value ≡ Some u → u ≡ ledger)
  pub raised : EachLane s.views (λ _ lane. lane.word ≡ word_of s lane.lane)
  pub sound : IsSound (measured_of r limits) (core_shown (lane_count r) s ledger cursors p).numbers
      (length p.sessions)
  pub sessions : length (loads_of s.views) ≡ length p.sessions
  pub loads : (session : ℕ) (counts : List ℕ) → slice_get (loads_of s.views) session ≡ Some counts →
      length counts ≡ lane_count r

-- a table of a recording and limits that meets the rule of the words shows a core
abbrev pub ShowsCores : Type 0
ShowsCores = (r : Recorded) (limits : Limits) (opening : Ledger) (s : Table) (cursors : ℕ → ℕ) (p : Phases) →
    subject_of opening ≡ subject r limits →
    MeetsRule {V = Ledger} {N = Subject} (lane_count r) reach_of subject_of opening s →
    ((seat : ℕ) → cursors seat ≤ length (sequential r limits)) →
    length p.sessions ≡ length (sessions_of cursors s.views) → ShowsCore r limits s cursors p
