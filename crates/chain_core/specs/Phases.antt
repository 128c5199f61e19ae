-- The subject: phases of lanes and sessions: which events are allowed, whatever was measured. All of it is
-- profile.
use Rattle.std.specs.Prelude.{ℕ, ◌+◌, Bool, true, false, not, ◌&&◌, ◌==◌, nat_le, nat_lt, if◌then◌else◌, List, [], ◌∷◌, ◌++◌, length, replicate, slice_get}
use Rattle.std.specs.Option.{option_map_or}
use Rattle.std.specs.List.{list_all}
use Rattle.chain_core.specs.declared.core_event.CoreEvent.{CoreEvent}
use Rattle.chain_core.specs.declared.core_event.CoreEvent.TheVariants as event
use Rattle.chain_core.specs.declared.phase.LanePhase.{LanePhase}
use Rattle.chain_core.specs.declared.phase.LanePhase.TheVariants as lane_phase
use Rattle.chain_core.specs.declared.phase.SessionPhase.{SessionPhase}
use Rattle.chain_core.specs.declared.phase.SessionPhase.TheVariants as session_phase
use Rattle.chain_core.specs.declared.limits.TheConstants.{MOST_SESSIONS}
use Rattle.chain_core.specs.Changed.{changed_at}

-- a session's phase, and for each lane whether it was loaded since the session began to look
pub record SessionState : Type 0 where
  pub phase : SessionPhase
  pub loaded : List Bool

-- the phases of all lanes and sessions; the turn word is 0 when free, lane + 1 when a lane holds it, and the
-- number of lanes + 1 when a session does
pub record Phases : Type 0 where
  pub lanes : List LanePhase
  pub sessions : List SessionState
  pub turn : ℕ
  pub is_halted : Bool

-- a session of so many lanes that hasn't looked yet
abbrev pub new_session : ℕ → SessionState
new_session lanes = record { phase = session_phase.Idle; loaded = replicate lanes false }

-- at the start all are idle, the turn is free, and there is session 0
abbrev pub start_phases : ℕ → Phases
start_phases lanes = record {
  lanes = replicate lanes lane_phase.Idle;
  sessions = new_session lanes ∷ [];
  turn = 0;
  is_halted = false;
}

-- the lane is idle; it holds the turn; it has posted
abbrev pub is_idle_lane : LanePhase → Bool
is_idle_lane lane_phase.Idle = true
is_idle_lane _ = false

abbrev pub is_holding_lane : LanePhase → Bool
is_holding_lane lane_phase.Holding = true
is_holding_lane _ = false

abbrev pub is_posted_lane : LanePhase → Bool
is_posted_lane lane_phase.Posted = true
is_posted_lane _ = false

-- the session is idle; it has looked; it holds the turn
abbrev pub is_idle_session : SessionPhase → Bool
is_idle_session session_phase.Idle = true
is_idle_session _ = false

abbrev pub is_looked_session : SessionPhase → Bool
is_looked_session session_phase.Looked = true
is_looked_session _ = false

abbrev pub is_holding_session : SessionPhase → Bool
is_holding_session session_phase.Holding = true
is_holding_session _ = false

-- it may load a lane's word: it is idle or looking
abbrev pub may_load : SessionPhase → Bool
may_load session_phase.Idle = true
may_load session_phase.Looking = true
may_load _ = false

-- the lane is there, in such a phase
abbrev pub lane_is : (LanePhase → Bool) → Phases → ℕ → Bool
lane_is test p lane = option_map_or test (slice_get p.lanes lane) false

-- the session is there, in such a phase
abbrev pub session_is : (SessionPhase → Bool) → Phases → ℕ → Bool
session_is test p session = option_map_or (λ s. test s.phase) (slice_get p.sessions session) false

-- which events the phases allow; a post is of 1 to 64 items
abbrev pub is_allowed : Phases → CoreEvent → Bool
is_allowed p (event.LaneStopLoad lane) = lane_is is_idle_lane p lane
is_allowed p (event.LaneTry lane) = lane_is is_idle_lane p lane
is_allowed p (event.Post lane most) = lane_is is_holding_lane p lane && (nat_le 1 most && nat_le most 64)
is_allowed p (event.Raise lane) = lane_is is_posted_lane p lane
is_allowed p (event.SessionStopLoad session) = session_is is_idle_session p session
is_allowed p (event.SessionTry session) = session_is is_looked_session p session
is_allowed p (event.Load session lane) = session_is may_load p session && nat_lt lane (length p.lanes)
is_allowed p (event.Read session) = session_is is_holding_session p session
is_allowed p (event.Split session) = session_is is_idle_session p session
is_allowed p (event.Halt session) = session_is is_idle_session p session

-- there is room for the sessions that an event makes in a list of steps
abbrev pub has_room : Phases → CoreEvent → Bool
has_room p (event.Split session) = nat_lt (length p.sessions) MOST_SESSIONS
has_room p _ = true

-- the phases with that of a lane
abbrev pub with_lane : Phases → ℕ → LanePhase → Phases
with_lane p lane phase = record p { lanes = changed_at p.lanes lane (λ _. phase) }

-- the phases with the state of a session changed
abbrev pub with_session : Phases → ℕ → (SessionState → SessionState) → Phases
with_session p session change = record p { sessions = changed_at p.sessions session change }

-- the phases with this turn word
abbrev pub with_turn : Phases → ℕ → Phases
with_turn p word = record p { turn = word }

-- a session in a phase
abbrev pub in_phase : SessionPhase → SessionState → SessionState
in_phase phase s = record s { phase = phase }

-- a session that begins to look: no lane is loaded
abbrev pub begins_to_look : SessionState → SessionState
begins_to_look s = record { phase = session_phase.Looking; loaded = replicate (length s.loaded) false }

-- the phase of a looking session that has loaded these lanes: it has looked once it has all
abbrev pub looking_phase : List Bool → SessionPhase
looking_phase loaded = if list_all (λ b. b) loaded then session_phase.Looked else session_phase.Looking

-- a looking session that has loaded a lane more
abbrev pub looks_further : List Bool → SessionState
looks_further loaded = record { phase = looking_phase loaded; loaded = loaded }

-- a session that loads a lane's word: one that is looking adds the lane
abbrev pub loads_lane : ℕ → SessionPhase → List Bool → SessionState
loads_lane lane session_phase.Looking loaded = looks_further (changed_at loaded lane (λ _. true))
loads_lane lane phase loaded = record { phase = phase; loaded = loaded }

-- the phases after a try: the turn is taken where it is free
abbrev pub after_lane_try : Phases → ℕ → Phases
after_lane_try p lane =
    if p.turn == 0 then with_turn (with_lane p lane lane_phase.Holding) (lane + 1) else p

abbrev pub after_session_try : Phases → ℕ → Phases
after_session_try p session =
    if p.turn == 0
    then with_turn (with_session p session (in_phase session_phase.Holding)) (length p.lanes + 1)
    else with_session p session (in_phase session_phase.Idle)

-- the phases after a session's load of the stop word: it begins to look, unless a halt came before
abbrev pub after_session_stop_load : Phases → ℕ → Phases
after_session_stop_load p session = if p.is_halted then p else with_session p session begins_to_look

-- the phases with one session more
abbrev pub with_new_session : Phases → Phases
with_new_session p = record p { sessions = p.sessions ++ new_session (length p.lanes) ∷ [] }

-- the phases after an event that is allowed
abbrev pub phases_after : Phases → CoreEvent → Phases
phases_after p (event.LaneStopLoad lane) = p
phases_after p (event.LaneTry lane) = after_lane_try p lane
phases_after p (event.Post lane most) = with_turn (with_lane p lane lane_phase.Posted) 0
phases_after p (event.Raise lane) = with_lane p lane lane_phase.Idle
phases_after p (event.SessionStopLoad session) = after_session_stop_load p session
phases_after p (event.SessionTry session) = after_session_try p session
phases_after p (event.Load session lane) = with_session p session (λ s. loads_lane lane s.phase s.loaded)
phases_after p (event.Read session) = with_turn (with_session p session (in_phase session_phase.Idle)) 0
phases_after p (event.Split session) = with_new_session p
phases_after p (event.Halt session) = record p { is_halted = true }
