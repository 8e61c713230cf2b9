-- 01, What each event does, with the refusals of Answer numbers in their order. 000, Tables 2 and 3, (22): an event whose
-- precondition fails changes nothing; 01 gives each failure a number, and has one that 000 lacks, 24, since slots run out.
use Rattle.std.specs.Prelude.{Bool, not, ◌&&◌, cond}
use Rattle.device.specs.declared.Suite.{Suite}
use Rattle.device.specs.declared.Permission.{Permission}
use Rattle.device.specs.declared.Domain.{Domain}
use Rattle.device.specs.declared.Mode.{Mode}
use Rattle.device.specs.declared.Mode.TheVariants.{Oneshot, Session as ForSession, Blanket}
use Rattle.device.specs.declared.UserAnswer.{UserAnswer}
use Rattle.device.specs.declared.UserAnswer.TheVariants.{None, Allow, Deny}
use Rattle.device.specs.declared.Decisions.{Decisions}
use Rattle.device.specs.declared.Descriptor.{Descriptor}
use Rattle.device.specs.declared.Slot.{Slot}
use Rattle.device.specs.declared.Session.{Session}
use Rattle.device.specs.declared.Event.{Event}
use Rattle.device.specs.declared.Event.TheVariants.{Unreadable, Install, Remove, Start, Terminate, Request}
use Rattle.device.specs.declared.Response.{Response}
use Rattle.device.specs.Device.{is_permission, no_suite, same_suite, has, lowest}
use Rattle.device.specs.Cells.{offered}
use Rattle.device.specs.Empty.{undecided, free, idle}
use Rattle.device.specs.Answers.{refused, DONE, BAD_EVENT, NO_SESSION, BUSY, NOT_INSTALLED, INSTALLED, NOT_OFFERED, NO_ROOM, ACTIVE}
use Rattle.model.specs.Policy.{Fixed}
use Rattle.model.specs.State.{State, with_session, with_slots, carries, find, amend}
use Rattle.model.specs.Valid.{declared}
use Rattle.model.specs.Decision.{standing, decision, grant, revoke}

pub record Outcome : Type 0 where
  pub response : Response
  pub state : State

abbrev pub answer : Response → State → Outcome
answer response state = record { response = response; state = state }

-- some suite runs
abbrev pub in_session : State → Bool
in_session state = not (same_suite state.session.suite no_suite)

-- ---- install

-- the lowest required permission that the domain does not offer
unfoldable pub lacking : Fixed → Descriptor → Domain → Permission
lacking fixed descriptor domain =
    lowest (λ permission. has descriptor.required permission && not (offered (fixed.cell domain permission)))

-- nothing is decided yet
abbrev pub installed : Suite → Descriptor → Domain → Slot
installed suite descriptor domain =
    record { suite = suite; domain = domain; descriptor = descriptor; decisions = undecided }

-- ---- a request, for the running suite

-- its own slot, by its number
abbrev pub running_slot : State → Slot
running_slot state = find state.session.suite state.slots

unfoldable pub judged : Fixed → Session → Slot → Permission → UserAnswer → Response
judged fixed session slot permission answer =
    decision (declared slot permission) (fixed.cell slot.domain permission)
    (standing permission session.decisions slot.decisions) answer

-- the same session, the same slot, with other decisions
abbrev pub session_deciding : (Decisions → Decisions) → Session → Session
session_deciding change session = record { suite = session.suite; decisions = change session.decisions }

abbrev pub slot_deciding : (Decisions → Decisions) → Slot → Slot
slot_deciding change slot =
    record { suite = slot.suite; domain = slot.domain; descriptor = slot.descriptor; decisions = change slot.decisions }

-- a decision for one use is kept nowhere, one for the session in the session, one for good in the slot
abbrev pub keep : Mode → (Decisions → Decisions) → State → State
keep Oneshot change state = state
keep ForSession change state = with_session (session_deciding change state.session) state
keep Blanket change state = with_slots (amend state.session.suite (slot_deciding change) state.slots) state

abbrev pub enter : UserAnswer → Permission → State → State
enter None permission state = state
enter (Allow mode) permission state = keep mode (grant permission) state
enter (Deny mode) permission state = keep mode (revoke permission) state

unfoldable pub request : State → Permission → UserAnswer → Response → Outcome
request state permission given response =
    cond (refused response) (answer response state) (answer response (enter given permission state))

-- ---- every event

unfoldable pub step : Fixed → State → Event → Outcome
-- a list of bytes that is no event's record: 18
step fixed state Unreadable = answer BAD_EVENT state
-- into the lowest free slot, during a session too: 22, 23, 24
step fixed state (Install suite descriptor domain) =
    cond (carries suite state.slots) (answer INSTALLED state)
    (cond (is_permission (lacking fixed descriptor domain)) (answer (NOT_OFFERED (lacking fixed descriptor domain)) state)
    (cond (not (carries no_suite state.slots)) (answer NO_ROOM state)
    (answer DONE (with_slots (amend no_suite (λ _. installed suite descriptor domain) state.slots) state))))
-- the slot is free again, its decisions gone (000's remove leaves them): 21, 25
step fixed state (Remove suite) =
    cond (not (carries suite state.slots)) (answer NOT_INSTALLED state)
    (cond (same_suite state.session.suite suite) (answer ACTIVE state)
    (answer DONE (with_slots (amend suite (λ _. free) state.slots) state)))
-- a session that has decided nothing: 20, 21
step fixed state (Start suite) =
    cond (in_session state) (answer BUSY state)
    (cond (not (carries suite state.slots)) (answer NOT_INSTALLED state)
    (answer DONE (with_session (record { suite = suite; decisions = undecided }) state)))
-- its decisions end with it: 19
step fixed state Terminate =
    cond (not (in_session state)) (answer NO_SESSION state)
    (answer DONE (with_session idle state))
-- 19, then the decision
step fixed state (Request permission given) =
    cond (not (in_session state)) (answer NO_SESSION state)
    (request state permission given (judged fixed state.session (running_slot state) permission given))
