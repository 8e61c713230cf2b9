-- Document 000, 5: the monitor's `step` in the place of the paper's interp (38), and the simulation condition (39).
use Rattle.std.specs.Prelude.{ℕ, ◌≡◌, ◌≢◌, true, false, ◌&&◌, cond, List, [], ◌∷◌, eqb, Some}
use Rattle.std.proofs.Math.Option.{Option, none, some}
use Rattle.device.specs.declared.Suite.{Suite}
use Rattle.device.specs.declared.Permission.{Permission}
use Rattle.device.specs.declared.Domain.{Domain}
use Rattle.device.specs.declared.UserAnswer.{UserAnswer}
use Rattle.device.specs.declared.UserAnswer.TheVariants.{None, Allow, Deny}
use Rattle.device.specs.declared.Descriptor.{Descriptor}
use Rattle.device.specs.declared.Decisions.{Decisions}
use Rattle.device.specs.declared.Slot.{Slot}
use Rattle.device.specs.declared.Session.{Session}
use Rattle.device.specs.declared.Event.{Event}
use Rattle.device.specs.declared.Event.TheVariants.{Unreadable, Install, Remove, Start, Terminate, Request}
use Rattle.device.specs.declared.Response.{Response}
use Rattle.device.specs.Device.{is_permission, no_suite, same_suite, has}
use Rattle.model.specs.Policy.{Fixed}
use Rattle.device.specs.Cells.{unconditional, highest}
use Rattle.model.specs.State.{State, carries, find}
use Rattle.model.specs.Valid.{declared}
use Rattle.model.specs.Events.{read_event}
use Rattle.device.specs.Answers.{ALLOWED, DENIED, BAD_EVENT, NO_ROOM, NOT_DECLARED}
use Rattle.model.specs.Step.{Outcome, answer, in_session, running_slot, step}
use Rattle.paper.specs.Published
use Rattle.paper.specs.Published.{SessionInfo, ua-allow, ua-deny, start, terminate, request, install, remove, Exec}

-- ---- what stands for what: (34) to (37)

-- the permissions of a set
abbrev pub In : ℕ → Permission → Type 0
In set permission = (is_permission permission && has set permission) ≡ true

abbrev pub policy_of : Fixed → Published.Policy
policy_of fixed = record {
  allow = λ d p. unconditional (fixed.cell d p) ≡ true;
  user = λ d p m. highest (fixed.cell d p) ≡ Some m;
}

abbrev pub descriptor_of : Descriptor → Published.Descriptor
descriptor_of descriptor = record { required = In descriptor.required; optional = In descriptor.optional }

abbrev pub suite_of : Slot → Published.Suite
suite_of slot = record { id = slot.suite; domain = slot.domain; descriptor = descriptor_of slot.descriptor }

abbrev pub info_of : Session → SessionInfo
info_of session =
    record { id = session.suite; granted = In session.decisions.granted; revoked = In session.decisions.revoked }

abbrev pub session_of : Session → Option SessionInfo
session_of session = cond (same_suite session.suite no_suite) none (some (info_of session))

-- a suite is what the slot with its number says; in a valid state that is one slot
abbrev pub Installed : List Slot → Published.Suite → Type 1
Installed slots ms =
    (same_suite ms.id no_suite ≡ false) × (carries ms.id slots ≡ true) × (ms ≡ suite_of (find ms.id slots))

-- F has one set of each installed suite. Of the others nothing is said: the paper's remove leaves their decisions behind
abbrev pub Agrees : List Slot → (Decisions → ℕ) → (Suite → Permission → Type 0) → Type 1
Agrees slots set F =
    (suite : Suite) → same_suite suite no_suite ≡ false → carries suite slots ≡ true → F suite ≡ In (set (find suite slots).decisions)

-- S ⊑ s
infix 4 ◌⊑◌
pub record ◌⊑◌ (S : Published.State) (s : State) : Type 2 where
  pub suite : S.suite ≡ Installed s.slots
  pub session : S.session ≡ session_of s.session
  pub granted : Agrees s.slots (λ d. d.granted) S.granted
  pub revoked : Agrees s.slots (λ d. d.revoked) S.revoked

-- (40): the state in which nothing is left behind
abbrev pub state_of : State → Published.State
state_of s = record {
  suite = Installed s.slots;
  session = session_of s.session;
  granted = λ i. In (find i s.slots).decisions.granted;
  revoked = λ i. In (find i s.slots).decisions.revoked;
}

abbrev pub answer_of : UserAnswer → Option Published.UserAnswer
answer_of None = none
answer_of (Allow mode) = some (ua-allow mode)
answer_of (Deny mode) = some (ua-deny mode)

-- a record that cannot be read is no event
abbrev pub event_of : Event → Option Published.Event
event_of Unreadable = none
event_of (Install suite descriptor domain) = some (install suite (descriptor_of descriptor) domain)
event_of (Remove suite) = some (remove suite)
event_of (Start suite) = some (start suite)
event_of Terminate = some terminate
event_of (Request permission answer) = some (request permission (answer_of answer))

-- ALLOWED and DENIED respond; DONE, ASK and the refusals do not
abbrev pub response_of : Response → Option Published.Response
response_of response =
    cond (eqb response.number ALLOWED.number) (some Published.allowed)
    (cond (eqb response.number DENIED.number) (some Published.denied)
    none)

-- ---- where document 01 departs from the papers: the whole list. Each is a refusal, and nothing changes. A request for a declared
-- permission that is not offered, with no answer, is not among them: there the paper takes every response, and 01 has 27

pub data Departs (s : State) : Event → Outcome → Type 0 where
  -- no event of the paper: 18
  unreadable : Departs s Unreadable (answer BAD_EVENT s)
  -- 004, Figure 2.2, responds `denied`: 26
  undeclared : {p : Permission} → in_session s ≡ true → declared (running_slot s) p ≡ false
      → Departs s (Request p None) (answer NOT_DECLARED s)
  -- the paper's device takes any number of suites: 24
  full : {i : Suite} {x : Descriptor} {d : Domain} → carries no_suite s.slots ≡ false
      → Departs s (Install i x d) (answer NO_ROOM s)

-- ---- (39)

-- from S to S' as the paper has it, with the response given
pub data Follows (f : Fixed) (s : State) (e : Event) (o : Outcome) (S : Published.State) : Published.State → Type 2 where
  published : {S' : Published.State} (e' : Published.Event) → event_of e ≡ some e'
      → Exec (policy_of f) S e' (response_of o.response) S' → Follows f s e o S S'
  departs : Departs s e o → Follows f s e o S S

abbrev pub Simulated : Fixed → Published.State → State → Event → Outcome → Type 2
Simulated f S s e o = (S' : Published.State) × Follows f s e o S S' × (S' ⊑ o.state)

-- at each record of a run
abbrev pub Traced : Fixed → Published.State → State → List (List ℕ) → Type 2
Traced f S s [] = Unit {2}
Traced f S s (b ∷ bs) =
    let o = step f s (read_event b) in
    (S' : Published.State) × Follows f s (read_event b) o S S' × (S' ⊑ o.state) × Traced f S' o.state bs

-- ---- 000, Theorem 3, for the monitor

-- the session is not ended
abbrev pub SameSession : List (List ℕ) → Type 0
SameSession [] = Unit {0}
SameSession (b ∷ bs) = (read_event b ≢ Terminate) × SameSession bs

-- no request for p is allowed
abbrev pub NotAllowed : Fixed → Permission → State → List (List ℕ) → Type 0
NotAllowed f p s [] = Unit {0}
NotAllowed f p s (b ∷ bs) =
    let o = step f s (read_event b) in
    ((u : UserAnswer) → read_event b ≡ Request p u → o.response ≢ ALLOWED) × NotAllowed f p o.state bs
