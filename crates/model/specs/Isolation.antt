-- Demand 3, isolation: what the user decides for other suites changes neither what one suite is answered nor what is kept for it.
-- The suite, which need not be installed, and the policy are any. A prime marks what belongs to the second of two runs.
use Rattle.std.specs.Prelude.{ℕ, ◌≡◌, Bool, true, false, not, ◌&&◌, ◌||◌, cond, ◌⊎◌, List, [], ◌∷◌, map, get_or, eqb}
use Rattle.device.specs.declared.Suite.{Suite}
use Rattle.device.specs.declared.Slot.{Slot}
use Rattle.device.specs.declared.Session.{Session}
use Rattle.device.specs.declared.Event.{Event}
use Rattle.device.specs.declared.Event.TheVariants.{Unreadable, Install, Remove, Start, Terminate, Request}
use Rattle.device.specs.Device.{same_suite}
use Rattle.model.specs.Policy.{Fixed}
use Rattle.model.specs.State.{State, carries, find}
use Rattle.device.specs.Empty.{undecided}
use Rattle.model.specs.Valid.{valid}
use Rattle.model.specs.Events.{read_event}
use Rattle.model.specs.Step.{Outcome, step}

-- ---- the states: all that the suite may know is all but other suites' decisions

abbrev pub slot_known : Suite → Slot → Slot
slot_known suite slot = record {
  suite = slot.suite;
  domain = slot.domain;
  descriptor = slot.descriptor;
  decisions = cond (same_suite slot.suite suite) slot.decisions undecided;
}

abbrev pub session_known : Suite → Session → Session
session_known suite session = record {
  suite = session.suite;
  decisions = cond (same_suite session.suite suite) session.decisions undecided;
}

unfoldable pub known : Suite → State → State
known suite state = record { session = session_known suite state.session; slots = map (slot_known suite) state.slots }

-- two valid states that differ in other suites' decisions at most
pub record Alike (fixed : Fixed) (suite : Suite) (state state' : State) : Type 0 where
  pub one_valid : valid fixed state ≡ true
  pub other_valid : valid fixed state' ≡ true
  pub equal_but : known suite state ≡ known suite state'

-- it is not running where another suite is, and where nothing is
abbrev pub is_running : Suite → State → Bool
is_running suite state = same_suite state.session.suite suite

-- ---- the event records fed to them

-- a record with the kind byte of a request, damaged or not
abbrev pub is_request_kind : List ℕ → Bool
is_request_kind event = eqb (get_or event 0 0) 5

-- an event that is a request
abbrev pub is_request : Event → Bool
is_request Unreadable = false
is_request (Install i x d) = false
is_request (Remove i) = false
is_request (Start i) = false
is_request Terminate = false
is_request (Request p u) = true

-- one record may stand where the other does: it is the same, or both have a request's kind and the suite is not running
abbrev pub MayReplace : (running : Bool) → (event event' : List ℕ) → Type 0
MayReplace running event event' =
    (event ≡ event') ⊎ ((running ≡ false) × (is_request_kind event ≡ true) × (is_request_kind event' ≡ true))

-- so at each place of two lists of one length; whether the suite is running is asked of the first run, and is so in the second
unfoldable pub Replaced : Fixed → Suite → State → (events events' : List (List ℕ)) → Type 0
Replaced fixed suite state [] [] = Unit {0}
Replaced fixed suite state [] (event' ∷ events') = ⊥
Replaced fixed suite state (event ∷ events) [] = ⊥
Replaced fixed suite state (event ∷ events) (event' ∷ events') =
    MayReplace (is_running suite state) event event'
    × Replaced fixed suite (step fixed state (read_event event)).state events events'

-- ---- what follows at each place

-- the running suite, what is stored for this one and, while it runs, its session
pub record Agree (suite : Suite) (state state' : State) : Type 0 where
  pub running : state.session.suite ≡ state'.session.suite
  pub installed : carries suite state.slots ≡ carries suite state'.slots
  pub stored : find suite state.slots ≡ find suite state'.slots
  pub session : is_running suite state ≡ true → state.session ≡ state'.session

-- two answers may differ only while the suite is not running, and where one of the two records reads as a request
abbrev pub excused : (running : Bool) → (event event' : List ℕ) → Bool
excused running event event' = not running && (is_request (read_event event) || is_request (read_event event'))

pub record Place (fixed : Fixed) (suite : Suite) (mayDiffer : Bool) (outcome outcome' : Outcome) : Type 0 where
  pub answer : mayDiffer ≡ false → outcome.response ≡ outcome'.response
  pub alike : Alike fixed suite outcome.state outcome'.state
  pub agree : Agree suite outcome.state outcome'.state

unfoldable pub Isolated : Fixed → Suite → (state state' : State) → (events events' : List (List ℕ)) → Type 0
Isolated fixed suite state state' [] events' = Unit {0}
Isolated fixed suite state state' (event ∷ events) [] = Unit {0}
Isolated fixed suite state state' (event ∷ events) (event' ∷ events') =
    let outcome = step fixed state (read_event event) in
    let outcome' = step fixed state' (read_event event') in
    Place fixed suite (excused (is_running suite state) event event') outcome outcome'
    × Isolated fixed suite outcome.state outcome'.state events events'
