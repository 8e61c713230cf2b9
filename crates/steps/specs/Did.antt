-- What an event does to lent bytes, and what a run carries from one event to the next.
use Rattle.std.specs.Prelude.{ℕ, ◌≡◌, ◌<◌, Bool, true, not, ◌||◌, cond, List, Option, Some, None, Result, Ok, Err}
use Rattle.std.specs.Coded.{×_prop, Unit-prop, le_prop, coded_ℕ}
use denote.Struct.Props.{≡_prop}
use Rattle.device.specs.declared.Permission.{Permission}
use Rattle.device.specs.declared.Domain.{Domain}
use Rattle.device.specs.declared.Descriptor.{Descriptor}
use Rattle.device.specs.declared.Session.{Session}
use Rattle.device.specs.declared.Event.{Event}
use Rattle.device.specs.declared.Event.TheVariants.{Unreadable, Install, Remove, Start, Terminate, Request}
use Rattle.device.specs.declared.Refusal.{Refusal}
use Rattle.device.specs.declared.Refusal.TheVariants.{NoSession}
use Rattle.device.specs.declared.Response.{Response}
use Rattle.device.specs.Device.{is_permission, no_suite, same_suite, slot_count}
use Rattle.model.specs.Policy.{Fixed}
use Rattle.model.specs.State.{State, carries, place}
use Rattle.model.specs.Step.{Outcome, in_session, lacking}
use Rattle.store.specs.Holds.{Holds, found}

-- the answer is the outcome's, and the bytes hold its state
pub record Did (outcome : Outcome) (bytes : List ℕ) (answer : Response) : Type 0 where
  pub response : answer ≡ outcome.response
  pub state : Holds bytes outcome.state

-- the permission that is required and not offered, if there is one
unfoldable pub lacking_one : Fixed → Descriptor → Domain → Option Permission
lacking_one fixed descriptor domain =
    cond (is_permission (lacking fixed descriptor domain)) (Some (lacking fixed descriptor domain)) None

-- the session, where a suite runs, and else 19
abbrev pub Running : Session → Result Session Refusal → Type 0
Running session got = got ≡ cond (same_suite session.suite no_suite) (Err NoSession) (Ok session)

abbrev pub running_place : State → ℕ
running_place state = place state.session.suite state.slots

-- a place that is known is that of the running suite's slot
abbrev pub Knows : State → Option ℕ → Type 0
Knows state None = Unit
Knows state (Some k) = (k ≡ running_place state) × (k < slot_count)

pub Knows_prop : (state : State) (at : Option ℕ) → IsProp (Knows state at)
Knows_prop state None = Unit-prop
Knows_prop state (Some k) = ×_prop (≡_prop coded_ℕ k (running_place state)) le_prop

-- the place that an event hands on: that of the suite that it starts, or that asks; after any other none is known
abbrev pub place_after : State → Event → Option ℕ
place_after state Unreadable = None
place_after state (Install suite descriptor domain) = None
place_after state (Remove suite) = None
place_after state (Start suite) =
    cond (in_session state || not (carries suite state.slots)) None (found (place suite state.slots))
place_after state Terminate = None
place_after state (Request permission answer) = cond (in_session state) (found (running_place state)) None

-- what a request names is a permission of the device
abbrev pub named : Event → Bool
named Unreadable = true
named (Install suite descriptor domain) = true
named (Remove suite) = true
named (Start suite) = true
named Terminate = true
named (Request permission answer) = is_permission permission
