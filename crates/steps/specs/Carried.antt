-- What an event, and what entering an answer, leaves of a terminal.
use Rattle.std.specs.Prelude.{◌≡◌}
use Rattle.device.specs.declared.Event.{Event}
use Rattle.device.specs.declared.Response.{Response}
use Rattle.model.specs.Policy.{fixed_by}
use Rattle.model.specs.State.{State, read_state}
use Rattle.model.specs.Step.{step}
use Rattle.store.specs.Holds.{Holds}
use Rattle.steps.specs.declared.terminal.Terminal.{Terminal}
use Rattle.steps.specs.Did.{Did, place_after}

-- the answer and the bytes are the outcome's, and the place is the one that the event hands on; the policy and the lent bytes are the
-- same ones
pub record Carried (before after : Terminal) (event : Event) (answer : Response) : Type 0 where
  pub did : Did (step (fixed_by before.policy.now) (read_state before.state.now) event) after.state.now answer
  pub place : after.place ≡ place_after (read_state before.state.now) event
  pub policy : after.policy ≡ before.policy
  pub lent : after.state.ghost_name ≡ before.state.ghost_name

-- the bytes hold the state, and all else is as it was
pub record Left (before after : Terminal) (state : State) : Type 0 where
  pub holds : Holds after.state.now state
  pub place : after.place ≡ before.place
  pub policy : after.policy ≡ before.policy
  pub lent : after.state.ghost_name ≡ before.state.ghost_name
