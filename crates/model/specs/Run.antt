-- Events one after another: each from the state that the one before it left.
use Rattle.std.specs.Prelude.{List, [], ◌∷◌}
use Rattle.device.specs.declared.Event.{Event}
use Rattle.device.specs.declared.Response.{Response}
use Rattle.model.specs.Policy.{Fixed}
use Rattle.model.specs.State.{State}
use Rattle.model.specs.Step.{step}

-- the state after the events
unfoldable pub after : Fixed → State → List Event → State
after fixed state [] = state
after fixed state (event ∷ events) = after fixed (step fixed state event).state events

-- the answer to each
unfoldable pub responses : Fixed → State → List Event → List Response
responses fixed state [] = []
responses fixed state (event ∷ events) =
    let outcome = step fixed state event in
    outcome.response ∷ responses fixed outcome.state events
