-- A run and each of its turns: from the outcomes of events to the lent bytes.
use Rattle.std.specs.Prelude.{ℕ, ◌*◌, ◌≡◌, List, [], ◌∷◌, Option}
use Rattle.std.proofs.lemmas.List.Edits.{sets}
use Rattle.device.specs.declared.Event.{Event}
use Rattle.model.specs.Policy.{Fixed}
use Rattle.model.specs.State.{State}
use Rattle.model.specs.Step.{step}
use Rattle.model.specs.Run.{after, responses}
use Rattle.model.specs.Calls.{answer_size, output_of}
use Rattle.store.specs.Holds.{Holds}
use Rattle.steps.specs.Did.{place_after}

-- the bytes hold the event's next state, its answer stands in its own bytes of the output, and the place is the one it hands on
pub record Turned (fixed : Fixed) (from : State) (event : Event) (i : ℕ) (before bytes behind : List ℕ) (at : Option ℕ) : Type 0 where
  pub state : Holds bytes (step fixed from event).state
  pub output : let response = (step fixed from event).response in
      behind ≡ sets before (answer_size * i) (response.number ∷ response.detail ∷ [])
  pub place : at ≡ place_after from event

-- the bytes hold the state after the events, and the output has their answers
pub record RanThrough (fixed : Fixed) (from : State) (events : List Event) (bytes out : List ℕ) : Type 0 where
  pub state : Holds bytes (after fixed from events)
  pub output : out ≡ output_of (responses fixed from events)
