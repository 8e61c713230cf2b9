-- `step` called on each record in turn, as a terminal may in place of a run.
use Rattle.std.specs.Prelude.{ℕ, List, [], ◌∷◌}
use Rattle.device.specs.declared.Response.{Response}
use Rattle.model.specs.Calls.{step_call}

-- the lent state afterwards, and the answers
pub record Stepped : Type 0 where
  pub state : List ℕ
  pub responses : List Response

unfoldable pub steps_call : (policy state : List ℕ) → (records : List (List ℕ)) → Stepped
steps_call policy state [] = record { state = state; responses = [] }
steps_call policy state (record-bytes ∷ records) =
    let called = step_call policy state record-bytes in
    let rest = steps_call policy called.bytes records in
    record { state = rest.state; responses = called.response ∷ rest.responses }
