-- No answer has a number above 30. Assumes nothing.
use Prim.Native.Nat.{ℕ}
use mathlib.Core.Path.{◌≡◌, refl}
use mathlib.Core.Bool.{Bool, true, not, ◌&&◌, ◌||◌}
use mathlib.Core.List.{List}
use lib.ListN.{length}
use lib.Dec.{eqb, leb}
use Rattle.device.specs.declared.Suite.{Suite}
use Rattle.device.specs.declared.UserAnswer.{UserAnswer}
use Rattle.device.specs.declared.UserAnswer.TheVariants.{None, Allow, Deny}
use Rattle.device.specs.declared.Standing.{Standing}
use Rattle.device.specs.declared.Standing.TheVariants.{Nothing, Granted, Revoked}
use Rattle.device.specs.declared.Event.{Event}
use Rattle.device.specs.declared.Event.TheVariants.{Unreadable, Install, Remove, Start, Terminate, Request}
use Rattle.device.specs.declared.Response.{Response}
use Rattle.device.specs.Device.{is_permission, is_suite, no_suite, same_suite}
use Rattle.device.specs.Cells.{offered, unconditional}
use Rattle.device.specs.Answers.{refused}
use Rattle.model.specs.Policy.{Fixed, fixed_by, policy_valid}
use Rattle.model.specs.State.{State, carries, read_state, state_size}
use Rattle.model.specs.Valid.{state_valid}
use Rattle.model.specs.Events.{carried, read_event, event_size}
use Rattle.model.specs.Decision.{stands, given, too_wide, settled, decision}
use Rattle.model.specs.Step.{Outcome, in_session, lacking, running_slot, judged, request, step}
use Rattle.model.specs.Calls.{Called, new_call, read_answer, write_call, check_call, step_call, sizes_fit, Ran, run_call, find_call}
use Rattle.model.proofs.Tests.{cases}

record Low (r : Response) : Type 0 where
  low : leb r.number 30 ≡ true

record LowOutcome (o : Outcome) : Type 0 where
  low : leb o.response.number 30 ≡ true

record LowCalled (c : Called) : Type 0 where
  low : leb c.response.number 30 ≡ true

record LowRan (c : Ran) : Type 0 where
  low : leb c.response.number 30 ≡ true

settled_low : (c : ℕ) (w : Standing) (u : UserAnswer) → Low (settled c w u)
settled_low c Granted u = record { low = refl }
settled_low c Revoked u = record { low = refl }
settled_low c Nothing None = record { low = refl }
settled_low c Nothing (Allow m) = record { low = refl }
settled_low c Nothing (Deny m) = record { low = refl }

decision_low : (k : Bool) (c : ℕ) (w : Standing) (u : UserAnswer) → Low (decision k c w u)
unfolding decision
decision_low k c w u =
    cases Low (not k) (λ _. record { low = refl })
    (λ _. cases Low (not (offered c)) (λ _. record { low = refl })
    (λ _. cases Low (given u && (unconditional c || stands w)) (λ _. record { low = refl })
    (λ _. cases Low (too_wide c u && not (stands w)) (λ _. record { low = refl })
    (λ _. cases Low (unconditional c) (λ _. record { low = refl }) (λ _. settled_low c w u)))))

step_low : (f : Fixed) (s : State) (e : Event) → LowOutcome (step f s e)
unfolding step request judged
step_low f s Unreadable = record { low = refl }
step_low f s (Install i x d) =
    cases LowOutcome (carries i s.slots) (λ _. record { low = refl })
    (λ _. cases LowOutcome (is_permission (lacking f x d)) (λ _. record { low = refl })
    (λ _. cases LowOutcome (not (carries no_suite s.slots)) (λ _. record { low = refl }) (λ _. record { low = refl })))
step_low f s (Remove i) =
    cases LowOutcome (not (carries i s.slots)) (λ _. record { low = refl })
    (λ _. cases LowOutcome (same_suite s.session.suite i) (λ _. record { low = refl }) (λ _. record { low = refl }))
step_low f s (Start i) =
    cases LowOutcome (in_session s) (λ _. record { low = refl })
    (λ _. cases LowOutcome (not (carries i s.slots)) (λ _. record { low = refl }) (λ _. record { low = refl }))
step_low f s Terminate = cases LowOutcome (not (in_session s)) (λ _. record { low = refl }) (λ _. record { low = refl })
step_low f s (Request p u) =
    let j = judged f s.session (running_slot s) p u in
    let l = (decision_low _ _ _ u).low in
    cases LowOutcome (not (in_session s)) (λ _. record { low = refl })
    (λ _. cases LowOutcome (refused j) (λ _. record { low = l }) (λ _. record { low = l }))

check_low : (policy state : List ℕ) → Low (check_call policy state)
unfolding check_call
check_low policy state =
    cases Low (not (policy_valid policy)) (λ _. record { low = refl })
    (λ _. cases Low (not (state_valid (fixed_by policy) state)) (λ _. record { low = refl }) (λ _. record { low = refl }))

-- ---- each call

pub new_number : (state : List ℕ) → leb (new_call state).response.number 30 ≡ true
unfolding new_call
new_number state =
    (cases LowCalled (eqb (length state) state_size) (λ _. record { low = refl }) (λ _. record { low = refl })).low

pub read_number : (e : Event) → leb (read_answer e).number 30 ≡ true
read_number Unreadable = refl
read_number (Install i x d) = refl
read_number (Remove i) = refl
read_number (Start i) = refl
read_number Terminate = refl
read_number (Request p u) = refl

pub write_number : (e : Event) (lent : List ℕ) → leb (write_call e lent).response.number 30 ≡ true
unfolding write_call
write_number e lent =
    (cases LowCalled (not (carried e)) (λ _. record { low = refl })
    (λ _. cases LowCalled (not (eqb (length lent) event_size)) (λ _. record { low = refl }) (λ _. record { low = refl }))).low

pub check_number : (policy state : List ℕ) → leb (check_call policy state).number 30 ≡ true
check_number policy state = (check_low policy state).low

pub step_number : (policy state event : List ℕ) → leb (step_call policy state event).response.number 30 ≡ true
unfolding step_call
step_number policy state event =
    (cases LowCalled (refused (check_call policy state)) (λ _. record { low = check_number policy state })
    (λ _. record { low = (step_low (fixed_by policy) (read_state state) (read_event event)).low })).low

pub run_number : (policy state events output : List ℕ) → leb (run_call policy state events output).response.number 30 ≡ true
unfolding run_call
run_number policy state events output =
    (cases LowRan (refused (check_call policy state)) (λ _. record { low = check_number policy state })
    (λ _. cases LowRan (not (sizes_fit events output)) (λ _. record { low = refl }) (λ _. record { low = refl }))).low

pub find_number : (policy state : List ℕ) (i : Suite) → leb (find_call policy state i).number 30 ≡ true
unfolding find_call
find_number policy state i =
    (cases Low (refused (check_call policy state)) (λ _. check_low policy state)
    (λ _. cases Low (not (is_suite i && carries i (read_state state).slots)) (λ _. record { low = refl })
    (λ _. record { low = refl }))).low
