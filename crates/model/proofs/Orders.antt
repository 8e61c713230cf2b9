-- The refusals in their order: for each two that one event or call can meet, an input with both faults, which gets the earlier.
-- Each claim holds by computation. Assumes nothing.
use Prim.Native.Nat.{ℕ}
use mathlib.Core.Path.{◌≡◌, refl}
use mathlib.Core.Bool.{true, false}
use mathlib.Core.List.{List, [], ◌∷◌, map}
use lib.ListN.{replicate}
use Rattle.device.specs.declared.Event.{Event}
use Rattle.device.specs.declared.Mode.TheVariants.{Oneshot, Session as ForSession, Blanket}
use Rattle.device.specs.declared.UserAnswer.TheVariants.{None, Allow, Deny}
use Rattle.device.specs.declared.Standing.TheVariants.{Nothing, Granted, Revoked}
use Rattle.device.specs.declared.Response.{Response}
use Rattle.device.specs.Answers.{plain, detailed}
use Rattle.model.specs.Policy.{fixed_by}
use Rattle.model.specs.State.{State, new}
use Rattle.model.specs.Decision.{decision}
use Rattle.model.specs.Step.{step}
use Rattle.model.specs.Calls.{write_call, step_call, run_call, find_call}
use Rattle.model.proofs.Worked.{policy, zeros, install, remove, start, ask, left, computed}
use Rattle.model.proofs.Cases.{installs}
use Rattle.model.proofs.Edges.{runs, state}

abbrev answered : State → Event → Response
answered s e = (step (fixed_by policy) s e).response

-- ---- install: 22, 23, 24

-- every slot is taken, by the suites 1 to 32; permission 4 has cell 0
abbrev full : State
full = left (installs 32 1)

-- 22 with 23, 22 with 24, 23 with 24, 24 alone
install_order : map (answered full) (install 1 0b10000 0 2 ∷ install 1 0 0 2 ∷ install 33 0b10000 0 2 ∷ install 33 0 0 2 ∷ [])
    ≡ (plain 22 ∷ plain 22 ∷ detailed 23 4 ∷ plain 24 ∷ [])
unfolding computed
install_order = refl

-- ---- remove: 21, 25; start: 20, 21

-- suite 9 runs and is not installed, as in no valid state: 21 with 25; 25 alone; 20 with 21; 20 alone; 21 alone
suite_order : answered (runs 9 0 0) (remove 9) ∷ answered (runs 10 0 0) (remove 10) ∷ answered (runs 10 0 0) (start 9)
    ∷ answered (runs 10 0 0) (start 10) ∷ answered new (start 9) ∷ []
    ≡ (plain 21 ∷ plain 25 ∷ plain 20 ∷ plain 20 ∷ plain 21 ∷ [])
unfolding computed
suite_order = refl

-- ---- request: 19, 26, 27, 28, 29

-- with nothing running 19, whatever else is wrong
request_order : map (answered new) (ask 0 None ∷ ask 0 (Allow Blanket) ∷ []) ≡ (plain 19 ∷ plain 19 ∷ [])
unfolding computed
request_order = refl

-- undeclared with cell 0; with an answer at cell 4 and where a decision stands; with an allowance above the cell
undeclared_first : decision false 0 Nothing None ∷ decision false 4 Nothing (Deny Oneshot) ∷ decision false 3 Granted (Allow Oneshot)
    ∷ decision false 1 Nothing (Allow Blanket) ∷ [] ≡ replicate 4 (plain 26)
unfolding computed
undeclared_first = refl

-- cell 0 with an answer where a decision stands; with an allowance, which is above it
no_right_next : decision true 0 Revoked (Deny Oneshot) ∷ decision true 0 Nothing (Allow Oneshot) ∷ decision true 0 Nothing None ∷ []
    ≡ replicate 3 (plain 27)
unfolding computed
no_right_next = refl

-- an answer that was not asked for, with an allowance above the cell
not_asked_then : decision true 1 Granted (Allow Blanket) ∷ decision true 2 Revoked (Allow Blanket) ∷ decision true 4 Nothing (Allow Blanket) ∷ []
    ≡ replicate 3 (plain 28)
unfolding computed
not_asked_then = refl

too_wide_last : decision true 1 Nothing (Allow ForSession) ∷ decision true 2 Nothing (Allow Blanket) ∷ []
    ≡ (detailed 29 1 ∷ detailed 29 2 ∷ [])
unfolding computed
too_wide_last = refl

-- ---- the calls: 16, 17, 18 of a step; 16, 17, 30 of a run; 16, 17, 21 of a search; 18, 30 of a write

abbrev bad_policy : List ℕ
bad_policy = zeros 511

abbrev bad_state : List ℕ
bad_state = zeros 3

step_order : map (λ r. r.response) (step_call bad_policy bad_state (zeros 23) ∷ step_call bad_policy state (zeros 23)
    ∷ step_call policy bad_state (zeros 23) ∷ step_call policy state (zeros 23) ∷ [])
    ≡ (plain 16 ∷ plain 16 ∷ plain 17 ∷ plain 18 ∷ [])
unfolding computed
step_order = refl

-- half a record, no room for answers
run_order : map (λ r. r.response) (run_call bad_policy bad_state (zeros 25) [] ∷ run_call bad_policy state (zeros 25) []
    ∷ run_call policy bad_state (zeros 25) [] ∷ run_call policy state (zeros 25) [] ∷ [])
    ≡ (plain 16 ∷ plain 16 ∷ plain 17 ∷ plain 30 ∷ [])
unfolding computed
run_order = refl

find_order : (find_call bad_policy bad_state (record { 0 = 9 }) ∷ find_call bad_policy state (record { 0 = 9 })
    ∷ find_call policy bad_state (record { 0 = 9 }) ∷ find_call policy state (record { 0 = 9 }) ∷ [])
    ≡ (plain 16 ∷ plain 16 ∷ plain 17 ∷ plain 21 ∷ [])
unfolding computed
find_order = refl

write_order : map (λ r. r.response) (write_call (start 0) (zeros 23) ∷ write_call (start 1) (zeros 23) ∷ write_call (start 0) (zeros 24) ∷ [])
    ≡ (plain 18 ∷ plain 30 ∷ plain 18 ∷ [])
unfolding computed
write_order = refl
