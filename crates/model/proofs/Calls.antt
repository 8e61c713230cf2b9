-- What the calls' definitions leave: one outcome each, the lent bytes as they were where a call is refused, and what a check that
-- is passed shows. Assumes nothing.
use mathlib.Core.Path.{◌≡◌, refl, sym, ap, ◌∙◌}
use mathlib.Core.Bool.{Bool, true, false, not, ◌&&◌, cond, true≢false, false≢true}
use mathlib.Core.List.{List}
use Prim.Native.Nat.{ℕ}
use lib.ListN.{length, replicate}
use lib.Dec.{eqb}
use borrow.Author.Tests.{eqb-true}
use Rattle.device.specs.declared.Suite.{Suite}
use Rattle.device.specs.declared.Response.{Response}
use Rattle.device.specs.Device.{is_suite}
use Rattle.model.specs.Policy.{fixed_by, policy_valid}
use Rattle.model.specs.State.{carries, read_state, state_size}
use Rattle.model.specs.Valid.{state_valid}
use Rattle.device.specs.Answers.{refused, DONE, BAD_POLICY, BAD_STATE, NOT_INSTALLED}
use Rattle.model.specs.Calls.{Called, leaving, new_call, check_call, find_call}
use Rattle.model.proofs.Tests.{both}

-- a contract that is an equation with a definition has one outcome
pub one_outcome : {call : Called} {exit exit' : List ℕ} {r r' : Response} → leaving exit r ≡ call → leaving exit' r' ≡ call
    → (exit ≡ exit') × (r ≡ r')
one_outcome p q = (ap (λ c. c.bytes) (p ∙ sym q), ap (λ c. c.response) (p ∙ sym q))

pub new_leaves : (b : List ℕ) → refused (new_call b).response ≡ true → (new_call b).bytes ≡ b
unfolding new_call
new_leaves b =
    elim (eqb (length b) state_size) as
    (λ t. refused (cond t (leaving (replicate state_size 0) DONE) (leaving b BAD_STATE)).response ≡ true
    → (cond t (leaving (replicate state_size 0) DONE) (leaving b BAD_STATE)).bytes ≡ b)
    [ true ↦ λ h. absurd (false≢true h) | false ↦ λ h. refl ]

-- ---- a check that is passed

pub record Passed (policy b : List ℕ) : Type 0 where
  pub policy_valid_lem : policy_valid policy ≡ true
  pub state_valid_lem : state_valid (fixed_by policy) b ≡ true
  pub sized : length b ≡ state_size

pub passed : (policy b : List ℕ) → refused (check_call policy b) ≡ false → Passed policy b
unfolding check_call state_valid
passed policy b h = go (policy_valid policy) refl (state_valid (fixed_by policy) b) refl h
  where
    go : (p : Bool) → policy_valid policy ≡ p → (s : Bool) → state_valid (fixed_by policy) b ≡ s
        → refused (cond (not p) BAD_POLICY (cond (not s) BAD_STATE DONE)) ≡ false → Passed policy b
    go false e s i h = absurd (true≢false h)
    go true e false i h = absurd (true≢false h)
    go true e true i h = record { policy_valid_lem = e; state_valid_lem = i; sized = eqb-true _ _ (both (eqb (length b) state_size) _ i).0 }

-- what is found is installed
pub found : (policy b : List ℕ) (i : Suite) → refused (find_call policy b i) ≡ false
    → (refused (check_call policy b) ≡ false) × (carries i (read_state b).slots ≡ true)
unfolding find_call
found policy b i h = go (refused (check_call policy b)) refl (is_suite i && carries i (read_state b).slots) refl h
  where
    go : (c : Bool) → refused (check_call policy b) ≡ c → (t : Bool) → (is_suite i && carries i (read_state b).slots) ≡ t
        → refused (cond c (check_call policy b) (cond (not t) NOT_INSTALLED DONE)) ≡ false
        → (refused (check_call policy b) ≡ false) × (carries i (read_state b).slots ≡ true)
    go true e t s h = absurd (true≢false (sym e ∙ h))
    go false e false s h = absurd (true≢false h)
    go false e true s h = (e, (both (is_suite i) _ s).1)
