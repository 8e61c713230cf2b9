-- Demand 1, from the contracts of the calls alone: a refusal, a response of 16 or more, leaves every lent byte as it was; and two
-- outcomes that fit a contract are equal. The bytes of a lent slice are below 256, as the toolchain has it. Assumes nothing.
use mathlib.Core.Path.{◌≡◌, refl, ap, sym, ◌∙◌}
use mathlib.Core.Bool.{true, not, false≢true, true≢false}
use mathlib.Core.List.{List}
use Prim.Native.Nat.{ℕ, ◌<◌}
use lib.ListN.{get_or}
use Rattle.std.specs.Prelude.{Result, Ok, Err}
use Rattle.device.specs.declared.Refusal.{Refusal}
use Rattle.device.specs.declared.Response.{Response}
use Rattle.device.proofs.Responses.{refusal_refused, refusal_one}
use Rattle.model.specs.Policy.{fixed_by}
use Rattle.model.specs.State.{read_state, write_state}
use Rattle.model.specs.Events.{read_event}
use Rattle.device.specs.Answers.{refused}
use Rattle.model.specs.Calls.{Called, Ran, leaving, check_call, step_call, sizes_fit, run_call, counted, ran}
use Rattle.model.proofs.Tests.{cases}
use Rattle.model.proofs.Runs.{refused_leaves}
use Rattle.model.proofs.Calls.{one_outcome, passed}
use Rattle.store.proofs.Zeros.{well_formed}

-- ---- step

record Leaves (b : List ℕ) (c : Called) : Type 0 where
  kept : refused c.response ≡ true → c.bytes ≡ b

step_leaves : (policy b event : List ℕ) → ((k : ℕ) → get_or b k 0 < 256) → Leaves b (step_call policy b event)
unfolding step_call
step_leaves policy b event bytes =
    let f = fixed_by policy in
    cases (Leaves b) (refused (check_call policy b)) (λ _. record { kept = λ _. refl })
    (λ good. record {
      kept = λ h. ap write_state (refused_leaves f (read_state b) (read_event event) h)
          ∙ sym (well_formed b bytes f (passed policy b good).state_valid_lem).written;
    })

module _ (policy entry event : List ℕ) {exit : List ℕ} {r : Response} (called : leaving exit r ≡ step_call policy entry event) where
  pub step_unique : {exit' : List ℕ} {r' : Response} → leaving exit' r' ≡ step_call policy entry event → (exit ≡ exit') × (r ≡ r')
  step_unique q = one_outcome called q

  pub step_refusal : ((k : ℕ) → get_or entry k 0 < 256) → refused r ≡ true → exit ≡ entry
  step_refusal bytes h =
      ap (λ c. c.bytes) called ∙ (step_leaves policy entry event bytes).kept (ap (λ c. refused c.response) (sym called) ∙ h)

-- ---- run

record RunLeaves (b out : List ℕ) (c : Ran) : Type 0 where
  kept : refused c.response ≡ true → (c.state ≡ b) × (c.output ≡ out) × (c.count ≡ 0)

run_leaves : (policy b events out : List ℕ) → RunLeaves b out (run_call policy b events out)
unfolding run_call
run_leaves policy b events out =
    cases (RunLeaves b out) (refused (check_call policy b)) (λ _. record { kept = λ _. (refl, refl, refl) })
    (λ _. cases (RunLeaves b out) (not (sizes_fit events out)) (λ _. record { kept = λ _. (refl, refl, refl) })
    (λ _. record { kept = λ h. absurd (false≢true h) }))

-- what a run answers, its count or its refusal, is known by its response and its count
pub ran_one : (r r' : Result ℕ Refusal) (exit out exit' out' : List ℕ) → ran r exit out ≡ ran r' exit' out' → r ≡ r'
ran_one (Ok m) (Ok n) _ _ _ _ e = ap (λ c. Ok c.count) e
ran_one (Ok m) (Err b) _ _ _ _ e = absurd (true≢false (sym (refusal_refused b) ∙ ap (λ c. refused c.response) (sym e)))
ran_one (Err a) (Ok n) _ _ _ _ e = absurd (true≢false (sym (refusal_refused a) ∙ ap (λ c. refused c.response) e))
ran_one (Err a) (Err b) _ _ _ _ e = ap Err (refusal_one a b (ap (λ c. c.response) e))

module _ (policy entry events lent : List ℕ) {r : Response} {count : ℕ} {exit out : List ℕ}
    (called : counted r count exit out ≡ run_call policy entry events lent) where
  pub run_unique : {r' : Response} {count' : ℕ} {exit' out' : List ℕ} → counted r' count' exit' out' ≡ run_call policy entry events lent
      → (r ≡ r') × (count ≡ count') × (exit ≡ exit') × (out ≡ out')
  run_unique q =
      let e = called ∙ sym q in
      (ap (λ c. c.response) e, ap (λ c. c.count) e, ap (λ c. c.state) e, ap (λ c. c.output) e)

  pub run_refusal : refused r ≡ true → (exit ≡ entry) × (out ≡ lent) × (count ≡ 0)
  run_refusal h =
      let (b, o, n) = (run_leaves policy entry events lent).kept (ap (λ c. refused c.response) (sym called) ∙ h) in
      (ap (λ c. c.state) called ∙ b, ap (λ c. c.output) called ∙ o, ap (λ c. c.count) called ∙ n)
