-- What a checked state and a record that is read give to a step, and a step and a run by their tests. Assumes nothing.
use mathlib.Core.Path.{◌≡◌, refl, sym, ap}
use mathlib.Core.Bool.{true, false}
use mathlib.Core.List.{List}
use Prim.Native.Nat.{ℕ, ◌*◌, ◌/◌, ◌%◌, ◌<◌}
use lib.ListN.{length, get_or}
use lib.Dec.{eqb}
use borrow.Author.Tests.{eqb-true}
use Rattle.device.specs.declared.Event.{Event}
use Rattle.device.specs.declared.Event.TheVariants.{Unreadable, Install, Remove, Start, Terminate, Request}
use Rattle.device.specs.declared.Refusal.{Refusal}
use Rattle.device.specs.declared.Response.{Response}
use Rattle.model.specs.Policy.{fixed_by}
use Rattle.model.specs.State.{state_size, read_state}
use Rattle.model.specs.Events.{carried, read_event}
use Rattle.device.specs.Answers.{refused, refusing, DONE, BAD_LENGTH}
use Rattle.device.proofs.Responses.{refusal_refused}
use Rattle.model.specs.Step.{step}
use Rattle.model.specs.Calls.{reading, read_call, leaving, check_call, step_call, events_from, sizes_fit, run_call, counted}
use Rattle.model.proofs.Tests.{both}
use Rattle.model.proofs.RoundTrip.{read_event_lem}
use Rattle.model.proofs.Calls.{passed}
use Rattle.store.specs.Holds.{WellFormed}
use Rattle.store.proofs.Zeros.{well_formed}
use Rattle.steps.specs.Did.{Did, named}
use Rattle.monitor.specs.Turned.{RanThrough}

-- a record that is read names a permission of the device
pub read_named : (b : List ℕ) → named (read_event b) ≡ true
read_named b = read_event_lem (λ e. named e ≡ true) b refl event
  where
    event : (e : Event) → carried e ≡ true → named e ≡ true
    event Unreadable h = refl
    event (Install i x d) h = refl
    event (Remove i) h = refl
    event (Start i) h = refl
    event Terminate h = refl
    event (Request p u) h = h

pub named_read : (b : List ℕ) (event : Event) → reading event ≡ read_call b → named event ≡ true
named_read b event e = rw (ap (λ r. r.event) e) (read_named b)

-- checked bytes hold a state
pub checked_formed : (policy b : List ℕ) → ((k : ℕ) → get_or b k 0 < 256) → refused (check_call policy b) ≡ false → WellFormed b
checked_formed policy b bytes h = well_formed b bytes (fixed_by policy) (passed policy b h).state_valid_lem

-- ---- a step

module _ (policy b e : List ℕ) where
  pub step_refused : refused (check_call policy b) ≡ true → leaving b (check_call policy b) ≡ step_call policy b e
  unfolding step_call
  step_refused h = sym (rw h)

  pub step_taken : refused (check_call policy b) ≡ false → {exit : List ℕ} {r : Response}
      → Did (step (fixed_by policy) (read_state b) (read_event e)) exit r → leaving exit r ≡ step_call policy b e
  unfolding step_call
  step_taken h d = sym (rw (h, ← d.state.written, ← d.response))

-- ---- a run

pub fit_parts : (es out : List ℕ) → sizes_fit es out ≡ true → (length es % 24 ≡ 0) × (length out ≡ 2 * (length es / 24))
fit_parts es out h =
    let (e, o) = both (eqb (length es % 24) 0) (eqb (length out) (2 * (length es / 24))) h in
    (eqb-true _ _ e, eqb-true _ _ o)

module _ (policy b es out : List ℕ) where
  pub run_refused : refused (check_call policy b) ≡ true → counted (check_call policy b) 0 b out ≡ run_call policy b es out
  unfolding run_call
  run_refused h = sym (rw h)

  module _ (good : refused (check_call policy b) ≡ false) where
    pub run_uneven : sizes_fit es out ≡ false → counted BAD_LENGTH 0 b out ≡ run_call policy b es out
    unfolding run_call
    run_uneven h = sym (rw (good, h))

    pub run_through : sizes_fit es out ≡ true → {exit written : List ℕ}
        → RanThrough (fixed_by policy) (read_state b) (events_from es (length es / 24) 0) exit written
        → counted DONE (length es / 24) exit written ≡ run_call policy b es out
    unfolding run_call
    run_through h t = sym (rw (good, h, ← t.state.written, ← t.output))

-- ---- the same from what `check` answers: DONE

module _ (policy b : List ℕ) (good : DONE ≡ check_call policy b) where
  passes : refused (check_call policy b) ≡ false
  passes = rw (← good)

  pub done_size : length b ≡ state_size
  done_size = (passed policy b passes).sized

  pub done_formed : ((k : ℕ) → get_or b k 0 < 256) → WellFormed b
  done_formed bytes = checked_formed policy b bytes passes

  pub done_step : (e : List ℕ) {event : Event} {exit : List ℕ} {r : Response} → reading event ≡ read_call e
      → Did (step (fixed_by policy) (read_state b) event) exit r → leaving exit r ≡ step_call policy b e
  done_step e read did = step_taken policy b e passes (rw (ap (λ r. r.event) read) at did)

  module _ (es out : List ℕ) where
    pub done_uneven : sizes_fit es out ≡ false → counted BAD_LENGTH 0 b out ≡ run_call policy b es out
    done_uneven = run_uneven policy b es out passes

    pub done_run : sizes_fit es out ≡ true → {exit written : List ℕ}
        → RanThrough (fixed_by policy) (read_state b) (events_from es (length es / 24) 0) exit written
        → counted DONE (length es / 24) exit written ≡ run_call policy b es out
    done_run = run_through policy b es out passes

-- ---- or a refusal

module _ (policy b : List ℕ) (refusal : Refusal) (bad : refusing refusal ≡ check_call policy b) where
  fails : refused (check_call policy b) ≡ true
  fails = rw (← bad) (refusal_refused refusal)

  pub step_fails : (e : List ℕ) → leaving b (refusing refusal) ≡ step_call policy b e
  step_fails e = rw bad (step_refused policy b e fails)

  pub run_fails : (es out : List ℕ) → counted (refusing refusal) 0 b out ≡ run_call policy b es out
  run_fails es out = rw bad (run_refused policy b es out fails)

pub ruleset step_laws = (step_fails, done_size, done_formed, named_read, done_step)

pub ruleset run_laws = (run_fails, done_size, done_formed, done_uneven, done_run, fit_parts)
