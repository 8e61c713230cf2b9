-- A run is its events one after another: it is `step` called on each record in turn, a run of some events and then of others is the
-- run of all, and a refused event leaves no trace but its own answer. Assumes nothing.
use mathlib.Core.Path.{◌≡◌, refl, sym, ap, ap₂, ◌∙◌}
use mathlib.Core.Bool.{true, false}
use mathlib.Core.List.{List, [], ◌∷◌, ◌++◌}
use Prim.Native.Nat.{ℕ, zero, suc, ◌+◌, ◌*◌, ◌/◌, ◌%◌, ◌≤◌, ◌<◌}
use native.Mathlib.Nat.{add-zero, zero-add, suc-add}
use native.Mathlib.Omega.{arith}
use lib.ListN.{length, get_or, take, drop, length-append, length-drop}
use lib.Seq.{drop-append-le, drop-append-add, take-append-le, take_all, take_at, drop_at}
use borrow.Author.Tests.{eq-eqb}
use Rattle.model.specs.Policy.{Fixed, fixed_by, policy_valid}
use Rattle.model.specs.State.{State, read_state, write_state}
use Rattle.model.specs.Valid.{valid}
use Rattle.model.specs.Events.{read_event}
use Rattle.device.specs.Answers.{refused, DONE}
use Rattle.model.specs.Step.{step}
use Rattle.model.specs.Run.{after, responses}
use Rattle.model.specs.Calls.{leaving, check_call, step_call, records_from, events_from, output_of, sizes_fit, run_call, counted}
use Rattle.model.proofs.Bytes.{holds_valid}
use Rattle.model.proofs.Kept.{record_kept, run_kept}
use Rattle.model.proofs.Runs.{after_append, responses_append, left_out}
use Rattle.model.proofs.Calls.{passed}
use Rattle.store.proofs.Zeros.{well_formed}
use Rattle.store.proofs.Written.{valid_written, valid_holds}
use Rattle.promises.specs.InTurn.{steps_call}
use Rattle.monitor.proofs.Laws.{fit_parts}
use Rattle.monitor.proofs.Runs.{length-events, length-responses, length-output, output_append}

module _ (policy : List ℕ) (good : policy_valid policy ≡ true) where
  abbrev f : Fixed
  f = fixed_by policy

  -- the bytes of a valid state pass the check
  pub valid_passes : (s : State) → valid f s ≡ true → check_call policy (write_state s) ≡ DONE
  unfolding check_call
  valid_passes s v = rw (good, valid_written f s v)

  pub step_written : (s : State) → valid f s ≡ true → (e : List ℕ)
      → step_call policy (write_state s) e ≡ leaving (write_state (step f s (read_event e)).state) (step f s (read_event e)).response
  unfolding step_call
  step_written s v e = rw (valid_passes s v, (valid_holds f s v).read)

  steps_written : (es : List ℕ) (n i : ℕ) (s : State) → valid f s ≡ true
      → steps_call policy (write_state s) (records_from es n i)
      ≡ record { state = write_state (after f s (events_from es n i)); responses = responses f s (events_from es n i) }
  unfolding records_from steps_call after responses
  steps_written es zero i s v = refl
  steps_written es (suc n) i s v =
      let e = take 24 (drop (24 * i) es) in
      rw (step_written s v e, steps_written es n (suc i) (step f s (read_event e)).state (record_kept f s v e))

module _ (policy b es out : List ℕ) (bytes : (k : ℕ) → get_or b k 0 < 256) (good : refused (check_call policy b) ≡ false) where
  pub run_in_turn : sizes_fit es out ≡ true
      → let each = steps_call policy b (records_from es (length es / 24) 0) in
      run_call policy b es out ≡ counted DONE (length es / 24) each.state (output_of each.responses)
  unfolding run_call
  run_in_turn h =
      let n = length es / 24 in
      let p = passed policy b good in
      let f = fixed_by policy in
      let s = read_state b in
      let whole = well_formed b bytes f p.state_valid_lem in
      let e = ap (λ l. steps_call policy l (records_from es n 0)) whole.written
      ∙ steps_written policy p.policy_valid_lem es n 0 s (holds_valid f b p.state_valid_lem) in
      rw (good, h, e)

-- ---- some records and then others

-- they lie in the first list
events_front : (a b : List ℕ) (n i : ℕ) → 24 * (i + n) ≤ length a → events_from (a ++ b) n i ≡ events_from a n i
unfolding records_from
events_front a b zero i l = refl
events_front a b (suc n) i l =
    let here : take 24 (drop (24 * i) (a ++ b)) ≡ take 24 (drop (24 * i) a) =
    rw (drop-append-le (24 * i) a b (omega arith)) (take-append-le 24 (drop (24 * i) a) b (rw length-drop (omega arith))) in
    ap₂ ◌∷◌ (ap read_event here) (events_front a b n (suc i) (omega arith))

-- they lie behind it
events_behind : (a b : List ℕ) (m n i : ℕ) → length a ≡ 24 * m → events_from (a ++ b) n (m + i) ≡ events_from b n i
unfolding records_from
events_behind a b m zero i e = refl
events_behind a b m (suc n) i e =
    let k : 24 * (m + i) ≡ length a + 24 * i = omega arith in
    let next : suc (m + i) ≡ m + suc i = omega arith in
    let here : drop (24 * (m + i)) (a ++ b) ≡ drop (24 * i) b = rw k (drop-append-add a b (24 * i)) in
    ap₂ ◌∷◌ (ap (λ l. read_event (take 24 l)) here) (rw next (events_behind a b m n (suc i) e))

events_split : (b : List ℕ) (m n i : ℕ) → events_from b (m + n) i ≡ events_from b m i ++ events_from b n (i + m)
unfolding records_from
events_split b zero n i = rw (zero-add, add-zero)
events_split b (suc m) n i =
    let e : suc i + m ≡ i + suc m = omega arith in
    rw suc-add (ap (λ es. read_event (take 24 (drop (24 * i) b)) ∷ es) (rw (← e) (events_split b m n (suc i))))

events_append : (a b : List ℕ) (m n : ℕ) → length a ≡ 24 * m → events_from (a ++ b)
    (m + n) 0 ≡ events_from a m 0 ++ events_from b n 0
events_append a b m n e =
    let z : 0 + m ≡ m + 0 = omega arith in
    events_split (a ++ b) m n 0
    ∙ ap₂ ◌++◌ (events_front a b m 0 (omega arith)) (ap (events_from (a ++ b) n) z ∙ events_behind a b m n 0 e)

-- the first of them is one record
one_event : (e : List ℕ) → length e ≡ 24 → events_from e 1 0 ≡ read_event e ∷ []
unfolding records_from
one_event e one = ap (λ l. read_event l ∷ []) (take_all 24 e (omega arith))

event_first : (e b : List ℕ) (n : ℕ) → length e ≡ 24 → events_from (e ++ b) (suc n) 0 ≡ read_event e ∷ events_from b n 0
event_first e b n one =
    let s : suc n ≡ 1 + n = omega arith in
    rw s (events_append e b 1 n (omega arith) ∙ ap (λ l. l ++ events_from b n 0) (one_event e one))

module _ (policy b : List ℕ) (bytes : (k : ℕ) → get_or b k 0 < 256) (good : refused (check_call policy b) ≡ false)
    (es fs out more : List ℕ) (first : sizes_fit es out ≡ true) (second : sizes_fit fs more ≡ true) where
  pub run_append : let one = run_call policy b es out in
      let two = run_call policy one.state fs more in
      run_call policy b (es ++ fs) (out ++ more) ≡ counted DONE (one.count + two.count) two.state (one.output ++ two.output)
  unfolding run_call
  run_append =
      let p = passed policy b good in
      let f = fixed_by policy in
      let s = read_state b in
      let m = length es / 24 in
      let n = length fs / 24 in
      let t = after f s (events_from es m 0) in
      let v = run_kept f s (holds_valid f b p.state_valid_lem) es m 0 in
      let (se, oe) = fit_parts es out first in
      let (sf, of) = fit_parts fs more second in
      let count : (length es + length fs) / 24 ≡ m + n = omega arith in
      let even : (length es + length fs) % 24 ≡ 0 = omega arith in
      let size : length out + length more ≡ 2 * (m + n) = omega arith in
      rw (
        good,
        first,
        valid_passes policy p.policy_valid_lem t v,
        second,
        (valid_holds f t v).read,
        length-append,
        length-append,
        count,
        even,
        eq-eqb _ _ size,
        events_append es fs m n (omega arith),
        after_append f s (events_from es m 0) (events_from fs n 0),
        responses_append f s (events_from es m 0) (events_from fs n 0),
        output_append (responses f s (events_from es m 0)),
      )

-- ---- a refused event of a run

-- Left out of the run, an event that is refused is missed by no one: the state at the end is the same, and the answers are the same
-- but for its own.
pub event_refusal : (policy state before event behind lent lent' : List ℕ) → refused (check_call policy state) ≡ false
    → length before % 24 ≡ 0 → length event ≡ 24
    → sizes_fit (before ++ (event ++ behind)) lent ≡ true → sizes_fit (before ++ behind) lent' ≡ true
    → let at = length before / 24 in
    let f = fixed_by policy in
    let r = (step f (after f (read_state state) (events_from before at 0)) (read_event event)).response in
    let whole = run_call policy state (before ++ (event ++ behind)) lent in
    let less = run_call policy state (before ++ behind) lent' in
    refused r ≡ true → (whole.state ≡ less.state)
    × (whole.output ≡ take (2 * at) less.output ++ (r.number ∷ r.detail ∷ drop (2 * at) less.output))
unfolding run_call output_of
event_refusal policy state before event behind lent lent' good even one fit fit' h =
    let f = fixed_by policy in
    let s = read_state state in
    let m = length before / 24 in
    let n = length behind / 24 in
    let a = events_from before m 0 in
    let b = events_from behind n 0 in
    let e = read_event event in
    let size : length before ≡ 24 * m = omega arith in
    let count : length (before ++ (event ++ behind)) / 24 ≡ m + suc n = rw (length-append, length-append) (omega arith) in
    let count' : length (before ++ behind) / 24 ≡ m + n = rw length-append (omega arith) in
    let events : events_from (before ++ (event ++ behind)) (m + suc n) 0 ≡ a ++ (e ∷ b) =
    events_append before (event ++ behind) m (suc n) size ∙ ap (λ l. a ++ l) (event_first event behind n one) in
    let (states, answers) = left_out f s a e b h in
    let r = (step f (after f s a) e).response in
    let o = output_of (responses f s a) in
    let long : length o ≡ 2 * m = length-output (responses f s a) ∙ ap (λ k. 2 * k) (length-responses f s a ∙ length-events before m 0) in
    rw (good, fit, fit', count, count', events, events_append before behind m n size) (
      ap write_state states,
      ap output_of answers ∙ output_append (responses f s a) (r ∷ responses f (after f s a) b) ∙ sym (rw (
        responses_append f s a b,
        output_append (responses f s a) (responses f (after f s a) b),
        take_at o (output_of (responses f (after f s a) b)) (2 * m) long,
        drop_at o (output_of (responses f (after f s a) b)) (2 * m) long,
      )),
    )
