-- A report by the cases of its files, the run that the code makes, and that a part of each file is enough. Assumes nothing.
use mathlib.Core.Path.{◌≡◌, refl, sym, ap, ◌∙◌}
use mathlib.Core.Bool.{Bool, true, false, not, and-false}
use mathlib.Core.List.{List, [], ◌++◌}
use Prim.Native.Nat.{ℕ, ◌*◌, ◌/◌, ◌%◌, ◌≤◌, ◌<◌}
use native.Mathlib.Omega.{arith}
use lib.ListN.{length, take, replicate, length-replicate}
use lib.Seq.{length-take-le, take_all}
use Rattle.reports.proofs.Parts.{take_zeros}
use lib.Dec.{eqb, ltb, leb}
use borrow.Author.Tests.{eq-eqb, ne_eqb, eqb-true, lt-ltb, le-ltb, ltb-true, ltb-false, leb-true, leb-false, not-false}
use Rattle.device.specs.declared.Response.{Response}
use Rattle.model.specs.Policy.{fixed_by, policy_valid, policy_size}
use Rattle.model.specs.State.{new, state_size, read_state}
use Rattle.model.specs.Valid.{state_valid}
use Rattle.model.specs.Events.{event_size}
use Rattle.device.specs.Answers.{refused, DONE, BAD_POLICY}
use Rattle.model.specs.Run.{responses}
use Rattle.model.specs.Calls.{answer_size, events_from, output_of, check_call, sizes_fit, Ran, counted, run_call}
use Rattle.model.proofs.Tests.{cases}
use Rattle.model.proofs.Kept.{new_valid}
use Rattle.model.proofs.Edges.{new_written}
use Rattle.store.proofs.Written.{valid_written}
use Rattle.monitor.proofs.Laws.{fit_parts, run_refused, run_uneven}
use Rattle.reports.specs.Text.{ascii, lines, closing, text_of, report_text, most_events}
use Rattle.reports.specs.Steps.{room_for, policy_read, events_read}

abbrev pub new_state : List ℕ
new_state = replicate state_size 0

-- ---- the check of the files

wrong_size : (policy : List ℕ) → (length policy ≡ policy_size → ⊥) → policy_valid policy ≡ false
unfolding policy_valid
wrong_size policy h = rw (ne_eqb _ _ h)

module _ (policy : List ℕ) where
  check_bad : policy_valid policy ≡ false → check_call policy new_state ≡ BAD_POLICY
  unfolding check_call
  check_bad h = rw h

  check_good : policy_valid policy ≡ true → check_call policy new_state ≡ DONE
  unfolding check_call
  check_good h =
      let f = fixed_by policy in
      let valid : state_valid f new_state ≡ true = rw (← new_written) (valid_written f new (new_valid f)) in
      rw (h, valid)

-- ---- the report, by its cases

abbrev pub refusal : ℕ → List ℕ
refusal number = closing (ascii "refused ") number

module _ (policy events : List ℕ) where
  abbrev count : ℕ
  count = length events / event_size

  -- what the definition lends for the answers
  abbrev room : List ℕ
  room = replicate (answer_size * count) 0

  -- the answers' bytes, as the model has them
  abbrev pub answers : List ℕ
  answers = output_of (responses (fixed_by policy) (read_state new_state) (events_from events count 0))

  pub report_bad : policy_valid policy ≡ false → report_text policy events ≡ refusal 16
  unfolding report_text text_of
  report_bad h = rw (← run_refused policy new_state events room (ap refused (check_bad policy h)), check_bad policy h)

  module _ (good : policy_valid policy ≡ true) where
    pub report_uneven : eqb (length events % event_size) 0 ≡ false → report_text policy events ≡ refusal 30
    unfolding report_text text_of
    report_uneven h = rw (← run_uneven policy new_state events room (ap refused (check_good policy good)) (rw h))

    pub run_whole : (output : List ℕ) → sizes_fit events output ≡ true
        → ((run_call policy new_state events output).response ≡ DONE) × ((run_call policy new_state events output).count ≡ count)
        × ((run_call policy new_state events output).output ≡ answers)
    unfolding run_call
    run_whole output h = (rw (check_good policy good, h), rw (check_good policy good, h), rw (check_good policy good, h))

    room_whole : eqb (length events % event_size) 0 ≡ true → sizes_fit events room ≡ true
    room_whole h = rw (h, length-replicate) (eq-eqb (answer_size * count) (answer_size * count) refl)

    pub report_whole : eqb (length events % event_size) 0 ≡ true → count ≤ most_events
        → report_text policy events ≡ lines count answers ++ closing (ascii "end ") count
    unfolding report_text text_of
    report_whole h few =
        let (d, n, o) = run_whole room (room_whole h) in
        rw (d, n, o, le-ltb most_events count few)

    -- whole records or not
    pub report_excess : event_size * most_events < length events → report_text policy events ≡ refusal 30
    unfolding report_text text_of
    report_excess h = go (eqb (length events % event_size) 0) refl
      where
        go : (b : Bool) → eqb (length events % event_size) 0 ≡ b → report_text policy events ≡ refusal 30
        go false e = report_uneven e
        go true e =
            let many : most_events < count = omega (arith, eqb-true (length events % event_size) 0 e) in
            rw ((run_whole room (room_whole e)).1, lt-ltb most_events count many)

-- ---- the run that the code makes: for more events than are taken it lends no output

abbrev text_in : Ran → List ℕ
text_in ran = text_of ran.response ran.count ran.output

-- two bytes of output for each event that is counted
module _ (policy state events output : List ℕ) where
  abbrev Fits : Ran → Type 0
  Fits ran = answer_size * ran.count ≤ length output

  count_fits : Fits (run_call policy state events output)
  unfolding run_call
  count_fits =
      cases Fits (refused (check_call policy state)) (λ _. omega arith)
      (λ _. cases Fits (not (sizes_fit events output)) (λ _. omega arith)
      (λ t. omega (arith, (fit_parts events output (not-false _ t)).1)))

run_text : (policy events : List ℕ)
    → text_in (run_call policy new_state events (replicate (room_for (length events / event_size)) 0)) ≡ report_text policy events
unfolding report_text text_of room_for
run_text policy events = few_or_many (ltb most_events n) refl
  where
    n : ℕ
    n = length events / event_size

    few : n ≤ most_events → text_in (run_call policy new_state events (replicate (answer_size * n) 0)) ≡ report_text policy events
    few h =
        let l = length-replicate {A = ℕ} (answer_size * n) 0 in
        let c = count_fits policy new_state events (replicate (answer_size * n) 0) in
        rw (le-ltb most_events (run_call policy new_state events (replicate (answer_size * n) 0)).count (omega arith))

    many : most_events < n → (b : Bool) → policy_valid policy ≡ b
        → text_in (run_call policy new_state events []) ≡ report_text policy events
    many h false e =
        let c = check_bad policy e in
        rw (report_bad policy events e, ← run_refused policy new_state events [] (ap refused c), c)
    many h true e =
        let uneven : sizes_fit events [] ≡ false =
        rw (ne_eqb 0 (answer_size * n) (λ z. omega arith)) (and-false (eqb (length events % event_size) 0)) in
        let c = check_good policy e in
        rw (report_excess policy events e (omega arith), ← run_uneven policy new_state events [] (ap refused c) uneven)

    few_or_many : (b : Bool) → ltb most_events n ≡ b
        → text_in (run_call policy new_state events (replicate (room_for n) 0)) ≡ report_text policy events
    few_or_many true e = rw e (many (ltb-true most_events n e) (policy_valid policy) refl)
    few_or_many false e = rw e (few (ltb-false most_events n e))

pub room_fits : {room : ℕ} (n : ℕ) → room ≡ room_for n → room ≤ answer_size * most_events
unfolding room_for
room_fits n e =
    rw e
    (cases (λ (room : ℕ). room ≤ answer_size * most_events) (ltb most_events n) (λ _. omega arith)
    (λ few. omega (arith, ltb-false most_events n few)))

module _ (policy events : List ℕ) {lent : List ℕ} (zeros : lent ≡ replicate (room_for (length events / event_size)) 0)
    {r : Response} {n : ℕ} {state output : List ℕ} (ran : counted r n state output ≡ run_call policy new_state events lent) where
  pub taken_fits : (n ≤ most_events) × (answer_size * n ≤ length lent)
  taken_fits =
      let l = ap length zeros ∙ length-replicate (room_for (length events / event_size)) 0 in
      let m = room_fits (length events / event_size) l in
      let c = ap (λ (a : Ran). a.count) ran in
      let f = count_fits policy new_state events lent in
      (omega arith, omega arith)

  pub taken_text : text_of r n output ≡ report_text policy events
  taken_text = ap text_in ran ∙ rw zeros (run_text policy events)

-- the same of a run that is lent as many of the zeros as there is room for
module _ (policy events : List ℕ) {room : ℕ} (is_room : room ≡ room_for (length events / event_size))
    {r : Response} {n : ℕ} {state output : List ℕ}
    (ran : counted r n state output ≡ run_call policy new_state events (take room (replicate (answer_size * most_events) 0))) where
  zeros : take {A = ℕ} room (replicate (answer_size * most_events) 0) ≡ replicate (room_for (length events / event_size)) 0
  zeros = take_zeros (answer_size * most_events) (room_fits _ is_room) is_room

  pub lent_fits : (n ≤ most_events) × (answer_size * n ≤ length (take room (replicate {A = ℕ} (answer_size * most_events) 0)))
  lent_fits = taken_fits policy events zeros ran

  pub lent_text : text_of r n output ≡ report_text policy events
  lent_text = taken_text policy events zeros ran

-- ---- a part of each file is enough

policy_prefix : (policy events : List ℕ) → report_text (take policy_read policy) events ≡ report_text policy events
policy_prefix policy events = go (leb (length policy) policy_read) refl
  where
    go : (b : Bool) → leb (length policy) policy_read ≡ b → report_text (take policy_read policy) events ≡ report_text policy events
    go true e = rw (take_all policy_read policy (leb-true _ _ e))
    go false e =
        let h = leb-false (length policy) policy_read e in
        let n = length-take-le policy_read policy (omega arith) in
        report_bad (take policy_read policy) events (wrong_size (take policy_read policy) (λ z. omega arith))
        ∙ sym (report_bad policy events (wrong_size policy (λ z. omega arith)))

events_prefix : (policy events : List ℕ) → report_text policy (take events_read events) ≡ report_text policy events
events_prefix policy events = go (leb (length events) events_read) refl (policy_valid policy) refl
  where
    go : (b : Bool) → leb (length events) events_read ≡ b → (v : Bool) → policy_valid policy ≡ v
        → report_text policy (take events_read events) ≡ report_text policy events
    go true e v p = rw (take_all events_read events (leb-true _ _ e))
    go false e false p = report_bad policy (take events_read events) p ∙ sym (report_bad policy events p)
    go false e true p =
        let h = leb-false (length events) events_read e in
        let n = length-take-le events_read events (omega arith) in
        report_excess policy (take events_read events) p (omega arith) ∙ sym (report_excess policy events p (omega arith))

pub text_of_prefix : (policy events : List ℕ)
    → report_text (take policy_read policy) (take events_read events) ≡ report_text policy events
text_of_prefix policy events = events_prefix (take policy_read policy) events ∙ policy_prefix policy events
