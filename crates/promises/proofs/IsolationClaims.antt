-- What each clause of the definitions of isolation on the lent bytes takes in, and what it shuts out. Each claim holds by
-- computation, with `step_written` for a call on bytes. Assumes nothing.
use Prim.Native.Nat.{ℕ}
use native.Mathlib.Omega.{arith}
use mathlib.Core.Path.{◌≡◌, refl, ap, sym, subst, ◌∙◌}
use mathlib.Core.Bool.{true, false}
use mathlib.Core.Logic.{inr}
use mathlib.Core.List.{List, [], ◌∷◌, ◌++◌, map, flatten}
use borrow.Author.Tests.{eqb-false}
use lib.ListN.{get_or, set, replicate}
use Rattle.words.specs.Numbers.{bytes_of}
use Rattle.model.specs.Policy.{fixed_by, policy_valid}
use Rattle.model.specs.State.{State, write_state}
use Rattle.model.specs.Valid.{valid}
use Rattle.model.specs.Events.{field_bytes, read_event}
use Rattle.device.specs.Answers.{DONE, BAD_LENGTH, ALLOWED}
use Rattle.model.specs.Step.{step}
use Rattle.model.specs.Calls.{leaving, step_call, records_from, counted}
use Rattle.model.specs.Isolation.{MayReplace, excused}
use Rattle.model.proofs.Worked.{policy, zeros, computed}
use Rattle.model.proofs.Cases.{counted as numbers}
use Rattle.model.proofs.Kept.{record_kept}
use Rattle.model.proofs.Faulty.{f, ten, w, asked, unasked, alike, damaged}
use Rattle.model.proofs.IsolationClaims.{terminate, start_11, ask_2, allow_2, then_11, not_running}
use Rattle.promises.specs.InTurn.{steps_call}
use Rattle.promises.specs.Isolation.{is_of, is_running_in, is_decision, is_others_decision, AlikeBytes, suite_record, AgreeBytes}
use Rattle.promises.specs.Isolation.{ReplacedBytes, PlaceBytes, IsolatedBytes, answer_at, IsolatedRuns}
use Rattle.promises.proofs.InTurn.{step_written}
use Rattle.promises.proofs.Isolation.{written_alike}

-- ---- the lent states

-- suite 10 runs, with decisions or none; suites 10 and 11 are in slots 1 and 2
abbrev pub one : List ℕ
one = write_state asked

abbrev pub other : List ℕ
other = write_state unasked

-- the number at the start of a record, of two bytes
pub numbers_of : map (λ i. is_of (record { 0 = i }) (10 ∷ zeros 39 ++ (11 ∷ 1 ∷ [])) 1) (11 ∷ 267 ∷ [])
    ++ (is_running_in ten one ∷ is_running_in w one ∷ [])
    ≡ false ∷ true ∷ true ∷ false ∷ []
unfolding computed
numbers_of = refl

-- bytes 8 to 23 of the session, 24 to 39 of a slot
pub decisions_at : map (λ k. map (is_decision k) (numbers 40 0)) (0 ∷ 1 ∷ 32 ∷ [])
    ≡ (replicate 8 false ++ (replicate 16 true ++ replicate 16 false))
    ∷ (replicate 24 false ++ replicate 16 true) ∷ (replicate 24 false ++ replicate 16 true) ∷ []
decisions_at = refl

-- suite 10's decisions are another's for suite 11, and suite 10's number is not; and the other way round
pub others_decisions : map (λ k. is_others_decision w one k 24) (0 ∷ 1 ∷ 2 ∷ []) ++ map (is_others_decision w one 0) (1 ∷ 8 ∷ [])
    ++ map (is_others_decision ten one 0) (1 ∷ 8 ∷ [])
    ≡ false ∷ true ∷ false ∷ false ∷ true ∷ false ∷ false ∷ []
unfolding computed
others_decisions = refl

right : policy_valid policy ≡ true
unfolding computed
right = refl

-- the premise can be met, by states that differ: in suite 10's session, and in its slot
pub alike_bytes : AlikeBytes policy w one other
alike_bytes = written_alike policy w right asked unasked alike

pub bytes_differ : map (λ n. get_or one n 0) (8 ∷ 64 ∷ []) ++ map (λ n. get_or other n 0) (8 ∷ 64 ∷ []) ≡ 2 ∷ 4 ∷ 0 ∷ 0 ∷ []
unfolding computed
bytes_differ = refl

-- one does not pass the check; suite 10's own decision differs; another suite's domain does
pub one_fails : AlikeBytes policy w (zeros 3) one → ⊥
unfolding computed
one_fails k = eqb-false 17 0 refl (ap (λ r. r.number) k.one_passes)

pub other_fails : AlikeBytes policy w one (zeros 3) → ⊥
unfolding computed
other_fails k = eqb-false 17 0 refl (ap (λ r. r.number) k.other_passes)

pub own_differs : AlikeBytes policy ten one other → ⊥
unfolding computed
own_differs k = eqb-false 2 0 refl (k.equal_but 0 8 (omega arith) refl)

pub domain_differs : AlikeBytes policy w one (set one 42 7) → ⊥
unfolding computed
domain_differs k = eqb-false 2 7 refl (k.equal_but 1 2 (omega arith) refl)

-- suite 11's 40 bytes, in the second slot; none of a state that does not pass the check
pub record_given : suite_record policy one w ≡ 11 ∷ 0 ∷ 2 ∷ zeros 13 ++ (4 ∷ zeros 23)
unfolding computed
record_given = refl

pub none_given : suite_record policy (zeros 3) w ≡ []
unfolding computed
none_given = refl

-- another suite runs, by either byte; the stored record differs; the session does, at its last byte
pub another_runs : AgreeBytes policy w (10 ∷ 0 ∷ []) (0 ∷ 0 ∷ []) → ⊥
another_runs a = eqb-false 10 0 refl (ap (λ l. get_or l 0 0) a.running)

pub another_runs_high : AgreeBytes policy w (0 ∷ 1 ∷ []) (0 ∷ 0 ∷ []) → ⊥
another_runs_high a = eqb-false 1 0 refl (ap (λ l. get_or l 1 0) a.running)

pub stored_differs : AgreeBytes policy w one (zeros 3) → ⊥
stored_differs a = eqb-false 11 0 refl (ap (λ l. get_or l 0 0) (sym record_given ∙ a.stored ∙ none_given))

pub session_differs : AgreeBytes policy w (11 ∷ zeros 38 ++ (1 ∷ [])) (11 ∷ zeros 39) → ⊥
unfolding computed
session_differs a = eqb-false 1 0 refl (ap (λ l. get_or l 39 0) (a.session refl))

-- ---- two calls, and suite 11 is running

module _ (policy : List ℕ) (right : policy_valid policy ≡ true) (s : State) (v : valid (fixed_by policy) s ≡ true)
    (e e' : List ℕ) where
  abbrev after_two : State
  after_two = (step (fixed_by policy) (step (fixed_by policy) s (read_event e)).state (read_event e')).state

  two_calls : (step_call policy (step_call policy (write_state s) e).bytes e').bytes ≡ write_state after_two
  two_calls = rw (step_written policy right s v e, step_written policy right _ (record_kept _ s v e) e')

  third_call : (e'' : List ℕ) → (step_call policy (step_call policy (step_call policy (write_state s) e).bytes e').bytes e'').response
      ≡ (step (fixed_by policy) after_two (read_event e'')).response
  third_call e'' =
      rw (two_calls, step_written policy right after_two (record_kept _ _ (record_kept _ s v e) e') e'')

next_running : is_running_in w (write_state (after_two policy right asked alike.one_valid terminate start_11)) ≡ true
unfolding computed
next_running = refl

third_running : is_running_in w (step_call policy (step_call policy one terminate).bytes start_11).bytes ≡ true
third_running = ap (is_running_in w) (two_calls policy right asked alike.one_valid terminate start_11) ∙ next_running

-- ---- `step`, called on each record in turn

-- while suite 10 runs; the lists are of one length; at the third place suite 11 is running
pub replaced : ReplacedBytes policy w one (ask_2 ∷ []) (damaged ∷ [])
unfolding computed ReplacedBytes
replaced = (inr (refl, refl, refl), tt)

pub shorter : ReplacedBytes policy w one [] (ask_2 ∷ []) → ⊥
unfolding ReplacedBytes
shorter h = h

pub longer : ReplacedBytes policy w one (ask_2 ∷ []) [] → ⊥
unfolding ReplacedBytes
longer h = h

pub not_its_own : ReplacedBytes policy w one (then_11 ask_2) (then_11 allow_2) → ⊥
unfolding ReplacedBytes
not_its_own h = not_running (subst (λ r. MayReplace r ask_2 allow_2) third_running h.1.1.0)

pub answers_differ : PlaceBytes policy w false (leaving one DONE) (leaving one ALLOWED) → ⊥
answers_differ p = eqb-false 0 1 refl (ap (λ r. r.number) (p.answer refl))

pub not_alike : PlaceBytes policy ten true (leaving one DONE) (leaving other DONE) → ⊥
not_alike p = own_differs p.alike

pub disagree : PlaceBytes policy w true (leaving one DONE) (leaving (zeros 3) DONE) → ⊥
disagree p = stored_differs p.agree

told : (step f (after_two policy right asked alike.one_valid terminate start_11) (read_event ask_2)).response
    ≡ (step f (after_two policy right unasked alike.other_valid terminate start_11) (read_event allow_2)).response → ⊥
unfolding computed
told eq = eqb-false 3 1 refl (ap (λ r. r.number) eq)

pub third_place : IsolatedBytes policy w one other (then_11 ask_2) (then_11 allow_2) → ⊥
unfolding IsolatedBytes
third_place h =
    told (sym (third_call policy right asked alike.one_valid terminate start_11 ask_2)
    ∙ h.1.1.0.answer (ap (λ r. excused r ask_2 allow_2) third_running)
    ∙ third_call policy right unasked alike.other_valid terminate start_11 allow_2)

-- ---- `run`

pub parts : answer_at (1 ∷ 2 ∷ 3 ∷ 4 ∷ 5 ∷ 6 ∷ []) 1 ≡ 3 ∷ 4 ∷ []
parts = refl

pub one_refused : IsolatedRuns policy w one [] [] 0 (counted BAD_LENGTH 0 one []) (counted DONE 0 one []) → ⊥
one_refused r = eqb-false 30 0 refl (ap (λ x. x.number) r.done.0)

pub other_refused : IsolatedRuns policy w one [] [] 0 (counted DONE 0 one []) (counted BAD_LENGTH 0 one []) → ⊥
other_refused r = eqb-false 30 0 refl (ap (λ x. x.number) r.done.1)

pub one_count : IsolatedRuns policy w one [] [] 0 (counted DONE 1 one []) (counted DONE 0 one []) → ⊥
one_count r = eqb-false 1 0 refl r.count.0

pub other_count : IsolatedRuns policy w one [] [] 0 (counted DONE 0 one []) (counted DONE 1 one []) → ⊥
other_count r = eqb-false 1 0 refl r.count.1

pub end_not_alike : IsolatedRuns policy ten one [] [] 0 (counted DONE 0 one []) (counted DONE 0 other []) → ⊥
end_not_alike r = own_differs r.alike

pub end_disagrees : IsolatedRuns policy w one [] [] 0 (counted DONE 0 one []) (counted DONE 0 (zeros 3) []) → ⊥
end_disagrees r = stored_differs r.agree

-- the third answer, to suite 11, is not excused
pub third_answered : IsolatedRuns policy w one (flatten (then_11 ask_2)) (flatten (then_11 allow_2)) 3
    (counted DONE 3 one (0 ∷ 0 ∷ 0 ∷ 0 ∷ 3 ∷ 3 ∷ [])) (counted DONE 3 one (0 ∷ 0 ∷ 0 ∷ 0 ∷ 1 ∷ 0 ∷ [])) → ⊥
unfolding records_from steps_call flatten field_bytes bytes_of
third_answered r =
    eqb-false 3 1 refl (ap (λ l. get_or l 0 0) (r.answers 2 (omega arith) (ap (λ c. excused c ask_2 allow_2) third_running)))
