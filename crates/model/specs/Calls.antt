-- 01, Calls offered: from the lists of the lent bytes to the answer, the count and the lists afterwards. A refusal leaves every
-- list as it was.
use Rattle.std.specs.Prelude.{ℕ, zero, suc, ◌*◌, ◌/◌, ◌%◌, Bool, not, ◌&&◌, cond, List, [], ◌∷◌, map, length, take, drop, replicate, eqb, Result, Ok, Err}
use Rattle.device.specs.declared.Suite.{Suite}
use Rattle.device.specs.declared.Event.{Event}
use Rattle.device.specs.declared.Event.TheVariants.{Unreadable, Install, Remove, Start, Terminate, Request}
use Rattle.device.specs.declared.Refusal.{Refusal}
use Rattle.device.specs.declared.Response.{Response}
use Rattle.device.specs.Device.{is_suite}
use Rattle.device.specs.Answers.{refused, refusing, DONE, BAD_POLICY, BAD_STATE, BAD_EVENT, NOT_INSTALLED, BAD_LENGTH}
use Rattle.model.specs.Policy.{fixed_by, policy_valid}
use Rattle.model.specs.State.{carries, place, read_state, write_state, record_size, state_size}
use Rattle.model.specs.Valid.{state_valid}
use Rattle.model.specs.Events.{write_event, read_event, carried, event_size}
use Rattle.model.specs.Step.{step}
use Rattle.model.specs.Run.{after, responses}

-- the answer, and the lent bytes afterwards
pub record Called : Type 0 where
  pub response : Response
  pub bytes : List ℕ

abbrev pub leaving : List ℕ → Response → Called
leaving bytes response = record { response = response; bytes = bytes }

-- ---- a new state: 17 for another size

unfoldable pub new_call : (state : List ℕ) → Called
new_call state =
    cond (eqb (length state) state_size) (leaving (replicate state_size 0) DONE) (leaving state BAD_STATE)

-- ---- an event read: 18, else the event

abbrev pub read_answer : Event → Response
read_answer Unreadable = BAD_EVENT
read_answer (Install suite descriptor domain) = DONE
read_answer (Remove suite) = DONE
read_answer (Start suite) = DONE
read_answer Terminate = DONE
read_answer (Request permission answer) = DONE

-- the answer, and the value
pub record Read : Type 0 where
  pub response : Response
  pub event : Event

abbrev pub reading : Event → Read
reading event = record { response = read_answer event; event = event }

abbrev pub read_call : (record-bytes : List ℕ) → Read
read_call bytes = reading (read_event bytes)

-- ---- an event written: 18 for a value that no record carries, then 30 for another size

unfoldable pub write_call : Event → (lent : List ℕ) → Called
write_call event lent =
    cond (not (carried event)) (leaving lent BAD_EVENT)
    (cond (not (eqb (length lent) event_size)) (leaving lent BAD_LENGTH)
    (leaving (write_event event) DONE))

-- ---- policy and state checked: 16, 17

unfoldable pub check_call : (policy state : List ℕ) → Response
check_call policy state =
    cond (not (policy_valid policy)) BAD_POLICY
    (cond (not (state_valid (fixed_by policy) state)) BAD_STATE
    DONE)

-- ---- one event record: 16, 17, 18, then by event

unfoldable pub step_call : (policy state event : List ℕ) → Called
step_call policy state event =
    let checked = check_call policy state in
    let outcome = step (fixed_by policy) (read_state state) (read_event event) in
    cond (refused checked) (leaving state checked) (leaving (write_state outcome.state) outcome.response)

-- ---- a run: 16, 17, 30; else every event is answered, a refused one too, and they are counted

-- the answer and the count, 0 in a refusal, and the lent bytes afterwards
pub record Ran : Type 0 where
  pub response : Response
  pub count : ℕ
  pub state : List ℕ
  pub output : List ℕ

abbrev pub counted : Response → (count : ℕ) → (state output : List ℕ) → Ran
counted response count state output = record { response = response; count = count; state = state; output = output }

-- a run that is done and the number of its events, or its refusal
abbrev pub ran : Result ℕ Refusal → (state output : List ℕ) → Ran
ran (Ok count) state output = counted DONE count state output
ran (Err refusal) state output = counted (refusing refusal) 0 state output

-- record i of the events, and n records from the i-th
abbrev pub record_at : List ℕ → ℕ → List ℕ
record_at events i = take event_size (drop (event_size * i) events)

unfoldable pub records_from : List ℕ → ℕ → ℕ → List (List ℕ)
records_from events zero i = []
records_from events (suc n) i = record_at events i ∷ records_from events n (suc i)

-- the records, each read
abbrev pub events_from : List ℕ → ℕ → ℕ → List Event
events_from events n i = map read_event (records_from events n i)

-- the number of an answer, then its detail
abbrev pub answer_size : ℕ
answer_size = 2

unfoldable pub output_of : List Response → List ℕ
output_of [] = []
output_of (response ∷ responses) = response.number ∷ response.detail ∷ output_of responses

abbrev pub record_count : (events : List ℕ) → ℕ
record_count events = length events / event_size

-- whole records, and room for exactly their answers
abbrev pub sizes_fit : (events output : List ℕ) → Bool
sizes_fit events output = eqb (length events % event_size) 0 && eqb (length output) (answer_size * record_count events)

unfoldable pub run_call : (policy state events output : List ℕ) → Ran
run_call policy state events output =
    let checked = check_call policy state in
    let n = record_count events in
    let fixed = fixed_by policy in
    let first = read_state state in
    let read = events_from events n 0 in
    cond (refused checked) (counted checked 0 state output)
    (cond (not (sizes_fit events output)) (counted BAD_LENGTH 0 state output)
    (counted DONE n (write_state (after fixed first read)) (output_of (responses fixed first read))))

-- ---- a suite found: 16, 17, 21, which suite 0 always is

unfoldable pub find_call : (policy state : List ℕ) → Suite → Response
find_call policy state suite =
    let checked = check_call policy state in
    cond (refused checked) checked
    (cond (not (is_suite suite && carries suite (read_state state).slots)) NOT_INSTALLED
    DONE)

-- its record in the lent state: where that begins, and its size; nothing, at the start, where find refuses
pub record Part : Type 0 where
  pub from : ℕ
  pub size : ℕ

unfoldable pub part_call : (policy state : List ℕ) → Suite → Part
part_call policy state suite =
    cond (refused (find_call policy state suite)) (record { from = 0; size = 0 })
    (record { from = record_size * suc (place suite (read_state state).slots); size = record_size })
