-- Isolation on the bytes that a terminal lends: of `step`, called on each record in turn, and of `run`. It speaks of these calls,
-- of `suite_record` and of bytes. A prime marks what belongs to the second of two runs.
use Rattle.std.specs.Prelude.{ℕ, zero, suc, ◌+◌, ◌*◌, ◌<◌, ◌≡◌, Bool, true, false, not, ◌&&◌, List, [], ◌∷◌, get_or, take, drop, eqb, leb, ltb}
use Rattle.words.specs.Numbers.{le_at}
use Rattle.device.specs.declared.Suite.{Suite}
use Rattle.model.specs.State.{record_size}
use Rattle.device.specs.Answers.{DONE}
use Rattle.model.specs.Calls.{Called, Ran, check_call, step_call, part_call, record_at, records_from, answer_size}
use Rattle.model.specs.Isolation.{MayReplace, excused}
use Rattle.promises.specs.InTurn.{steps_call}

-- ---- the lent states

-- record k begins with the suite's number
abbrev pub is_of : Suite → (state : List ℕ) → (k : ℕ) → Bool
is_of suite state k = eqb (le_at 2 state (record_size * k)) suite.0

-- record 0 is the session
abbrev pub is_running_in : Suite → (state : List ℕ) → Bool
is_running_in suite state = is_of suite state 0

-- byte j of record k is one of a decision: bytes 8 to 23 of the session, 24 to 39 of a slot
abbrev pub is_decision : (k j : ℕ) → Bool
is_decision zero j = leb 8 j && ltb j 24
is_decision (suc k) j = leb 24 j

abbrev pub is_others_decision : Suite → (state : List ℕ) → (k j : ℕ) → Bool
is_others_decision suite state k j = not (is_of suite state k) && is_decision k j

-- two states that pass the check, and every byte is equal but those of other suites' decisions
pub record AlikeBytes (policy : List ℕ) (suite : Suite) (state state' : List ℕ) : Type 0 where
  pub one_passes : check_call policy state ≡ DONE
  pub other_passes : check_call policy state' ≡ DONE
  pub equal_but : (k j : ℕ) → j < record_size → is_others_decision suite state k j ≡ false
      → get_or state (record_size * k + j) 0 ≡ get_or state' (record_size * k + j) 0

-- the bytes that `suite_record` gives
abbrev pub suite_record : (policy state : List ℕ) → Suite → List ℕ
suite_record policy state suite = take (part_call policy state suite).size (drop (part_call policy state suite).from state)

-- the running suite, what is stored for this one and, while it runs, its session
pub record AgreeBytes (policy : List ℕ) (suite : Suite) (state state' : List ℕ) : Type 0 where
  pub running : take 2 state ≡ take 2 state'
  pub stored : suite_record policy state suite ≡ suite_record policy state' suite
  pub session : is_running_in suite state ≡ true → take record_size state ≡ take record_size state'

-- ---- `step`, called on each record in turn

-- two lists of one length, and at each place one record may stand where the other does, by the bytes that the calls left
unfoldable pub ReplacedBytes : (policy : List ℕ) → Suite → (state : List ℕ) → (events events' : List (List ℕ)) → Type 0
ReplacedBytes policy suite state [] [] = Unit {0}
ReplacedBytes policy suite state [] (event' ∷ events') = ⊥
ReplacedBytes policy suite state (event ∷ events) [] = ⊥
ReplacedBytes policy suite state (event ∷ events) (event' ∷ events') =
    MayReplace (is_running_in suite state) event event'
    × ReplacedBytes policy suite (step_call policy state event).bytes events events'

pub record PlaceBytes (policy : List ℕ) (suite : Suite) (mayDiffer : Bool) (call call' : Called) : Type 0 where
  pub answer : mayDiffer ≡ false → call.response ≡ call'.response
  pub alike : AlikeBytes policy suite call.bytes call'.bytes
  pub agree : AgreeBytes policy suite call.bytes call'.bytes

unfoldable pub IsolatedBytes : (policy : List ℕ) → Suite → (state state' : List ℕ) → (events events' : List (List ℕ)) → Type 0
IsolatedBytes policy suite state state' [] events' = Unit {0}
IsolatedBytes policy suite state state' (event ∷ events) [] = Unit {0}
IsolatedBytes policy suite state state' (event ∷ events) (event' ∷ events') =
    let call = step_call policy state event in
    let call' = step_call policy state' event' in
    PlaceBytes policy suite (excused (is_running_in suite state) event event') call call'
    × IsolatedBytes policy suite call.bytes call'.bytes events events'

-- ---- `run`

-- the bytes of the i-th answer
abbrev pub answer_at : (output : List ℕ) → (i : ℕ) → List ℕ
answer_at output i = take answer_size (drop (answer_size * i) output)

-- two runs of n records each
pub record IsolatedRuns (policy : List ℕ) (suite : Suite) (state events events' : List ℕ) (n : ℕ) (ran ran' : Ran) : Type 0 where
  pub done : (ran.response ≡ DONE) × (ran'.response ≡ DONE)
  pub count : (ran.count ≡ n) × (ran'.count ≡ n)
  pub answers : (i : ℕ) → i < n
      → excused (is_running_in suite (steps_call policy state (records_from events i 0)).state)
      (record_at events i) (record_at events' i) ≡ false
      → answer_at ran.output i ≡ answer_at ran'.output i
  pub alike : AlikeBytes policy suite ran.state ran'.state
  pub agree : AgreeBytes policy suite ran.state ran'.state
