-- The edges of the definitions: the state's records byte by byte, each rule of validity, each call with its refusals in order.
-- Each claim holds by computation. Assumes nothing.
use Prim.Native.Nat.{ℕ, ◌+◌, ◌^◌}
use mathlib.Core.Path.{◌≡◌, refl}
use mathlib.Core.Bool.{Bool, true, false}
use mathlib.Core.List.{List, [], ◌∷◌, ◌++◌, map}
use lib.ListN.{drop, set, replicate}
use Rattle.device.specs.declared.Event.TheVariants.{Unreadable}
use Rattle.device.specs.declared.UserAnswer.TheVariants.{None}
use Rattle.device.specs.declared.Response.{Response}
use Rattle.device.specs.declared.Suite.{Suite}
use Rattle.device.specs.declared.Slot.{Slot}
use Rattle.device.specs.declared.Session.{Session}
use Rattle.model.specs.Policy.{fixed_by, policy_valid}
use Rattle.model.specs.State.{State, new, carries, find, amend, place, slot_at, slot_zeros, write_state, slot_bytes, session_at}
use Rattle.model.specs.State.{session_zeros, session_bytes}
use Rattle.model.specs.Valid.{slot_valid, slots_valid, session_sound, session_valid, valid, zero_bytes}
use Rattle.device.specs.Empty.{free, idle}
use Rattle.device.specs.Answers.{plain}
use Rattle.model.specs.Calls.{new_call, write_call, check_call, step_call, run_call, Part, find_call, part_call}
use Rattle.model.proofs.Worked.{policy, zeros, install, start, ask, computed}
use Rattle.model.proofs.Cases.{short, counted}

-- ---- the state's records, byte by byte

abbrev pub some_slot : Slot
some_slot = record {
  suite = record { 0 = 0x0201 };
  domain = record { 0 = 3 };
  descriptor = record { required = 0x1716151413121110; optional = 0x2726252423222120 };
  decisions = record { granted = 0x3736353433323130; revoked = 0x4746454443424140 };
}

abbrev pub some_slot_bytes : List ℕ
some_slot_bytes = 1 ∷ 2 ∷ 3 ∷ zeros 5 ++ (counted 8 0x10 ++ (counted 8 0x20 ++ (counted 8 0x30 ++ counted 8 0x40)))

pub slot_written : slot_bytes some_slot ≡ some_slot_bytes
unfolding computed
slot_written = refl

pub slot_read : slot_at (zeros 40 ++ some_slot_bytes) 40 ≡ some_slot
unfolding computed
slot_read = refl

abbrev pub some_session : Session
some_session = record {
  suite = record { 0 = 0x0201 };
  decisions = record { granted = 0x1716151413121110; revoked = 0x2726252423222120 };
}

abbrev pub some_session_bytes : List ℕ
some_session_bytes = 1 ∷ 2 ∷ zeros 6 ++ (counted 8 0x10 ++ (counted 8 0x20 ++ zeros 16))

pub session_written : session_bytes some_session ≡ some_session_bytes
unfolding computed
session_written = refl

pub session_read : session_at some_session_bytes ≡ some_session
unfolding computed
session_read = refl

pub new_written : write_state new ≡ zeros 1320
unfolding computed
new_written = refl

-- a record of zeros with 1 stored at each of its 40 bytes in turn: which of them must be zero
session_pads : map (λ k. session_zeros (set (zeros 40) k 1)) (counted 40 0)
    ≡ (replicate 2 true ++ (replicate 6 false ++ (replicate 16 true ++ replicate 16 false)))
unfolding computed
session_pads = refl

slot_pads : map (λ k. slot_zeros (set (zeros 80) (40 + k) 1) 40) (counted 40 0)
    ≡ (replicate 3 true ++ (replicate 5 false ++ replicate 32 true))
unfolding computed
slot_pads = refl

-- the zero bytes of the session, of the first slot and of the last one count
all_pads : map (λ k. zero_bytes (set (zeros 1320) k 1)) (0 ∷ 2 ∷ 43 ∷ 1283 ∷ 1319 ∷ []) ≡ (true ∷ false ∷ false ∷ false ∷ true ∷ [])
unfolding computed
all_pads = refl

-- ---- slots by number

abbrev pub slot : (suite domain required optional granted revoked : ℕ) → Slot
slot i d r o g v = record {
  suite = record { 0 = i };
  domain = record { 0 = d };
  descriptor = record { required = r; optional = o };
  decisions = record { granted = g; revoked = v };
}

-- suite 5 in two slots, which no valid state has: the first of them counts
abbrev twice : List Slot
twice = slot 5 1 0 0 0 0 ∷ slot 7 2 0 0 0 0 ∷ slot 5 3 0 0 0 0 ∷ []

number : ℕ → Suite
number i = record { 0 = i }

carried_numbers : map (λ i. carries (number i) twice) (5 ∷ 7 ∷ 9 ∷ []) ≡ (true ∷ true ∷ false ∷ [])
unfolding computed number
carried_numbers = refl

found_slots : map (λ i. (find (number i) twice).domain.0) (5 ∷ 7 ∷ 9 ∷ []) ≡ (1 ∷ 2 ∷ 0 ∷ [])
unfolding computed number
found_slots = refl

places : map (λ i. place (number i) twice) (5 ∷ 7 ∷ 9 ∷ []) ≡ (0 ∷ 1 ∷ 3 ∷ [])
unfolding computed number
places = refl

amended : map (λ i. map (λ x. x.domain.0) (amend (number i) (λ _. free) twice)) (5 ∷ 7 ∷ 9 ∷ [])
    ≡ ((0 ∷ 2 ∷ 3 ∷ []) ∷ (1 ∷ 0 ∷ 3 ∷ []) ∷ (1 ∷ 2 ∷ 3 ∷ []) ∷ [])
unfolding computed number
amended = refl

-- ---- the policy

-- the cell of permission 5 in domain 3 is byte 197
cell_read : map (λ p. (fixed_by (zeros 197 ++ (3 ∷ []))).cell (record { 0 = 3 }) (record { 0 = p })) (4 ∷ 5 ∷ 6 ∷ []) ≡ (0 ∷ 3 ∷ 0 ∷ [])
unfolding computed
cell_read = refl

-- 512 bytes; a cell of 4 and one of 5 at the start, inside and at the end
policies : map policy_valid (zeros 511 ∷ zeros 512 ∷ zeros 513 ∷ []) ++ map (λ c. policy_valid (set (zeros 512) 0 c)) (4 ∷ 5 ∷ [])
    ++ map (λ c. policy_valid (set (zeros 512) 200 c)) (4 ∷ 5 ∷ []) ++ map (λ c. policy_valid (set (zeros 512) 511 c)) (4 ∷ 5 ∷ [])
    ≡ (false ∷ true ∷ false ∷ true ∷ false ∷ true ∷ false ∷ true ∷ false ∷ [])
unfolding computed
policies = refl

-- ---- validity, rule by rule

abbrev slots_are : List Slot → List Bool
slots_are = map (slot_valid (fixed_by policy) [])

-- an installed slot and a free one; a free one with a domain, with something required, optional, granted, revoked
free_rules : slots_are (slot 10 2 0b11 0b11100 0b100 0b1000 ∷ slot 0 0 0 0 0 0
    ∷ slot 0 2 0 0 0 0 ∷ slot 0 0 1 0 0 0 ∷ slot 0 0 0 1 0 0 ∷ slot 0 0 0 0 1 0 ∷ slot 0 0 0 0 0 1 ∷ [])
    ≡ (true ∷ true ∷ false ∷ false ∷ false ∷ false ∷ false ∷ [])
unfolding computed
free_rules = refl

-- domain 7 and 8, suite 65535 and 65536; cell 0 required, and optional
installed_rules : slots_are (slot 10 7 0 0 0 0 ∷ slot 10 8 0 0 0 0 ∷ slot 65535 2 0 0 0 0 ∷ slot 65536 2 0 0 0 0
    ∷ slot 10 2 0b10000 0 0 0 ∷ slot 10 2 0 0b10000 0 0 ∷ []) ≡ (true ∷ false ∷ true ∷ false ∷ false ∷ true ∷ [])
unfolding computed
installed_rules = refl

-- each set has 64 bits
set_rules : slots_are (slot 10 2 (2 ^ 64) 0 0 0 ∷ slot 10 2 0 (2 ^ 64) 0 0 ∷ slot 10 2 0 0 (2 ^ 64) 0 ∷ slot 10 2 0 0 0 (2 ^ 64) ∷ [])
    ≡ replicate 4 false
unfolding computed
set_rules = refl

-- a slot that declares 0 to 4, whose cells are 4, 2, 3, 1 and 0
abbrev declaring : (granted revoked : ℕ) → Slot
declaring g v = slot 10 2 0b11 0b11100 g v

-- each granted; permission 2 granted and not declared
grant_rules : slots_are (map (λ g. declaring g 0) (1 ∷ 2 ∷ 4 ∷ 8 ∷ 16 ∷ []) ++ (slot 10 2 0b11 0 4 0 ∷ []))
    ≡ (false ∷ false ∷ true ∷ false ∷ false ∷ false ∷ [])
unfolding computed
grant_rules = refl

-- each revoked; permission 3, whose cell is 1, revoked and not declared; 2 both granted and revoked
revocation_rules : slots_are (map (declaring 0) (1 ∷ 2 ∷ 4 ∷ 8 ∷ 16 ∷ []) ++ (slot 10 2 0b11 0 0 8 ∷ declaring 4 4 ∷ []))
    ≡ (false ∷ true ∷ true ∷ true ∷ false ∷ false ∷ false ∷ [])
unfolding computed
revocation_rules = refl

-- a number in two slots, and 0 in two
number_rules : map (slots_valid (fixed_by policy) [])
    ((slot 10 2 0 0 0 0 ∷ free ∷ slot 10 2 0 0 0 0 ∷ []) ∷ (free ∷ free ∷ []) ∷ (slot 10 2 0 0 0 0 ∷ slot 11 2 0 0 0 0 ∷ []) ∷ [])
    ≡ (false ∷ true ∷ true ∷ [])
unfolding computed
number_rules = refl

-- suite i runs beside one slot
abbrev beside : Slot → (suite granted revoked : ℕ) → State
beside x i g v = record {
  session = record { suite = record { 0 = i }; decisions = record { granted = g; revoked = v } };
  slots = x ∷ [];
}

-- beside suite 10, which declares 0 to 4 and has 2 granted for good
abbrev pub runs : (suite granted revoked : ℕ) → State
runs = beside (declaring 4 0)

abbrev sessions_are : List State → List Bool
sessions_are = map (session_valid (fixed_by policy))

-- each granted, beside a slot with nothing decided; permission 1, whose cell is 2, granted and not declared; a set of more bits
session_grants : sessions_are (map (λ g. beside (declaring 0 0) 10 g 0) (1 ∷ 2 ∷ 4 ∷ 8 ∷ 16 ∷ [])
    ++ (beside (slot 10 2 1 0 0 0) 10 2 0 ∷ beside (declaring 0 0) 10 (2 ^ 64) 0 ∷ []))
    ≡ (false ∷ true ∷ true ∷ false ∷ false ∷ false ∷ false ∷ [])
unfolding computed
session_grants = refl

-- each revoked; permission 3, whose cell is 1, revoked and not declared; a set of more bits; 1 both granted and revoked
session_revocations : sessions_are (map (beside (declaring 0 0) 10 0) (1 ∷ 2 ∷ 4 ∷ 8 ∷ 16 ∷ [])
    ++ (beside (slot 10 2 1 0 0 0) 10 0 8 ∷ beside (declaring 0 0) 10 0 (2 ^ 64) ∷ beside (declaring 0 0) 10 2 2 ∷ []))
    ≡ (false ∷ true ∷ true ∷ true ∷ false ∷ false ∷ false ∷ false ∷ [])
unfolding computed
session_revocations = refl

-- granted for good, and granted or revoked for the session; revoked for good, and either
coherence : sessions_are (runs 10 4 0 ∷ runs 10 0 4 ∷ beside (declaring 0 4) 10 4 0 ∷ beside (declaring 0 4) 10 0 4 ∷ []) ≡ replicate 4 false
unfolding computed
coherence = refl

-- an unknown suite runs; nothing runs, and a grant is left, or a revocation, or nothing
running_rules : map session_sound (runs 9 0 0 ∷ runs 0 1 0 ∷ runs 0 0 1 ∷ runs 0 0 0 ∷ []) ≡ (false ∷ false ∷ false ∷ true ∷ [])
unfolding computed
running_rules = refl

-- 32 slots
count_rules : map (λ n. valid (fixed_by policy) (record { session = idle; slots = replicate n free })) (31 ∷ 32 ∷ 33 ∷ [])
    ≡ (false ∷ true ∷ false ∷ [])
unfolding computed
count_rules = refl

-- ---- the calls: the refusals in their order, and what they leave

-- suite 10 installed in slot 2 of domain 2 and running, with a blanket grant of 2 and a session revocation of 3
abbrev pub state : List ℕ
state =
    (10 ∷ zeros 15 ++ (8 ∷ zeros 23))
    ++ (zeros 40 ++ ((10 ∷ 0 ∷ 2 ∷ zeros 5 ++ (1 ∷ zeros 7 ++ (12 ∷ zeros 7 ++ (4 ∷ zeros 15)))) ++ zeros 1200))

-- a bad policy with a bad state; a good policy with a good state, one of another size, a byte that must be zero, a suite that is
-- not installed
pub checked : check_call (zeros 511) (zeros 7) ∷ map (check_call policy) (state ∷ zeros 1319 ∷ zeros 1321 ∷ set state 7 1 ∷ set state 0 9 ∷ [])
    ≡ (plain 16 ∷ plain 0 ∷ plain 17 ∷ plain 17 ∷ plain 17 ∷ plain 17 ∷ [])
unfolding computed
checked = refl

pub made : map new_call (replicate 1320 7 ∷ replicate 1319 7 ∷ [])
    ≡ (record { response = plain 0; bytes = zeros 1320 } ∷ record { response = plain 17; bytes = replicate 1319 7 } ∷ [])
unfolding computed
made = refl

-- 18 first, then 30
pub written : map (λ e. write_call e (replicate 24 7)) (start 10 ∷ start 0 ∷ ask 64 None ∷ install 1 0 0 8 ∷ Unreadable ∷ [])
    ++ map (λ e. write_call e (replicate 23 7)) (start 10 ∷ start 0 ∷ [])
    ≡ (record { response = plain 0; bytes = short 3 0 10 0 0 0 }
    ∷ replicate 4 (record { response = plain 18; bytes = replicate 24 7 })
    ++ (record { response = plain 30; bytes = replicate 23 7 } ∷ record { response = plain 18; bytes = replicate 23 7 } ∷ []))
unfolding computed
written = refl

-- 16, 17, 18, then by event
pub stepped : map (λ c. step_call c (zeros 3) (zeros 23)) (zeros 511 ∷ policy ∷ [])
    ++ map (step_call policy state) (zeros 23 ∷ short 4 0 0 0 0 0 ∷ [])
    ≡ (record { response = plain 16; bytes = zeros 3 } ∷ record { response = plain 17; bytes = zeros 3 }
    ∷ record { response = plain 18; bytes = state } ∷ record { response = plain 0; bytes = zeros 40 ++ drop 40 state } ∷ [])
unfolding computed
stepped = refl

-- 16, 17, 30 for half a record and for an output of another size, each with count 0 and the output as it was; no events; and a
-- bad one among others, which is answered and changes nothing
pub ran : map (λ c. run_call c (zeros 3) (zeros 23) (7 ∷ [])) (zeros 511 ∷ policy ∷ [])
    ++ (run_call policy state (zeros 25) (7 ∷ 7 ∷ []) ∷ run_call policy state [] (7 ∷ 7 ∷ []) ∷ run_call policy state [] []
    ∷ run_call policy state (zeros 24 ++ short 5 0 0 0 2 0) (replicate 4 7) ∷ [])
    ≡ (record { response = plain 16; count = 0; state = zeros 3; output = 7 ∷ [] }
    ∷ record { response = plain 17; count = 0; state = zeros 3; output = 7 ∷ [] }
    ∷ record { response = plain 30; count = 0; state = state; output = 7 ∷ 7 ∷ [] }
    ∷ record { response = plain 30; count = 0; state = state; output = 7 ∷ 7 ∷ [] }
    ∷ record { response = plain 0; count = 0; state = state; output = [] }
    ∷ record { response = plain 0; count = 2; state = state; output = 18 ∷ 0 ∷ 1 ∷ 0 ∷ [] } ∷ [])
unfolding computed
ran = refl

-- 16, 17, 21, with the part: suite 0 is no suite, though slot 1 is free
pub record Found : Type 0 where
  pub response : Response
  pub part : Part

abbrev pub finding : (policy state : List ℕ) → ℕ → Found
finding c b i = record { response = find_call c b (record { 0 = i }); part = part_call c b (record { 0 = i }) }

abbrev pub unfound : ℕ → Found
unfound n = record { response = plain n; part = record { from = 0; size = 0 } }

pub found : finding (zeros 511) (zeros 3) 0 ∷ finding policy (zeros 3) 0 ∷ finding policy state 0 ∷ finding policy state 11
    ∷ finding policy state 10 ∷ []
    ≡ (unfound 16 ∷ unfound 17 ∷ unfound 21 ∷ unfound 21
    ∷ record { response = plain 0; part = record { from = 80; size = 40 } } ∷ [])
unfolding computed
found = refl
