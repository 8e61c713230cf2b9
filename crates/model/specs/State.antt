-- 01, Records: State. 000 (9), (10).
use Rattle.std.specs.Prelude.{ℕ, zero, suc, ◌+◌, ◌*◌, Bool, false, ◌&&◌, ◌||◌, cond, List, [], ◌∷◌, ◌++◌, get_or, replicate, eqb}
use Rattle.words.specs.Numbers.{le_at, bytes_of}
use Rattle.device.specs.declared.Suite.{Suite}
use Rattle.device.specs.declared.Slot.{Slot}
use Rattle.device.specs.declared.Session.{Session}
use Rattle.device.specs.Device.{same_suite, slot_count}
use Rattle.device.specs.Empty.{free, idle}

-- ---- the state: what runs, and the slots

pub record State : Type 0 where
  pub session : Session
  pub slots : List Slot

-- the same state with another session, with other slots
abbrev pub with_session : Session → State → State
with_session session state = record { session = session; slots = state.slots }

abbrev pub with_slots : List Slot → State → State
with_slots slots state = record { session = state.session; slots = slots }

-- nothing runs and every slot is free
abbrev pub new : State
new = record { session = idle; slots = replicate slot_count free }

-- ---- the slots by suite number, the lowest slot first; the number 0 stands in the free slots

-- some slot has the number
unfoldable pub carries : Suite → List Slot → Bool
carries suite [] = false
carries suite (slot ∷ slots) = same_suite slot.suite suite || carries suite slots

-- the slot that has it; a free one where none does
unfoldable pub find : Suite → List Slot → Slot
find suite [] = free
find suite (slot ∷ slots) = cond (same_suite slot.suite suite) slot (find suite slots)

-- the slots with that one changed
unfoldable pub amend : Suite → (Slot → Slot) → List Slot → List Slot
amend suite change [] = []
amend suite change (slot ∷ slots) =
    cond (same_suite slot.suite suite) (change slot ∷ slots) (slot ∷ amend suite change slots)

-- its place, from 0; behind the slots where none has it
unfoldable pub place : Suite → List Slot → ℕ
place suite [] = 0
place suite (slot ∷ slots) = cond (same_suite slot.suite suite) 0 (suc (place suite slots))

-- ---- the bytes: a record for the session, and behind it one for each slot

abbrev pub record_size : ℕ
record_size = 40

abbrev pub state_size : ℕ
state_size = record_size * suc slot_count

-- the session's record: bytes 0-1 the running suite, 8-15 granted, 16-23 revoked
unfoldable pub session_at : List ℕ → Session
session_at bytes =
    record { suite = record { 0 = le_at 2 bytes 0 }; decisions = record { granted = le_at 8 bytes 8; revoked = le_at 8 bytes 16 } }

-- its other bytes, 2-7 and 24-39, are zero
unfoldable pub session_zeros : List ℕ → Bool
session_zeros bytes = eqb (le_at 6 bytes 2) 0 && eqb (le_at 16 bytes 24) 0

unfoldable pub session_bytes : Session → List ℕ
session_bytes session =
    bytes_of 2 session.suite.0 ++ (bytes_of 6 0 ++ (bytes_of 8 session.decisions.granted
    ++ (bytes_of 8 session.decisions.revoked ++ bytes_of 16 0)))

-- a slot's record, which begins at a place: bytes 0-1 the suite, 2 its domain, 8-15 required, 16-23 optional, 24-31 granted,
-- 32-39 revoked
unfoldable pub slot_at : List ℕ → ℕ → Slot
slot_at bytes start = record {
  suite = record { 0 = le_at 2 bytes start };
  domain = record { 0 = get_or bytes (start + 2) 0 };
  descriptor = record { required = le_at 8 bytes (start + 8); optional = le_at 8 bytes (start + 16) };
  decisions = record { granted = le_at 8 bytes (start + 24); revoked = le_at 8 bytes (start + 32) };
}

-- its other bytes, 3-7, are zero
unfoldable pub slot_zeros : List ℕ → ℕ → Bool
slot_zeros bytes start = eqb (le_at 5 bytes (start + 3)) 0

unfoldable pub slot_bytes : Slot → List ℕ
slot_bytes slot =
    bytes_of 2 slot.suite.0 ++ (slot.domain.0 ∷ (bytes_of 5 0 ++ (bytes_of 8 slot.descriptor.required
    ++ (bytes_of 8 slot.descriptor.optional ++ (bytes_of 8 slot.decisions.granted ++ bytes_of 8 slot.decisions.revoked)))))

-- n slots, the first one's record at this start
unfoldable pub slots_from : List ℕ → ℕ → ℕ → List Slot
slots_from bytes zero start = []
slots_from bytes (suc n) start = slot_at bytes start ∷ slots_from bytes n (start + record_size)

unfoldable pub slots_bytes : List Slot → List ℕ
slots_bytes [] = []
slots_bytes (slot ∷ slots) = slot_bytes slot ++ slots_bytes slots

-- the state that bytes hold, and the bytes of a state
unfoldable pub read_state : List ℕ → State
read_state bytes = record { session = session_at bytes; slots = slots_from bytes slot_count record_size }

unfoldable pub write_state : State → List ℕ
write_state state = session_bytes state.session ++ slots_bytes state.slots
