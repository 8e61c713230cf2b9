-- The bridge from the lent bytes to the model's state: what stands above it speaks of states, and of no offset.
use Rattle.std.specs.Prelude.{ℕ, ◌≡◌, List, length, set, cond, Option, Some, None, ltb}
use Rattle.device.specs.declared.Slot.{Slot}
use Rattle.device.specs.Device.{slot_count}
use Rattle.model.specs.State.{State, with_slots, state_size, read_state, write_state}

-- the bytes hold the state: they say it, and they are its bytes
pub record Holds (bytes : List ℕ) (state : State) : Type 0 where
  pub sized : length bytes ≡ state_size
  pub read : read_state bytes ≡ state
  pub written : bytes ≡ write_state state

-- the bytes are those of a state
abbrev pub WellFormed : List ℕ → Type 0
WellFormed bytes = Holds bytes (read_state bytes)

-- the state with slot k, from 0, replaced
abbrev pub with_slot : ℕ → Slot → State → State
with_slot k slot state = with_slots (set state.slots k slot) state

-- the place of a slot, from 0, where there is one; behind the slots there is none
abbrev pub found : ℕ → Option ℕ
found k = cond (ltb k slot_count) (Some k) None
