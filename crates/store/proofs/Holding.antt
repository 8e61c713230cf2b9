-- Bytes that hold a state: with a slot or the session stored they hold the state with that replaced; and no two lists hold one
-- state. Assumes nothing.
use mathlib.Core.Path.{◌≡◌, refl, sym, ap, ◌∙◌}
use mathlib.Core.Logic.{inr}
use mathlib.Core.List.{List, ◌++◌}
use Prim.Native.Nat.{ℕ, ◌+◌, ◌*◌, ◌≤◌, ◌<◌}
use native.Mathlib.Omega.{arith}
use lib.ListN.{length}
use lib.Seq.{sets, length-sets, set_out}
use Rattle.words.proofs.Stores.{sets_front, sets_behind}
use Rattle.device.specs.declared.Slot.{Slot}
use Rattle.device.specs.declared.Session.{Session}
use Rattle.model.specs.State.{State, with_session, session_bytes, slot_bytes, slots_bytes, read_state, write_state}
use Rattle.model.proofs.Bytes.{length-slots}
use Rattle.store.specs.Holds.{Holds, WellFormed, with_slot}
use Rattle.store.proofs.Records.{SlotFits, SessionFits, length-session, slots_beside, slots_set, slots_bytes_set}
use Rattle.store.proofs.Records.{session_stored, session_beside}

pub slots_held : {b : List ℕ} {s : State} → Holds b s → length s.slots ≡ 32
unfolding read_state
slots_held {b} h = ap (λ (s : State). length s.slots) (sym h.read) ∙ length-slots b 32 40

-- slot k is stored
pub hold_slot : (b : List ℕ) (s : State) (k : ℕ) (x : Slot) → Holds b s → SlotFits x → k < 32
    → Holds (sets b (40 + 40 * k) (slot_bytes x)) (with_slot k x s)
unfolding read_state write_state
hold_slot b s k x h z m = record {
  sized = length-sets b (40 + 40 * k) (slot_bytes x) ∙ h.sized;
  read = let n = h.sized in
      (λ i. record {
        session = session_beside b (40 + 40 * k) (slot_bytes x) (omega arith) i;
        slots = slots_set b x z 32 40 k m (omega arith) i;
      }) ∙ ap (with_slot k x) h.read;
  written = let n = slots_held h in
      let e : 40 + 40 * k ≡ length (session_bytes s.session) + 40 * k = omega (arith, length-session s.session) in
      ap (λ (l : List ℕ). sets l (40 + 40 * k) (slot_bytes x)) h.written
      ∙ ap (λ (i : ℕ). sets (session_bytes s.session ++ slots_bytes s.slots) i (slot_bytes x)) e
      ∙ sets_behind (session_bytes s.session) (slots_bytes s.slots) (40 * k) (slot_bytes x)
      ∙ ap (λ (l : List ℕ). session_bytes s.session ++ l) (slots_bytes_set s.slots k x (omega arith));
}

-- there is no slot k
pub hold_none : (b : List ℕ) (s : State) (k : ℕ) (x : Slot) → Holds b s → 32 ≤ k → Holds b (with_slot k x s)
hold_none b s k x h m = let n = slots_held h in rw (set_out s.slots k x (omega arith)) h

-- the session is stored
pub hold_session : (b : List ℕ) (s : State) (r : Session) → Holds b s → SessionFits r
    → Holds (sets b 0 (session_bytes r)) (with_session r s)
unfolding read_state write_state
hold_session b s r h z = record {
  sized = length-sets b 0 (session_bytes r) ∙ h.sized;
  read = let n = h.sized in
      (λ i. record {
        session = session_stored b r z (omega arith) i;
        slots = slots_beside b 0 (session_bytes r) 32 40 (inr (omega (arith, length-session r))) i;
      }) ∙ ap (with_session r) h.read;
  written =
      ap (λ (l : List ℕ). sets l 0 (session_bytes r)) h.written
      ∙ sets_front (session_bytes s.session) (slots_bytes s.slots) (session_bytes r)
      (length-session r ∙ sym (length-session s.session));
}

-- bytes that hold a state are well formed, and no other bytes hold it
pub held : {b : List ℕ} {s : State} → Holds b s → WellFormed b
held {b} {s} h = record { sized = h.sized; read = refl; written = h.written ∙ ap write_state (sym h.read) }

pub held_once : {b c : List ℕ} {s : State} → Holds b s → Holds c s → b ≡ c
held_once h k = h.written ∙ sym k.written
