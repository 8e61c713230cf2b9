-- The bytes of a valid state are valid, and hold it. Assumes nothing.
use mathlib.Core.Path.{◌≡◌, refl, sym, ap, ap₂, ◌∙◌}
use mathlib.Core.Bool.{Bool, true, false, cond}
use mathlib.Core.List.{List, [], ◌∷◌, ◌++◌, append_assoc}
use Prim.Native.Nat.{ℕ, ◌+◌, ◌^◌, ◌<◌}
use native.Mathlib.Nat.{add-zero, zero-mod}
use native.Mathlib.Omega.{arith}
use lib.ListN.{length, length-append}
use lib.Seq.{sets}
use lib.Dec.{eqb, ltb}
use borrow.Author.Tests.{eqb-true, ltb-true, eq-eqb}
use Rattle.words.specs.Numbers.{le_at, bytes_of}
use Rattle.words.proofs.Numbers.{le_at-bytes}
use Rattle.words.proofs.Stores.{sets_behind, sets_front}
use Rattle.device.specs.declared.Suite.{Suite}
use Rattle.device.specs.declared.Slot.{Slot}
use Rattle.device.specs.declared.Session.{Session}
use Rattle.device.specs.Device.{is_suite, is_domain, is_set, no_suite, same_suite, slot_count}
use Rattle.model.specs.Policy.{Fixed}
use Rattle.model.specs.State.{State, carries, find, state_size, session_at, session_zeros, session_bytes, slot_at, slot_zeros, slot_bytes}
use Rattle.model.specs.State.{slots_from, slots_bytes, read_state, write_state}
use Rattle.model.specs.Valid.{clear, blank, installable, slot_sound, slot_decided, slots_valid, session_sound}
use Rattle.model.specs.Valid.{session_decided, session_valid, valid, slots_zeros, zero_bytes, state_valid}
use Rattle.model.proofs.Tests.{both, all_three}
use Rattle.model.proofs.ValidSlots.{taken_apart, find_sound}
use Rattle.model.proofs.Slots.{find_suite}
use Rattle.store.specs.Holds.{Holds}
use Rattle.store.proofs.Records.{SlotFits, SessionFits, length_slot, slot_stored, length-slots_bytes, length-session}
use Rattle.store.proofs.Records.{session_stored}

-- ---- a record between other bytes

stored_there : (p vs q : List ℕ) → sets (p ++ (vs ++ q)) (length p) vs ≡ p ++ (vs ++ q)
stored_there p vs q =
    ap (λ n. sets (p ++ (vs ++ q)) n vs) (sym (add-zero (length p)))
    ∙ sets_behind p (vs ++ q) 0 vs ∙ ap (λ l. p ++ l) (sets_front vs q vs refl)

slot_there : (p : List ℕ) (x : Slot) (q : List ℕ) → SlotFits x → slot_at (p ++ (slot_bytes x ++ q)) (length p) ≡ x
slot_there p x q z =
    ap (λ l. slot_at l (length p)) (sym (stored_there p (slot_bytes x) q))
    ∙ slot_stored (p ++ (slot_bytes x ++ q)) (length p) x z (rw (length-append, length-append, length_slot x) (omega arith))

zeros_there : (w : ℕ) (p q : List ℕ) (a : ℕ) → length p ≡ a → eqb (le_at w (p ++ (bytes_of w 0 ++ q)) a) 0 ≡ true
zeros_there w p q a e = rw (← e, le_at-bytes w p q 0, zero-mod)

slot_zeros_there : (p : List ℕ) (x : Slot) (q : List ℕ) → slot_zeros (p ++ (slot_bytes x ++ q)) (length p) ≡ true
unfolding slot_zeros slot_bytes bytes_of
slot_zeros_there p x q =
    let head = bytes_of 2 x.suite.0 ++ (x.domain.0 ∷ []) in
    let rest = bytes_of 8 x.descriptor.required ++ (bytes_of 8 x.descriptor.optional
    ++ (bytes_of 8 x.decisions.granted ++ (bytes_of 8 x.decisions.revoked ++ q))) in
    ap (λ l. eqb (le_at 5 l (length p + 3)) 0) (sym (append_assoc p head (bytes_of 5 0 ++ rest)))
    ∙ zeros_there 5 (p ++ head) rest (length p + 3) (length-append p head)

session_there : (r : Session) (q : List ℕ) → SessionFits r → session_at (session_bytes r ++ q) ≡ r
session_there r q z =
    ap session_at (sym (sets_front (session_bytes r) q (session_bytes r) refl))
    ∙ session_stored (session_bytes r ++ q) r z (rw (length-append, length-session r) (omega arith))

session_zeros_there : (r : Session) (q : List ℕ) → session_zeros (session_bytes r ++ q) ≡ true
unfolding session_zeros session_bytes bytes_of
session_zeros_there r q =
    let suite = bytes_of 2 r.suite.0 in
    let decisions = bytes_of 8 r.decisions.granted ++ bytes_of 8 r.decisions.revoked in
    rw (
      zeros_there 6 suite (decisions ++ (bytes_of 16 0 ++ q)) 2 refl,
      zeros_there 16 (suite ++ (bytes_of 6 0 ++ decisions)) q 24 refl,
    )

-- ---- the numbers of a valid state fit their places

suite_fits : (f : Fixed) (x : Slot) → slot_sound f x ≡ true → x.suite.0 < 256 ^ 2
unfolding slot_sound installable
suite_fits f x h = go (same_suite x.suite no_suite) refl h
  where
    go : (b : Bool) → same_suite x.suite no_suite ≡ b → cond b (blank x) (installable f x) ≡ true → x.suite.0 < 256 ^ 2
    go true e h = omega (arith, eqb-true x.suite.0 0 e)
    go false e h = ltb-true _ _ (both (ltb 0 x.suite.0) (ltb x.suite.0 65536) (both (is_suite x.suite) _ h).0).1

slot_fits : (f : Fixed) (x : Slot) → slot_sound f x ≡ true → slot_decided f x ≡ true → SlotFits x
unfolding slot_sound installable slot_decided
slot_fits f x sound decided = go (same_suite x.suite no_suite) sound
  where
    sets_fit : (x.decisions.granted < 256 ^ 8) × (x.decisions.revoked < 256 ^ 8)
    sets_fit =
        let (g, v, _) = all_three (is_set x.decisions.granted) (is_set x.decisions.revoked) _ decided in
        (ltb-true _ _ g, ltb-true _ _ v)

    go : (b : Bool) → cond b (blank x) (installable f x) ≡ true → SlotFits x
    go true h =
        let (_, q, o) = all_three (eqb x.domain.0 0) (eqb x.descriptor.required 0) _ h in
        record {
          suite = suite_fits f x sound;
          required = omega (arith, eqb-true x.descriptor.required 0 q);
          optional = omega (arith, eqb-true x.descriptor.optional 0 (both (eqb x.descriptor.optional 0) _ o).0);
          granted = sets_fit.0;
          revoked = sets_fit.1;
        }
    go false h =
        let (_, _, t) = all_three (is_suite x.suite) (is_domain x.domain) _ h in
        let (q, o, _) = all_three (is_set x.descriptor.required) (is_set x.descriptor.optional) _ t in
        record {
          suite = suite_fits f x sound;
          required = ltb-true _ _ q;
          optional = ltb-true _ _ o;
          granted = sets_fit.0;
          revoked = sets_fit.1;
        }

session_fits : (f : Fixed) (s : State) → slots_valid f [] s.slots ≡ true → session_valid f s ≡ true → SessionFits s.session
unfolding session_valid session_sound session_decided
session_fits f s slots h =
    let (sound, decided) = both (session_sound s) _ h in
    let (g, v, _) = all_three (is_set s.session.decisions.granted) (is_set s.session.decisions.revoked) _ decided in
    record { suite = go (same_suite i no_suite) refl sound; granted = ltb-true _ _ g; revoked = ltb-true _ _ v }
  where
    i : Suite
    i = s.session.suite

    go : (b : Bool) → same_suite i no_suite ≡ b → cond b (clear s.session.decisions) (carries i s.slots) ≡ true → i.0 < 256 ^ 2
    go true e h = omega (arith, eqb-true i.0 0 e)
    go false e h =
        rw (find_suite i s.slots h) at (suite_fits f (find i s.slots) (find_sound f i [] s.slots slots))

-- ---- the state

slots_written : (f : Fixed) (lower : List Suite) (p : List ℕ) (xs : List Slot) → slots_valid f lower xs ≡ true
    → (slots_zeros (p ++ slots_bytes xs) (length xs) (length p) ≡ true)
    × (slots_from (p ++ slots_bytes xs) (length xs) (length p) ≡ xs)
unfolding slots_zeros slots_from slots_bytes
slots_written f lower p [] h = (refl, refl)
slots_written f lower p (x ∷ xs) h =
    let k = taken_apart f lower x xs h in
    let q = slots_bytes xs in
    let n : length (p ++ slot_bytes x) ≡ length p + 40 = rw (length-append, length_slot x) in
    let (zeros, read) = rw (append_assoc p (slot_bytes x) q, n) at (slots_written f (x.suite ∷ lower)
    (p ++ slot_bytes x) xs k.more) in
    (rw (slot_zeros_there p x q) zeros, ap₂ ◌∷◌ (slot_there p x q (slot_fits f x k.sound k.decided)) read)

module _ (f : Fixed) (s : State) (h : valid f s ≡ true) where
  record Parts : Type 0 where
    sized : length (write_state s) ≡ state_size
    zeros : zero_bytes (write_state s) ≡ true
    read : read_state (write_state s) ≡ s

  parts : Parts
  unfolding valid read_state write_state zero_bytes
  parts =
      let (count, slots, session) = all_three (eqb (length s.slots) slot_count) (slots_valid f [] s.slots) _ h in
      let n = eqb-true (length s.slots) slot_count count in
      let b = session_bytes s.session in
      let (zeros, read) = rw (n, length-session s.session) at (slots_written f [] b s.slots slots) in
      record {
        sized = rw (length-append, length-session s.session, length-slots_bytes s.slots, n);
        zeros = rw (zeros, session_zeros_there s.session (slots_bytes s.slots));
        read = λ i. record {
          session = session_there s.session (slots_bytes s.slots) (session_fits f s slots session) i;
          slots = read i;
        };
      }

  pub valid_holds : Holds (write_state s) s
  valid_holds = record { sized = parts.sized; read = parts.read; written = refl }

  -- the bytes of a valid state are valid
  pub valid_written : state_valid f (write_state s) ≡ true
  unfolding state_valid
  valid_written = rw (eq-eqb _ _ parts.sized, parts.zeros, parts.read, h)
