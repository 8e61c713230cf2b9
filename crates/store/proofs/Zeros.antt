-- Valid bytes are well formed: a record whose other bytes are zero is the record of what it says. Assumes nothing.
use mathlib.Core.Path.{◌≡◌, refl, sym, ap, ◌∙◌}
use mathlib.Core.Bool.{true}
use mathlib.Core.List.{List, ◌∷◌, ◌++◌}
use Prim.Native.Nat.{ℕ, zero, suc, ◌+◌, ◌<◌}
use native.Mathlib.Omega.{arith}
use lib.ListN.{length, get_or, length-append}
use lib.Seq.{sets, set-get_or}
use lib.Dec.{eqb}
use borrow.Author.Tests.{eqb-true}
use Rattle.words.specs.Numbers.{le_at, bytes_of}
use Rattle.words.proofs.Stores.{sets_field, sets_whole}
use Rattle.device.specs.Device.{slot_count}
use Rattle.model.specs.Policy.{Fixed}
use Rattle.model.specs.State.{record_size, state_size, session_at, session_zeros, session_bytes, slot_at, slot_zeros, slot_bytes}
use Rattle.model.specs.State.{slots_from, slots_bytes, read_state, write_state}
use Rattle.model.specs.Valid.{valid, slots_zeros, zero_bytes, state_valid}
use Rattle.model.proofs.Tests.{both, all_three}
use Rattle.model.proofs.Bytes.{length-slots}
use Rattle.store.specs.Holds.{WellFormed}
use Rattle.store.proofs.Records.{length-session, length-slots_bytes}

module _ (b : List ℕ) (bytes : (k : ℕ) → get_or b k 0 < 256) where
  -- the bytes of a number that is read are there already; so are those of a number that is 0
  field : (a w o : ℕ) (us : List ℕ) → sets b (a + o) (bytes_of w (le_at w b (a + o)) ++ us) ≡ sets b (a + (o + w)) us
  field a w o us = sets_field w b (a + o) us bytes ∙ ap (λ (n : ℕ). sets b n us) (omega arith)

  zeros : (a w o : ℕ) (us : List ℕ) → eqb (le_at w b (a + o)) 0 ≡ true
      → sets b (a + o) (bytes_of w 0 ++ us) ≡ sets b (a + (o + w)) us
  zeros a w o us h =
      ap (λ (y : ℕ). sets b (a + o) (bytes_of w y ++ us)) (sym (eqb-true (le_at w b (a + o)) 0 h)) ∙ field a w o us

  slot_kept : (a : ℕ) (vs : List ℕ) → slot_zeros b a ≡ true → sets b a (slot_bytes (slot_at b a) ++ vs) ≡ sets b (a + 40) vs
  unfolding slot_at slot_bytes slot_zeros bytes_of
  slot_kept a vs h =
      let r32 = bytes_of 8 (le_at 8 b (a + 32)) ++ vs in
      let r24 = bytes_of 8 (le_at 8 b (a + 24)) ++ r32 in
      let r16 = bytes_of 8 (le_at 8 b (a + 16)) ++ r24 in
      let r8 = bytes_of 8 (le_at 8 b (a + 8)) ++ r16 in
      let r3 = bytes_of 5 0 ++ r8 in
      sets_field 2 b a (get_or b (a + 2) 0 ∷ r3) bytes
      ∙ ap (λ (l : List ℕ). sets l (suc (a + 2)) r3) (set-get_or b (a + 2) 0) ∙ ap (λ (n : ℕ). sets b n r3) (omega arith)
      ∙ zeros a 5 3 r8 h ∙ field a 8 8 r16 ∙ field a 8 16 r24 ∙ field a 8 24 r32 ∙ field a 8 32 vs

  slots_kept : (n a : ℕ) → slots_zeros b n a ≡ true → sets b a (slots_bytes (slots_from b n a)) ≡ b
  unfolding slots_from slots_bytes slots_zeros
  slots_kept zero a h = refl
  slots_kept (suc n) a h =
      let (z, more) = both (slot_zeros b a) (slots_zeros b n (a + record_size)) h in
      slot_kept a (slots_bytes (slots_from b n (a + record_size))) z ∙ slots_kept n (a + record_size) more

  session_kept : (vs : List ℕ) → session_zeros b ≡ true → sets b 0 (session_bytes (session_at b) ++ vs) ≡ sets b 40 vs
  unfolding session_at session_bytes session_zeros bytes_of
  session_kept vs h =
      let (low, high) = both (eqb (le_at 6 b 2) 0) (eqb (le_at 16 b 24) 0) h in
      let r24 = bytes_of 16 0 ++ vs in
      let r16 = bytes_of 8 (le_at 8 b 16) ++ r24 in
      let r8 = bytes_of 8 (le_at 8 b 8) ++ r16 in
      field 0 2 0 (bytes_of 6 0 ++ r8) ∙ zeros 0 6 2 r8 low ∙ field 0 8 8 r16 ∙ field 0 8 16 r24 ∙ zeros 0 16 24 vs high

  pub well_formed : (f : Fixed) → state_valid f b ≡ true → WellFormed b
  unfolding state_valid zero_bytes read_state write_state
  well_formed f h =
      let (size, zeros, _) = all_three (eqb (length b) state_size) (zero_bytes b) (valid f (read_state b)) h in
      let (slots, session) = both (slots_zeros b slot_count record_size) (session_zeros b) zeros in
      let n = eqb-true (length b) state_size size in
      let l = slots_from b slot_count record_size in
      let e : length (session_bytes (session_at b) ++ slots_bytes l) ≡ length b =
      simp (length-append, length-session (session_at b), length-slots_bytes l, length-slots b slot_count record_size, n) in
      record {
        sized = n;
        read = refl;
        written = sym (session_kept (slots_bytes l) session ∙ slots_kept slot_count record_size slots) ∙ sets_whole b _ e;
      }
