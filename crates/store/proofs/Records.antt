-- A record that is stored is read back, and leaves every other as it was. Assumes nothing.
use mathlib.Core.Path.{◌≡◌, refl, sym, ap, ap₂, subst, ◌∙◌}
use mathlib.Core.Logic.{◌⊎◌, inl, inr, ⊎_elim}
use mathlib.Core.List.{List, [], ◌∷◌, ◌++◌}
use Prim.Native.Nat.{ℕ, zero, suc, ◌+◌, ◌*◌, ◌^◌, ◌≤◌, ◌<◌}
use native.Mathlib.Nat.{add-zero, mod-eq_of_lt}
use native.Mathlib.Omega.{arith}
use lib.ListN.{length, get_or, get_or-eq_default, set, length-append}
use lib.Seq.{sets}
use Rattle.words.specs.Numbers.{le_at, bytes_of}
use Rattle.words.proofs.Numbers.{le_at-bytes}
use Rattle.words.proofs.Stores.{sets_front, sets_behind, get_or-sets_in, get_or-sets_other, le_at_in, le_at_beside}
use Rattle.device.specs.declared.Slot.{Slot}
use Rattle.device.specs.declared.Session.{Session}
use Rattle.model.specs.State.{session_at, session_bytes, slot_at, slot_bytes, slots_from, slots_bytes}
use Rattle.model.proofs.Bytes.{length-slots}

-- ---- a slot

pub length_slot : (x : Slot) → length (slot_bytes x) ≡ 40
unfolding slot_bytes bytes_of
length_slot x = refl

-- the numbers fit their places
pub record SlotFits (x : Slot) : Type 0 where
  pub suite : x.suite.0 < 256 ^ 2
  pub required : x.descriptor.required < 256 ^ 8
  pub optional : x.descriptor.optional < 256 ^ 8
  pub granted : x.decisions.granted < 256 ^ 8
  pub revoked : x.decisions.revoked < 256 ^ 8

slot_back : (x : Slot) → SlotFits x → slot_at (slot_bytes x) 0 ≡ x
unfolding slot_at slot_bytes bytes_of
slot_back x z =
    let q = x.descriptor.required in
    let o = x.descriptor.optional in
    let g = x.decisions.granted in
    let v = x.decisions.revoked in
    let t24 = bytes_of 8 g ++ bytes_of 8 v in
    let t16 = bytes_of 8 o ++ t24 in
    let t2 = x.domain.0 ∷ (bytes_of 5 0 ++ (bytes_of 8 q ++ t16)) in
    let p8 = bytes_of 2 x.suite.0 ++ (x.domain.0 ∷ bytes_of 5 0) in
    let p16 = p8 ++ bytes_of 8 q in
    let p24 = p16 ++ bytes_of 8 o in
    let p32 = p24 ++ bytes_of 8 g in
    λ k. record {
      suite = record { 0 = (le_at-bytes 2 [] t2 x.suite.0 ∙ mod-eq_of_lt z.suite) k };
      domain = x.domain;
      descriptor = record {
        required = (le_at-bytes 8 p8 t16 q ∙ mod-eq_of_lt z.required) k;
        optional = (le_at-bytes 8 p16 t24 o ∙ mod-eq_of_lt z.optional) k;
      };
      decisions = record {
        granted = (le_at-bytes 8 p24 (bytes_of 8 v) g ∙ mod-eq_of_lt z.granted) k;
        revoked = (le_at-bytes 8 p32 [] v ∙ mod-eq_of_lt z.revoked) k;
      };
    }

-- a slot where the stores went, and beside them
slot_in : (l : List ℕ) (a : ℕ) (vs : List ℕ) → length vs ≡ 40 → a + 40 ≤ length l → slot_at (sets l a vs) a ≡ slot_at vs 0
unfolding slot_at
slot_in l a vs e h =
    let b : a + length vs ≤ length l = omega arith in
    let at : (w o : ℕ) → o + w ≤ 40 → le_at w (sets l a vs) (a + o) ≡ le_at w vs o = λ w o m. le_at_in w l a vs o b (omega arith) in
    λ k. record {
      suite = record { 0 = (ap (le_at 2 (sets l a vs)) (sym (add-zero a)) ∙ at 2 0 (omega arith)) k };
      domain = record { 0 = get_or-sets_in l a vs 2 b (omega arith) k };
      descriptor = record { required = at 8 8 (omega arith) k; optional = at 8 16 (omega arith) k };
      decisions = record { granted = at 8 24 (omega arith) k; revoked = at 8 32 (omega arith) k };
    }

slot_beside : (l : List ℕ) (a : ℕ) (vs : List ℕ) (b : ℕ) → (b + 40 ≤ a) ⊎ (a + length vs ≤ b)
    → slot_at (sets l a vs) b ≡ slot_at l b
unfolding slot_at
slot_beside l a vs b h =
    let at : (w o : ℕ) → o + w ≤ 40 → le_at w (sets l a vs) (b + o) ≡ le_at w l (b + o) =
    λ w o m. le_at_beside w l a vs (b + o) (⊎_elim (λ p. inl (omega arith)) (λ p. inr (omega arith)) h) in
    λ k. record {
      suite = record { 0 = le_at_beside 2 l a vs b (⊎_elim (λ p. inl (omega arith)) (λ p. inr (omega arith)) h) k };
      domain = record { 0 = get_or-sets_other l a vs (b + 2) (⊎_elim (λ p. inl (omega arith)) (λ p. inr (omega arith)) h) k };
      descriptor = record { required = at 8 8 (omega arith) k; optional = at 8 16 (omega arith) k };
      decisions = record { granted = at 8 24 (omega arith) k; revoked = at 8 32 (omega arith) k };
    }

pub slot_stored : (l : List ℕ) (a : ℕ) (x : Slot) → SlotFits x → a + 40 ≤ length l → slot_at (sets l a (slot_bytes x)) a ≡ x
slot_stored l a x z h = slot_in l a (slot_bytes x) (length_slot x) h ∙ slot_back x z

-- ---- the slots

pub slots_get : (b : List ℕ) (d : Slot) (n a k : ℕ) → k < n → get_or (slots_from b n a) k d ≡ slot_at b (a + 40 * k)
unfolding slots_from
slots_get b d zero a k h = absurd (omega arith)
slots_get b d (suc n) a zero h = ap (slot_at b) (omega arith)
slots_get b d (suc n) a (suc k) h = slots_get b d n (a + 40) k (omega arith) ∙ ap (slot_at b) (omega arith)

pub slots_none : (b : List ℕ) (d : Slot) (n a k : ℕ) → n ≤ k → get_or (slots_from b n a) k d ≡ d
slots_none b d n a k h = get_or-eq_default (slots_from b n a) d (omega (arith, length-slots b n a))

pub ruleset slot_reads = (slots_get, slots_none)

-- stores that lie before the slots, or behind them
pub slots_beside : (l : List ℕ) (a : ℕ) (vs : List ℕ) (n b : ℕ) → (b + 40 * n ≤ a) ⊎ (a + length vs ≤ b)
    → slots_from (sets l a vs) n b ≡ slots_from l n b
unfolding slots_from
slots_beside l a vs zero b h = refl
slots_beside l a vs (suc n) b h =
    ap₂ ◌∷◌
    (slot_beside l a vs b (⊎_elim (λ p. inl (omega arith)) (λ p. inr (omega arith)) h))
    (slots_beside l a vs n (b + 40) (⊎_elim (λ p. inl (omega arith)) (λ p. inr (omega arith)) h))

-- slot k stored: the list with k replaced
pub slots_set : (l : List ℕ) (x : Slot) → SlotFits x → (n a k : ℕ) → k < n → a + 40 * n ≤ length l
    → slots_from (sets l (a + 40 * k) (slot_bytes x)) n a ≡ set (slots_from l n a) k x
unfolding slots_from
slots_set l x z zero a k h m = absurd (omega arith)
slots_set l x z (suc n) a zero h m =
    let e : a ≡ a + 40 * 0 = omega arith in
    subst (λ (q : ℕ). slots_from (sets l q (slot_bytes x)) (suc n) a ≡ set (slots_from l (suc n) a) 0 x) e
    (ap₂ ◌∷◌ (slot_stored l a x z (omega arith)) (slots_beside l a (slot_bytes x) n (a + 40) (inr (omega (arith, length_slot x)))))
slots_set l x z (suc n) a (suc k) h m =
    let e : a + 40 + 40 * k ≡ a + 40 * suc k = omega arith in
    subst (λ (q : ℕ). slots_from (sets l q (slot_bytes x)) (suc n) a ≡ set (slots_from l (suc n) a) (suc k) x) e
    (ap₂ ◌∷◌ (slot_beside l (a + 40 + 40 * k) (slot_bytes x) a (inl (omega arith)))
    (slots_set l x z n (a + 40) k (omega arith) (omega arith)))

pub length-slots_bytes : (l : List Slot) → length (slots_bytes l) ≡ 40 * length l
unfolding slots_bytes
length-slots_bytes [] = refl
length-slots_bytes (x ∷ xs) = rw (length-append, length_slot x, length-slots_bytes xs) (omega arith)

pub slots_bytes_set : (l : List Slot) (k : ℕ) (x : Slot) → k < length l
    → sets (slots_bytes l) (40 * k) (slot_bytes x) ≡ slots_bytes (set l k x)
unfolding slots_bytes
slots_bytes_set [] k x h = absurd (omega arith)
slots_bytes_set (y ∷ l) zero x h = sets_front (slot_bytes y) (slots_bytes l) (slot_bytes x) (length_slot x ∙ sym (length_slot y))
slots_bytes_set (y ∷ l) (suc k) x h =
    let e : 40 * suc k ≡ length (slot_bytes y) + 40 * k = omega (arith, length_slot y) in
    rw e (sets_behind (slot_bytes y) (slots_bytes l) (40 * k) (slot_bytes x)
    ∙ ap (λ (t : List ℕ). slot_bytes y ++ t) (slots_bytes_set l k x (omega arith)))

-- ---- the session

pub length-session : (r : Session) → length (session_bytes r) ≡ 40
unfolding session_bytes bytes_of
length-session r = refl

pub record SessionFits (r : Session) : Type 0 where
  pub suite : r.suite.0 < 256 ^ 2
  pub granted : r.decisions.granted < 256 ^ 8
  pub revoked : r.decisions.revoked < 256 ^ 8

session_back : (r : Session) → SessionFits r → session_at (session_bytes r) ≡ r
unfolding session_at session_bytes bytes_of
session_back r z =
    let g = r.decisions.granted in
    let v = r.decisions.revoked in
    let t16 = bytes_of 8 v ++ bytes_of 16 0 in
    let p8 = bytes_of 2 r.suite.0 ++ bytes_of 6 0 in
    let p16 = p8 ++ bytes_of 8 g in
    λ k. record {
      suite = record { 0 = (le_at-bytes 2 [] (bytes_of 6 0 ++ (bytes_of 8 g ++ t16)) r.suite.0 ∙ mod-eq_of_lt z.suite) k };
      decisions = record {
        granted = (le_at-bytes 8 p8 t16 g ∙ mod-eq_of_lt z.granted) k;
        revoked = (le_at-bytes 8 p16 (bytes_of 16 0) v ∙ mod-eq_of_lt z.revoked) k;
      };
    }

session_in : (l vs : List ℕ) → length vs ≡ 40 → 40 ≤ length l → session_at (sets l 0 vs) ≡ session_at vs
unfolding session_at
session_in l vs e h =
    let b : 0 + length vs ≤ length l = omega arith in
    λ k. record {
      suite = record { 0 = le_at_in 2 l 0 vs 0 b (omega arith) k };
      decisions = record { granted = le_at_in 8 l 0 vs 8 b (omega arith) k; revoked = le_at_in 8 l 0 vs 16 b (omega arith) k };
    }

pub session_stored : (l : List ℕ) (r : Session) → SessionFits r → 40 ≤ length l → session_at (sets l 0 (session_bytes r)) ≡ r
session_stored l r z h = session_in l (session_bytes r) (length-session r) h ∙ session_back r z

pub session_beside : (l : List ℕ) (a : ℕ) (vs : List ℕ) → 40 ≤ a → session_at (sets l a vs) ≡ session_at l
unfolding session_at
session_beside l a vs h = λ k. record {
  suite = record { 0 = le_at_beside 2 l a vs 0 (inl (omega arith)) k };
  decisions = record {
    granted = le_at_beside 8 l a vs 8 (inl (omega arith)) k;
    revoked = le_at_beside 8 l a vs 16 (inl (omega arith)) k;
  };
}
