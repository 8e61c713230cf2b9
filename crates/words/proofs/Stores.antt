-- Stores: a run of bytes `vs` stored into a list from place i on is `sets l i vs`. Assumes nothing.
use mathlib.Core.Path.{◌≡◌, refl, ◌∙◌}
use mathlib.Core.Logic.{◌⊎◌, inl, inr, ⊎_elim}
use mathlib.Core.List.{List, [], ◌∷◌, ◌++◌, append-nil}
use Prim.Native.Nat.{ℕ, zero, suc, ◌+◌, ◌/◌, ◌%◌, ◌^◌, ◌≤◌, ◌<◌}
use native.Mathlib.Nat.{zero-add, add-zero, suc-add, pow-zero, pow-succ', div-one, div-div-eq-div-mul, mod-eq_of_lt}
use native.Mathlib.Numerals.{add-one}
use native.Mathlib.Omega.{arith}
use lib.ListN.{length, get_or, set, length-set, length-append}
use lib.Seq.{sets, sets-eq, set-get_or, drop-append_seam, get_or-set_same, get_or-set_other}
use Rattle.std.proofs.lemmas.List.{drop-drop, append_assoc}
use borrow.Rule.Slice.PartMut.{put_mid}
use Rattle.words.specs.Numbers.{le_at, bytes_of}
use Rattle.words.proofs.Numbers.{low, rest, le_at_same, length-bytes_of, bytes_hold, from_bytes, to_bytes}

-- consecutive stores are one
pub sets_then : (l : List ℕ) (i : ℕ) (vs ws : List ℕ) → sets (sets l i vs) (i + length vs) ws ≡ sets l i (vs ++ ws)
sets_then l i [] ws = rw add-zero
sets_then l i (v ∷ vs) ws =
    let e : i + suc (length vs) ≡ suc i + length vs = omega arith in
    rw e (sets_then (set l i v) (suc i) vs ws)

-- m has the stores vs, and n those of ws behind them
pub sets_next : {m n : List ℕ} (l : List ℕ) (i : ℕ) (vs ws : List ℕ) → m ≡ sets l i vs → n ≡ sets m (i + length vs) ws
    → n ≡ sets l i (vs ++ ws)
sets_next l i vs ws p q = q ∙ rw p (sets_then l i vs ws)

-- the store of one byte
pub sets_byte : (l : List ℕ) (i : ℕ) {x : ℕ} → x < 256 → sets l i (bytes_of 1 x) ≡ set l i x
unfolding bytes_of
sets_byte l i h = rw (mod-eq_of_lt h)

-- a part that is replaced is stored
pub sets_part : (l : List ℕ) (i k : ℕ) (vs : List ℕ) → length vs ≡ k → i + k ≤ length l → put_mid i k l vs ≡ sets l i vs
sets_part l i k vs e h =
    let b : i + length vs ≤ length l = omega arith in
    rw (sets-eq vs l i, drop-drop, e, append_assoc)

-- the stores of the low a bytes of a number and of its high b bytes are the stores of all
pub sets_bytes : (a b : ℕ) (l : List ℕ) (i x : ℕ)
    → sets (sets l i (bytes_of a (x % 256 ^ a))) (i + a) (bytes_of b (x / 256 ^ a)) ≡ sets l i (bytes_of (a + b) x)
unfolding bytes_of
sets_bytes zero b l i x = simp (zero-add, add-zero, pow-zero, div-one)
sets_bytes (suc a) b l i x =
    let y = bytes_hold a x in
    let low : x % 256 ^ suc a % 256 ≡ x % 256 = omega arith in
    let rest : x % 256 ^ suc a / 256 ≡ x / 256 % 256 ^ a = omega arith in
    let high : x / 256 ^ suc a ≡ x / 256 / 256 ^ a = rw (pow-succ', ← div-div-eq-div-mul) in
    let e : i + suc a ≡ suc i + a = omega arith in
    rw (suc-add, low, rest, high, e) (sets_bytes a b (set l i (x % 256)) (suc i) (x / 256))

-- stores that cover the first of two lists replace it
pub sets_front : (p q vs : List ℕ) → length vs ≡ length p → sets (p ++ q) 0 vs ≡ vs ++ q
sets_front p q vs e =
    let h : 0 + length vs ≤ length (p ++ q) = rw length-append (omega arith) in
    rw (sets-eq vs (p ++ q) 0, zero-add, e, drop-append_seam)

-- stores that cover a list replace it
pub sets_whole : (l vs : List ℕ) → length vs ≡ length l → sets l 0 vs ≡ vs
sets_whole l vs e = simp append-nil at (sets_front l [] vs e)

-- stores behind the first of a list, and behind the first of two lists
sets_cons : (x : ℕ) (l : List ℕ) (i : ℕ) (vs : List ℕ) → sets (x ∷ l) (suc i) vs ≡ x ∷ sets l i vs
sets_cons x l i [] = refl
sets_cons x l i (v ∷ vs) = sets_cons x (set l i v) (suc i) vs

pub sets_behind : (p q : List ℕ) (i : ℕ) (vs : List ℕ) → sets (p ++ q) (length p + i) vs ≡ p ++ sets q i vs
sets_behind [] q i vs = rw zero-add
sets_behind (x ∷ p) q i vs = rw (suc-add, sets_cons, sets_behind p q i vs)

-- what is read and written back is there already
pub sets_read : (w : ℕ) (l : List ℕ) (i : ℕ) → ((k : ℕ) → get_or l k 0 < 256) → sets l i (bytes_of w (le_at w l i)) ≡ l
unfolding le_at bytes_of
sets_read zero l i h = refl
sets_read (suc w) l i h =
    rw (low (le_at w l (i + 1)) (h i), rest (le_at w l (i + 1)) (h i), set-get_or, add-one) (sets_read w l (suc i) h)

-- the same, with more stores behind it
pub sets_field : (w : ℕ) (l : List ℕ) (i : ℕ) (vs : List ℕ) → ((k : ℕ) → get_or l k 0 < 256)
    → sets l i (bytes_of w (le_at w l i) ++ vs) ≡ sets l (i + w) vs
sets_field w l i vs h = rw (← sets_then, length-bytes_of, sets_read w l i h)

pub get_or-sets_other : (l : List ℕ) (i : ℕ) (vs : List ℕ) (k : ℕ) → (k < i) ⊎ (i + length vs ≤ k)
    → get_or (sets l i vs) k 0 ≡ get_or l k 0
get_or-sets_other l i [] k h = refl
get_or-sets_other l i (v ∷ vs) k h =
    get_or-sets_other (set l i v) (suc i) vs k (⊎_elim (λ b. inl (omega arith)) (λ b. inr (omega arith)) h)
    ∙ get_or-set_other l i k v 0 (⊎_elim (λ b. omega arith) (λ b. omega arith) h)

pub get_or-sets_in : (l : List ℕ) (i : ℕ) (vs : List ℕ) (k : ℕ) → i + length vs ≤ length l → k < length vs
    → get_or (sets l i vs) (i + k) 0 ≡ get_or vs k 0
get_or-sets_in l i [] k h b = absurd (omega arith)
get_or-sets_in l i (v ∷ vs) zero h b =
    get_or-sets_other (set l i v) (suc i) vs (i + 0) (inl (omega arith)) ∙ rw add-zero (get_or-set_same l i v 0 (omega arith))
get_or-sets_in l i (v ∷ vs) (suc k) h b =
    let e : i + suc k ≡ suc i + k = omega arith in
    rw e (get_or-sets_in (set l i v) (suc i) vs k (rw length-set (omega arith)) (omega arith))

-- a number inside the stores
pub le_at_in : (w : ℕ) (l : List ℕ) (i : ℕ) (vs : List ℕ) (k : ℕ) → i + length vs ≤ length l → k + w ≤ length vs
    → le_at w (sets l i vs) (i + k) ≡ le_at w vs k
le_at_in w l i vs k h b =
    le_at_same w (sets l i vs) vs (i + k) k
    (λ j m. let e : i + k + j ≡ i + (k + j) = omega arith in rw e (get_or-sets_in l i vs (k + j) h (omega arith)))

-- a number beside the stores is as it was
pub le_at_beside : (w : ℕ) (l : List ℕ) (i : ℕ) (vs : List ℕ) (k : ℕ) → (k + w ≤ i) ⊎ (i + length vs ≤ k)
    → le_at w (sets l i vs) k ≡ le_at w l k
le_at_beside w l i vs k h =
    le_at_same w (sets l i vs) l k k
    (λ j m. get_or-sets_other l i vs (k + j) (⊎_elim (λ b. inl (omega arith)) (λ b. inr (omega arith)) h))

-- what the load and the store of a number go by
pub ruleset word_laws = (from_bytes, to_bytes, sets_byte, sets_part)
