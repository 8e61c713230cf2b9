-- Numbers in bytes: the laws of `le_at` and `bytes_of`, each once for every width. Assumes nothing.
use mathlib.Core.Path.{◌≡◌, refl, sym, ap}
use mathlib.Core.Bool.{Bool, true, false, ◌&&◌, and_assoc}
use mathlib.Core.List.{List, [], ◌∷◌, ◌++◌}
use Prim.Native.Nat.{ℕ, zero, suc, ◌+◌, ◌*◌, ◌/◌, ◌-◌, ◌%◌, ◌^◌, ◌≤◌, ◌<◌}
use native.Mathlib.Nat.{zero-add, add-zero, suc-add, pow-zero, pow-suc, pow-succ', mul_assoc, mul_comm, one-mul, mod-one}
use native.Mathlib.Nat.{div-one, div-div-eq-div-mul, one-le-pow}
use native.Mathlib.Numerals.{add-one}
use native.Mathlib.Omega.{arith}
use lib.Arith.{mod-mul}
use lib.Dec.{eqb, lit<}
use borrow.Author.Tests.{eqb-true, eqb-false, eq-eqb, ne_eqb}
use lib.ListN.{length, get_or, take, drop, length-append}
use lib.Seq.{drop-cons, append_snoc, get_or-append_seam}
use Rattle.std.specs.Int.{sum_through, byte_worth, bytes_low_first}
use Rattle.words.specs.Numbers.{le_at, bytes_of}

-- a number of a + b bytes is its low a bytes and its high b bytes
pub le_at-add : (a b : ℕ) (s : List ℕ) (i : ℕ) → le_at (a + b) s i ≡ le_at a s i + 256 ^ a * le_at b s (i + a)
unfolding le_at
le_at-add zero b s i = simp (zero-add, add-zero, pow-zero, one-mul)
le_at-add (suc a) b s i =
    let e : i + 1 + a ≡ i + suc a = omega arith in
    let r = rw e at (le_at-add a b s (i + 1)) in
    rw (suc-add, pow-succ', mul_assoc) (omega arith)

-- a byte under a number: the lowest byte of both, and the rest
pub low : (n : ℕ) {b : ℕ} → b < 256 → (b + 256 * n) % 256 ≡ b
low n h = omega arith

pub rest : (n : ℕ) {b : ℕ} → b < 256 → (b + 256 * n) / 256 ≡ n
rest n h = omega arith

pub le_at_one : (s : List ℕ) (i : ℕ) → le_at 1 s i ≡ get_or s i 0
unfolding le_at
le_at_one s i = rw add-zero

-- w bytes make a number below 256 ^ w
pub le_at-lt : (w : ℕ) (s : List ℕ) (i : ℕ) → ((k : ℕ) → get_or s k 0 < 256) → le_at w s i < 256 ^ w
unfolding le_at
le_at-lt zero s i h = rw pow-zero (omega arith)
le_at-lt (suc w) s i h = rw pow-succ' (omega (arith, h i, le_at-lt w s (i + 1) h))

-- a number is what its bytes are: two lists that agree there have it in common
pub le_at_same : (w : ℕ) (s t : List ℕ) (i j : ℕ) → ((k : ℕ) → k < w → get_or s (i + k) 0 ≡ get_or t (j + k) 0)
    → le_at w s i ≡ le_at w t j
unfolding le_at
le_at_same zero s t i j h = refl
le_at_same (suc w) s t i j h =
    let next : (n k : ℕ) → n + 1 + k ≡ n + suc k = λ n k. omega arith in
    let a = simp add-zero at (h 0 (omega arith)) in
    omega (arith, le_at_same w s t (i + 1) (j + 1) (λ k l. rw (next i k, next j k) (h (suc k) (omega arith))))

-- where the number is 0 each byte is 0
pub le_at_zero : (w : ℕ) (s : List ℕ) (i : ℕ) → le_at w s i ≡ 0 → (k : ℕ) → k < w → get_or s (i + k) 0 ≡ 0
unfolding le_at
le_at_zero zero s i e k l = absurd (omega arith)
le_at_zero (suc w) s i e zero l = rw add-zero (omega arith)
le_at_zero (suc w) s i e (suc k) l =
    let n : i + suc k ≡ i + 1 + k = omega arith in
    rw n (le_at_zero w s (i + 1) (omega arith) k (omega arith))

-- a byte and the rest of a number are compared as one, with 0 and with another number
zero_split : (x n : ℕ) → eqb (x + 256 * n) 0 ≡ (eqb x 0 && eqb n 0)
zero_split x n = go (eqb x 0) (eqb n 0) refl refl
  where
    go : (s t : Bool) → eqb x 0 ≡ s → eqb n 0 ≡ t → eqb (x + 256 * n) 0 ≡ (s && t)
    go true true p q = eq-eqb (x + 256 * n) 0 (omega (arith, eqb-true x 0 p, eqb-true n 0 q))
    go true false p q = ne_eqb (x + 256 * n) 0 (λ e. eqb-false n 0 q (omega arith))
    go false t p q = ne_eqb (x + 256 * n) 0 (λ e. eqb-false x 0 p (omega arith))

pub eqb_split : (x b n : ℕ) → b < 256 → eqb x (b + 256 * n) ≡ (eqb (x % 256) b && eqb (x / 256) n)
eqb_split x b n h = go (eqb (x % 256) b) (eqb (x / 256) n) refl refl
  where
    go : (s t : Bool) → eqb (x % 256) b ≡ s → eqb (x / 256) n ≡ t → eqb x (b + 256 * n) ≡ (s && t)
    go true true p q = eq-eqb x (b + 256 * n) (omega (arith, eqb-true (x % 256) b p, eqb-true (x / 256) n q))
    go true false p q = ne_eqb x (b + 256 * n) (λ e. eqb-false (x / 256) n q (omega arith))
    go false t p q = ne_eqb x (b + 256 * n) (λ e. eqb-false (x % 256) b p (omega arith))

-- a number is 0 where its low a bytes and its high b bytes are
pub le_at_zeros : (a b : ℕ) (s : List ℕ) (i : ℕ) → eqb (le_at (a + b) s i) 0 ≡ (eqb (le_at a s i) 0 && eqb (le_at b s (i + a)) 0)
unfolding le_at
le_at_zeros zero b s i = rw (zero-add, add-zero)
le_at_zeros (suc a) b s i =
    let e : i + suc a ≡ i + 1 + a = omega arith in
    let x = get_or s i 0 in
    rw (suc-add, zero_split x (le_at (a + b) s (i + 1)), le_at_zeros a b s (i + 1), zero_split x (le_at a s (i + 1)), e, and_assoc)

pub length-bytes_of : (w x : ℕ) → length (bytes_of w x) ≡ w
unfolding bytes_of
length-bytes_of zero x = refl
length-bytes_of (suc w) x = ap suc (length-bytes_of w (x / 256))

-- what w + 1 bytes hold of x: its lowest byte, and what w bytes hold of the rest
pub bytes_hold : (w x : ℕ) → x % 256 ^ suc w ≡ x / 256 % 256 ^ w * 256 + x % 256
bytes_hold w x = rw pow-suc (mod-mul x (one-le-pow w 256 (lit< tt)) (lit< tt))

-- the number that was written is read back, as far as its bytes hold it
pub le_at-bytes : (w : ℕ) (p q : List ℕ) (x : ℕ) → le_at w (p ++ (bytes_of w x ++ q)) (length p) ≡ x % 256 ^ w
unfolding le_at bytes_of
le_at-bytes zero p q x = rw (pow-zero, mod-one)
le_at-bytes (suc w) p q x =
    let b = get_or-append_seam p (x % 256) (bytes_of w (x / 256) ++ q) 0 in
    let r = rw (length-append, append_snoc) at (le_at-bytes w (p ++ (x % 256 ∷ [])) q (x / 256)) in
    omega (arith, bytes_hold w x)

-- the bytes of the number that is read are the bytes that stand there
pub bytes_of-le_at : (w : ℕ) (s : List ℕ) (i : ℕ) → i + w ≤ length s → ((k : ℕ) → get_or s k 0 < 256)
    → take w (drop i s) ≡ bytes_of w (le_at w s i)
unfolding le_at bytes_of
bytes_of-le_at zero s i l h = refl
bytes_of-le_at (suc w) s i l h =
    let b : i < length s = omega arith in
    rw (low (le_at w s (i + 1)) (h i), rest (le_at w s (i + 1)) (h i), drop-cons s i 0, ← add-one i)
    (ap (λ (t : List ℕ). get_or s i 0 ∷ t) (bytes_of-le_at w s (i + 1) (omega arith) h))

-- ---- in std's words

-- the number that bytes make is the sum of what each is worth
sum_of : (w : ℕ) (s : List ℕ) (i : ℕ) → le_at (w + 1) s i ≡ sum_through (λ k. byte_worth k (get_or s (i + k) 0)) w
sum_of zero s i = rw le_at_one (simp add-zero)
sum_of (suc w) s i = rw (le_at-add (suc w) 1 s i, le_at_one, ← add-one w, sum_of w s i, mul_comm (256 ^ (w + 1)))

pub from_bytes : (w : ℕ) (s : List ℕ) (i : ℕ) → 0 < w → le_at w s i ≡ sum_through (λ k. byte_worth k (get_or s (i + k) 0)) (w - 1)
from_bytes zero s i h = absurd (omega arith)
from_bytes (suc w) s i h = let e : suc w - 1 ≡ w = omega arith in rw (e, ← add-one w) (sum_of w s i)

-- the bytes of a number are its bytes one by one
low_first : (k w x : ℕ) → bytes_low_first k w x ≡ bytes_of w (x / 256 ^ k)
unfolding bytes_of
low_first k zero x = refl
low_first zero (suc w) x = rw (div-one, low_first 1 w x)
low_first (suc k) (suc w) x =
    let e : x / 256 ^ suc (suc k) ≡ x / 256 ^ suc k / 256 = rw (pow-suc, ← div-div-eq-div-mul) in
    rw (low_first (suc (suc k)) w x, e)

pub to_bytes : (w x : ℕ) → bytes_of w x ≡ bytes_low_first 0 w x
to_bytes w x = sym (simp div-one at (low_first 0 w x))
