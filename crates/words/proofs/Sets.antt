-- Sets of permissions: what each operation does to each member. Assumes nothing.
use mathlib.Core.Path.{◌≡◌, refl, ap, ap₂, sym, ◌∙◌}
use mathlib.Core.Bool.{Bool, true, false, not, ◌&&◌, ◌||◌, cond, or_comm, and_comm}
use Prim.Native.Nat.{ℕ, zero, suc, ◌+◌, ◌-◌, ◌*◌, ◌/◌, ◌%◌, ◌^◌, ◌<◌, min, max}
use native.Mathlib.Nat.{pow-succ', div-one, div-div-eq-div-mul, zero-div}
use native.Mathlib.Numerals.{one-add}
use native.Mathlib.Omega.{arith}
use borrow.Author.Tests.{eqb-true, eqb-false}
use lib.Bits.{bit_and, bit_or, and_step, or_step, or_lt, and_high, and_le_l}
use lib.Dec.{eqb, eqb-zero-suc, eqb-suc-zero, eqb-suc-suc}
use lib.Pow.{pow-lt}
use Rattle.words.specs.Sets.{bit, member, insert, remove}

pub bit_zero : (s : ℕ) → bit s 0 ≡ s % 2
unfolding bit
bit_zero s = rw div-one

pub bit_suc : (s p : ℕ) → bit s (suc p) ≡ bit (s / 2) p
unfolding bit
bit_suc s p = rw (pow-succ', ← div-div-eq-div-mul)

pub bit_lt : (s p : ℕ) → bit s p < 2
unfolding bit
bit_lt s p = omega arith

-- the bit says whether p stands in s
pub bit_member : (s p : ℕ) → bit s p ≡ cond (member s p) 1 0
unfolding member
bit_member s p = go (eqb (bit s p) 1) refl
  where
    go : (b : Bool) → eqb (bit s p) 1 ≡ b → bit s p ≡ cond b 1 0
    go true e = eqb-true (bit s p) 1 e
    go false e = omega (arith, bit_lt s p, eqb-false (bit s p) 1 e)

pub member_none : (p : ℕ) → member 0 p ≡ false
unfolding member bit
member_none p = rw zero-div

-- two sets of k permissions with the same members are equal
pub extensional : (k s t : ℕ) → s < 2 ^ k → t < 2 ^ k → ((p : ℕ) → p < k → member s p ≡ member t p) → s ≡ t
unfolding member
extensional zero s t a b h = omega arith
extensional (suc k) s t a b h =
    let w = pow-succ' 2 k in
    let high = extensional k (s / 2) (t / 2) (omega arith) (omega arith) (λ p l. simp (← bit_suc) (h (suc p) (omega arith))) in
    let low = bit_member s 0 ∙ ap (λ (b : Bool). cond b 1 0) (h 0 (omega arith)) ∙ sym (bit_member t 0) in
    omega (arith, bit_zero s, bit_zero t)

-- ---- two sets

-- an operation that works on each bit by itself: f makes of two bits what g makes of their two members
module _ (op f : ℕ → ℕ → ℕ) (g : Bool → Bool → Bool)
    (step : (s t : ℕ) → op s t ≡ op (s / 2) (t / 2) * 2 + f (s % 2) (t % 2))
    (small : (s t : ℕ) → f (s % 2) (t % 2) < 2)
    (both : eqb (f 1 1) 1 ≡ g true true) (left : eqb (f 1 0) 1 ≡ g true false)
    (right : eqb (f 0 1) 1 ≡ g false true) (none : eqb (f 0 0) 1 ≡ g false false) where
  bit_op : (s t p : ℕ) → bit (op s t) p ≡ f (bit s p) (bit t p)
  bit_op s t zero = simp bit_zero (omega (arith, step s t, small s t))
  bit_op s t (suc p) =
      let e : op s t / 2 ≡ op (s / 2) (t / 2) = omega (arith, step s t, small s t) in
      simp bit_suc (rw e (bit_op (s / 2) (t / 2) p))

  member_op : (s t p : ℕ) → member (op s t) p ≡ g (member s p) (member t p)
  unfolding member
  member_op s t p = ap (λ (n : ℕ). eqb n 1) (bit_op s t p ∙ ap₂ f (bit_member s p) (bit_member t p)) ∙ says (member s p) (member t p)
    where
      says : (a b : Bool) → eqb (f (cond a 1 0) (cond b 1 0)) 1 ≡ g a b
      says true true = both
      says true false = left
      says false true = right
      says false false = none

pub member_or : (s t p : ℕ) → member (bit_or s t) p ≡ (member s p || member t p)
member_or = member_op bit_or max ◌||◌ or_step (λ s t. omega arith) refl refl refl refl

pub member_and : (s t p : ℕ) → member (bit_and s t) p ≡ (member s p && member t p)
member_and = member_op bit_and min ◌&&◌ and_step (λ s t. omega arith) refl refl refl refl

-- what s has and t has not
pub member_less : (s t p : ℕ) → member (s - bit_and s t) p ≡ (member s p && not (member t p))
member_less =
    member_op (λ s t. s - bit_and s t) ◌-◌ (λ a b. a && not b) (λ s t. omega (arith, and_step s t, and_le_l (s / 2) (t / 2)))
    (λ s t. omega arith) refl refl refl refl

-- ---- one permission

-- the set of p alone
pub member_one : (p q : ℕ) → member (2 ^ p) q ≡ eqb q p
unfolding member
member_one zero zero = rw bit_zero
member_one zero (suc q) = rw (bit_suc, eqb-suc-zero) (member_none q)
member_one (suc p) zero =
    let e : bit (2 ^ suc p) 0 ≡ 0 = rw bit_zero (omega (arith, pow-succ' 2 p)) in
    rw (e, eqb-zero-suc p)
member_one (suc p) (suc q) =
    let e : 2 ^ suc p / 2 ≡ 2 ^ p = omega (arith, pow-succ' 2 p) in
    rw (bit_suc, e, eqb-suc-suc) (member_one p q)

pub member_insert : (s p q : ℕ) → member (insert s p) q ≡ (eqb q p || member s q)
unfolding insert
member_insert s p q = rw (member_or, member_one) (or_comm (member s q) (eqb q p))

-- the same as the code has it
pub remove_and : (s p : ℕ) → remove s p ≡ s - bit_and s (2 ^ p)
unfolding remove bit
remove_and s p =
    let e : 2 ^ (1 + p) - 2 ^ p ≡ 2 ^ p = rw (one-add, pow-succ') (omega arith) in
    rw (rw e at (and_high s 1 p))

pub member_remove : (s p q : ℕ) → member (remove s p) q ≡ (not (eqb q p) && member s q)
member_remove s p q = rw (remove_and, member_less, member_one) (and_comm (member s q) (not (eqb q p)))

-- a set of k permissions stays one
pub insert_lt : (k s p : ℕ) → s < 2 ^ k → p < k → insert s p < 2 ^ k
unfolding insert
insert_lt k s p h l = or_lt k s (2 ^ p) h (pow-lt l)
