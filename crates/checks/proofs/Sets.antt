-- Sets of permissions as words: what a test of two words says of every permission, and a set that is made of a test. Assumes
-- nothing.
use mathlib.Core.Path.{◌≡◌, refl, ap, sym, ◌∙◌}
use mathlib.Core.Bool.{Bool, true, false, not, ◌&&◌, cond}
use Prim.Native.Nat.{ℕ, zero, suc, ◌+◌, ◌*◌, ◌^◌, ◌<◌, ◌/◌, ◌%◌}
use native.Mathlib.Nat.{pow-succ', add-zero, zero-add}
use native.Mathlib.Omega.{arith}
use lib.Bits.{bit_and, and_le_l}
use lib.Dec.{eqb}
use borrow.Author.Tests.{eqb-true, eq-eqb, not-true}
use Rattle.words.specs.Sets.{bit, member}
use Rattle.words.proofs.Sets.{bit_zero, bit_suc, member_none, member_and, extensional}
use Rattle.device.specs.declared.Permission.{Permission}
use Rattle.device.specs.Device.{has, every}
use Rattle.model.specs.Valid.{◌⇒◌}
use Rattle.model.proofs.Tests.{both, every_all, every_at}
use Rattle.checks.specs.Rows.{set_from, those}

-- ---- every permission

pub agree : (a b : Bool) → (a ≡ true → b ≡ true) → (b ≡ true → a ≡ true) → a ≡ b
agree true b f g = sym (f refl)
agree false true f g = g refl
agree false false f g = refl

pub every_same : (t u : Permission → Bool) → ((p : Permission) → p.0 < 64 → t p ≡ u p) → every t ≡ every u
every_same t u h =
    agree (every t) (every u) (λ e. every_all u (λ p l. sym (h p l) ∙ every_at t e p l))
    (λ e. every_all t (λ p l. h p l ∙ every_at u e p l))

pub every_both : (t u : Permission → Bool) → (every t && every u) ≡ every (λ p. t p && u p)
every_both t u =
    agree (every t && every u) (every (λ p. t p && u p))
    (λ e. let (a, b) = both (every t) (every u) e in every_all _ (λ p l. rw (every_at t a p l, every_at u b p l)))
    (λ e. rw (every_all t (λ p l. (both (t p) (u p) (every_at _ e p l)).0), every_all u (λ p l. (both (t p) (u p) (every_at _ e p l)).1)))

-- ---- two words

module _ (a b : ℕ) (small : a < 2 ^ 64) where
  pub within_every : eqb (bit_and a b) a ≡ every (λ p. has a p ⇒ has b p)
  within_every =
      agree _ _ (λ e. every_all _ (λ p l. one (has a p) (has b p) (sym (member_and a b p.0) ∙ ap (λ s. has s p) (eqb-true _ _ e))))
      (λ e. eq-eqb (bit_and a b) a (extensional 64 (bit_and a b) a (omega (arith, and_le_l a b)) small
      (λ n l. member_and a b n ∙ two (member a n) (member b n) (every_at _ e (record { 0 = n }) l))))
    where
      one : (x y : Bool) → (x && y) ≡ x → (x ⇒ y) ≡ true
      one true y e = e
      one false y e = refl

      two : (x y : Bool) → (x ⇒ y) ≡ true → (x && y) ≡ x
      two true y e = e
      two false y e = refl

  pub apart_every : eqb (bit_and a b) 0 ≡ every (λ p. not (has a p && has b p))
  apart_every =
      agree _ _ (λ e. every_all _ (λ p l. ap not (sym (member_and a b p.0) ∙ ap (λ s. has s p) (eqb-true _ _ e) ∙ member_none p.0)))
      (λ e. eq-eqb (bit_and a b) 0 (extensional 64 (bit_and a b) 0 (omega (arith, and_le_l a b)) (omega arith)
      (λ n l. member_and a b n ∙ not-true _ (every_at _ e (record { 0 = n }) l) ∙ sym (member_none n))))

-- ---- a set made of a test

pub set_from-lt : (f : ℕ → Bool) (n i : ℕ) → set_from f n i < 2 ^ n
unfolding set_from
set_from-lt f zero i = omega arith
set_from-lt f (suc n) i =
    elim (f i) as (λ b. cond b 1 0 + 2 * set_from f n (suc i) < 2 ^ suc n)
    [ true ↦ omega (arith, pow-succ' 2 n, set_from-lt f n (suc i)) | false ↦ omega (arith, pow-succ' 2 n, set_from-lt f n (suc i)) ]

set_from-member : (f : ℕ → Bool) (n i q : ℕ) → q < n → member (set_from f n i) q ≡ f (i + q)
unfolding set_from member
set_from-member f zero i q l = absurd (omega arith)
set_from-member f (suc n) i zero l = rw (bit_zero, add-zero) (low (f i) (set_from f n (suc i)))
  where
    low : (b : Bool) (s : ℕ) → eqb ((cond b 1 0 + 2 * s) % 2) 1 ≡ b
    low true s = eq-eqb ((1 + 2 * s) % 2) 1 (omega arith)
    low false s = let e : (0 + 2 * s) % 2 ≡ 0 = omega arith in rw e
set_from-member f (suc n) i (suc q) l =
    let e : suc i + q ≡ i + suc q = omega arith in
    rw bit_suc (ap (λ s. eqb (bit s q) 1) (high (f i) (set_from f n (suc i))) ∙ set_from-member f n (suc i) q (omega arith) ∙ ap f e)
  where
    high : (b : Bool) (s : ℕ) → (cond b 1 0 + 2 * s) / 2 ≡ s
    high true s = omega arith
    high false s = omega arith

pub set_member : (f : ℕ → Bool) (n q : ℕ) → q < n → member (set_from f n 0) q ≡ f q
set_member f n q l = set_from-member f n 0 q l ∙ ap f (zero-add q)

pub those_lt : (t : Permission → Bool) → those t < 2 ^ 64
unfolding those
those_lt t = set_from-lt (λ n. t (record { 0 = n })) 64 0

pub those_has : (t : Permission → Bool) (p : Permission) → p.0 < 64 → has (those t) p ≡ t p
unfolding those
those_has t p l = set_member (λ n. t (record { 0 = n })) 64 p.0 l
