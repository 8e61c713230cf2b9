-- A number in decimal digits: by its tenth, as the library has them, and of one with four. Assumes nothing.
use mathlib.Core.Path.{◌≡◌, refl, sym}
use mathlib.Core.Bool.{Bool, true, false, cond}
use mathlib.Core.List.{[], ◌∷◌, ◌++◌}
use Prim.Native.Nat.{ℕ, zero, suc, ◌+◌, ◌/◌, ◌%◌, ◌^◌, ◌≤◌, ◌<◌}
use native.Mathlib.Nat.{pow-succ'}
use native.Mathlib.Omega.{arith}
use lib.ListN.{length, length-append}
use lib.Dec.{ltb}
use borrow.Author.Tests.{lt-ltb, le-ltb, ltb-true, ltb-false}
use Rattle.std.specs.Fmt.{decimal as printed}
use Rattle.std.proofs.lemmas.Fmt.{decimal_by_steps, length-decimal-le}
use Rattle.reports.specs.Text.{digits, decimal}

-- any bound above n gives its digits
enough : (k m n : ℕ) → n < k → n < m → digits k n ≡ digits m n
unfolding digits
enough zero m n h l = absurd (omega arith)
enough (suc k) zero n h l = absurd (omega arith)
enough (suc k) (suc m) n h l = go (ltb n 10) refl (λ t. enough k m (n / 10) (omega arith) (omega arith))
  where
    go : (b : Bool) → ltb n 10 ≡ b → (10 ≤ n → digits k (n / 10) ≡ digits m (n / 10))
        → cond b [] (digits k (n / 10)) ++ ((48 + n % 10) ∷ []) ≡ cond b [] (digits m (n / 10)) ++ ((48 + n % 10) ∷ [])
    go true e same = refl
    go false e same = rw (same (ltb-false n 10 e))

-- a number below ten is one digit
pub one_digit : (n : ℕ) → n < 10 → decimal n ≡ (48 + n) ∷ []
unfolding decimal digits
one_digit n h = let e : n % 10 ≡ n = omega arith in rw (lt-ltb n 10, e)

-- any other is its tenth and one digit more
pub more_digits : (n : ℕ) → 10 ≤ n → decimal n ≡ decimal (n / 10) ++ ((48 + n % 10) ∷ [])
unfolding decimal digits
more_digits n h = rw (le-ltb n 10, enough n (suc (n / 10)) (n / 10) (omega arith) (omega arith))

-- the digits that the library prints
pub own_decimal : (n : ℕ) → n < 2 ^ 64 → printed n ≡ decimal n
own_decimal = decimal_by_steps (λ n ds. ds ≡ decimal n) (λ n h. sym (one_digit n h)) (λ n ds h e. rw (more_digits n h, e))

pub four_digits : (n : ℕ) → n < 10000 → length (printed n) ≤ 4
four_digits n h = length-decimal-le 4 n (omega arith) (omega arith) (omega arith)

-- a number below 10 to the k has at most k digits
pub length-decimal : (k n : ℕ) → n < 10 ^ suc k → length (decimal n) ≤ suc k
length-decimal zero n h = rw (one_digit n (omega arith)) (omega arith)
length-decimal (suc k) n h = go (ltb n 10) refl (length-decimal k (n / 10) (omega (arith, pow-succ' 10 (suc k))))
  where
    go : (b : Bool) → ltb n 10 ≡ b → length (decimal (n / 10)) ≤ suc k → length (decimal n) ≤ suc (suc k)
    go true e l = rw (one_digit n (ltb-true n 10 e)) (omega arith)
    go false e l = rw (more_digits n (ltb-false n 10 e), length-append) (omega arith)
