-- Tests: a conjunction taken apart and put together, a branch by its cases, a test of every permission. Assumes nothing.
use Prim.Native.Nat.{◌<◌}
use native.Mathlib.Omega.{arith}
use mathlib.Core.Path.{◌≡◌, refl, sym, ◌∙◌}
use mathlib.Core.Bool.{Bool, true, false, ◌&&◌, ◌||◌, cond, false≢true, true≢false}
use lib.Dec.{eqb}
use borrow.Author.Tests.{eqb-true, eqb-false, ne_eqb}
use Rattle.words.proofs.Search.{all_from_all, all_from_at}
use Rattle.device.specs.declared.Suite.{Suite}
use Rattle.device.specs.declared.Permission.{Permission}
use Rattle.device.specs.Device.{same_suite, every}

pub both : (a b : Bool) → (a && b) ≡ true → (a ≡ true) × (b ≡ true)
both true b h = (refl, h)
both false b h = absurd (false≢true h)

pub all_three : (a b c : Bool) → (a && (b && c)) ≡ true → (a ≡ true) × (b ≡ true) × (c ≡ true)
all_three a b c h = let (x, y) = both a (b && c) h in let (z, w) = both b c y in (x, z, w)

pub three : {a b c : Bool} → a ≡ true → b ≡ true → c ≡ true → (a && (b && c)) ≡ true
three p q r = rw (p, q, r)

pub neither : (a b : Bool) → (a || b) ≡ false → (a ≡ false) × (b ≡ false)
neither true b h = absurd (true≢false h)
neither false b h = (refl, h)

pub cases {ℓ} : {A : Type 0} (P : A → Type ℓ) (b : Bool) {x y : A} → (b ≡ true → P x) → (b ≡ false → P y) → P (cond b x y)
cases P true px py = px refl
cases P false px py = py refl

pub same_sym : (i j : Suite) → same_suite i j ≡ false → same_suite j i ≡ false
same_sym i j n = ne_eqb j.0 i.0 (λ e. eqb-false i.0 j.0 n (sym e))

pub every_all : (t : Permission → Bool) → ((p : Permission) → p.0 < 64 → t p ≡ true) → every t ≡ true
unfolding every
every_all t h = all_from_all (λ n. t (record { 0 = n })) 64 0 (λ n a b. h (record { 0 = n }) b)

pub every_at : (t : Permission → Bool) → every t ≡ true → (p : Permission) → p.0 < 64 → t p ≡ true
unfolding every
every_at t h p l = all_from_at (λ n. t (record { 0 = n })) 64 0 h p.0 (omega arith) l

-- two tests that differ at p alone
pub every_but : (t u : Permission → Bool) (p : Permission) → every t ≡ true → u p ≡ true
    → ((q : Permission) → eqb q.0 p.0 ≡ false → u q ≡ t q) → every u ≡ true
every_but t u p h here there = every_all u (λ q l. go q l (eqb q.0 p.0) refl)
  where
    go : (q : Permission) → q.0 < 64 → (b : Bool) → eqb q.0 p.0 ≡ b → u q ≡ true
    go q l true e = let d : q ≡ p = λ i. record { 0 = eqb-true q.0 p.0 e i } in rw d here
    go q l false e = there q e ∙ every_at t h q l
