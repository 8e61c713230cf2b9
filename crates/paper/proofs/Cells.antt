-- The cells of a policy as the paper's policy. Assumes nothing.
use Prim.Native.Nat.{ℕ, zero, suc, ◌≤◌}
use native.Mathlib.Omega.{arith}
use mathlib.Core.Path.{◌≡◌, refl, sym, ap, ◌∙◌, subst⁻¹}
use mathlib.Core.Logic.{◌⊎◌, inl, inr}
use mathlib.Core.Bool.{Bool, true, false, false≢true, true≢false}
use borrow.Author.Tests.{eqb-true, leb-true, le-leb, lt-leb}
use Rattle.std.specs.Prelude.{Option, Some, None}
use Rattle.device.specs.declared.Mode.{Mode}
use Rattle.device.specs.declared.Mode.TheVariants.{Oneshot as oneshot, Session as session, Blanket as blanket}
use Rattle.device.specs.Device.{width, mode_of}
use Rattle.model.specs.Policy.{Fixed}
use Rattle.device.specs.Cells.{offered, unconditional, highest, up_to, admits}
use Rattle.device.proofs.Modes.{asked_cell}
use Rattle.paper.specs.Published.{OneMode}
use Rattle.paper.specs.Refinement.{policy_of}

-- the policy has a mode
abbrev pub Asking : ℕ → Type 0
Asking c = (m : Mode) × (highest c ≡ Some m)

abbrev some_mode : Option Mode → Bool
some_mode None = false
some_mode (Some m) = true

abbrev mode : Option Mode → Mode
mode None = oneshot
mode (Some m) = m

-- ---- a cell that has the user asked

cell_width : (c : ℕ) (m : Mode) → highest c ≡ Some m → c ≡ width m
unfolding highest mode_of
cell_width zero m h = absurd (false≢true (ap some_mode h))
cell_width (suc zero) m h = ap (λ t. width (mode t)) h
cell_width (suc (suc zero)) m h = ap (λ t. width (mode t)) h
cell_width (suc (suc (suc zero))) m h = ap (λ t. width (mode t)) h
cell_width (suc (suc (suc (suc c)))) m h =
    let k = suc (suc (suc (suc c))) in
    absurd (false≢true (ap some_mode (rw (le-leb 1 k (omega arith), lt-leb k 3 (omega arith)) at h)))

module _ (c : ℕ) where
  by_width : (P : ℕ → Type 0) → P 1 → P 2 → P 3 → Asking c → P c
  by_width P one two three (m, e) = subst⁻¹ P (cell_width c m e) (go m)
    where
      go : (m : Mode) → P (width m)
      go oneshot = one
      go session = two
      go blanket = three

  pub asked_offered : Asking c → offered c ≡ true
  asked_offered = by_width (λ c. offered c ≡ true) refl refl refl

  pub asked_not_free : Asking c → unconditional c ≡ false
  asked_not_free = by_width (λ c. unconditional c ≡ false) refl refl refl

  pub asked_once : Asking c → admits c oneshot ≡ true
  unfolding highest mode_of
  asked_once = by_width (λ c. admits c oneshot ≡ true) refl refl refl

  -- a mode that it admits, in the paper's words
  pub admitted : (m : Mode) → admits c m ≡ true → (h : Mode) × (highest c ≡ Some h) × (width m ≤ width h)
  admitted m = go (highest c) refl
    where
      go : (t : Option Mode) → highest c ≡ t → up_to t m ≡ true → (h : Mode) × (highest c ≡ Some h) × (width m ≤ width h)
      go None e k = absurd (false≢true k)
      go (Some h) e k = (h, e, leb-true (width m) (width h) k)

  pub asks : (m : Mode) → admits c m ≡ true → Asking c
  asks m k = let (h, e, _) = admitted m k in (h, e)

  pub offers : offered c ≡ true → (unconditional c ≡ true) ⊎ Asking c
  offers o = go (unconditional c) refl
    where
      go : (b : Bool) → unconditional c ≡ b → (unconditional c ≡ true) ⊎ Asking c
      go true e = inl e
      go false e = inr (asks oneshot (asked_cell c o e))

  pub offered_so : (unconditional c ≡ true) ⊎ Asking c → offered c ≡ true
  offered_so (inl e) = rw (eqb-true c 4 e)
  offered_so (inr k) = asked_offered k

-- (8)
pub one_mode : (f : Fixed) → OneMode (policy_of f)
one_mode f = record {
  not_both = λ d p a m u. true≢false (sym a ∙ asked_not_free (f.cell d p) (m, u));
  at_most_one = λ d p m u. (λ a. true≢false (sym a ∙ asked_not_free (f.cell d p) (m, u)), λ m' u'. ap mode (sym u ∙ u'));
}
