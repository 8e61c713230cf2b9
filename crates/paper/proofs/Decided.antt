-- One permission: the paper's propositions by tests, and what a valid state says of its decisions. Assumes nothing.
use Prim.Native.Nat.{ℕ}
use mathlib.Core.Path.{◌≡◌, refl}
use mathlib.Core.Logic.{inl, inr}
use mathlib.Core.List.{[]}
use mathlib.Core.Bool.{Bool, true, false, not, ◌&&◌, ◌||◌, false≢true, or-true}
use borrow.Author.Tests.{ltb-true}
use Rattle.device.specs.declared.Suite.{Suite}
use Rattle.device.specs.declared.Permission.{Permission}
use Rattle.device.specs.declared.Mode.{Mode}
use Rattle.device.specs.declared.Mode.TheVariants.{Oneshot as oneshot, Session as session, Blanket as blanket}
use Rattle.device.specs.declared.Decisions.{Decisions}
use Rattle.device.specs.declared.Slot.{Slot}
use Rattle.device.specs.Device.{is_permission, is_set, has, every}
use Rattle.model.specs.Policy.{Fixed}
use Rattle.device.specs.Cells.{admits}
use Rattle.model.specs.State.{State, find}
use Rattle.model.specs.Valid.{◌⇒◌, declared, decides, all_fit, fitting, fits, slot_decided, fits_beside, session_decided, valid}
use Rattle.model.specs.Step.{running_slot}
use Rattle.model.proofs.Tests.{both, all_three, every_at}
use Rattle.model.proofs.Kept.{holds}
use Rattle.paper.specs.Published.{Declared}
use Rattle.paper.specs.Refinement.{In, suite_of}
use Rattle.paper.proofs.Suites.{find_decided}

-- ---- the paper's propositions by tests

pub out : (p : Permission) (g : ℕ) → In g p → has g p ≡ true
out p g k = (both (is_permission p) (has g p) k).1

pub into : (p : Permission) → is_permission p ≡ true → (g : ℕ) → has g p ≡ true → In g p
into p is g k = rw (is, k)

pub is_declared : (p : Permission) (x : Slot) → Declared (suite_of x) p → declared x p ≡ true
unfolding declared
is_declared p x (inl k) = rw (out p x.descriptor.required k)
is_declared p x (inr k) = rw (out p x.descriptor.optional k, or-true)

pub declares : (p : Permission) → is_permission p ≡ true → (x : Slot) → declared x p ≡ true → Declared (suite_of x) p
unfolding declared
declares p is x = go (has x.descriptor.required p) refl
  where
    go : (b : Bool) → has x.descriptor.required p ≡ b → (b || has x.descriptor.optional p) ≡ true → Declared (suite_of x) p
    go true k e = inl (into p is x.descriptor.required k)
    go false k e = inr (into p is x.descriptor.optional e)

-- ---- what a valid state says of its decisions at one permission. k: declared or not; c: the cell

pub record Fit (m : Mode) (k : Bool) (c : ℕ) (g r : Bool) : Type 0 where
  pub granted : g ≡ true → (k ≡ true) × (admits c m ≡ true)
  pub revoked : r ≡ true → (k ≡ true) × (admits c oneshot ≡ true)
  pub apart : g ≡ true → ¬ r ≡ true

fit : (m : Mode) (k : Bool) (c : ℕ) (g r : Bool) → fitting m k c g r ≡ true → Fit m k c g r
fit m k c g r h =
    let (x, y, z) = all_three (g ⇒ (k && admits c m)) (r ⇒ (k && admits c oneshot)) (not (g && r)) h in
    record {
      granted = λ e. both k (admits c m) (rw e at x);
      revoked = λ e. both k (admits c oneshot) (rw e at y);
      apart = λ e t. false≢true (rw (e, t) at z);
    }

module _ (f : Fixed) (s : State) (v : valid f s ≡ true) (p : Permission) (is : is_permission p ≡ true) where
  abbrev FitOf : Mode → Slot → (g r : ℕ) → Type 0
  FitOf m x g r = Fit m (declared x p) (f.cell x.domain p) (has g p) (has r p)

  here : (d : Decisions) (t : Permission → Bool) → all_fit d t ≡ true → t p ≡ true
  here d t h = every_at t (all_three (is_set d.granted) (is_set d.revoked) (every t) h).2 p (ltb-true p.0 64 is)

  -- of any suite; nothing is decided of one that is not installed
  pub kept_fit : (i : Suite) → let x = find i s.slots in FitOf blanket x x.decisions.granted x.decisions.revoked
  unfolding slot_decided
  kept_fit i =
      let x = find i s.slots in
      fit blanket _ _ _ _ (here x.decisions (fits f x blanket x.decisions)
      (find_decided f i [] s.slots (holds f s v).slots))

  -- of the running suite
  abbrev mine : Slot
  mine = running_slot s

  now_test : fits_beside f mine s.session.decisions p ≡ true
  unfolding session_decided
  now_test = here s.session.decisions (fits_beside f mine s.session.decisions) (holds f s v).decided

  now_parts : (fits f mine session s.session.decisions p ≡ true)
      × (not (decides s.session.decisions p && decides mine.decisions p) ≡ true)
  now_parts = both (fits f mine session s.session.decisions p) _ now_test

  pub now_fit : FitOf session mine s.session.decisions.granted s.session.decisions.revoked
  now_fit = fit session _ _ _ _ now_parts.0

  pub now_beside : decides s.session.decisions p ≡ true → ¬ decides mine.decisions p ≡ true
  now_beside e t = false≢true (rw (e, t) at now_parts.1)
