-- The slots as the paper's installed suites: what a slot put in place of another changes, and what a decision. Assumes nothing.
use Prim.Native.Nat.{ℕ}
use mathlib.Core.Path.{◌≡◌, refl, sym, ap, ap₂, ◌∙◌, fun_ext}
use mathlib.Core.Bool.{Bool, true, false, ◌||◌, cond, false≢true, or-true}
use mathlib.Core.List.{List, [], ◌∷◌}
use borrow.Author.Tests.{eqb-true, eq-eqb}
use Rattle.device.specs.declared.Suite.{Suite}
use Rattle.device.specs.declared.Permission.{Permission}
use Rattle.device.specs.declared.Decisions.{Decisions}
use Rattle.device.specs.declared.Slot.{Slot}
use Rattle.device.specs.Device.{no_suite, same_suite}
use Rattle.model.specs.Policy.{Fixed}
use Rattle.device.specs.Empty.{free}
use Rattle.model.specs.State.{carries, find, amend}
use Rattle.model.specs.Valid.{among, slot_decided, slots_valid}
use Rattle.model.specs.Step.{slot_deciding}
use Rattle.model.proofs.Tests.{neither, cases, same_sym}
use Rattle.model.proofs.Slots.{same_suite_lem, carries_put, find_put, carries_deciding}
use Rattle.model.proofs.ValidSlots.{taken_apart, not_again}
use Rattle.model.proofs.Kept.{slot_undecided}
use Rattle.paper.specs.Published
use Rattle.paper.specs.Refinement.{In, suite_of, Installed, Agrees}

-- the decisions found are valid
pub find_decided : (f : Fixed) (i : Suite) (lower : List Suite) (l : List Slot) → slots_valid f lower l ≡ true
    → slot_decided f (find i l) ≡ true
unfolding find
find_decided f i lower [] h = slot_undecided f free refl
find_decided f i lower (x ∷ xs) h =
    let k = taken_apart f lower x xs h in
    cases (λ y. slot_decided f y ≡ true) (same_suite x.suite i) (λ _. k.decided)
    (λ _. find_decided f i (x.suite ∷ lower) xs k.more)

-- ---- slot y is put in place of the first with number i: y is found by its number, which no slot had

module _ (i : Suite) (y : Slot) where
  pub put_there : (l : List Slot) → carries i l ≡ true → carries y.suite (amend i (λ _. y) l) ≡ true
  unfolding amend carries
  put_there [] h = absurd (false≢true h)
  put_there (x ∷ xs) h = go (same_suite x.suite i) h (put_there xs)
    where
      go : (b : Bool) → (b || carries i xs) ≡ true → (carries i xs ≡ true → carries y.suite (amend i (λ _. y) xs) ≡ true)
          → carries y.suite (cond b (y ∷ xs) (x ∷ amend i (λ _. y) xs)) ≡ true
      go true h r = rw (eq-eqb y.suite.0 y.suite.0 refl)
      go false h r = rw (r h, or-true)

  pub find_new : (l : List Slot) → carries i l ≡ true → carries y.suite l ≡ false → find y.suite (amend i (λ _. y) l) ≡ y
  unfolding amend carries find
  find_new [] h n = absurd (false≢true h)
  find_new (x ∷ xs) h n = go (same_suite x.suite i) h (neither (same_suite x.suite y.suite) (carries y.suite xs) n) (find_new xs)
    where
      go : (b : Bool) → (b || carries i xs) ≡ true → (same_suite x.suite y.suite ≡ false) × (carries y.suite xs ≡ false)
          → (carries i xs ≡ true → carries y.suite xs ≡ false → find y.suite (amend i (λ _. y) xs) ≡ y)
          → find y.suite (cond b (y ∷ xs) (x ∷ amend i (λ _. y) xs)) ≡ y
      go true h n r = rw (eq-eqb y.suite.0 y.suite.0 refl)
      go false h n r = rw n.0 (r h n.1)

-- a freed slot's number stands in no slot
pub freed : (f : Fixed) (i : Suite) → same_suite i no_suite ≡ false → (lower : List Suite) (l : List Slot) → slots_valid f lower l ≡ true
    → carries i (amend i (λ _. free) l) ≡ false
unfolding amend carries among
freed f i n lower [] v = refl
freed f i n lower (x ∷ xs) v = go (same_suite x.suite i) refl (freed f i n (x.suite ∷ lower) xs more)
  where
    more : slots_valid f (x.suite ∷ lower) xs ≡ true
    more = (taken_apart f lower x xs v).more

    go : (b : Bool) → same_suite x.suite i ≡ b → carries i (amend i (λ _. free) xs) ≡ false
        → carries i (cond b (free ∷ xs) (x ∷ amend i (λ _. free) xs)) ≡ false
    go true e r =
        rw (same_sym i no_suite n)
        (not_again f (x.suite ∷ lower) xs i more n (rw (same_suite_lem x.suite i e, eq-eqb i.0 i.0 refl)))
    go false e r = rw e r

-- ---- the slot with number i is decided upon

module _ (g : Decisions → Decisions) (i : Suite) where
  pub find_beside : (j : Suite) → same_suite i j ≡ false → (l : List Slot) → find j (amend i (slot_deciding g) l) ≡ find j l
  unfolding find amend
  find_beside j n [] = refl
  find_beside j n (x ∷ xs) = go (same_suite x.suite i) refl (find_beside j n xs)
    where
      go : (b : Bool) → same_suite x.suite i ≡ b → find j (amend i (slot_deciding g) xs) ≡ find j xs
          → find j (cond b (slot_deciding g x ∷ xs) (x ∷ amend i (slot_deciding g) xs)) ≡ cond (same_suite x.suite j) x (find j xs)
      go true e r = rw (eqb-true x.suite.0 i.0 e, n)
      go false e r = ap (cond (same_suite x.suite j) x) r

  suite_deciding : (j : Suite) (l : List Slot) → suite_of (find j (amend i (slot_deciding g) l)) ≡ suite_of (find j l)
  unfolding find amend
  suite_deciding j [] = refl
  suite_deciding j (x ∷ xs) =
      elim (same_suite x.suite i) as
      (λ b. suite_of (find j (cond b (slot_deciding g x ∷ xs) (x ∷ amend i (slot_deciding g) xs)))
      ≡ suite_of (cond (same_suite x.suite j) x (find j xs))) [
        | true ↦ elim (same_suite x.suite j) as
            (λ b. suite_of (cond b (slot_deciding g x) (find j xs)) ≡ suite_of (cond b x (find j xs)))
            [ true ↦ refl | false ↦ refl ]
        | false ↦ elim (same_suite x.suite j) as
            (λ b. suite_of (cond b x (find j (amend i (slot_deciding g) xs))) ≡ suite_of (cond b x (find j xs)))
            [ true ↦ refl | false ↦ suite_deciding j xs ]
      ]

  -- the installed suites stay
  pub installed_deciding : (l : List Slot) → Installed (amend i (slot_deciding g) l) ≡ Installed l
  installed_deciding l = fun_ext (λ ms.
      ap₂ (λ c t. (same_suite ms.id no_suite ≡ false) × (c ≡ true) × (ms ≡ t))
      (carries_deciding g i ms.id l) (suite_deciding ms.id l))

-- ---- the installed suites

-- the suites of the other slots stay
pub installed_put : (i : Suite) (y : Slot) (l : List Slot) (ms : Published.Suite) → same_suite i ms.id ≡ false
    → same_suite y.suite ms.id ≡ false → Installed (amend i (λ _. y) l) ms ≡ Installed l ms
installed_put i y l ms n m =
    ap₂ (λ c x. (same_suite ms.id no_suite ≡ false) × (c ≡ true) × (ms ≡ suite_of x))
    (carries_put i ms.id y n m l) (find_put i ms.id y n m l)

-- and so do their decisions
pub put_agrees : (i : Suite) (y : Slot) (l : List Slot) (q : Decisions → ℕ) (F : Suite → Permission → Type 0) → Agrees l q F
    → (j : Suite) → same_suite i j ≡ false → same_suite y.suite j ≡ false → same_suite j no_suite ≡ false → carries j (amend i (λ _. y) l) ≡ true
    → F j ≡ In (q (find j (amend i (λ _. y) l)).decisions)
put_agrees i y l q F agree j n m z k =
    agree j z (sym (carries_put i j y n m l) ∙ k) ∙ ap (λ t. In (q t.decisions)) (sym (find_put i j y n m l))
