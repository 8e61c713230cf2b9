-- The slots by suite number: what an amended list carries and finds, and the place of each, by which code goes. Assumes nothing.
use Prim.Native.Nat.compare
use Prim.Native.Nat.{suc, ◌≤◌, zero-le, suc-le-suc}
use native.Mathlib.Nat.{zero-lt-suc}
use mathlib.Core.Path.{◌≡◌, refl, sym, ap}
use mathlib.Core.Bool.{Bool, true, false, ◌||◌, cond, false≢true}
use mathlib.Core.List.{List, [], ◌∷◌}
use lib.ListN.{length, get_or, set}
use lib.Dec.{ltb}
use borrow.Author.Tests.{eqb-true, lt-ltb}
use Rattle.device.specs.declared.Suite.{Suite}
use Rattle.device.specs.declared.Decisions.{Decisions}
use Rattle.device.specs.declared.Slot.{Slot}
use Rattle.device.specs.Device.{same_suite}
use Rattle.device.specs.Empty.{free}
use Rattle.model.specs.State.{carries, find, amend, place}
use Rattle.model.specs.Step.{slot_deciding}

-- two suites with one number are one suite
pub same_suite_lem : (i j : Suite) → same_suite i j ≡ true → i ≡ j
same_suite_lem i j h = λ k. record { 0 = eqb-true i.0 j.0 h k }

pub find_suite : (i : Suite) (l : List Slot) → carries i l ≡ true → (find i l).suite ≡ i
unfolding find carries
find_suite i [] h = absurd (false≢true h)
find_suite i (x ∷ xs) h = go (same_suite x.suite i) refl h (find_suite i xs)
  where
    go : (b : Bool) → same_suite x.suite i ≡ b → (b || carries i xs) ≡ true → (carries i xs ≡ true → (find i xs).suite ≡ i)
        → (cond b x (find i xs)).suite ≡ i
    go true e h r = same_suite_lem x.suite i e
    go false e h r = r h

-- ---- places

pub find_place : (i : Suite) (l : List Slot) → find i l ≡ get_or l (place i l) free
unfolding find place
find_place i [] = refl
find_place i (x ∷ xs) =
    elim (same_suite x.suite i) as (λ b. cond b x (find i xs) ≡ get_or (x ∷ xs) (cond b 0 (suc (place i xs))) free)
    [ true ↦ refl | false ↦ find_place i xs ]

pub amend_place : (i : Suite) (g : Slot → Slot) (l : List Slot) → amend i g l ≡ set l (place i l) (g (find i l))
unfolding find amend place
amend_place i g [] = refl
amend_place i g (x ∷ xs) =
    elim (same_suite x.suite i) as
    (λ b. cond b (g x ∷ xs) (x ∷ amend i g xs) ≡ set (x ∷ xs) (cond b 0 (suc (place i xs))) (g (cond b x (find i xs))))
    [ true ↦ refl | false ↦ ap (λ t. x ∷ t) (amend_place i g xs) ]

pub carries_place : (i : Suite) (l : List Slot) → carries i l ≡ ltb (place i l) (length l)
unfolding carries place
carries_place i [] = refl
carries_place i (x ∷ xs) =
    elim (same_suite x.suite i) as (λ b. (b || carries i xs) ≡ ltb (cond b 0 (suc (place i xs))) (suc (length xs)))
    [ true ↦ sym (lt-ltb 0 (suc (length xs)) (zero-lt-suc _)) | false ↦ rw compare.suc-suc (carries_place i xs) ]

pub place_le : (i : Suite) (l : List Slot) → place i l ≤ length l
unfolding place
place_le i [] = zero-le
place_le i (x ∷ xs) =
    elim (same_suite x.suite i) as (λ b. cond b 0 (suc (place i xs)) ≤ suc (length xs))
    [ true ↦ zero-le | false ↦ suc-le-suc (place_le i xs) ]

-- ---- a slot is amended

pub length-amend : (i : Suite) (g : Slot → Slot) (l : List Slot) → length (amend i g l) ≡ length l
unfolding amend
length-amend i g [] = refl
length-amend i g (x ∷ xs) =
    elim (same_suite x.suite i) as (λ b. length (cond b (g x ∷ xs) (x ∷ amend i g xs)) ≡ suc (length xs))
    [ true ↦ refl | false ↦ ap suc (length-amend i g xs) ]

-- its decisions change
module _ (g : Decisions → Decisions) where
  pub carries_deciding : (i j : Suite) (l : List Slot) → carries j (amend i (slot_deciding g) l) ≡ carries j l
  unfolding amend carries
  carries_deciding i j [] = refl
  carries_deciding i j (x ∷ xs) =
      elim (same_suite x.suite i) as
      (λ b. carries j (cond b (slot_deciding g x ∷ xs) (x ∷ amend i (slot_deciding g) xs)) ≡ (same_suite x.suite j || carries j xs))
      [ true ↦ refl | false ↦ ap (λ t. same_suite x.suite j || t) (carries_deciding i j xs) ]

  pub place_deciding : (i j : Suite) (l : List Slot) → place j (amend i (slot_deciding g) l) ≡ place j l
  unfolding amend place
  place_deciding i j [] = refl
  place_deciding i j (x ∷ xs) =
      elim (same_suite x.suite i) as
      (λ b. place j (cond b (slot_deciding g x ∷ xs) (x ∷ amend i (slot_deciding g) xs)) ≡ cond (same_suite x.suite j) 0 (suc (place j xs)))
      [ true ↦ refl | false ↦ ap (λ n. cond (same_suite x.suite j) 0 (suc n)) (place_deciding i j xs) ]

  pub find_deciding : (i : Suite) (l : List Slot) → carries i l ≡ true
      → find i (amend i (slot_deciding g) l) ≡ slot_deciding g (find i l)
  unfolding amend carries find
  find_deciding i [] h = absurd (false≢true h)
  find_deciding i (x ∷ xs) h = go (same_suite x.suite i) refl h (find_deciding i xs)
    where
      go : (b : Bool) → same_suite x.suite i ≡ b → (b || carries i xs) ≡ true
          → (carries i xs ≡ true → find i (amend i (slot_deciding g) xs) ≡ slot_deciding g (find i xs))
          → find i (cond b (slot_deciding g x ∷ xs) (x ∷ amend i (slot_deciding g) xs)) ≡ slot_deciding g (cond b x (find i xs))
      go true e h r = rw e
      go false e h r = rw e (r h)

-- slot y is put in place of the first with number i: a third number j keeps its slot
module _ (i j : Suite) (y : Slot) (other : same_suite i j ≡ false) (another : same_suite y.suite j ≡ false) where
  pub carries_put : (l : List Slot) → carries j (amend i (λ _. y) l) ≡ carries j l
  unfolding amend carries
  carries_put [] = refl
  carries_put (x ∷ xs) = go (same_suite x.suite i) refl (carries_put xs)
    where
      go : (b : Bool) → same_suite x.suite i ≡ b → carries j (amend i (λ _. y) xs) ≡ carries j xs
          → carries j (cond b (y ∷ xs) (x ∷ amend i (λ _. y) xs)) ≡ (same_suite x.suite j || carries j xs)
      go true e r = rw (eqb-true x.suite.0 i.0 e, other, another)
      go false e r = ap (λ t. same_suite x.suite j || t) r

  pub find_put : (l : List Slot) → find j (amend i (λ _. y) l) ≡ find j l
  unfolding amend find
  find_put [] = refl
  find_put (x ∷ xs) = go (same_suite x.suite i) refl (find_put xs)
    where
      go : (b : Bool) → same_suite x.suite i ≡ b → find j (amend i (λ _. y) xs) ≡ find j xs
          → find j (cond b (y ∷ xs) (x ∷ amend i (λ _. y) xs)) ≡ cond (same_suite x.suite j) x (find j xs)
      go true e r = rw (eqb-true x.suite.0 i.0 e, other, another)
      go false e r = ap (cond (same_suite x.suite j) x) r
