-- The slots of a valid state: they stay valid where one is amended, and a number stands in one of them. Assumes nothing.
use Prim.Native.Nat.{ℕ, zero, suc, ◌<◌}
use native.Mathlib.Omega.{arith}
use mathlib.Core.Path.{◌≡◌, refl, sym, ap, ◌∙◌}
use mathlib.Core.Bool.{Bool, true, false, not, ◌||◌, cond, false≢true, true≢false, or-true}
use mathlib.Core.List.{List, [], ◌∷◌}
use lib.ListN.{length, get_or}
use borrow.Author.Tests.{eq-eqb}
use Rattle.device.specs.declared.Suite.{Suite}
use Rattle.device.specs.declared.Decisions.{Decisions}
use Rattle.device.specs.declared.Slot.{Slot}
use Rattle.device.specs.Device.{no_suite, same_suite}
use Rattle.model.specs.Policy.{Fixed}
use Rattle.device.specs.Empty.{free}
use Rattle.model.specs.State.{carries, find, amend, place}
use Rattle.model.specs.Valid.{slot_sound, among, own_number, slot_decided}
use Rattle.model.specs.Valid.{slot_valid, slots_valid}
use Rattle.model.specs.Step.{slot_deciding}
use Rattle.model.proofs.Tests.{both, all_three, cases}
use Rattle.model.proofs.Slots.{same_suite_lem}

-- ---- the slots stay valid

-- the number of a slot against the lower ones: more of them on both sides, another one in place of the first, one more
own_more : (a b u v : Bool) → ((a || not u) ≡ true → (a || not v) ≡ true)
    → (a || not (b || u)) ≡ true → (a || not (b || v)) ≡ true
own_more true b u v h e = refl
own_more false true u v h e = e
own_more false false u v h e = h e

own_swap : (a b c u : Bool) → (c ≡ true → a ≡ true) → (a || not (b || u)) ≡ true → (a || not (c || u)) ≡ true
own_swap true b c u h e = refl
own_swap false b true u h e = absurd (false≢true (h refl))
own_swap false true false u h e = absurd (false≢true e)
own_swap false false false u h e = e

own_new : (a b u : Bool) → (b ≡ true → a ≡ true) → (a || not u) ≡ true → (a || not (b || u)) ≡ true
own_new true b u h e = refl
own_new false true u h e = h refl
own_new false false u h e = e

pub record SlotIs (f : Fixed) (lower : List Suite) (x : Slot) (xs : List Slot) : Type 0 where
  pub sound : slot_sound f x ≡ true
  pub own : own_number lower x.suite ≡ true
  pub decided : slot_decided f x ≡ true
  pub more : slots_valid f (x.suite ∷ lower) xs ≡ true

module _ (f : Fixed) where
  pub taken_apart : (lower : List Suite) (x : Slot) (xs : List Slot) → slots_valid f lower (x ∷ xs) ≡ true → SlotIs f lower x xs
  unfolding slots_valid slot_valid
  taken_apart lower x xs h =
      let (here, more) = both _ _ h in
      let (sound, own, decided) = all_three _ _ _ here in
      record { sound = sound; own = own; decided = decided; more = more }

  put_together : (lower : List Suite) (x : Slot) (xs : List Slot) → SlotIs f lower x xs → slots_valid f lower (x ∷ xs) ≡ true
  unfolding slots_valid slot_valid
  put_together lower x xs k = rw (k.sound, k.own, k.decided, k.more)

  -- each slot is sound, and so is a free one
  pub find_sound : (i : Suite) (lower : List Suite) (l : List Slot) → slots_valid f lower l ≡ true → slot_sound f (find i l) ≡ true
  unfolding find slot_sound
  find_sound i lower [] h = refl
  find_sound i lower (x ∷ xs) h =
      let k = taken_apart lower x xs h in
      cases (λ y. slot_sound f y ≡ true) (same_suite x.suite i) (λ _. k.sound) (λ _. find_sound i (x.suite ∷ lower) xs k.more)

  -- other numbers in the lower slots
  other_lower : (lower lower' : List Suite) (l : List Slot)
      → ((j : Suite) → carries j l ≡ true → own_number lower j ≡ true → own_number lower' j ≡ true)
      → slots_valid f lower l ≡ true → slots_valid f lower' l ≡ true
  unfolding slots_valid carries among
  other_lower lower lower' [] h v = refl
  other_lower lower lower' (x ∷ xs) h v =
      let k = taken_apart lower x xs v in
      put_together lower' x xs (record {
        sound = k.sound;
        own = h x.suite (rw (eq-eqb x.suite.0 x.suite.0 refl)) k.own;
        decided = k.decided;
        more = other_lower (x.suite ∷ lower) (x.suite ∷ lower') xs
            (λ j t. own_more (same_suite j no_suite) (same_suite j x.suite) (among j lower) (among j lower') (h j (rw (t, or-true))))
            k.more;
      })

  -- the decisions of a slot change
  pub record Keeps (g : Decisions → Decisions) (x : Slot) : Type 0 where
    pub sound : slot_sound f x ≡ true → slot_sound f (slot_deciding g x) ≡ true
    pub decided : slot_decided f x ≡ true → slot_decided f (slot_deciding g x) ≡ true

  pub decide_slot : (i : Suite) (g : Decisions → Decisions) (lower : List Suite) (l : List Slot)
      → slots_valid f lower l ≡ true → Keeps g (find i l) → slots_valid f lower (amend i (slot_deciding g) l) ≡ true
  unfolding amend find
  decide_slot i g lower [] v h = v
  decide_slot i g lower (x ∷ xs) v h = go (same_suite x.suite i) h (decide_slot i g (x.suite ∷ lower) xs)
    where
      k : SlotIs f lower x xs
      k = taken_apart lower x xs v

      go : (b : Bool) → Keeps g (cond b x (find i xs))
          → (slots_valid f (x.suite ∷ lower) xs ≡ true → Keeps g (find i xs)
          → slots_valid f (x.suite ∷ lower) (amend i (slot_deciding g) xs) ≡ true)
          → slots_valid f lower (cond b (slot_deciding g x ∷ xs) (x ∷ amend i (slot_deciding g) xs)) ≡ true
      go true h r =
          put_together lower (slot_deciding g x) xs
          (record { sound = h.sound k.sound; own = k.own; decided = h.decided k.decided; more = k.more })
      go false h r =
          put_together lower x (amend i (slot_deciding g) xs)
          (record { sound = k.sound; own = k.own; decided = k.decided; more = r k.more h })

  -- another slot, whose number no slot has
  pub put_slot : (i : Suite) (y : Slot) → slot_sound f y ≡ true → slot_decided f y ≡ true → (lower : List Suite) (l : List Slot)
      → slots_valid f lower l ≡ true → own_number lower y.suite ≡ true
      → ((j : Suite) → carries j l ≡ true → same_suite j y.suite ≡ true → same_suite j no_suite ≡ true)
      → slots_valid f lower (amend i (λ _. y) l) ≡ true
  unfolding amend carries among
  put_slot i y a b lower [] v n m = v
  put_slot i y a b lower (x ∷ xs) v n m =
      elim (same_suite x.suite i) as (λ t. slots_valid f lower (cond t (y ∷ xs) (x ∷ amend i (λ _. y) xs)) ≡ true) [
        | true ↦ put_together lower y xs (record {
          sound = a;
          own = n;
          decided = b;
          more = other_lower (x.suite ∷ lower) (y.suite ∷ lower) xs
              (λ j t. own_swap (same_suite j no_suite) (same_suite j x.suite) (same_suite j y.suite) (among j lower) (m j (rw (t, or-true))))
              k.more;
        })
        | false ↦ put_together lower x (amend i (λ _. y) xs) (record {
          sound = k.sound;
          own = k.own;
          decided = k.decided;
          more = put_slot i y a b (x.suite ∷ lower) xs k.more
              (own_new (same_suite y.suite no_suite) (same_suite y.suite x.suite) (among y.suite lower) zero_too n)
              (λ j t. m j (rw (t, or-true)));
        })
      ]
    where
      k : SlotIs f lower x xs
      k = taken_apart lower x xs v

      zero_too : same_suite y.suite x.suite ≡ true → same_suite y.suite no_suite ≡ true
      zero_too h =
          let e = same_suite_lem y.suite x.suite h in
          rw e (m x.suite (rw (eq-eqb x.suite.0 x.suite.0 refl)) (rw e (eq-eqb x.suite.0 x.suite.0 refl)))

-- ---- a number stands in one slot

carries_at : (l : List Slot) (k : ℕ) → k < length l → carries (get_or l k free).suite l ≡ true
unfolding carries
carries_at [] k h = absurd (omega arith)
carries_at (x ∷ xs) zero h = rw (eq-eqb x.suite.0 x.suite.0 refl)
carries_at (x ∷ xs) (suc k) h = rw (carries_at xs k (omega arith), or-true)

-- a number of a lower slot stands in no slot above
pub not_again : (f : Fixed) (lower : List Suite) (l : List Slot) (i : Suite) → slots_valid f lower l ≡ true → same_suite i no_suite ≡ false
    → among i lower ≡ true → carries i l ≡ false
unfolding carries among
not_again f lower [] i v n m = refl
not_again f lower (x ∷ xs) i v n m = go (same_suite x.suite i) refl (not_again f (x.suite ∷ lower) xs i k.more n (rw (m, or-true)))
  where
    k : SlotIs f lower x xs
    k = taken_apart f lower x xs v

    go : (b : Bool) → same_suite x.suite i ≡ b → carries i xs ≡ false → (b || carries i xs) ≡ false
    go true e r = absurd (false≢true (rw (same_suite_lem x.suite i e, n, m) at k.own))
    go false e r = r

pub one_slot : (f : Fixed) (lower : List Suite) (l : List Slot) (k : ℕ) → slots_valid f lower l ≡ true → k < length l
    → same_suite (get_or l k free).suite no_suite ≡ false → place (get_or l k free).suite l ≡ k
unfolding place among
one_slot f lower [] k v h n = absurd (omega arith)
one_slot f lower (x ∷ xs) zero v h n = rw (eq-eqb x.suite.0 x.suite.0 refl)
one_slot f lower (x ∷ xs) (suc k) v h n = go (same_suite x.suite i) refl (one_slot f (x.suite ∷ lower) xs k more (omega arith) n)
  where
    i : Suite
    i = (get_or xs k free).suite

    more : slots_valid f (x.suite ∷ lower) xs ≡ true
    more = (taken_apart f lower x xs v).more

    go : (b : Bool) → same_suite x.suite i ≡ b → place i xs ≡ k → cond b 0 (suc (place i xs)) ≡ suc k
    go true e r =
        let again = not_again f (x.suite ∷ lower) xs i more n (rw (same_suite_lem x.suite i e, eq-eqb i.0 i.0 refl)) in
        absurd (true≢false (sym (carries_at xs k (omega arith)) ∙ again))
    go false e r = ap suc r
