-- The search for a slot by its number: what is left of it finds what all of it finds. Assumes nothing.
use mathlib.Core.Path.{◌≡◌, refl, ap, ◌∙◌}
use mathlib.Core.Bool.{Bool, true, false, cond}
use mathlib.Core.List.{List, [], ◌∷◌, map}
use Prim.Native.Nat.{ℕ, suc, ◌+◌, ◌*◌, ◌-◌, ◌≤◌, ◌<◌}
use native.Mathlib.Omega.{arith}
use lib.Dec.{eqb, ltb}
use borrow.Author.Tests.{eq-eqb, ne_eqb, ltb-true, ltb-false, lt-ltb, le-ltb}
use Rattle.std.specs.Prelude.{Some, None}
use Rattle.words.specs.Numbers.{le_at}
use Rattle.device.specs.declared.Suite.{Suite}
use Rattle.model.specs.State.{carries, place, slot_at, slots_from, read_state}
use Rattle.model.proofs.Slots.{carries_place}
use Rattle.model.proofs.Bytes.{length-slots}
use Rattle.store.specs.Holds.{found}

-- the number stands in the slots exactly when its place is below 32
pub carries_below : (b : List ℕ) (i : Suite) → carries i (read_state b).slots ≡ ltb (place i (read_state b).slots) 32
unfolding read_state
carries_below b i = carries_place i (slots_from b 32 40) ∙ ap (ltb (place i (slots_from b 32 40))) (length-slots b 32 40)

-- ---- what is found

-- the first slot and the last one, and no slot behind them
places : map found (0 ∷ 31 ∷ 32 ∷ []) ≡ (Some 0 ∷ Some 31 ∷ None ∷ [])
places = refl

-- the place of a slot; where there is none, the place is behind the slots
pub found_some : {k p : ℕ} → Some k ≡ found p → (k ≡ p) × (k < 32)
found_some {k} {p} = go (ltb p 32) refl
  where
    go : (t : Bool) → ltb p 32 ≡ t → Some k ≡ cond t (Some p) None → (k ≡ p) × (k < 32)
    go true l e = let q : k ≡ p = cc in let h = ltb-true p 32 l in (q, omega arith)
    go false l e = absurd (cc)

pub found_at : {k p : ℕ} → k < 32 → k ≡ p → Some k ≡ found p
found_at {k} {p} h e = rw (← e, lt-ltb k 32 h)

pub found_none : {p : ℕ} → None ≡ found p → 32 ≤ p
found_none {p} = go (ltb p 32) refl
  where
    go : (t : Bool) → ltb p 32 ≡ t → None ≡ cond t (Some p) None → 32 ≤ p
    go true l e = absurd (cc)
    go false l e = ltb-false p 32 l

-- the slots of a state that bytes hold: one carries the number where a place is found, and none where none is
pub carries_found : (b : List ℕ) (i : Suite) {k : ℕ} → Some k ≡ found (place i (read_state b).slots)
    → carries i (read_state b).slots ≡ true
carries_found b i e = let (at, h) = found_some e in carries_below b i ∙ lt-ltb _ 32 (rw at at h)

pub carries_not_found : (b : List ℕ) (i : Suite) → None ≡ found (place i (read_state b).slots)
    → carries i (read_state b).slots ≡ false
carries_not_found b i e = carries_below b i ∙ le-ltb _ 32 (found_none e)

pub ruleset carries_rules = (carries_found, carries_not_found)

-- ---- the search

module _ (b : List ℕ) (i : Suite) (k : ℕ) where
  -- the place in the slots from k on
  abbrev pub place_from : ℕ
  place_from = place i (slots_from b (32 - k) (40 + 40 * k))

  turn : k < 32 → place_from
      ≡ cond (eqb (le_at 2 b (40 + 40 * k)) i.0) 0 (suc (place i (slots_from b (32 - (k + 1)) (40 + 40 * (k + 1)))))
  unfolding place slots_from slot_at
  turn h =
      let e : 32 - k ≡ suc (32 - (k + 1)) = omega arith in
      let f : 40 + 40 * k + 40 ≡ 40 + 40 * (k + 1) = omega arith in
      rw (e, f)

  pub place_hit : {whole : ℕ} → whole ≡ k + place_from → k < 32 → le_at 2 b (40 + 40 * k) ≡ i.0 → k ≡ whole
  place_hit p h e = let t = rw (eq-eqb _ _ e) at (turn h) in omega arith

  pub place_pass : {whole : ℕ} → whole ≡ k + place_from → k < 32 → (le_at 2 b (40 + 40 * k) ≡ i.0 → ⊥)
      → whole ≡ k + 1 + place i (slots_from b (32 - (k + 1)) (40 + 40 * (k + 1)))
  place_pass p h n = let t = rw (ne_eqb _ _ n) at (turn h) in omega arith

  pub place_end : {whole : ℕ} → whole ≡ k + place_from → 32 ≤ k → k ≡ whole
  unfolding place slots_from
  place_end p h = let e : 32 - k ≡ 0 = omega arith in let q = rw e at p in omega arith
