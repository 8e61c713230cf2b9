-- What `find` answers, by the place of the suite, and the part that goes with the answer. Assumes nothing.
use Rattle.std.specs.Prelude.{Option, Some, None, Ok}
use Rattle.std.specs.Option.{ok_or}
use mathlib.Core.Path.{◌≡◌, refl, ap, sym, ◌∙◌}
use mathlib.Core.Bool.{Bool, true, false, not, ◌&&◌, ◌||◌, cond, or-true}
use mathlib.Core.List.{List}
use Prim.Native.Nat.{ℕ, zero, suc, ◌*◌, ◌<◌}
use native.Mathlib.Omega.{arith}
use lib.Dec.{eqb, leb, ltb}
use lib.ListN.{length}
use borrow.Author.Tests.{lt-ltb, le-leb, lt-leb, ne_eqb, ltb-true, ltb-false}
use Rattle.device.specs.declared.Suite.{Suite}
use Rattle.device.specs.declared.Refusal.TheVariants.{NotInstalled}
use Rattle.device.specs.Device.{is_suite}
use Rattle.device.specs.Answers.{refused, DONE, NOT_INSTALLED}
use Rattle.model.specs.State.{place, read_state, record_size, state_size}
use Rattle.model.specs.Calls.{check_call, find_call, part_call}
use Rattle.model.proofs.Calls as calls
use Rattle.model.proofs.Calls.{passed}
use Rattle.store.specs.Holds.{found}
use Rattle.store.proofs.Places.{carries_below, found_some, carries_found, carries_not_found}
use Rattle.checks.specs.Parts.{placing, place_call}

module _ (policy b : List ℕ) (i : Suite) where
  abbrev at : ℕ
  at = place i (read_state b).slots

  -- the state is valid: the suite is installed, unless it is no suite or its place is behind the slots
  pub find_by_place : refused (check_call policy b) ≡ false → i.0 < 65536
      → find_call policy b i ≡ cond (eqb i.0 0 || leb 32 at) NOT_INSTALLED DONE
  unfolding find_call
  find_by_place h m = rw (h, lt-ltb _ _ m, carries_below b i) (ap (λ t. cond t NOT_INSTALLED DONE) (go i.0 (ltb at 32) refl))
    where
      go : (n : ℕ) (t : Bool) → ltb at 32 ≡ t → not ((ltb 0 n && true) && t) ≡ (eqb n 0 || leb 32 at)
      go zero t e = refl
      go (suc n) true e = rw (lt-ltb 0 (suc n) (omega arith), lt-leb 32 at (ltb-true at 32 e), ne_eqb (suc n) 0 (λ q. omega arith))
      go (suc n) false e = rw (lt-ltb 0 (suc n) (omega arith), le-leb 32 at (ltb-false at 32 e)) (sym (or-true (eqb (suc n) 0)))

  -- the state is valid, and it is a suite: as the search in the slots finds it
  pub place_found : check_call policy b ≡ DONE → is_suite i ≡ true → (o : Option ℕ) → o ≡ found at
      → placing (ok_or o NotInstalled) ≡ place_call policy b i
  unfolding place_call find_call
  place_found h s None e = rw (h, s, carries_not_found b i e)
  place_found h s (Some k) e = rw (h, s, carries_found b i e, (found_some e).0)

  pub part_none : refused (find_call policy b i) ≡ true → part_call policy b i ≡ record { from = 0; size = 0 }
  unfolding part_call
  part_none h = rw h

  pub part_slot : refused (find_call policy b i) ≡ false → part_call policy b i ≡ record { from = record_size * suc at; size = record_size }
  unfolding part_call
  part_slot h = rw h

  -- it is found in a slot
  pub found_place : refused (find_call policy b i) ≡ false → (length b ≡ state_size) × (at < 32)
  found_place h =
      let (good, there) = calls.found policy b i h in
      ((passed policy b good).sized, ltb-true _ _ (sym (carries_below b i) ∙ there))

  -- the same, of a place that the call answers
  pub placed : {k : ℕ} → placing (Ok k) ≡ place_call policy b i → (length b ≡ state_size) × (k < 32)
  unfolding place_call
  placed e =
      let h = ap (λ p. refused p.response) (sym e) in
      let (sized, below) = found_place h in
      (sized, rw (ap (λ p. p.slot) e, h) below)
