-- What the contracts of the calls leave: one outcome for each input, the lent bytes as they were where a new state is refused, and
-- an empty part exactly where `find` refuses. Assumes nothing.
use mathlib.Core.Path.{◌≡◌, refl, ap, sym, ◌∙◌}
use mathlib.Core.Bool.{Bool, true, false}
use mathlib.Core.List.{List}
use Prim.Native.Nat.{ℕ, suc, ◌*◌, ◌-◌, min}
use native.Mathlib.Omega.{arith}
use lib.Dec.{eqb}
use lib.ListN.{length, length-take, length-drop}
use denote.Ref.{Bor}
use Rattle.device.specs.declared.Suite.{Suite}
use Rattle.device.specs.declared.Response.{Response}
use Rattle.model.specs.Policy.{policy_valid}
use Rattle.model.specs.State.{place, read_state}
use Rattle.device.specs.Answers.{refused}
use Rattle.model.specs.Calls.{Part, leaving, new_call, check_call, find_call, part_call}
use Rattle.model.proofs.Calls.{one_outcome, new_leaves}
use Rattle.checks.specs.Parts.{IsPart, Placed, place_call}
use Rattle.checks.proofs.Finding.{part_none, part_slot, found_place}

pub policy_unique : (policy : List ℕ) {r r' : Bool} → r ≡ policy_valid policy → r' ≡ policy_valid policy → r ≡ r'
policy_unique policy p q = p ∙ sym q

module _ (entry : List ℕ) {exit : List ℕ} {r : Response} (made : leaving exit r ≡ new_call entry) where
  pub new_unique : {exit' : List ℕ} {r' : Response} → leaving exit' r' ≡ new_call entry → (exit ≡ exit') × (r ≡ r')
  new_unique q = one_outcome made q

  pub new_refused : refused r ≡ true → exit ≡ entry
  new_refused h = ap (λ c. c.bytes) made ∙ new_leaves entry (ap (λ c. refused c.response) (sym made) ∙ h)

pub check_unique : (policy state : List ℕ) {r r' : Response} → r ≡ check_call policy state → r' ≡ check_call policy state → r ≡ r'
check_unique policy state p q = p ∙ sym q

pub find_unique : (policy state : List ℕ) (i : Suite) {r r' : Response} → r ≡ find_call policy state i → r' ≡ find_call policy state i
    → r ≡ r'
find_unique policy state i p q = p ∙ sym q

-- ---- the part

-- it begins in one place, and has these bytes
pub part_unique : (b : Bor (List ℕ)) (p : Part) {r r' : Bor (List ℕ)} → IsPart b p r → IsPart b p r'
    → (r.ref_ptr ≡ r'.ref_ptr) × (r.now ≡ r'.now)
part_unique b p x y =
    (λ i. ((x.block ∙ sym y.block) i, (x.start ∙ sym y.start) i), x.bytes ∙ sym y.bytes)

pub part_empty : (policy : List ℕ) (b : Bor (List ℕ)) (i : Suite) {r : Bor (List ℕ)} → IsPart b (part_call policy b.now i) r
    → eqb (length r.now) 0 ≡ refused (find_call policy b.now i)
part_empty policy b i {r} x = go (refused (find_call policy b.now i)) refl
  where
    go : (t : Bool) → refused (find_call policy b.now i) ≡ t → eqb (length r.now) 0 ≡ t
    go true e = ap (λ l. eqb (length l) 0) x.bytes ∙ rw (part_none policy b.now i e)
    go false e =
        let (size, below) = found_place policy b.now i e in
        let k = place i (read_state b.now).slots in
        let full : min 40 (1320 - 40 * suc k) ≡ 40 = omega arith in
        ap (λ l. eqb (length l) 0) x.bytes ∙ rw (part_slot policy b.now i e, length-take, length-drop, size, full)

-- ---- the place of a suite: as `find` answers, and where its part begins

pub place_unique : (policy state : List ℕ) (i : Suite) {r r' : Placed} → r ≡ place_call policy state i → r' ≡ place_call policy state i
    → r ≡ r'
place_unique policy state i p q = p ∙ sym q

pub place_finds : (policy state : List ℕ) (i : Suite) → (place_call policy state i).response ≡ find_call policy state i
unfolding place_call
place_finds policy state i = refl

pub place_part : (policy state : List ℕ) (i : Suite) → refused (find_call policy state i) ≡ false
    → part_call policy state i ≡ record { from = 40 * suc (place_call policy state i).slot; size = 40 }
unfolding place_call
place_part policy state i h = part_slot policy state i h ∙ sym (rw h)
