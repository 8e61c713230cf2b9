-- The rows of a policy as sets, and the walk over the slots' records, on concrete inputs; each claim holds by computation. Assumes
-- nothing.
use Prim.Native.Nat.{ℕ}
use mathlib.Core.Path.{◌≡◌, refl}
use mathlib.Core.Bool.{true, false}
use mathlib.Core.List.{List, [], ◌∷◌, ◌++◌, map}
use lib.ListN.{set}
use lib.Dec.{leb}
use Rattle.model.specs.Policy.{fixed_by}
use Rattle.model.proofs.Worked.{policy, zeros, computed}
use Rattle.checks.specs.Rows.{set_from, low_bits, those, admitting, row_of, rows_from}
use Rattle.checks.specs.Walk.{lower_of, slot_record_valid, slot_records_valid}

-- of 4, 5, 6, 7 those from 6 on; the lowest bits of four bytes
sets : (set_from (leb 6) 4 4 ≡ 0b1100) × (low_bits 4 0x03020100 ≡ 0b1010) × (low_bits 2 0x01010101 ≡ 0b11)
unfolding set_from low_bits
sets = (refl, refl, refl)

-- domain 2 has the cells 4, 2, 3, 1
row : row_of (fixed_by policy) (record { 0 = 2 }) ≡ record { offered = 0b1111; asked = 0b1110; session = 0b0110; blanket = 0b0100 }
unfolding computed row_of admitting those set_from
row = refl

-- rows from domain 1 on
rows : map (λ r. r.offered) (rows_from (fixed_by policy) 2 1) ≡ (0 ∷ 0b1111 ∷ [])
unfolding computed rows_from row_of those set_from
rows = refl

-- suites 5, 0 and 6 in three slots of domain 2, behind the session's record
abbrev three : List ℕ
three = zeros 40 ++ (5 ∷ 0 ∷ 2 ∷ zeros 37 ++ (zeros 40 ++ (6 ∷ 0 ∷ 2 ∷ zeros 37)))

lower : map (λ k. map (λ i. i.0) (lower_of three k)) (0 ∷ 2 ∷ 3 ∷ []) ≡ ([] ∷ (0 ∷ 5 ∷ []) ∷ (6 ∷ 0 ∷ 5 ∷ []) ∷ [])
unfolding computed lower_of
lower = refl

-- as they are; a zero byte of the last one set; its number that of the first
walked : map (λ b. slot_records_valid (fixed_by policy) b [] 3 40) (three ∷ set three 123 1 ∷ set three 120 5 ∷ []) ≡ (true ∷ false ∷ false ∷ [])
unfolding computed slot_records_valid
walked = refl

one_walked : map (λ b. slot_record_valid (fixed_by policy) b 2) (three ∷ set three 123 1 ∷ set three 120 5 ∷ []) ≡ (true ∷ false ∷ false ∷ [])
unfolding computed slot_record_valid lower_of
one_walked = refl
