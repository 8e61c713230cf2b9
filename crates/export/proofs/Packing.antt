-- The header's unpacking undoes the packing; both on literal numbers. Assumes nothing.
use Prim.Native.Nat.{◌+◌, ◌*◌, ◌/◌, ◌%◌, ◌^◌, ◌≤◌, ◌<◌}
use native.Mathlib.Omega.{arith}
use mathlib.Core.Path.{◌≡◌, refl}
use mathlib.Core.Bool.{true, false}
use mathlib.Core.List.{[], ◌∷◌, map}
use lib.Dec.{leb}
use borrow.Author.Tests.{leb-true}
use Rattle.device.specs.declared.Response.{Response}
use Rattle.device.specs.Answers.{plain, detailed}
use Rattle.model.specs.Calls.{Part}
use Rattle.export.specs.Packed.{packed, unpacked, packed_part, unpacked_part, refused_no}

pub answer_unpacked : (r : Response) → leb r.number 30 ≡ true → unpacked (packed r) ≡ r
answer_unpacked r h =
    let low = leb-true r.number 30 h in
    λ i. record { number = low_part low i; detail = high_part low i }
  where
    low_part : r.number ≤ 30 → (r.number + 256 * r.detail) % 256 ≡ r.number
    low_part h = omega arith

    high_part : r.number ≤ 30 → (r.number + 256 * r.detail) / 256 ≡ r.detail
    high_part h = omega arith

pub part_unpacked : (p : Part) → p.from < 2 ^ 32 → unpacked_part (packed_part p) ≡ p
part_unpacked p h = λ i. record { from = low_part h i; size = high_part h i }
  where
    low_part : p.from < 2 ^ 32 → (p.from + 2 ^ 32 * p.size) % 2 ^ 32 ≡ p.from
    low_part h = omega arith

    high_part : p.from < 2 ^ 32 → (p.from + 2 ^ 32 * p.size) / 2 ^ 32 ≡ p.size
    high_part h = omega arith

-- ---- literal numbers

answers : map packed (plain 18 ∷ detailed 29 3 ∷ []) ≡ (0x12 ∷ 0x31D ∷ [])
answers = refl

answers_back : map unpacked (0x12 ∷ 0x31D ∷ []) ≡ (plain 18 ∷ detailed 29 3 ∷ [])
answers_back = refl

parts : packed_part (record { from = 80; size = 40 }) ≡ 0x2800000050
parts = refl

parts_back : unpacked_part 0x2800000050 ≡ record { from = 80; size = 40 }
parts_back = refl

refusals : map refused_no (0x203 ∷ 0x10 ∷ 0x31D ∷ []) ≡ (false ∷ true ∷ true ∷ [])
refusals = refl
