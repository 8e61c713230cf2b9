-- 01, Numbers of the device: sets of small numbers, each a bit of one number.
use Rattle.std.specs.Prelude.{ℕ, ◌-◌, ◌*◌, ◌/◌, ◌%◌, ◌^◌, Bool, eqb}
use Rattle.std.specs.Int.Bits.{bit_or}

-- the bit worth 2 ^ p: 0 or 1
unfoldable pub bit : ℕ → ℕ → ℕ
bit s p = s / 2 ^ p % 2

-- p stands in s
unfoldable pub member : ℕ → ℕ → Bool
member s p = eqb (bit s p) 1

-- s with p
unfoldable pub insert : ℕ → ℕ → ℕ
insert s p = bit_or s (2 ^ p)

-- s without p: less what p is worth in it
unfoldable pub remove : ℕ → ℕ → ℕ
remove s p = s - bit s p * 2 ^ p
