-- 01, Numbers of the device: a number in bytes, the lowest byte first. One definition each way, for every width.
use Rattle.std.specs.Prelude.{ℕ, zero, suc, ◌+◌, ◌*◌, ◌/◌, ◌%◌, List, [], ◌∷◌, get_or}

-- the number whose w bytes, the lowest first, stand at place i of s
unfoldable pub le_at : ℕ → List ℕ → ℕ → ℕ
le_at zero s i = 0
le_at (suc w) s i = get_or s i 0 + 256 * le_at w s (i + 1)

-- the w bytes of x, the lowest first
unfoldable pub bytes_of : ℕ → ℕ → List ℕ
bytes_of zero x = []
bytes_of (suc w) x = x % 256 ∷ bytes_of w (x / 256)
