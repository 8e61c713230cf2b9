-- A walk over the numbers from i: the first of n that passes a test, and whether all of n pass it.
use Rattle.std.specs.Prelude.{ℕ, zero, suc, Bool, true, ◌&&◌, cond}

-- the first of the n numbers from i that passes f; where none does, the number behind them
unfoldable pub first_from : (ℕ → Bool) → ℕ → ℕ → ℕ
first_from f zero i = i
first_from f (suc n) i = cond (f i) i (first_from f n (suc i))

-- all of the n numbers from i pass f
unfoldable pub all_from : (ℕ → Bool) → ℕ → ℕ → Bool
all_from f zero i = true
all_from f (suc n) i = f i && all_from f n (suc i)
