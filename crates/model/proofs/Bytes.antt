-- Valid bytes hold a valid state. Assumes nothing.
use Prim.Native.Nat.{ℕ, zero, suc, ◌+◌}
use mathlib.Core.Path.{◌≡◌, refl, ap}
use mathlib.Core.Bool.{true}
use mathlib.Core.List.{List}
use lib.ListN.{length}
use lib.Dec.{eqb}
use Rattle.model.specs.Policy.{Fixed}
use Rattle.model.specs.State.{record_size, state_size, slots_from, read_state}
use Rattle.model.specs.Valid.{valid, zero_bytes, state_valid}
use Rattle.model.proofs.Tests.{all_three}

pub length-slots : (b : List ℕ) (n a : ℕ) → length (slots_from b n a) ≡ n
unfolding slots_from
length-slots b zero a = refl
length-slots b (suc n) a = ap suc (length-slots b n (a + record_size))

pub holds_valid : (f : Fixed) (b : List ℕ) → state_valid f b ≡ true → valid f (read_state b) ≡ true
unfolding state_valid
holds_valid f b h = (all_three (eqb (length b) state_size) (zero_bytes b) (valid f (read_state b)) h).2
