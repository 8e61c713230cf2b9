use mathlib.Core.Path.{◌≡◌}
use Prim.Native.Nat.{◌+◌}
use native.Mathlib.Omega.{arith}
use Rattle.words.proofs.Numbers.{le_at_one, le_at_zeros}
use Rattle.model.specs.State.{slot_zeros}
use Rattle.store.proofs.slot_zeros.Goals as goal

pub returns : goal.returns
unfolding slot_zeros
returns c =
    let a = c.args.a in
    let e : a + 3 + 1 ≡ a + 4 = omega arith in
    rw (c.read.ensures, le_at_zeros 1 4, e, le_at_one)
