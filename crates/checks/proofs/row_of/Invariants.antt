use mathlib.Core.Path.{◌≡◌}
use Prim.Native.Nat.{◌*◌}
use Rattle.checks.proofs.Rows.{plane_from}
use Rattle.checks.proofs.row_of.Given as goal

abbrev pub invariant-loop-i : goal.invariant-loop-i
invariant-loop-i l = record {
  ones : l.ones ≡ plane_from l.policy l.start 0 (4 * l.i);
  twos : l.twos ≡ plane_from l.policy l.start 1 (4 * l.i);
  fours : l.fours ≡ plane_from l.policy l.start 2 (4 * l.i);
}
