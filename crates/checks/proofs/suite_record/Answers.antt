use native.Mathlib.Omega.{arith}
use Rattle.checks.proofs.Finding.{placed}
use Rattle.checks.proofs.suite_record.Goals as goal

pub slot_part-requires : goal.slot_part-requires
slot_part-requires c = let a = c.args in omega (arith, placed a.policy.now a.state.now a.suite c.in-Ok.ensures)
