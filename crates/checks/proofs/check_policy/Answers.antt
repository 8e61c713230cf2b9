use native.Mathlib.Omega.{arith}
use Rattle.words.proofs.Search.{all_from_go, all_from_done}
use Rattle.checks.proofs.check_policy.Goals as goal

pub loop-cell-preserved : goal.loop-cell-preserved
loop-cell-preserved c = let l = c.loop-cell in all_from_go _ 512 l.cell-index l.valid l.invariant (omega arith)

pub returns : goal.returns
returns c = let l = c.loop-cell in all_from_done _ 512 l.cell-index l.valid l.invariant (omega arith)
