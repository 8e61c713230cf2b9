use mathlib.Core.Path.{◌≡◌}
use mathlib.Core.Bool.{◌&&◌}
use Prim.Native.Nat.{◌-◌}
use lib.ListN.{get_or}
use lib.Dec.{leb}
use Rattle.words.specs.Search.{all_from}
use Rattle.model.specs.Policy.{policy_valid}
use Rattle.checks.proofs.check_policy.Given as goal

abbrev pub invariant-loop-cell : goal.invariant-loop-cell
invariant-loop-cell l = policy_valid l.policy ≡ (l.valid && all_from (λ k. leb (get_or l.policy k 0) 4) (512 - l.cell-index) l.cell-index)
