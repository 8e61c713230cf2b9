use mathlib.Core.Path.{◌≡◌}
use native.Mathlib.Omega.{arith}
use lib.ListN.{length}
use Rattle.model.specs.Calls.{new_call}
use Rattle.checks.proofs.new_state.Goals as goal

pub returns : goal.returns
unfolding new_call
returns c =
    let size : length c.args.state.now ≡ 1320 = omega arith in
    rw (c.fill.ensures.after (λ y e. e), size)
