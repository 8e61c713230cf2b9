use Rattle.std.proofs.Common.{rules}
use Rattle.model.specs.Decision.{grant, revoke}
use Rattle.steps.proofs.terminal.Terminal.enter.Goals as goal

pub returns-in-Allow : goal.returns-in-Allow
returns-in-Allow c = rw c.in-Allow.is (c.keep.ensures (grant c.args.p) (search rules))

pub returns-in-Deny : goal.returns-in-Deny
returns-in-Deny c = rw c.in-Deny.is (c.keep-in-Deny.ensures (revoke c.args.p) (search rules))
