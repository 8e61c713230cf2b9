use mathlib.Core.Path.{sym}
use Rattle.checks.proofs.Finding.{place_found}
use Rattle.checks.proofs.place.Goals as goal

pub returns : goal.returns
returns c =
    let a = c.args in
    let whole = c.in_ok-whole.ensures in
    rw c.ok_or.ensures.value
    (place_found a.policy.now a.state.now a.suite whole.1 (sym c.if-not-in_range.ensures) _ (rw whole.0 at c.place_of.ensures))
