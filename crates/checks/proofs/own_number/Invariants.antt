use mathlib.Core.Path.{◌≡◌}
use Rattle.model.specs.Valid.{among}
use Rattle.checks.specs.Walk.{lower_of}
use Rattle.checks.proofs.own_number.Given as goal

abbrev pub invariant-loop-j : goal.invariant-loop-j
invariant-loop-j l = l.seen ≡ among l.suite (lower_of l.state l.j)
