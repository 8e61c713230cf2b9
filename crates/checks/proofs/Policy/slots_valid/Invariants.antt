use mathlib.Core.Path.{◌≡◌}
use mathlib.Core.List.{[]}
use Rattle.model.specs.Policy.{fixed_by}
use Rattle.checks.specs.Walk.{slot_records_valid}
use Rattle.checks.proofs.Slots.{rest}
use Rattle.checks.proofs.Policy.slots_valid.Given as goal

abbrev pub invariant-loop-k : goal.invariant-loop-k
invariant-loop-k l =
    slot_records_valid (fixed_by l.self.cells.now) l.state [] 32 40 ≡ rest (fixed_by l.self.cells.now) l.state l.k
