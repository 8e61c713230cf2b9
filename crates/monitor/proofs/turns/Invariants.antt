use Rattle.std.specs.Prelude.{◌≡◌}
use Rattle.model.specs.Policy.{fixed_by}
use Rattle.model.specs.State.{read_state}
use Rattle.steps.specs.declared.terminal.Terminal.{Terminal}
use Rattle.monitor.proofs.Runs.{Going}
use Rattle.monitor.proofs.turns.Given as goal

abbrev pub invariant-loop-i : goal.invariant-loop-i
invariant-loop-i l =
    let first : Terminal = l.initial.terminal in
    Going (fixed_by first.policy.now) (read_state first.state.now) l.records l.initial.out l.i l.terminal.state.now l.out l.terminal.place
    × (l.terminal.policy ≡ first.policy)
    × (l.terminal.state.ghost_name ≡ first.state.ghost_name)
