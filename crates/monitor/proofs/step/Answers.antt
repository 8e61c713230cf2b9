use Rattle.monitor.proofs.Laws.{done_step}
use Rattle.monitor.proofs.step.Goals as goal

pub returns : goal.returns
returns c =
    let whole = rw c.unwrap-checked.ensures at c.as_mut_array.ensures.cases in
    done_step c.args.policy.now c.args.state.now c.in_ok-check.ensures c.args.bytes.now c.read_event.ensures
    (rw whole.same at c.step_once.ensures)
