use Rattle.monitor.proofs.Laws.{done_run}
use Rattle.monitor.proofs.run.Goals as goal

pub returns : goal.returns
returns c =
    let whole = rw c.unwrap-checked.ensures at c.as_mut_array.ensures.cases in
    done_run c.args.policy.now c.args.state.now c.in_ok-check.ensures c.args.records.now c.args.out.now c.if-not-whole.false
    (rw whole.same at c.run_events.ensures)
