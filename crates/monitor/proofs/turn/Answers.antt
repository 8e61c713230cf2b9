use Rattle.std.proofs.Common.{◌≡◌, ◌+◌, ◌*◌, ◌-◌, arith, ap, ◌∙◌}
use Rattle.monitor.proofs.turn.Goals as goal

pub returns-clause-turned : goal.returns-clause-turned
returns-clause-turned c =
    let i = c.args.i in
    let n : 24 * i + 24 - 24 * i ≡ 24 = omega arith in
    let read = ap (λ r. r.event) c.read_event-event.ensures in
    let did = rw (read, n) at c.step-outcome.ensures.did in
    let place = rw (read, n) at c.step-outcome.ensures.place in
    record { state = did.state; output = c.put_answer.ensures ∙ rw (c.from.ensures, did.response); place = place }
