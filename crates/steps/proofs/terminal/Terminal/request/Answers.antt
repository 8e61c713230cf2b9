use Rattle.std.proofs.Common.{rules, refl, sym, ◌∙◌}
use Rattle.model.specs.Policy.{fixed_by}
use Rattle.steps.proofs.Events.{did}
use Rattle.steps.proofs.Requests.{asked_for, request_nowhere, request_fails}
use Rattle.steps.proofs.terminal.Terminal.request.Goals as goal

pub returns-in_default : goal.returns-in_default
returns-in_default c =
    let t = c.args.self.now in
    let f = fixed_by t.policy.now in
    let none = sym c.in_default.is ∙ c.running_at-self.ensures in
    record {
      did = did (request_nowhere f t.state.now c.args.p c.args.u c.in_ok-session.ensures none) refl t.holds;
      place = c.running_at-self.ensures ∙ asked_for f t.state.now c.args.p c.args.u c.in_ok-session.ensures;
      policy = refl;
      lent = refl;
    }

pub returns-in_err-answer : goal.returns-in_err-answer
returns-in_err-answer c =
    let t = c.args.self.now in
    let f = fixed_by t.policy.now in
    let fails = request_fails f t.state.now c.args.p c.args.u c.in_ok-session.ensures (sym c.in-Some.is ∙ c.running_at-self.ensures)
    c.read_slot-slot.ensures c.in_err-answer.field-0.0 (rw (← c.declared.ensures, ← c.cell.ensures, ← c.standing.ensures) c.in_err-answer.ensures) in
    let place = c.running_at-self.ensures ∙ asked_for f t.state.now c.args.p c.args.u c.in_ok-session.ensures in
    search rules
