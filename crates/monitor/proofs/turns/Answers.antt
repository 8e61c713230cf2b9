use Rattle.std.proofs.Common.{◌≡◌, refl, ◌∙◌}
use native.Mathlib.Omega.{arith}
use borrow.Author.Rules.{rules}
use Rattle.model.specs.Policy.{fixed_by}
use Rattle.model.specs.State.{read_state}
use Rattle.monitor.proofs.Runs.{going_from, going_on, gone_through}
use Rattle.monitor.proofs.turns.Goals as goal

pub loop-i-init : goal.loop-i-init
loop-i-init c =
    let t = c.args.terminal.now in
    (going_from (fixed_by t.policy.now) (read_state t.state.now) c.args.records.now c.args.out.now t.holds t.knows, refl, refl)

pub turn-requires-clause-room : goal.turn-requires-clause-room
turn-requires-clause-room c = let g = c.loop-i.invariant.0 in omega (arith, g.sized, c.requires.room)

pub loop-i-preserved : goal.loop-i-preserved
loop-i-preserved c =
    let t = c.args.terminal.now in
    let l = c.loop-i in
    let turned = rw l.invariant.1 at c.turn.ensures.turned in (
      going_on (fixed_by t.policy.now) (read_state t.state.now) c.args.records.now c.args.out.now l.i l.invariant.0
          (search rules) turned,
      c.turn.ensures.policy ∙ l.invariant.1,
      c.turn.ensures.lent ∙ l.invariant.2,
    )

pub returns-clause-through : goal.returns-clause-through
returns-clause-through c =
    let t = c.args.terminal.now in
    let e : c.loop-i.i ≡ c.args.n = omega arith in
    let (going, same, lent) = c.loop-i.invariant in
    gone_through (fixed_by t.policy.now) (read_state t.state.now) c.args.records.now c.args.out.now (rw e at going) c.requires.room
