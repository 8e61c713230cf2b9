use Rattle.model.specs.State.{read_state}
use Rattle.store.proofs.Holding.{held}
use Rattle.steps.proofs.Requests.{knows_decided}
use Rattle.steps.proofs.terminal.Terminal.keep.Goals as goal

pub invariant_of-self-in-Blanket : goal.invariant_of-self-in-Blanket
invariant_of-self-in-Blanket g c =
    let t = c.args.self.now in
    record {
      holds = held c.write_slot.ensures;
      knows = knows_decided (read_state t.state.now) _ t.place c.args.slot c.decide-decisions-in-Blanket.result c.requires.place
          c.requires.slot c.write_slot.ensures.read t.knows;
    }
