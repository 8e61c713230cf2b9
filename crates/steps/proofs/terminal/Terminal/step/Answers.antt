use Rattle.std.proofs.Common.{refl}
use Rattle.model.specs.Step.{step}
use Rattle.steps.proofs.terminal.Terminal.step.Goals as goal

pub returns-in-Unreadable : goal.returns-in-Unreadable
unfolding step
returns-in-Unreadable c =
    rw c.in-Unreadable.is
    (record { did = record { response = refl; state = c.args.self.now.holds }; place = refl; policy = refl; lent = refl })
