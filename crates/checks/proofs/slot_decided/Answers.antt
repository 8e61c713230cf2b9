use mathlib.Core.Path.{ap}
use Rattle.device.specs.declared.Mode.TheVariants.{Blanket}
use Rattle.model.specs.Valid.{slot_decided}
use Rattle.checks.specs.Rows.{row_of}
use Rattle.checks.proofs.slot_decided.Goals as goal

pub returns : goal.returns
unfolding slot_decided row_of
returns c f e = c.fits.ensures f Blanket (ap (λ r. r.blanket) e) (ap (λ r. r.asked) e)
