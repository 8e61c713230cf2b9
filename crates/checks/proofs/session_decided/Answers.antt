use mathlib.Core.Path.{ap}
use borrow.Author.Rules.{rules}
use Rattle.device.specs.declared.Mode.TheVariants.{Session}
use Rattle.model.specs.Valid.{session_decided}
use Rattle.checks.specs.Rows.{row_of}
use Rattle.checks.proofs.Sessions.{beside_words}
use Rattle.checks.proofs.session_decided.Goals as goal

pub returns : goal.returns
unfolding session_decided row_of
returns c f e =
    let a = c.args in
    rw (c.fits.ensures f Session (ap (λ r. r.session) e) (ap (λ r. r.asked) e), c.apart.ensures)
    (beside_words f a.x a.r.decisions (search rules))
