use borrow.Author.Rules.{rules}
use Rattle.checks.proofs.Slots.{fits_words}
use Rattle.checks.proofs.fits.Goals as goal

pub returns : goal.returns
returns c f m grantable asked =
    let a = c.args in
    rw (c.within.ensures, c.within-2.ensures, c.apart.ensures, grantable, asked)
    (fits_words f a.x m a.d (search rules))
