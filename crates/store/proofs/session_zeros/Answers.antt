use Rattle.words.proofs.Numbers.{le_at_zeros}
use Rattle.model.specs.State.{session_zeros}
use Rattle.store.proofs.session_zeros.Goals as goal

pub returns : goal.returns
unfolding session_zeros
returns c = rw (c.read.ensures, c.read-2.ensures, c.read-3.ensures, c.read-4.ensures, le_at_zeros 2 4, le_at_zeros 8 8)
