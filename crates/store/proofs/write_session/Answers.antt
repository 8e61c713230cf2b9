use borrow.Author.Rules.{rules}
use Rattle.store.proofs.Holding.{hold_session}
use Rattle.store.proofs.write_session.Goals as goal

pub returns : goal.returns
returns c = rw c.put_session.ensures (hold_session _ _ _ c.requires (search rules))
