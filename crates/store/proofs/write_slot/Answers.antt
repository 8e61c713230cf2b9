use native.Mathlib.Omega.{arith}
use borrow.Author.Rules.{rules}
use Rattle.store.proofs.Holding.{hold_slot}
use Rattle.store.proofs.write_slot.Goals as goal

pub returns-then-k-lt-SLOT_COUNT : goal.returns-then-k-lt-SLOT_COUNT
returns-then-k-lt-SLOT_COUNT c = rw c.put_slot.ensures (hold_slot _ _ _ _ c.requires (search rules) (omega arith))
