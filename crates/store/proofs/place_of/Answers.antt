use native.Mathlib.Omega.{arith}
use borrow.Author.Rules.{rules}
use Rattle.store.proofs.Places.{found_at, place_hit}
use Rattle.store.proofs.place_of.Goals as goal

pub returns-then-eq : goal.returns-then-eq
returns-then-eq c = found_at (omega arith) (place_hit _ _ _ c.loop-k.invariant (omega arith) (search rules))
