use mathlib.Core.Path.{◌≡◌}
use Prim.Native.Nat.{◌+◌}
use Rattle.model.specs.State.{place, read_state}
use Rattle.store.proofs.Places.{place_from}
use Rattle.store.proofs.place_of.Given as goal

abbrev pub invariant-loop-k : goal.invariant-loop-k
invariant-loop-k l = place l.suite (read_state l.state).slots ≡ l.k + place_from l.state l.suite l.k
