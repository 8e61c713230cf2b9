-- Which place an event hands on, and what a request may name; each claim holds by computation. Assumes nothing.
use mathlib.Core.Path.{◌≡◌, refl}
use mathlib.Core.Bool.{true, false}
use mathlib.Core.List.{[], ◌∷◌, map}
use Rattle.device.specs.declared.Event.TheVariants.{Unreadable, Terminate}
use Rattle.device.specs.declared.UserAnswer.TheVariants.{None as unasked}
use Rattle.std.specs.Prelude.{Some, None}
use Rattle.model.specs.State.{State}
use Rattle.model.proofs.Worked.{install, remove, start, ask, left, computed}
use Rattle.steps.specs.Did.{place_after, named}

-- suites 5 and 6 in the slots 0 and 1; nothing runs, or 6 does
abbrev idle : State
idle = left (install 5 0 0 0 ∷ install 6 0 0 0 ∷ [])

abbrev busy : State
busy = left (install 5 0 0 0 ∷ install 6 0 0 0 ∷ start 6 ∷ [])

-- nothing runs: a start of 6, of a suite that is not installed, a request
from_idle : map (place_after idle) (start 6 ∷ start 7 ∷ ask 0 unasked ∷ []) ≡ (Some 1 ∷ None ∷ None ∷ [])
unfolding computed
from_idle = refl

-- 6 runs: a request, a start of 5, and every other event
from_busy : map (place_after busy) (ask 0 unasked ∷ start 5 ∷ Unreadable ∷ install 7 0 0 0 ∷ remove 5 ∷ Terminate ∷ [])
    ≡ (Some 1 ∷ None ∷ None ∷ None ∷ None ∷ None ∷ [])
unfolding computed
from_busy = refl

names : map named (ask 63 unasked ∷ ask 64 unasked ∷ start 5 ∷ []) ≡ (true ∷ false ∷ true ∷ [])
names = refl
