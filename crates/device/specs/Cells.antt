-- 01, Records: what a cell of the policy says. 000 (7), (8): as a function of the cell, a domain gives a permission at most one mode.
use Rattle.std.specs.Prelude.{ℕ, Bool, false, ◌&&◌, cond, eqb, leb, Option, Some, None}
use Rattle.device.specs.declared.Mode.{Mode}
use Rattle.device.specs.declared.Mode.TheVariants.{Oneshot, Blanket}
use Rattle.device.specs.Device.{width, mode_of}

-- a cell of 4 allows and nobody is asked (000: allow); no cell is above it
abbrev pub allowing : ℕ
allowing = 4

abbrev pub unconditional : ℕ → Bool
unconditional cell = eqb cell allowing

-- a cell of 0 offers nothing
abbrev pub offered : ℕ → Bool
offered cell = leb 1 cell && leb cell allowing

-- cells 1, 2 and 3 are the highest mode that the user may consent in (000: user); with any other nobody is asked
unfoldable pub highest : ℕ → Option Mode
highest cell = cond (leb (width Oneshot) cell && leb cell (width Blanket)) (Some (mode_of cell)) None

-- a consent in this mode is at most the highest (000 (16): a mode of the policy with mode ≤ₘ it)
abbrev pub up_to : Option Mode → Mode → Bool
up_to None mode = false
up_to (Some most) mode = leb (width mode) (width most)

abbrev pub admits : ℕ → Mode → Bool
admits cell mode = up_to (highest cell) mode
