-- The comparison of two records' numbers, field by field; the claim holds by computation. Assumes nothing.
use mathlib.Core.Path.{◌≡◌, refl}
use mathlib.Core.Bool.{true, false}
use mathlib.Core.List.{[], ◌∷◌, map}
use lib.ListN.{replicate}
use Rattle.device.specs.declared.Fields.{Fields}
use Rattle.model.specs.Events.{numbers}
use Rattle.events.specs.Fields.{same_fields}

abbrev padded : Fields
padded = record { kind = 1; domain = 2; suite = 3; permission = 4; answer = 5; pad = 9; required = 6; optional = 7 }

-- the same numbers, and each one changed
compared : map (same_fields (numbers 1 2 3 4 5 6 7)) (numbers 1 2 3 4 5 6 7 ∷ numbers 9 2 3 4 5 6 7 ∷ numbers 1 9 3 4 5 6 7
    ∷ numbers 1 2 9 4 5 6 7 ∷ numbers 1 2 3 9 5 6 7 ∷ numbers 1 2 3 4 9 6 7 ∷ padded ∷ numbers 1 2 3 4 5 9 7 ∷ numbers 1 2 3 4 5 6 9 ∷ [])
    ≡ (true ∷ replicate 8 false)
unfolding same_fields
compared = refl
