-- Each clause of the definitions on a concrete input; every claim holds by computation. Assumes nothing.
use mathlib.Core.Path.{◌≡◌, refl}
use mathlib.Core.Bool.{true, false}
use mathlib.Core.List.{[], ◌∷◌, map}
use lib.Dec.{leb}
use Rattle.words.specs.Numbers.{le_at, bytes_of}
use Rattle.words.specs.Sets.{bit, member, insert, remove}
use Rattle.words.specs.Search.{first_from, all_from}

-- the lowest byte first, from the place asked for; no byte behind the end
numbers_read : map (λ i. le_at 2 (1 ∷ 2 ∷ 3 ∷ []) i) (0 ∷ 1 ∷ 2 ∷ []) ≡ (0x0201 ∷ 0x0302 ∷ 0x0003 ∷ [])
unfolding le_at
numbers_read = refl

-- as many bytes as asked for, and no more of the number than they hold
numbers_written : map (λ x. bytes_of 2 x) (0x0201 ∷ 3 ∷ 0x040201 ∷ []) ≡ ((1 ∷ 2 ∷ []) ∷ (3 ∷ 0 ∷ []) ∷ (1 ∷ 2 ∷ []) ∷ [])
unfolding bytes_of
numbers_written = refl

-- the set of 0 and 2
members : map (member 0b101) (0 ∷ 1 ∷ 2 ∷ 3 ∷ []) ≡ (true ∷ false ∷ true ∷ false ∷ [])
unfolding member bit
members = refl

-- what is there stays, and is not put in or taken out twice
inserted : map (insert 0b101) (1 ∷ 2 ∷ []) ≡ (0b111 ∷ 0b101 ∷ [])
unfolding insert
inserted = refl

removed : map (remove 0b101) (1 ∷ 2 ∷ []) ≡ (0b101 ∷ 0b001 ∷ [])
unfolding remove bit
removed = refl

-- the first of two that pass; the number behind them where none does; none behind them is looked at
first_found : map (λ n. first_from (leb 5) n 3) (4 ∷ 2 ∷ 0 ∷ []) ≡ (5 ∷ 5 ∷ 3 ∷ [])
unfolding first_from
first_found = refl

all_pass : map (λ n. all_from (λ i. leb i 5) n 4) (2 ∷ 3 ∷ 0 ∷ []) ≡ (true ∷ false ∷ true ∷ [])
unfolding all_from
all_pass = refl

all_from_lem : map (all_from (leb 5) 2) (4 ∷ 5 ∷ []) ≡ (false ∷ true ∷ [])
unfolding all_from
all_from_lem = refl
