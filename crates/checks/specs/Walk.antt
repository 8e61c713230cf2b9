-- The walk over the slots' records, the zero bytes of each beside what it says: a step between validity, which goes by the bytes and
-- then by the state, and the code, which goes record by record.
use Rattle.std.specs.Prelude.{ℕ, zero, suc, ◌+◌, ◌*◌, Bool, true, ◌&&◌, List, [], ◌∷◌}
use Rattle.device.specs.declared.Suite.{Suite}
use Rattle.model.specs.Policy.{Fixed}
use Rattle.model.specs.State.{record_size, slot_at, slot_zeros}
use Rattle.model.specs.Valid.{slot_valid}

-- the numbers of the k lowest slots, the highest slot's first
unfoldable pub lower_of : List ℕ → ℕ → List Suite
lower_of bytes zero = []
lower_of bytes (suc k) = (slot_at bytes (record_size + record_size * k)).suite ∷ lower_of bytes k

-- slot k
unfoldable pub slot_record_valid : Fixed → List ℕ → ℕ → Bool
slot_record_valid fixed bytes k =
    let start = record_size + record_size * k in
    slot_zeros bytes start && slot_valid fixed (lower_of bytes k) (slot_at bytes start)

-- n slots, the first one's record at this start, with these numbers in the lower slots
unfoldable pub slot_records_valid : Fixed → List ℕ → List Suite → ℕ → ℕ → Bool
slot_records_valid fixed bytes lower zero start = true
slot_records_valid fixed bytes lower (suc n) start =
    slot_zeros bytes start && (slot_valid fixed lower (slot_at bytes start)
    && slot_records_valid fixed bytes ((slot_at bytes start).suite ∷ lower) n (start + record_size))
