-- A policy's rows as sets of permissions, so that a slot is tested a word at a time: a step between 01's rules and the code.
use Rattle.std.specs.Prelude.{ℕ, zero, suc, ◌+◌, ◌*◌, ◌/◌, ◌%◌, ◌≡◌, Bool, true, cond, List, [], ◌∷◌}
use Rattle.device.specs.declared.Permission.{Permission}
use Rattle.device.specs.declared.Domain.{Domain}
use Rattle.device.specs.declared.Mode.{Mode}
use Rattle.device.specs.declared.Mode.TheVariants.{Oneshot, Session, Blanket}
use Rattle.device.specs.Device.{permission_count, domain_count, is_domain}
use Rattle.model.specs.Policy.{Fixed}
use Rattle.device.specs.Cells.{offered, admits}
use Rattle.checks.specs.declared.Row.{Row}

-- of the n numbers from i those that pass the test, as a set: i itself is the bit worth 1
unfoldable pub set_from : (ℕ → Bool) → ℕ → ℕ → ℕ
set_from test zero i = 0
set_from test (suc n) i = cond (test i) 1 0 + 2 * set_from test n (suc i)

-- the lowest bits of the n lowest bytes of a word, the lowest byte's lowest
unfoldable pub low_bits : ℕ → ℕ → ℕ
low_bits zero word = 0
low_bits (suc n) word = word % 2 + 2 * low_bits n (word / 256)

-- the permissions that pass the test
unfoldable pub those : (Permission → Bool) → ℕ
those test = set_from (λ n. test (record { 0 = n })) permission_count 0

-- the permissions whose cell has the user asked for a consent that may be as wide as the mode
unfoldable pub admitting : Fixed → Domain → Mode → ℕ
admitting fixed domain mode = those (λ permission. admits (fixed.cell domain permission) mode)

unfoldable pub row_of : Fixed → Domain → Row
row_of fixed domain = record {
  offered = those (λ permission. offered (fixed.cell domain permission));
  asked = admitting fixed domain Oneshot;
  session = admitting fixed domain Session;
  blanket = admitting fixed domain Blanket;
}

-- n rows, from domain d
unfoldable pub rows_from : Fixed → ℕ → ℕ → List Row
rows_from fixed zero d = []
rows_from fixed (suc n) d = row_of fixed (record { 0 = d }) ∷ rows_from fixed n (suc d)

abbrev pub rows_of : Fixed → List Row
rows_of fixed = rows_from fixed domain_count 0

-- the row of a domain; of a number that is none, any row
abbrev pub RowIs : Fixed → Domain → Row → Type 0
RowIs fixed domain row = is_domain domain ≡ true → row ≡ row_of fixed domain
