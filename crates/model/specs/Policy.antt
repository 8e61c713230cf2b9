-- 01, Records: Policy.
use Rattle.std.specs.Prelude.{ℕ, ◌+◌, ◌*◌, Bool, ◌&&◌, List, length, get_or, eqb, leb}
use Rattle.words.specs.Search.{all_from}
use Rattle.device.specs.declared.Permission.{Permission}
use Rattle.device.specs.declared.Domain.{Domain}
use Rattle.device.specs.Device.{permission_count, domain_count}
use Rattle.device.specs.Cells.{allowing}

-- what is fixed over a run: a domain's cell for a permission
pub record Fixed : Type 0 where
  pub cell : Domain → Permission → ℕ

-- a row for each domain, a byte in it for each permission
abbrev pub policy_size : ℕ
policy_size = domain_count * permission_count

-- that byte is the cell; outside the bytes it is 0
unfoldable pub fixed_by : List ℕ → Fixed
fixed_by policy = record { cell = λ domain permission. get_or policy (permission_count * domain.0 + permission.0) 0 }

-- the size, and no cell above the highest
unfoldable pub policy_valid : List ℕ → Bool
policy_valid policy = eqb (length policy) policy_size && all_from (λ i. leb (get_or policy i 0) allowing) policy_size 0
