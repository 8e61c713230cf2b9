-- 01, Numbers of the device.
use Rattle.std.specs.Prelude.{ℕ, ◌^◌, Bool, ◌&&◌, cond, eqb, ltb}
use Rattle.words.specs.Sets.{member}
use Rattle.words.specs.Search.{first_from, all_from}
use Rattle.device.specs.declared.Suite.{Suite}
use Rattle.device.specs.declared.Permission.{Permission}
use Rattle.device.specs.declared.Domain.{Domain}
use Rattle.device.specs.declared.Mode.{Mode}
use Rattle.device.specs.declared.Mode.TheVariants.{Oneshot, Session, Blanket}

-- permissions are numbered from 0 to 63
abbrev pub permission_count : ℕ
permission_count = 64

abbrev pub is_permission : Permission → Bool
is_permission permission = ltb permission.0 permission_count

-- domains from 0 to 7
abbrev pub domain_count : ℕ
domain_count = 8

abbrev pub is_domain : Domain → Bool
is_domain domain = ltb domain.0 domain_count

-- suites from 1 to 65,535: two bytes, of which 0 stands for no suite
abbrev pub is_suite : Suite → Bool
is_suite suite = ltb 0 suite.0 && ltb suite.0 65536

abbrev pub no_suite : Suite
no_suite = record { 0 = 0 }

abbrev pub same_suite : Suite → Suite → Bool
same_suite suite other = eqb suite.0 other.0

-- a device has room for so many suites
abbrev pub slot_count : ℕ
slot_count = 32

-- the modes in their order (000 (6)), by number
abbrev pub width : Mode → ℕ
width Oneshot = 1
width Session = 2
width Blanket = 3

-- the mode with a number from 1 to 3; the widest for any other
unfoldable pub mode_of : ℕ → Mode
mode_of n = cond (eqb n (width Oneshot)) Oneshot (cond (eqb n (width Session)) Session Blanket)

-- sets of permissions are numbers of 64 bits, a bit for each
abbrev pub is_set : ℕ → Bool
is_set set = ltb set (2 ^ permission_count)

abbrev pub has : ℕ → Permission → Bool
has set permission = member set permission.0

-- every permission passes the test
unfoldable pub every : (Permission → Bool) → Bool
every test = all_from (λ n. test (record { 0 = n })) permission_count 0

-- the lowest permission that passes it; none, 64, where no permission does
unfoldable pub lowest : (Permission → Bool) → Permission
lowest test = record { 0 = first_from (λ n. test (record { 0 = n })) permission_count 0 }
