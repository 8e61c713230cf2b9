use Rattle.std.specs.Prelude.{◌≡◌, ℕ, ◌-◌, Bool, not, ◌&&◌, List}
use Rattle.words.specs.Search.{first_from}
use Rattle.device.specs.declared.Domain.{Domain}
use Rattle.device.specs.declared.Permission.{Permission}
use Rattle.device.specs.Device.{has}
use Rattle.device.specs.Cells.{offered}
use Rattle.model.specs.Policy.{fixed_by}
use Rattle.steps.proofs.lacking.Given as goal

abbrev lacks : List ℕ → Domain → ℕ → ℕ → Bool
lacks policy domain required n =
    let p : Permission = record { 0 = n } in
    has required p && not (offered ((fixed_by policy).cell domain p))

abbrev pub invariant-loop-p : goal.invariant-loop-p
invariant-loop-p l =
    first_from (lacks l.policy l.domain l.x.required) 64 0 ≡ first_from (lacks l.policy l.domain l.x.required) (64 - l.p) l.p
