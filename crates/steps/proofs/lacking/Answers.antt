use Rattle.std.proofs.Common.{rules, ◌≡◌, ℕ, ◌<◌, ◌≤◌, ap, Some, None}
use borrow.Author.Tests.{lt-ltb, le-ltb}
use Rattle.words.proofs.Search.{first_from_go, first_from_stop, first_from_done}
use Rattle.device.specs.declared.Domain.{Domain}
use Rattle.device.specs.declared.Descriptor.{Descriptor}
use Rattle.device.specs.Device.{lowest}
use Rattle.model.specs.Policy.{Fixed}
use Rattle.model.specs.Step.{lacking}
use Rattle.steps.specs.Did.{lacking_one}
use Rattle.steps.proofs.lacking.Goals as goal

module _ (f : Fixed) (x : Descriptor) (d : Domain) {p : ℕ} (least : p ≡ (lacking f x d).0) where
  one : record { 0 = p } ≡ lacking f x d
  one = ap (λ n. record { 0 = n }) least

  lacks : p < 64 → Some (record { 0 = p }) ≡ lacking_one f x d
  unfolding lacking_one
  lacks h = rw (← one, lt-ltb p 64 h)

  lacks_none : 64 ≤ p → None ≡ lacking_one f x d
  unfolding lacking_one
  lacks_none h = rw (← one, le-ltb p 64 h)

pub returns-then-has-offers : goal.returns-then-has-offers
unfolding lacking lowest
returns-then-has-offers c =
    let test = rw c.cell.ensures at c.offered-offers.ensures in
    lacks _ c.args.x c.args.domain
    (first_from_stop _ 64 c.loop-p.p c.loop-p.invariant (search rules) (rw (← c.has.ensures, ← test) c.if-has-offers.true))
    (search rules)

pub loop-p-preserved : goal.loop-p-preserved
loop-p-preserved c =
    let test = rw c.cell.ensures at c.offered-offers.ensures in
    first_from_go _ 64 c.loop-p.p c.loop-p.invariant (search rules) (rw (← c.has.ensures, ← test) c.if-has-offers.false)

pub returns : goal.returns
unfolding lacking lowest
returns c =
    lacks_none _ c.args.x c.args.domain (first_from_done _ 64 c.loop-p.p c.loop-p.invariant c.loop-p-test.false) c.loop-p-test.false
