use mathlib.Core.Path.{refl}
use borrow.Author.Rules.{rules}
use Rattle.model.specs.Policy.{fixed_by}
use Rattle.checks.proofs.Rows.{rows_made}
use Rattle.checks.proofs.rows_of.Goals as goal

pub returns : goal.returns
returns c =
    let items = c.from_fn.ensures.items in
    rows_made _ _ (fixed_by c.args.policy.now) (λ k row left l called. search rules) _ items.long 8 0 refl items.each
