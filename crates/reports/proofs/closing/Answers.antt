use mathlib.Core.List.{append_assoc}
use borrow.Author.Rules.{rules}
use Rattle.reports.specs.Text.{ascii, closing}
use Rattle.reports.proofs.Decimal.{own_decimal}
use Rattle.reports.proofs.closing.Goals as goal

pub returns-clause-bytes : goal.returns-clause-bytes
unfolding closing ascii
returns-clause-bytes c =
    let n = own_decimal c.args.number (search rules) in
    simp (
      c.push_str-3.ensures.bytes,
      c.push_str-2.ensures.bytes,
      c.push_str.ensures.bytes,
      c.new-closing.ensures,
      c.format.ensures.text,
      n,
      append_assoc,
    )
