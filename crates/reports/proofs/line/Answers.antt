use mathlib.Core.List.{append_assoc}
use borrow.Author.Rules.{rules}
use Rattle.reports.specs.Text.{ascii, line}
use Rattle.reports.proofs.Decimal.{own_decimal}
use Rattle.reports.proofs.line.Goals as goal

pub returns : goal.returns
unfolding line ascii
returns c =
    let i = own_decimal c.args.index (search rules) in
    let n = own_decimal c.args.number (search rules) in
    let d = own_decimal c.args.detail (search rules) in
    simp (
      c.push_str-6.ensures.bytes,
      c.push_str-5.ensures.bytes,
      c.push_str-4.ensures.bytes,
      c.push_str-3.ensures.bytes,
      c.push_str-2.ensures.bytes,
      c.push_str.ensures.bytes,
      c.new-line.ensures,
      c.format.ensures.text,
      c.format-2.ensures.text,
      c.format-3.ensures.text,
      i,
      n,
      d,
      append_assoc,
    )
