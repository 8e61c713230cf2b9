use Rattle.std.proofs.Common.{arith, ap, ◌∙◌}
use Rattle.model.specs.Events.{fields_at}
use Rattle.model.specs.Calls.{reading}
use Rattle.events.specs.Fields.{same_fields}
use Rattle.events.proofs.Laws.{read_numbers}
use Rattle.events.proofs.read_event.Goals as goal

-- first, since a wrong answer is wrong here: an edit of the function is refused at a goal that is false
pub returns : goal.returns
unfolding same_fields
returns c =
    let whole = c.in-Some.ensures.cases in
    let read = read_numbers c.args.bytes.now (λ k. omega (arith, c.type_inv.bytes k)) whole.long
    (c.fields_at-numbers.ensures ∙ ap fields_at whole.same) c.event_of-event.ensures c.fits.ensures c.fields_of.ensures c.eq.ensures in
    ap reading (rw c.if-not-good.false at read)

pub returns-then-not-good : goal.returns-then-not-good
unfolding same_fields
returns-then-not-good c =
    let whole = c.in-Some.ensures.cases in
    let read = read_numbers c.args.bytes.now (λ k. omega (arith, c.type_inv.bytes k)) whole.long
    (c.fields_at-numbers.ensures ∙ ap fields_at whole.same) c.event_of-event.ensures c.fits.ensures c.fields_of.ensures c.eq.ensures in
    ap reading (rw c.if-not-good.true at read)
