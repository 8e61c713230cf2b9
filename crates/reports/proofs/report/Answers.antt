use Rattle.std.proofs.Common.{◌∙◌, arith, refl}
use Rattle.device.proofs.Responses.{refusal_refused}
use Rattle.reports.specs.Text.{ascii}
use Rattle.reports.proofs.Texts.{refused_text, whole_text}
use Rattle.reports.proofs.Reports.{lent_fits, lent_text}
use Rattle.reports.proofs.report.Goals as goal

pub listing-requires : goal.listing-requires
listing-requires c =
    let (few, room) = lent_fits c.args.policy.now c.args.events.now c.room_for.ensures.value c.in-Ok.ensures in
    record { empty = c.requires; counted = (few, omega arith) }

pub returns-in-Ok : goal.returns-in-Ok
unfolding ascii
returns-in-Ok c =
    c.listing.ensures ∙ whole_text _ _ _ refl ∙ lent_text c.args.policy.now c.args.events.now c.room_for.ensures.value c.in-Ok.ensures

pub returns-in-Err : goal.returns-in-Err
unfolding ascii
returns-in-Err c =
    c.refused.ensures ∙ refused_text _ _ _ (refusal_refused c.in-Err.refusal)
    ∙ lent_text c.args.policy.now c.args.events.now c.room_for.ensures.value c.in-Err.ensures
