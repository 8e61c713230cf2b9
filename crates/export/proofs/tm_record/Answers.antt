use Rattle.checks.proofs.Finding.{placed}
use Rattle.export.proofs.tm_record.Goals as goal

pub slot_part-requires : goal.slot_part-requires
slot_part-requires c = let a = c.args in (placed a.policy.now a.state.now (record { 0 = a.suite }) c.in-Ok.ensures).1
