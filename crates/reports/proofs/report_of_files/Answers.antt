use Rattle.std.proofs.Common.{arith}
use Rattle.reports.proofs.report_of_files.Goals as goal

-- what was read of each file stands for it; written out, since other bytes would prove it of the files swapped too
pub returns : goal.returns
returns g c = record {
  policy = c.read_file-policy.result.now;
  events = c.read_file-events.result.now;
  policy_within = omega (arith, c.read_file-policy.ensures);
  events_within = omega (arith, c.read_file-events.ensures);
  reported = c.report.ensures;
}
