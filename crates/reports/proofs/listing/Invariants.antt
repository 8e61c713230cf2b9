use Rattle.std.proofs.Common.{◌≡◌, ◌*◌, ◌≤◌, length}
use Rattle.reports.specs.Text.{lines}
use Rattle.reports.proofs.listing.Given as goal

abbrev pub invariant-loop-index : goal.invariant-loop-index
invariant-loop-index l = (l.text.bytes ≡ lines l.index l.fn.answers) × (length l.text.bytes ≤ 13 * l.index)
