use Rattle.std.proofs.Common.{arith, add-one}
use Rattle.reports.proofs.Texts.{counted_pairs, line_more}
use Rattle.reports.proofs.listing.Goals as goal

pub loop-index-preserved : goal.loop-index-preserved
loop-index-preserved c =
    let n = counted_pairs c.args.count c.args.answers.now c.requires.counted.1 c.as_chunks.ensures.front in
    let e = line_more c.args.count c.args.answers.now c.requires.counted.1 c.as_chunks.ensures.front c.loop-index.index (omega arith) in
    (rw add-one (rw e (cc)), omega arith)
