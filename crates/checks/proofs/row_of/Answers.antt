use mathlib.Core.Path.{◌≡◌, sym, ap, ◌∙◌}
use Prim.Native.Nat.{ℕ, ◌*◌, ◌<◌}
use native.Mathlib.Nat.{div-one}
use native.Mathlib.Omega.{arith}
use lib.ListN.{get_or}
use Rattle.checks.specs.Rows.{low_bits}
use Rattle.checks.proofs.Rows.{four_before, splits_1, splits_2, splits_4, cell_small, row_made}
use Rattle.checks.proofs.row_of.Goals as goal

pub loop-i-preserved : goal.loop-i-preserved
loop-i-preserved c =
    let b = c.args.policy.now in
    let start = 64 * c.args.domain in
    let bytes : (k : ℕ) → get_or b k 0 < 256 = λ k. omega (arith, cell_small b c.requires.0 k) in
    let l = c.loop-i in
    let some = c.loop-i-test.true in
    let cells = c.read-cells.ensures in record {
      ones = four_before b start 0 1 (splits_1 b start) bytes l.i l.invariant.ones some l.auto.i cells
          (c.low_bits.ensures ∙ ap (low_bits 4) (sym (div-one _)));
      twos = four_before b start 1 2 (splits_2 b start) bytes l.i l.invariant.twos some l.auto.i cells
          c.low_bits-in-loop-i.ensures;
      fours = four_before b start 2 4 (splits_4 b start) bytes l.i l.invariant.fours some l.auto.i cells
          c.low_bits-in-loop-i-2.ensures;
    }

pub returns : goal.returns
returns c =
    let l = c.loop-i in
    let e : 4 * l.i ≡ 0 = omega arith in
    rw (l.invariant.ones, l.invariant.twos, l.invariant.fours, e)
    (row_made c.args.policy.now c.requires.0 c.args.domain c.requires.1)
