use Rattle.std.proofs.Common.{◌+◌, ◌*◌, length, ap, arith}
use Rattle.std.proofs.Math.ListN.{length-append}
use Rattle.rows.specs.Rows.{row_numbers, row_at}
use Rattle.frames.specs.Hex.{line_of}
use Rattle.frames.specs.Writing.{row_bytes, row_lines}
use Rattle.frames.proofs.Lining.{from_row, lines_turn, lines-done}
use Rattle.frames.proofs.regions.region_length.Goals as goal

pub loop-i-preserved : goal.loop-i-preserved
loop-i-preserved c =
    let s = c.args.region.now in
    let n = c.args.n in
    let i = c.loop-i.i in
    let k = rw c.read.ensures at c.row_length-total.ensures.0 in
    let e = lines_turn s n i c.loop-i-test.true in
    (omega arith, omega (arith, c.row_length-total.ensures.1), omega (arith, c.loop-i.invariant.2, k, ap length e, length-append (line_of (row_bytes (row_at s (i * row_numbers)))) (row_lines (from_row s n (i + 1)))))

pub returns : goal.returns
returns c = (omega (arith, c.loop-i.invariant.2, ap length (lines-done c.args.region.now c.args.n c.loop-i.i c.loop-i-test.false)), omega arith)
