use Rattle.std.proofs.Common.{arith}
use Rattle.frames.proofs.Lining.{lines_turn, lines-done}
use Rattle.frames.proofs.Overwriting.{put-fits, put-next, put-done}
use Rattle.frames.proofs.regions.put_region.Goals as goal

pub row-requires : goal.row-requires
row-requires c =
    let p = rw (lines_turn c.args.region.now c.args.n c.loop-i.i c.loop-i-test.true) at c.loop-i.invariant.1 in
    rw c.read.ensures (put-fits _ _ _ _ _ p c.requires.2)

pub loop-i-preserved : goal.loop-i-preserved
loop-i-preserved c =
    let p = rw (lines_turn c.args.region.now c.args.n c.loop-i.i c.loop-i-test.true) at c.loop-i.invariant.1 in
    (omega arith, put-next _ _ _ _ _ p c.requires.2 _ (rw c.read.ensures at c.row.ensures))

pub returns : goal.returns
returns c = put-done _ _ _ (rw (lines-done c.args.region.now c.args.n c.loop-i.i c.loop-i-test.false) at c.loop-i.invariant.1)
