-- `sets::move_up` meets its contract.
use Rattle.std.proofs.Common.{rules, ◌∙◌, ◌+◌, drop, w32}
use lib.ListN.{get_or}
use lib.IntN.{pos}
use Rattle.integers.proofs.Bounds.{back}
use lib.Seq.{paste-zero}
use Rattle.sets.proofs.Moving.{copy_read, copy_more}
use Rattle.sets.proofs.move_up.Goals as goal

pub loop-i-init : goal.loop-i-init
loop-i-init c = paste-zero c.args.s.now (c.args.at + 17) (drop c.args.at c.args.s.now)

pub loop-i-preserved : goal.loop-i-preserved
loop-i-preserved c =
    let z = c.args in
    let l = c.loop-i in
    copy_more z.s.now l.s z.at 17 l.i c.loop-i-test.true c.requires l.invariant _
    (back w32 (get_or l.s (z.at + l.i) (pos 0)) (search rules) ∙ copy_read z.s.now l.s z.at 17 l.i c.loop-i-test.true c.requires l.invariant)
