-- `sets::copy` meets its contract: a turn pastes one number more.
use Rattle.std.proofs.Common.{rules, ◌+◌, drop, w32, arith}
use native.Mathlib.Numerals.{add-one}
use lib.ListN.{get_or, length-drop}
use lib.IntN.{pos}
use lib.Seq.{paste-zero, paste-suc, get_or-drop}
use Rattle.integers.proofs.Bounds.{back}
use Rattle.sets.proofs.copy.Goals as goal

pub loop-i-init : goal.loop-i-init
loop-i-init c = paste-zero c.args.to.now c.args.b (drop c.args.a c.args.from.now)

pub loop-i-preserved : goal.loop-i-preserved
loop-i-preserved c =
    let z = c.args in
    let l = c.loop-i in
    rw (add-one, l.invariant, back w32 (get_or z.from.now (z.a + l.i) (pos 0)) (search rules), ← get_or-drop z.a z.from.now l.i (pos 0))
    (paste-suc z.to.now z.b (drop z.a z.from.now) l.i (pos 0) (omega arith) (rw length-drop (omega arith)))
