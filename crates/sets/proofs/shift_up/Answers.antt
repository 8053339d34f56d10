-- `sets::shift_up` meets its contract: the row below i moves next.
use Rattle.std.proofs.Common.{◌≡◌, ◌+◌, ◌-◌, ◌*◌, drop}
use mathlib.Core.Path.{◌∙◌}
use native.Mathlib.Nat.{le_refl, sub_self}
use native.Mathlib.Omega.{arith}
use lib.Seq.{paste, paste-zero}
use Rattle.sets.proofs.Moving.{moved_more}
use Rattle.sets.proofs.shift_up.Goals as goal

pub loop-i-init : goal.loop-i-init
loop-i-init c = let z = c.args in (c.requires.0, le_refl z.n, rw sub_self (paste-zero z.s.now (z.n * 17 + 17) (drop (z.n * 17) z.s.now)))

pub loop-i-preserved : goal.loop-i-preserved
loop-i-preserved c =
    let z = c.args in
    let s = z.s.now in
    let a = (c.loop-i.i - 1) * 17 in
    let e : c.loop-i.i * 17 ≡ a + 17 = omega (arith, c.loop-i-test.true) in
    let is : c.loop-i.s ≡ paste s (a + 17 + 17) (drop (a + 17) s) (z.n * 17 - (a + 17)) = rw e at c.loop-i.invariant.2 in
    (omega (arith, c.loop-i-test.true), omega (arith, c.loop-i.invariant.1), c.move_up.ensures ∙ moved_more s c.loop-i.s a (z.n * 17) 17 (omega (arith, c.loop-i.invariant.1, c.loop-i-test.true)) c.requires.1 is)

pub returns : goal.returns
returns c =
    let z = c.args in
    let e : c.loop-i.i ≡ z.k = omega (arith, c.loop-i-test.false, c.loop-i.invariant.0) in
    let f : z.k * 17 + 17 + (z.n * 17 - z.k * 17) ≡ z.n * 17 + 17 = omega (arith, c.requires.0) in
    rw (e, f) at c.loop-i.invariant.2
