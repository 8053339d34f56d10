-- `sets::equal` meets its contract.
use Rattle.std.proofs.Common.{◌≡◌, ◌+◌, ◌-◌}
use mathlib.Core.Path.{sym, ◌∙◌}
use native.Mathlib.Omega.{arith}
use Rattle.sets.proofs.Comparing.{rows_agree, rows_differ, rows_more}
use Rattle.sets.proofs.equal.Goals as goal

pub returns-then-not-same_numbers : goal.returns-then-not-same_numbers
returns-then-not-same_numbers c =
    let z = c.args in
    rows_differ z.x.now z.y.now z.a z.b z.n c.requires.0 c.requires.1 (c.loop-k.k - 1) (omega (arith, c.loop-k.invariant.0, c.loop-k-test.true)) (sym c.same_numbers.ensures ∙ c.if-not-same_numbers.true)

pub loop-k-preserved : goal.loop-k-preserved
loop-k-preserved c =
    let z = c.args in
    let e : c.loop-k.k - 1 + 1 ≡ c.loop-k.k = omega (arith, c.loop-k-test.true) in
    (omega (arith, c.loop-k.invariant.0), rows_more z.x.now z.y.now z.a z.b z.n (c.loop-k.k - 1) (rw e c.loop-k.invariant.1) (sym c.same_numbers.ensures ∙ c.if-not-same_numbers.false))

pub returns : goal.returns
returns c =
    let z = c.args in
    let e : c.loop-k.k ≡ 0 = omega (arith, c.loop-k-test.false) in
    rows_agree z.x.now z.y.now z.a z.b z.n (rw e at c.loop-k.invariant.1)
