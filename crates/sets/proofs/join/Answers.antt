-- `sets::join` meets its contract.
use Rattle.std.proofs.Common.{◌+◌, ◌*◌}
use mathlib.Core.Path.{refl, ◌∙◌}
use native.Mathlib.Omega.{arith}
use Rattle.rows.specs.Rows.{divided_down, row_at}
use Rattle.rows.proofs.Dividing.{divided_down-small, divided_down-wide}
use Rattle.sets.specs.Stores.{set_in, progress}
use Rattle.sets.proofs.Stores.{wide-row_at, length-rows_at}
use Rattle.sets.proofs.Steps.{ready_start, ready_left, put-progress, put_ready, put-left, put_all-start, put_all-row, put_all-done}
use Rattle.sets.proofs.join.Goals as goal

pub loop-i-init : goal.loop-i-init
loop-i-init c =
    let z = c.args in
    let h = c.requires.1 in
    let r = ready_start h in
    (refl, r, ready_left z.to.now _ r, put_all-start z.from.now z.at z.m (set_in z.to.now z.n) (rw length-rows_at h.few))

pub loop-i-preserved : goal.loop-i-preserved
loop-i-preserved c =
    let z = c.args in
    let l = c.loop-i in
    let r = row_at z.from.now (z.at + l.i * 17) in
    let x = divided_down r in
    let d = c.join_row-c.ensures in
    let small = divided_down-small r in
    let wide = divided_down-wide r (wide-row_at z.from.now (z.at + l.i * 17) (omega (arith, c.requires.0, c.loop-i-test.true))) in
    let ready = l.invariant.1 in (
      c.join_row-c.auto.to ∙ l.invariant.0,
      put_ready x.fate x.row small wide _ _ _ _ ready d,
      put-left x.fate x.row small wide _ _ _ _ ready d z.to.now c.requires.1.long l.invariant.2,
      put_all-row z.from.now z.at z.m l.i c.loop-i-test.true _ _ (put-progress x.fate x.row small wide _ _ _ _ ready d) ∙ l.invariant.3,
    )

pub returns : goal.returns
returns c =
    let z = c.args in
    let l = c.loop-i in
    rw (← l.invariant.3, put_all-done z.from.now z.at z.m l.i (omega (arith, c.loop-i-test.false)) (progress l.to l.c)) l.invariant.2
