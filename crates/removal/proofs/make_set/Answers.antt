-- `removal::make_set` meets its contract.
use Rattle.std.proofs.Common.{◌*◌}
use mathlib.Core.Path.{refl, ◌∙◌}
use native.Mathlib.Omega.{arith}
use Rattle.rows.specs.Rows.{divided_down, row_at}
use Rattle.rows.proofs.Dividing.{divided_down-small, divided_down-wide}
use Rattle.sets.specs.Stores.{Left, next, progress}
use Rattle.sets.proofs.Stores.{wide-row_at, holds-none}
use Rattle.sets.proofs.Steps.{ready_start, ready_left, ready_proper, put-progress, put_ready, put-left, put_all-done}
use Rattle.removal.proofs.Making.{growing_none, next_growing, making_start, making_turn}
use Rattle.removal.proofs.make_set.Goals as goal

pub loop-i-init : goal.loop-i-init
loop-i-init c =
    let s = c.args.s.now in
    let r = ready_start (holds-none s c.requires.1) in
    (refl, r, ready_left s _ r, growing_none s, making_start s c.args.n)

pub loop-i-preserved : goal.loop-i-preserved
loop-i-preserved c =
    let l = c.loop-i in
    let s = l.s in
    let i = l.i in
    let v = l.invariant in
    let r = row_at s (i * 17) in
    let x = divided_down r in
    let d : Left (next x.fate x.row (progress s l.c)) s c.put-c.new.s c.put-c.result = rw (c.divided_down.ensures, c.read.ensures) at c.put-c.ensures in
    let small = divided_down-small r in
    let wide = divided_down-wide r (wide-row_at s (i * 17) (omega (arith, c.requires, c.loop-i-test.true, v.0))) in
    let e = put-progress x.fate x.row small wide _ _ _ _ v.1 d in (
      c.put-c.auto.s ∙ v.0,
      put_ready x.fate x.row small wide _ _ _ _ v.1 d,
      put-left x.fate x.row small wide _ _ _ _ v.1 d c.args.s.now c.requires.1 v.2,
      rw e (next_growing x.fate x.row (progress s l.c) i (omega (arith, c.requires.0, c.loop-i-test.true)) v.3),
      making_turn c.args.s.now s l.c c.args.n i c.loop-i-test.true _ _ (ready_proper s l.c v.1) v.3 v.2 e ∙ v.4,
    )

pub returns : goal.returns
returns c =
    let z = c.args in
    let l = c.loop-i in
    rw (← l.invariant.4, put_all-done z.s.now 0 z.n l.i (omega (arith, c.loop-i-test.false)) (progress l.s l.c)) l.invariant.2
