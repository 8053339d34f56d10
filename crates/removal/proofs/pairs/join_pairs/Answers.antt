-- `removal::pairs::join_pairs` meets its contract.
use Rattle.std.proofs.Common.{◌*◌, map}
use mathlib.Core.Path.{refl, ◌∙◌}
use lib.ListN.{get_or}
use Rattle.rows.specs.Rows.{paired}
use Rattle.sets.specs.Stores.{Left, progress, put_all}
use Rattle.sets.proofs.Parts.{all-at}
use Rattle.sets.proofs.Steps.{ready_left, put_all-progress, put_all_ready, put_all-left}
use Rattle.removal.specs.Pairs.{row_of, rows_of}
use Rattle.removal.proofs.Places.{pairs-wide}
use Rattle.removal.proofs.Joins.{put_row_turn, put_row-done}
use Rattle.removal.proofs.pairs.join_pairs.Goals as goal

pub loop-i-init : goal.loop-i-init
loop-i-init c = (refl, c.requires.0, ready_left c.args.to.now c.args.c c.requires.0, refl)

pub join_with-d-requires : goal.join_with-d-requires
join_with-d-requires c =
    let n = all-at c.args.uppers.now 0 c.requires.3 c.loop-i.i-index c.loop-i-test.true in
    rw c.from.ensures (c.loop-i.invariant.1, n.0, n.1, c.requires.1, c.requires.2)

pub loop-i-preserved : goal.loop-i-preserved
loop-i-preserved c =
    let z = c.args in
    let l = c.loop-i in
    let m = z.from.now in
    let k = get_or z.uppers.now l.i-index 0 in
    let n = all-at z.uppers.now 0 c.requires.3 l.i-index c.loop-i-test.true in
    let rs = map (paired z.v (row_of m k)) (rows_of m z.lowers.now) in
    let wide = pairs-wide z.v m (k * 17) z.lowers.now n.0 c.requires.2 in
    let d : Left (put_all rs (progress l.to l.d)) l.to c.join_with-d.new.to c.join_with-d.result = rw c.from.ensures at c.join_with-d.ensures in (
      c.join_with-d.auto.to ∙ l.invariant.0,
      put_all_ready rs wide _ _ _ _ l.invariant.1 d,
      put_all-left rs wide _ _ _ _ l.invariant.1 d z.to.now c.requires.0.long l.invariant.2,
      put_row_turn z.uppers.now l.i-index z.v m (rows_of m z.lowers.now) c.loop-i-test.true _ _ (put_all-progress rs wide _ _ _ _ l.invariant.1 d) ∙ l.invariant.3,
    )

pub returns : goal.returns
returns c =
    let z = c.args in
    let l = c.loop-i in
    rw (← l.invariant.3, put_row-done z.uppers.now l.i-index z.v z.from.now (rows_of z.from.now z.lowers.now) c.loop-i-test.false (progress l.to l.d)) l.invariant.2
