-- `removal::pairs::join_with` meets its contract.
use Rattle.std.proofs.Common.{◌*◌}
use mathlib.Core.Path.{refl, ◌∙◌}
use lib.ListN.{get_or}
use Rattle.rows.specs.Rows.{entry_count, divided_down, paired, row_at}
use Rattle.rows.proofs.Dividing.{divided_down-small, divided_down-wide}
use Rattle.rows.proofs.Pairing.{paired-wide}
use Rattle.sets.specs.Stores.{Left, next, progress}
use Rattle.sets.proofs.Parts.{all-at}
use Rattle.sets.proofs.Stores.{wide-row_at}
use Rattle.sets.proofs.Steps.{ready_left, put-progress, put_ready, put-left}
use Rattle.removal.specs.Pairs.{SmallAt}
use Rattle.removal.proofs.Joins.{put_turn, put-done}
use Rattle.removal.proofs.pairs.join_with.Goals as goal

pub loop-j-init : goal.loop-j-init
loop-j-init c = (refl, c.requires.0, ready_left c.args.to.now c.args.c c.requires.0, refl)

pub join_pair-d-requires : goal.join_pair-d-requires
join_pair-d-requires c =
    (c.loop-j.invariant.1, c.requires.1, rw c.from.ensures (all-at c.args.lowers.now 0 c.requires.4 c.loop-j.j-index c.loop-j-test.true), c.requires.3, c.requires.2)

pub loop-j-preserved : goal.loop-j-preserved
loop-j-preserved c =
    let z = c.args in
    let l = c.loop-j in
    let m = z.from.now in
    let small-next : SmallAt m (get_or z.lowers.now l.j-index 0 * 17) = all-at z.lowers.now 0 c.requires.4 l.j-index c.loop-j-test.true in
    let r = paired z.v (row_at m z.p) (row_at m (get_or z.lowers.now l.j-index 0 * 17)) in
    let x = divided_down r in
    let d : Left (next x.fate x.row (progress l.to l.d)) l.to c.join_pair-d.new.to c.join_pair-d.result = rw c.from.ensures at c.join_pair-d.ensures in
    let small = divided_down-small r in
    let wide = divided_down-wide r (paired-wide z.v entry_count (row_at m z.p) (row_at m (get_or z.lowers.now l.j-index 0 * 17)) (wide-row_at m z.p c.requires.1.room) (wide-row_at m (get_or z.lowers.now l.j-index 0 * 17) small-next.room)) in
    let ready = l.invariant.1 in (
      c.join_pair-d.auto.to ∙ l.invariant.0,
      put_ready x.fate x.row small wide _ _ _ _ ready d,
      put-left x.fate x.row small wide _ _ _ _ ready d z.to.now c.requires.0.long l.invariant.2,
      put_turn z.lowers.now l.j-index z.v m z.p c.loop-j-test.true _ _ (put-progress x.fate x.row small wide _ _ _ _ ready d) ∙ l.invariant.3,
    )

pub returns : goal.returns
returns c =
    let z = c.args in
    let l = c.loop-j in
    rw (← l.invariant.3, put-done z.lowers.now l.j-index z.v z.from.now z.p c.loop-j-test.false (progress l.to l.d)) l.invariant.2
