-- `removal::remove_all` meets its contract.
use lib.Seq.{take_all}
use Rattle.removal.proofs.Turns.{turned_none, turned-between, turned_more, variable_at}
use Rattle.removal.proofs.remove_all.Goals as goal

pub loop-v-init : goal.loop-v-init
loop-v-init c = let z = c.args in turned_none z.variables.now z.first.now z.second.now z.s c.requires.0

pub remove_next-done-requires : goal.remove_next-done-requires
remove_next-done-requires c =
    let z = c.args in
    let l = c.loop-v in
    let v = variable_at z.variables.now l.v-index c.requires.1 c.loop-v-test.true in
    rw c.from.ensures (turned-between z.variables.now z.first.now z.second.now z.s c.requires.0 l.v-index l.first l.second l.done l.invariant, v.0, v.1)

pub loop-v-preserved : goal.loop-v-preserved
loop-v-preserved c =
    let z = c.args in
    let l = c.loop-v in
    turned_more z.variables.now z.first.now z.second.now z.s c.requires.0 l.v-index l.first l.second l.done l.invariant c.loop-v-test.true _ _ _ (rw c.from.ensures at c.remove_next-done.ensures)

pub returns : goal.returns
returns c = let l = c.loop-v in rw (take_all l.v-index c.args.variables.now c.loop-v-test.false) at l.invariant
