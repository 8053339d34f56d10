-- `removal::remove_accepted` meets its contract.
use Rattle.std.proofs.Common.{rules, ◌≡◌, Err}
use Rattle.removal.proofs.AtOnce.{accepted}
use Rattle.removal.proofs.Alone.{made_between, made-refused, accepted-moved}
use Rattle.removal.proofs.remove_accepted.Goals as goal

pub make_set-requires : goal.make_set-requires
make_set-requires c = let z = c.args in let k = accepted z.count z.variables.now z.first.now z.second.now c.requires in (k.few, k.first_long)

pub returns-in_err-rows : goal.returns-in_err-rows
returns-in_err-rows c =
    let z = c.args in
    let e : c.from_residual.result ≡ Err c.in_err-rows.field-0.0 = search rules in
    rw e (made-refused z.count z.variables.now z.first.now z.second.now c.requires _ _ (rw c.in_err-rows.was at c.make_set.ensures))

pub remove_all-requires : goal.remove_all-requires
remove_all-requires c =
    let z = c.args in
    (made_between z.count z.variables.now z.first.now z.second.now c.requires _ _ (rw c.in_ok-rows.was at c.make_set.ensures), (accepted z.count z.variables.now z.first.now z.second.now c.requires).variables)

pub returns : goal.returns
returns c =
    let z = c.args in
    accepted-moved z.count z.variables.now z.first.now z.second.now c.requires _ _ (rw c.in_ok-rows.was at c.make_set.ensures) _ _ _ c.remove_all.ensures
