-- `removal::remove_between` meets its contract.
use mathlib.Core.Path.{sym, ◌∙◌}
use Rattle.removal.proofs.Alone.{tidy-room, alone-found}
use Rattle.removal.proofs.remove_between.Goals as goal

pub tidy-requires : goal.tidy-requires
tidy-requires c =
    let z = c.args in
    tidy-room z.count z.variables.now z.first.now z.second.now (sym c.refused_at_once.ensures ∙ c.in_ok-refused_at_once.was) _ _ _ c.remove_accepted-done.ensures

pub returns : goal.returns
returns c =
    let z = c.args in
    alone-found z.count z.variables.now z.first.now z.second.now (sym c.refused_at_once.ensures ∙ c.in_ok-refused_at_once.was) _ _ _ c.remove_accepted-done.ensures _ _ c.tidy.ensures
