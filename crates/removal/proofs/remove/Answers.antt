-- `removal::remove` meets its contract.
use Rattle.removal.specs.Alone.{as_shared}
use Rattle.removal.proofs.Alone.{removed-part, outcome-and}
use Rattle.removal.proofs.remove.Goals as goal

pub returns : goal.returns
returns c =
    let z = c.args in
    removed-part z.count z.variables.now (as_shared z.first) (as_shared z.second) _ _ _ _ _ c.remove_between-done.ensures (outcome-and _ _ c.and-outcome.ensures) c.part.ensures.numbers c.part.ensures.place
