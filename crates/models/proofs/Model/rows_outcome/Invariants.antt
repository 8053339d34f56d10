-- What is left of the rows decides as all of them do.
use Rattle.std.proofs.Common.{◌≡◌, drop}
use Rattle.sets.specs.Outcomes.{Ok}
use Rattle.models.specs.Automaton.{given_rows}
use Rattle.models.specs.Acceptance.{rows_accepted}
use Rattle.models.proofs.Model.rows_outcome.Given as goal

abbrev pub invariant-loop-r : goal.invariant-loop-r
invariant-loop-r l = rows_accepted l.self.header (drop l.r-index (given_rows l.self)) (Ok tt) ≡ rows_accepted l.self.header (given_rows l.self) (Ok tt)
