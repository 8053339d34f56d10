-- Each test bounds what the next one reads, and the first row that is refused decides.
use Rattle.std.proofs.Common.{sym, ◌∙◌}
use Rattle.std.proofs.lemmas.Result.{err_from_is_err_and}
use Rattle.models.specs.Automaton.{given_rows}
use Rattle.models.specs.Acceptance.{accepted}
use Rattle.models.proofs.Accepted.{parameters-within, transitions-within, rows_passed, reference-within}
use Rattle.models.proofs.Tables.{rows_refused}
use Rattle.models.proofs.Model.accepted.Goals as goal

pub fits-requires-2 : goal.fits-requires-2
fits-requires-2 c = parameters-within c.args.self.now.header (sym c.fits.ensures ∙ c.if-not-fits.false)

pub transitions_declared-requires : goal.transitions_declared-requires
transitions_declared-requires c = transitions-within c.args.self.now.header (sym c.fits.ensures ∙ c.if-not-fits.false)

pub returns-in_err-rows_outcome : goal.returns-in_err-rows_outcome
unfolding accepted
returns-in_err-rows_outcome c =
    let p = err_from_is_err_and c.from_residual.result c.from_residual.ensures.1 in
    rw (
      sym c.fits.ensures ∙ c.if-not-fits.false,
      sym c.fits-2.ensures ∙ c.if-not-fits-2.false,
      sym c.transitions_declared.ensures ∙ c.if-not-transitions_declared.false,
      rows_refused c.args.self.now.header (given_rows c.args.self.now) _ _ (sym c.rows_outcome.ensures ∙ c.in_err-rows_outcome.was),
      p.1,
      p.2,
    )

pub reference_outcome-requires : goal.reference_outcome-requires
reference_outcome-requires c = (
  rows_passed c.args.self.now.header (given_rows c.args.self.now) (sym c.rows_outcome.ensures ∙ c.in_ok-rows_outcome.was),
  reference-within _ _ (sym c.fits-2.ensures ∙ c.if-not-fits-2.false),
  parameters-within c.args.self.now.header (sym c.fits.ensures ∙ c.if-not-fits.false),
)
