use Rattle.std.proofs.Common.{sym, ◌∙◌}
use Rattle.frames.proofs.Pairs.{no_high, no_low, both_found}
use Rattle.frames.proofs.digits.pair.Goals as goal

pub returns-in_err-digit : goal.returns-in_err-digit
returns-in_err-digit c = c.from_residual.ensures ∙ no_high c.args.c c.args.d (sym (c.in_err-digit.was) ∙ c.digit.ensures.value)

pub returns-in_err-digit-2 : goal.returns-in_err-digit-2
returns-in_err-digit-2 c =
    c.from_residual-in_err-digit-2.ensures
    ∙ no_low c.args.c c.args.d c.in_ok-digit.field-0 (sym (c.in_ok-digit.was) ∙ c.digit.ensures.value) (sym (c.in_err-digit-2.was) ∙ c.digit-2.ensures.value)

pub returns : goal.returns
returns c =
    both_found c.args.c c.args.d c.in_ok-digit.field-0 c.in_ok-digit-2.field-0 (sym (c.in_ok-digit.was) ∙ c.digit.ensures.value)
    (sym (c.in_ok-digit-2.was) ∙ c.digit-2.ensures.value)
