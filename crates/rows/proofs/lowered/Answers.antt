use Rattle.std.proofs.Common.{sym, ◌∙◌, ◌^◌, arith}
use Rattle.entries.proofs.Fits.{divisor-above, divisor_le, small_of}
use Rattle.rows.proofs.Lowering.{down_constant, down_kept, down_large}
use Rattle.rows.proofs.lowered.Goals as goal

pub returns-then-no_variables : goal.returns-then-no_variables
returns-then-no_variables c = c.constant.ensures ∙ down_constant c.args.l c.args.strict (sym c.no_variables.ensures ∙ c.if-no_variables.true)

pub quotients-q-requires : goal.quotients-q-requires
quotients-q-requires c =
    let h = divisor_le (2 ^ 62) c.args.l (omega arith) c.requires in
    rw c.divisor.ensures (c.requires, divisor-above c.args.l, omega arith)

pub narrowed-requires : goal.narrowed-requires
narrowed-requires c = small_of c.quotients-q.result (sym c.all_small.ensures ∙ c.if-all_small.true)

pub returns-then-all_small : goal.returns-then-all_small
returns-then-all_small c =
    rw c.narrowed.ensures
    (down_kept c.args.l c.args.strict c.quotients-q.result c.divisor.result (sym c.no_variables.ensures ∙ c.if-no_variables.false) c.divisor.ensures c.quotients-q.ensures (sym c.all_small.ensures ∙ c.if-all_small.true))

pub returns : goal.returns
returns c =
    rw c.empty.ensures
    (down_large c.args.l c.args.strict c.quotients-q.result c.divisor.result (sym c.no_variables.ensures ∙ c.if-no_variables.false) c.divisor.ensures c.quotients-q.ensures (sym c.all_small.ensures ∙ c.if-all_small.false))
