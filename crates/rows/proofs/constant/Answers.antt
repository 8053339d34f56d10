use Rattle.std.proofs.Common.{◌≡◌, sym, ◌∙◌, rules}
use Rattle.rows.specs.Rows.{at, under}
use Rattle.rows.proofs.Lowering.{constant-gone, constant-kept}
use Rattle.rows.proofs.constant.Goals as goal

pub returns-then-is_under : goal.returns-then-is_under
returns-then-is_under c =
    let tested : c.is_under.result ≡ under c.args.strict (at c.args.l 0) = search rules in
    rw c.empty.ensures (constant-gone c.args.l c.args.strict (sym tested ∙ c.if-is_under.true))

pub returns : goal.returns
returns c =
    let tested : c.is_under.result ≡ under c.args.strict (at c.args.l 0) = search rules in
    rw c.falsehood.ensures (constant-kept c.args.l c.args.strict (sym tested ∙ c.if-is_under.false))
