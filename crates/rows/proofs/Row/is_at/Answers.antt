use Rattle.std.proofs.Common.{refl, ◌∙◌}
use Rattle.std.specs.Cmp.{both_tied}
use Rattle.std.specs.Cmp.Lexicographic.{slice_cmp, lists_ties}
use Rattle.std.specs.Ordering.{int_cmp, bool_cmp}
use Rattle.rows.specs.Rows.{same_row, row_order, entry_order, row_at}
use Rattle.rows.proofs.Ordering.{flags-alike}
use Rattle.rows.proofs.Row.is_at.Goals as goal

pub returns : goal.returns
unfolding same_row row_order entry_order
returns c =
    let r = c.args.self in
    let t = row_at c.args.s.now c.args.at in
    c.eq.ensures ∙ rw c.read.ensures (both_tied _ _ (slice_cmp int_cmp r.entries t.entries) (bool_cmp r.strict t.strict) (lists_ties int_cmp (λ x y. refl) r.entries t.entries) (flags-alike r.strict t.strict))
