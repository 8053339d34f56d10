-- what was written is read back
use Rattle.std.proofs.Common.{◌≡◌, [], length, rules}
use Rattle.rows.specs.Rows.{divided_down}
use Rattle.rows.proofs.Dividing.{settled_wide}
use Rattle.rows.proofs.Stores.{row_back}
use Rattle.rows.proofs.Row.divided_down.Goals as goal

pub returns : goal.returns
returns c =
    let r = c.args.self in
    let long : length r.entries ≡ 16 = search rules in
    rw (c.divided_into-fate.ensures.value, c.read.ensures, c.divided_into-fate.ensures.to_after, row_back (divided_down r).row [] (settled_wide r long))
