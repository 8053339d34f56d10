-- `sets::put` meets its contract: the row that was written is read back.
use Rattle.std.proofs.Common.{rules, ◌≡◌}
use Rattle.rows.specs.Rows.{row_at}
use Rattle.rows.proofs.Dividing.{Wide}
use Rattle.rows.proofs.Stores.{row_back}
use Rattle.sets.proofs.put.Goals as goal

pub returns : goal.returns
returns c =
    let wide : Wide c.args.x.row = search rules in
    let back : row_at c.write.new.s 0 ≡ c.args.x.row = rw c.write.ensures (row_back c.args.x.row _ wide) in
    rw back at c.put_settled.ensures
