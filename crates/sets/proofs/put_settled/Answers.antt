-- `sets::put_settled` meets its contract.
use Rattle.rows.specs.Rows.{row_at}
use Rattle.sets.proofs.Steps.{put-gone}
use Rattle.sets.proofs.put_settled.Goals as goal

pub returns-in-Gone : goal.returns-in-Gone
returns-in-Gone c = put-gone c.args.s.now c.args.c (row_at c.args.x.now 0) c.args.fate c.requires.0 c.in-Gone.is
