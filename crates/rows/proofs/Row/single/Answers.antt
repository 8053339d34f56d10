use Rattle.std.proofs.Common.{pos, to_z-of_z}
use lib.ListN.{replicate}
use Rattle.entries.proofs.Sums.{with-set}
use Rattle.rows.proofs.Row.single.Goals as goal

pub returns : goal.returns
returns c = rw (to_z-of_z c.ranges.x, with-set c.args.v c.args.x (replicate 16 (pos 0)) c.requires)
