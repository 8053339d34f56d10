use Rattle.std.proofs.Common.{arith}
use Rattle.frames.proofs.Overwriting.{line-length}
use Rattle.frames.proofs.answers.row_length.Goals as goal

pub returns : goal.returns
returns c = let n = c.term_number.ensures in (omega (arith, n.0, line-length c.args.r), omega (arith, n.1))
