use Rattle.std.proofs.Common.{sym}
use Rattle.frames.proofs.Taking.{entries_within}
use Rattle.frames.proofs.steps.row_frame.Goals as goal

pub row_of-requires : goal.row_of-requires
row_of-requires c = (c.requires.1, entries_within c.args.h c.args.b.now c.requires.0 (sym c.if-not-row_declared.ensures))
