use Rattle.std.proofs.Common.{true, false}
use Rattle.frames.proofs.Taking.{reference-told}
use Rattle.frames.proofs.steps.reference_frame.Goals as goal

pub returns-then-not-fits : goal.returns-then-not-fits
returns-then-not-fits c s e = reference-told s c.args.h c.args.b.now _ c.requires.0 e c.reference_of-reference.ensures false c.if-not-fits.ensures

pub returns : goal.returns
returns c s e = reference-told s c.args.h c.args.b.now _ c.requires.0 e c.reference_of-reference.ensures true c.if-not-fits.ensures
