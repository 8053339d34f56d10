use Rattle.std.proofs.Common.{◌∙◌, arith}
use Rattle.integers.proofs.Euclid.{gcd-zero, gcd-step}
use Rattle.integers.proofs.gcd_of.Goals as goal

pub loop-y-preserved : goal.loop-y-preserved
loop-y-preserved c = gcd-step _ _ (omega arith) ∙ c.loop-y.invariant

pub returns : goal.returns
returns c = cc (gcd-zero c.loop-y.x)
