-- each step of the loop keeps the greatest common divisor
use Rattle.std.proofs.Common.{◌≡◌}
use Rattle.integers.specs.Gcd.{gcd}
use Rattle.integers.proofs.gcd_of.Given as goal

abbrev pub invariant-loop-y : goal.invariant-loop-y
invariant-loop-y l = gcd l.x l.y ≡ gcd l.fn.a l.fn.b

abbrev pub decreases-loop-y : goal.decreases-loop-y
decreases-loop-y l = l.y
