use Rattle.std.proofs.Common.{◌≡◌, ◌≤◌, length}
use Rattle.frames.proofs.Reaching.{Reached}
use Rattle.frames.proofs.read.Given as goal

abbrev pub invariant-loop-rest : goal.invariant-loop-rest
invariant-loop-rest l = (length l.buffer ≡ 1280) × (length l.input ≤ 65536) × Reached l.input l.p l.transitions l.rows l.rest

abbrev pub decreases-loop-rest : goal.decreases-loop-rest
decreases-loop-rest l = length l.rest
