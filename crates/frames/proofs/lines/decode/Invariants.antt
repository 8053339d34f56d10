use Rattle.std.proofs.Common.{◌≡◌, ◌*◌, length, drop}
use Rattle.frames.specs.Steps.{frame_limit}
use Rattle.frames.proofs.Decoding.{Going}
use Rattle.frames.proofs.lines.decode.Given as goal

abbrev pub invariant-loop-c : goal.invariant-loop-c
invariant-loop-c l = (l.n ≡ l.c-index) × (length l.to ≡ frame_limit) × Going l.input (drop (l.n * 2) l.input) l.to l.n
