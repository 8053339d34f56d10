-- `sets::move_up`: the first i numbers stand once more.
use Rattle.std.proofs.Common.{◌≡◌, ◌+◌, drop}
use lib.Seq.{paste}
use Rattle.sets.proofs.move_up.Given as goal

abbrev pub invariant-loop-i : goal.invariant-loop-i
invariant-loop-i l = l.s ≡ paste l.initial.s (l.at + 17) (drop l.at l.initial.s) l.i
