-- `sets::copy`: the first i numbers stand in their new place.
use Rattle.std.proofs.Common.{◌≡◌, drop}
use lib.Seq.{paste}
use Rattle.sets.proofs.copy.Given as goal

abbrev pub invariant-loop-i : goal.invariant-loop-i
invariant-loop-i l = l.to ≡ paste l.initial.to l.b (drop l.a l.from) l.i
