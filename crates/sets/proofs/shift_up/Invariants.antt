-- `sets::shift_up`: the rows from i on have moved.
use Rattle.std.proofs.Common.{◌≡◌, ◌+◌, ◌-◌, ◌*◌, ◌≤◌, drop}
use lib.Seq.{paste}
use Rattle.sets.proofs.shift_up.Given as goal

abbrev pub invariant-loop-i : goal.invariant-loop-i
invariant-loop-i l = (l.k ≤ l.i) × (l.i ≤ l.n) × (l.s ≡ paste l.initial.s (l.i * 17 + 17) (drop (l.i * 17) l.initial.s) (l.n * 17 - l.i * 17))
