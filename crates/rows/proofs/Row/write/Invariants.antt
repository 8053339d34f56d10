-- after i turns the first i numbers are pasted
use Rattle.std.proofs.Common.{◌≡◌, length}
use lib.Seq.{paste}
use Rattle.rows.specs.Rows.{numbers}
use Rattle.rows.proofs.Row.write.Given as goal

abbrev pub invariant-loop-i : goal.invariant-loop-i
invariant-loop-i l = (length l.s ≡ length l.fn.s) × (l.s ≡ paste l.fn.s l.at (numbers l.fn.self) l.i)
