use Rattle.std.proofs.Common.{◌≤◌}
use Rattle.sets.specs.Stores.{rows_at}
use Rattle.frames.specs.Writing.{row_lines}
use Rattle.frames.proofs.Lining.{from_row}
use Rattle.frames.proofs.Overwriting.{PutOn}
use Rattle.frames.proofs.regions.put_region.Given as goal

abbrev pub invariant-loop-i : goal.invariant-loop-i
invariant-loop-i l = (l.i ≤ l.n) × PutOn (row_lines (rows_at l.region 0 l.n)) (row_lines (from_row l.region l.n l.i)) l.fn.out l.out
