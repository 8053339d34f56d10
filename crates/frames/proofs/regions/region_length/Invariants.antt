use Rattle.std.proofs.Common.{◌≡◌, ◌+◌, ◌*◌, ◌≤◌, length}
use Rattle.sets.specs.Stores.{rows_at}
use Rattle.frames.specs.Writing.{row_lines}
use Rattle.frames.proofs.Lining.{from_row}
use Rattle.frames.proofs.regions.region_length.Given as goal

abbrev pub invariant-loop-i : goal.invariant-loop-i
invariant-loop-i l = (l.i ≤ l.n) × (l.total ≤ l.i * 171) × (l.total + length (row_lines (from_row l.region l.n l.i)) ≡ length (row_lines (rows_at l.region 0 l.n)))
