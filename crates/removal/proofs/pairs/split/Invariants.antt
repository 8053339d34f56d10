-- `removal::pairs::split`: before row i the rows so far are written or listed.
use Rattle.std.proofs.Common.{◌≡◌, ◌≤◌, length, take}
use Rattle.integers.specs.Signs.{isAbove, isBelow}
use Rattle.sets.specs.Stores.{with_rows, set_in}
use Rattle.removal.specs.Removal.{untouched}
use Rattle.removal.specs.Pairs.{numbers_where}
use Rattle.removal.proofs.pairs.split.Given as goal

abbrev pub invariant-loop-i : goal.invariant-loop-i
invariant-loop-i l =
    (l.k ≤ l.i) × (l.l ≤ l.i) × (l.u ≤ l.i) × (l.k ≡ length (untouched l.v (set_in l.from l.i))) × (l.to ≡ with_rows (untouched l.v (set_in l.from l.i)) l.initial.to) ×
    (take l.l l.lowers ≡ numbers_where isBelow l.v l.from l.i) × (take l.u l.uppers ≡ numbers_where isAbove l.v l.from l.i)
