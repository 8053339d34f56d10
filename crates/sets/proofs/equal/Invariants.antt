-- `sets::equal`: the rows from k on are the same.
use Rattle.std.proofs.Common.{◌≡◌, ◌+◌, ◌*◌, ◌≤◌, ◌<◌, ℕ}
use Rattle.rows.specs.Rows.{row_at}
use Rattle.sets.proofs.equal.Given as goal

abbrev pub invariant-loop-k : goal.invariant-loop-k
invariant-loop-k l = (l.k ≤ l.n) × ((i : ℕ) → l.k ≤ i → i < l.n → row_at l.x (l.a + i * 17) ≡ row_at l.y (l.b + i * 17))
