-- `sets::find`: the rows below `low` stand before the row, those from `high` on behind it.
use Rattle.std.proofs.Common.{◌-◌, ◌≡◌, ◌≤◌, ◌<◌, length, ℕ}
use lib.ListN.{get_or}
use Rattle.std.specs.declared.cmp.Ordering.TheVariants.{Less, Greater}
use Rattle.rows.specs.Rows.{empty_row, row_order, row_at}
use Rattle.sets.specs.Stores.{set_in}
use Rattle.sets.proofs.find.Given as goal

abbrev pub invariant-loop-low : goal.invariant-loop-low
invariant-loop-low l =
    (l.low ≤ l.high) × (l.high ≤ l.n) ×
    ((i : ℕ) → i < l.low → row_order (row_at l.x l.at) (get_or (set_in l.s l.n) i empty_row) ≡ Greater) ×
    ((i : ℕ) → l.high ≤ i → i < length (set_in l.s l.n) → row_order (row_at l.x l.at) (get_or (set_in l.s l.n) i empty_row) ≡ Less)

abbrev pub decreases-loop-low : goal.decreases-loop-low
decreases-loop-low l = l.high - l.low
