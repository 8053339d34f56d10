-- the sum so far and the sum of what is left add up, and it grows by at most 10^15 a turn
use Rattle.std.proofs.Common.{◌≡◌, ◌*◌, ◌≤◌, length, drop, ◌+ℤ◌, nat_abs}
use Rattle.rows.specs.Rows.{dot}
use Rattle.rows.proofs.Row.value.Given as goal

abbrev pub invariant-loop-x : goal.invariant-loop-x
invariant-loop-x l =
    let n = length l.yielded in
    (nat_abs l.sum ≤ n * 1000000000000000) × (l.sum +ℤ dot (drop n l.fn.self.entries) (drop n l.fn.setting) ≡ dot l.fn.self.entries l.fn.setting)
