-- `sets::has_false` meets its contract: 1 ≤ 0 belongs behind a last row whose constant is below 1.
use Rattle.std.proofs.Common.{rules}
use mathlib.Core.Path.{◌≡◌, refl, ap, ◌∙◌}
use mathlib.Core.List.{List}
use Prim.Native.Nat.{ℕ, ◌-◌, ◌*◌, ◌<◌}
use native.Mathlib.Nat.{add-zero, zero-add}
use native.Mathlib.Omega.{arith}
use lib.Dec.{lit<}
use lib.ListN.{get_or}
use lib.IntN.{ℤ, pos}
use lib.Signed.{◌<ℤ◌, lt_z_yes}
use mir.Syntax.{w32}
use Rattle.integers.proofs.Bounds.{back}
use Rattle.integers.proofs.Tests.{T_of}
use Rattle.rows.specs.Rows.{empty_row, false_row, row_at}
use Rattle.rows.proofs.Stores.{get_d_part}
use Rattle.sets.specs.Sets.{stands_in}
use Rattle.sets.specs.Stores.{rows_at, set_in}
use Rattle.sets.proofs.Stores.{length-rows_at, getD_rows_at}
use Rattle.sets.proofs.Places.{behind_last, false-after}
use Rattle.sets.proofs.has_false.Goals as goal

pub returns-then-n-eq0 : goal.returns-then-n-eq0
unfolding stands_in rows_at
returns-then-n-eq0 c = rw c.if-n-eq0.true refl

-- the last row's constant, as it stands in the store
first_entry : (s : List ℤ) (at : ℕ) → get_or (row_at s at).entries 0 (pos 0) ≡ get_or s at (pos 0)
first_entry s at = get_d_part 16 at s 0 (lit< tt) ∙ ap (λ (i : ℕ). get_or s i (pos 0)) (add-zero at)

pub returns-then-s-n-lt1 : goal.returns-then-s-n-lt1
returns-then-s-n-lt1 c =
    let s = c.args.s.now in
    let n = c.args.n in
    let m = (n - 1) * 17 in
    let some : n - 1 < n = omega (arith, c.if-n-eq0.false) in
    let below : get_or s m (pos 0) <ℤ pos 1 = lt_z_yes (T_of (rw (back w32 (get_or s m (pos 0)) (search rules)) at c.if-s-n-lt1.true)) in
    let last : get_or (set_in s n) (n - 1) empty_row ≡ row_at s m = rw zero-add at (getD_rows_at s 0 n (n - 1) empty_row some) in
    behind_last false_row c.requires.ordered empty_row (n - 1) (omega (arith, length-rows_at s 0 n, some)) (rw last (false-after (row_at s m) (rw (first_entry s m) below)))
