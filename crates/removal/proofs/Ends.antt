-- The part of a store that an answer speaks of: its end, and where it lies. Assumes nothing.
use mathlib.Core.Path.{◌≡◌, refl, ap}
use mathlib.Core.Bool.{Bool, true, false, cond, ◌&&◌}
use mathlib.Core.List.{List, []}
use lib.ListN.{take}
use lib.IntN.{ℤ}
use Prim.Native.Nat.{ℕ, ◌*◌, ◌≤◌, ◌<◌, zero-le}
use native.Mathlib.Omega.{arith}
use borrow.Author.Tests.{le-leb, lt-leb, leb-true}
use borrow.Rule.Slice.Shared.{by_size}
use lib.Dec.{leb}
use Rattle.integers.proofs.Tests.{and_right}
use Rattle.rows.specs.Rows.{row_numbers, set_rows}
use Rattle.removal.specs.Alone.{part_end}

module _ (long rows : ℕ) where
  pub end_fits : rows ≤ set_rows → rows * row_numbers ≤ long → rows * row_numbers ≡ part_end long rows
  unfolding part_end
  end_fits h k = rw (le-leb rows set_rows h, le-leb (rows * row_numbers) long k)

  pub end_short : rows ≤ set_rows → long < rows * row_numbers → 0 ≡ part_end long rows
  unfolding part_end
  end_short h k = rw (le-leb rows set_rows h, lt-leb (rows * row_numbers) long k)

  pub end_many : set_rows < rows → 0 ≡ part_end long rows
  unfolding part_end
  end_many h = rw (lt-leb rows set_rows h)

  -- it is within the store
  pub end_within : part_end long rows ≤ long
  unfolding part_end
  end_within = go (leb rows set_rows && leb (rows * row_numbers) long) refl
    where
      go : (b : Bool) → (leb rows set_rows && leb (rows * row_numbers) long) ≡ b → cond b (rows * row_numbers) 0 ≤ long
      go true e = leb-true (rows * row_numbers) long (and_right (leb rows set_rows) (leb (rows * row_numbers) long) e)
      go false e = zero-le

-- a part that starts at 0 lies where its store lies
pub at-start : (p : ℕ × ℕ) → (p.0, by_size 4 0 p.1) ≡ p
at-start p = ap (λ (k : ℕ). (p.0, k)) (omega arith)

-- a refusal has no rows
pub none_taken : (long : ℕ) (s : List ℤ) → [] ≡ take (part_end long 0) s
none_taken long s = rw (← end_fits long 0 zero-le zero-le) refl
