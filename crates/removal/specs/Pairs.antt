-- Words for the code of one removal: rows by their numbers, which count from 0 at the front of a store.
use Rattle.std.specs.Prelude.{Bool, cond, List, [], ◌∷◌, ◌++◌, map, ℕ, zero, suc, ◌+◌, ◌*◌, ◌≤◌, length, ℤ}
use Rattle.rows.specs.declared.Row.{Row}
use Rattle.rows.specs.Rows.{row_numbers, Small, row_at}
use Rattle.removal.specs.Removal.{entry}

-- the row of a number, and the rows of several
abbrev pub row_of : List ℤ → ℕ → Row
row_of s i = row_at s (i * row_numbers)

abbrev pub rows_of : List ℤ → List ℕ → List Row
rows_of s is = map (row_of s) is

-- the numbers of those of the first n rows whose entry v passes a test
unfoldable pub numbers_where : (ℤ → Bool) → ℕ → List ℤ → ℕ → List ℕ
numbers_where test v s zero = []
numbers_where test v s (suc n) = numbers_where test v s n ++ cond (test (entry v (row_of s n))) (n ∷ []) []

-- a row stands there with entries within the limit
pub record SmallAt (s : List ℤ) (p : ℕ) : Type 0 where
  pub room : p + row_numbers ≤ length s
  pub small : Small (row_at s p).entries
