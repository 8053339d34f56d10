-- The tests on sets read as facts: a row that stands in a list, the same rows, a false row. Assumes nothing.
use mathlib.Core.Path.{◌≡◌, refl, ap, ap₂}
use mathlib.Core.Bool.{Bool, true, false, ◌||◌}
use mathlib.Core.Logic.{⊎_elim}
use mathlib.Core.List.{List, [], ◌∷◌}
use Prim.Native.Nat.{ℕ, zero, suc, ◌+◌, ◌*◌}
use native.Mathlib.Omega.{arith}
use lib.IntN.{ℤ, pos}
use lib.Signed.{◌<ℤ◌}
use Rattle.std.specs.List.{list_any, range_with_len}
use Rattle.integers.specs.Lists.{All, In, here, there}
use Rattle.integers.proofs.Tests.{not-both, and_left, and_right, or_true}
use Rattle.integers.proofs.Lists.{all_in}
use Rattle.rows.specs.declared.Row.{Row}
use Rattle.rows.specs.Rows.{row_numbers, at, Holds, false_row, same_row, row_at}
use Rattle.rows.proofs.Ordering.{same_row-is, same_row_itself}
use Rattle.rows.proofs.Dividing.{never}
use Rattle.sets.specs.Sets.{stands_in, same_rows, any_false}
use Rattle.sets.specs.Stores.{rows_at}

pub stands_in-is : (r : Row) (l : List Row) → stands_in r l ≡ true → In r l
unfolding stands_in
stands_in-is r [] e = not-both e
stands_in-is r (s ∷ l) e = ⊎_elim (λ a. here (same_row-is r s a)) (λ b. there (stands_in-is r l b)) (or_true (same_row r s) (stands_in r l) e)

pub or_right : (a : Bool) {b : Bool} → b ≡ true → (a || b) ≡ true
or_right true e = refl
or_right false e = e

pub in_stands_in : (r : Row) (l : List Row) → In r l → stands_in r l ≡ true
unfolding stands_in
in_stands_in r [] i = elim i [ ]
in_stands_in r (s ∷ l) (here e) = rw (← e, same_row_itself r) refl
in_stands_in r (s ∷ l) (there i) = or_right (same_row r s) (in_stands_in r l i)

-- the rows that stand in a store, asked one after the other
pub stands-each : (r : Row) (s : List ℤ) (k i : ℕ) → list_any (λ j. same_row r (row_at s (j * row_numbers))) (range_with_len i k) ≡ stands_in r (rows_at s (i * row_numbers) k)
unfolding stands_in rows_at
stands-each r s zero i = refl
stands-each r s (suc k) i =
    let e : (i + 1) * row_numbers ≡ i * row_numbers + row_numbers = omega arith in
    ap (λ (b : Bool). same_row r (row_at s (i * row_numbers)) || b) (rw e at (stands-each r s k (i + 1)))

pub same_rows-is : (l k : List Row) → same_rows l k ≡ true → l ≡ k
unfolding same_rows
same_rows-is [] [] e = refl
same_rows-is [] (s ∷ k) e = not-both e
same_rows-is (r ∷ l) [] e = not-both e
same_rows-is (r ∷ l) (s ∷ k) e =
    ap₂ {C = List Row} (λ a b. a ∷ b) (same_row-is r s (and_left (same_row r s) (same_rows l k) e)) (same_rows-is l k (and_right (same_row r s) (same_rows l k) e))

pub same_rows_itself : (l : List Row) → same_rows l l ≡ true
unfolding same_rows
same_rows_itself [] = refl
same_rows_itself (r ∷ l) = rw (same_row_itself r) (same_rows_itself l)

-- rows with a false row among them hold at no point
pub any_false-never : (p : List ℤ) → pos 0 <ℤ at p 0 → (l : List Row) → any_false l ≡ true → ¬ All (Holds p) l
any_false-never p h l e a = never p h (all_in a (stands_in-is false_row l e))
