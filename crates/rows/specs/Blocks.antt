-- The order of rows in stores, taken four entries at a time.
use Rattle.std.specs.Prelude.{cond, List, ℕ, ◌+◌, take, drop, ℤ}
use Rattle.std.specs.declared.cmp.Ordering.{Ordering}
use Rattle.rows.specs.Rows.{is_same, entry_order}

-- the order of the four numbers at an offset of each store
abbrev pub four_order : List ℤ → ℕ → List ℤ → ℕ → Ordering
four_order s a t b = entry_order (take 4 (drop a s)) (take 4 (drop b t))

-- where the first block that differs begins, the front block left out, by the orders of the three others: 4, 8 or 12; 16 where none does
abbrev pub first_differing : Ordering → Ordering → Ordering → ℕ
first_differing o p q = cond (is_same o) (cond (is_same p) (cond (is_same q) 16 12) 8) 4

unfoldable pub first_other : List ℤ → ℕ → List ℤ → ℕ → ℕ
first_other s a t b = first_differing (four_order s (a + 4) t (b + 4)) (four_order s (a + 8) t (b + 8)) (four_order s (a + 12) t (b + 12))
