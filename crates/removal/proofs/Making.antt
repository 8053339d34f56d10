-- A set made of rows in their own store: it grows no faster than they are read, so the rows not yet read stand as they stood. Assumes nothing.
use mathlib.Core.Path.{◌≡◌, refl, ap}
use mathlib.Core.List.{List, [], ◌∷◌}
use Prim.Native.Nat.{ℕ, ◌+◌, ◌-◌, ◌*◌, ◌≤◌, ◌<◌, zero-le}
use native.Mathlib.Nat.{zero-add}
use native.Mathlib.Omega.{arith}
use lib.ListN.{length, take}
use lib.IntN.{ℤ}
use Rattle.rows.specs.declared.Row.{Row}
use Rattle.rows.specs.declared.Fate.{Fate}
use Rattle.rows.specs.declared.Fate.TheVariants.{Kept, Gone, TooLarge}
use Rattle.std.specs.declared.cmp.Ordering.{Ordering}
use Rattle.std.specs.declared.cmp.Ordering.TheVariants.{Less, Equal, Greater}
use Rattle.rows.specs.Rows.{row_numbers, set_rows, divided_down, row_order, row_at}
use Rattle.sets.specs.declared.Refusal.TheVariants.{EntryTooLarge}
use Rattle.sets.specs.Stores.{Joined, numbers_of, rows_at, set_in, with_rows, Left, next, put_all}
use Rattle.sets.specs.Outcomes.{Result, Ok, Err}
use Rattle.sets.specs.Sets.{place, insert, joined}
use Rattle.sets.proofs.Stores.{length-numbers_of, length-rows_at, row-alike, drop-with_rows}
use Rattle.sets.proofs.Steps.{within-few, Proper, put_all_large, put_all-row, put_all-start}

-- ---- at most i rows, or 9
abbrev pub Growing : Result (List Row) → ℕ → Type 0
Growing (Ok t) i = length t ≤ i
Growing (Err q) i = q ≡ EntryTooLarge

place_longer : (o : Ordering) (r s : Row) (l behind : List Row) → length behind ≤ length l + 1 → length (place o r s l behind) ≤ length (s ∷ l) + 1
place_longer Less r s l behind h = omega arith
place_longer Equal r s l behind h = omega arith
place_longer Greater r s l behind h = omega arith

-- an insertion adds one row at most
pub insert_longer : (r : Row) (l : List Row) → length (insert r l) ≤ length l + 1
unfolding insert
insert_longer r [] = omega arith
insert_longer r (s ∷ l) = place_longer (row_order r s) r s l (insert r l) (insert_longer r l)

growing_more : (x : Result (List Row)) (i : ℕ) → Growing x i → Growing x (i + 1)
growing_more (Ok t) i h = omega arith
growing_more (Err q) i e = e

pub next_growing : (f : Fate) (r : Row) (x : Result (List Row)) (i : ℕ) → i < set_rows → Growing x i → Growing (next f r x) (i + 1)
next_growing Kept r (Ok t) i k h = rw (within-few (insert r t) (omega (arith, insert_longer r t))) (omega (arith, insert_longer r t))
next_growing Kept r (Err q) i k e = e
next_growing Gone r x i k h = growing_more x i h
next_growing TooLarge r x i k h = refl

-- ---- where the loop begins
pub growing_none : (s : List ℤ) → Growing (Ok (set_in s 0)) 0
growing_none s = rw length-rows_at zero-le

pub making_start : (s : List ℤ) (n : ℕ) → put_all (rows_at s (0 + 0 * row_numbers) (n - 0)) (Ok (set_in s 0)) ≡ joined (rows_at s 0 n) []
unfolding rows_at
making_start s n = put_all-start s 0 n [] zero-le

-- ---- a turn: row i is the row that was given, or 9 has come and stays
next_large : (f : Fate) (r : Row) → next f r (Err EntryTooLarge) ≡ Err EntryTooLarge
next_large Kept r = refl
next_large Gone r = refl
next_large TooLarge r = refl

module _ (s₀ s : List ℤ) (c : Joined) (n i : ℕ) (h : i < n) where
  abbrev row : Row
  row = row_at s (i * row_numbers)

  row-given : (t : List Row) → Proper (Ok t) → length t ≤ i → s ≡ with_rows t s₀ → row ≡ row_at s₀ (0 + i * row_numbers)
  row-given t g k e =
      let m : length (numbers_of t) ≤ i * row_numbers = omega (arith, length-numbers_of g.2) in
      rw (e, zero-add (i * row_numbers))
      (row-alike (with_rows t s₀) s₀ (i * row_numbers) (i * row_numbers) (ap (λ (l : List ℤ). take row_numbers l) (drop-with_rows t s₀ (i * row_numbers) m)))

  pub making_turn : (x y : Result (List Row)) → Proper x → Growing x i → Left x s₀ s c → y ≡ next (divided_down row).fate (divided_down row).row x →
      put_all (rows_at s₀ (0 + (i + 1) * row_numbers) (n - (i + 1))) y ≡ put_all (rows_at s₀ (0 + i * row_numbers) (n - i)) x
  making_turn (Ok t) y g k l e = put_all-row s₀ 0 n i h (Ok t) y (rw (row-given t g k l.store) at e)
  making_turn (Err q) y g k l e =
      rw (e, k, next_large (divided_down row).fate (divided_down row).row, put_all_large (rows_at s₀ (0 + i * row_numbers) (n - i)))
      (put_all_large (rows_at s₀ (0 + (i + 1) * row_numbers) (n - (i + 1))))
