-- Numbers and rows of two stores compared, one by one: what a loop has seen of them decides the tests. Assumes nothing.
use mathlib.Core.Path.{◌≡◌, refl, sym, ap, ap₂, ◌∙◌}
use mathlib.Core.Bool.{Bool, true, false, ◌&&◌}
use mathlib.Core.Logic.{⊎_elim}
use mathlib.Core.List.{List, [], ◌∷◌}
use Prim.Native.Nat.{ℕ, ◌+◌, ◌*◌, ◌≤◌, ◌<◌, zero-le}
use native.Mathlib.Nat.{suc_inj, suc-ne-zero, eq-or-lt_of_le}
use native.Mathlib.Numerals.{add-one}
use lib.ListN.{length, get_or, take, drop}
use lib.Seq.{ext_get_or}
use Rattle.std.specs.List.{zip}
use Rattle.std.specs.Ordering.{int_eq}
use Rattle.integers.specs.Lists.{every}
use lib.IntN.{ℤ}
use Rattle.integers.proofs.Tests.{not-both, and_left, and_right, false_of}
use Rattle.rows.specs.declared.Row.{Row}
use Rattle.rows.specs.Rows.{row_numbers, empty_row, number_order, numbers, row_at}
use Rattle.rows.proofs.Ordering.{number_same, number_itself, order_same}
use Rattle.sets.specs.Sets.{is_same, same_rows, same_numbers}
use Rattle.sets.specs.Stores.{rows_at, Stands}
use Rattle.sets.proofs.Stores.{length-rows_at, getD_rows_at, row-alike, stands-row}
use Rattle.sets.proofs.Tests.{same_rows-is, same_rows_itself}

-- ---- numbers
pub same_numbers-is : (l m : List ℤ) → same_numbers l m ≡ true → l ≡ m
unfolding same_numbers
same_numbers-is [] [] e = refl
same_numbers-is [] (y ∷ m) e = not-both e
same_numbers-is (x ∷ l) [] e = not-both e
same_numbers-is (x ∷ l) (y ∷ m) e =
    let b = is_same (number_order x y) in
    ap₂ {C = List ℤ} (λ a k. a ∷ k) (number_same x y (order_same (number_order x y) (and_left b (same_numbers l m) e))) (same_numbers-is l m (and_right b (same_numbers l m) e))

pub same_numbers_itself : (l : List ℤ) → same_numbers l l ≡ true
unfolding same_numbers
same_numbers_itself [] = refl
same_numbers_itself (x ∷ l) = rw (number_itself x) (same_numbers_itself l)

-- two parts are the same where each pair of their numbers is
pub zipped_same : (l m : List ℤ) → length l ≡ length m → every (λ (p : ℤ × ℤ). int_eq p.0 p.1) (zip l m) ≡ same_numbers l m
unfolding same_numbers
zipped_same [] [] e = refl
zipped_same [] (y ∷ m) e = absurd (suc-ne-zero (length m) (sym e))
zipped_same (x ∷ l) [] e = absurd (suc-ne-zero (length l) e)
zipped_same (x ∷ l) (y ∷ m) e = ap (λ (b : Bool). int_eq x y && b) (zipped_same l m (suc_inj e))

-- ---- rows
module _ (x y : List ℤ) (a b n : ℕ) where
  pub rows_agree : ((i : ℕ) → 0 ≤ i → i < n → row_at x (a + i * row_numbers) ≡ row_at y (b + i * row_numbers)) → true ≡ same_rows (rows_at x a n) (rows_at y b n)
  rows_agree f =
      let e : rows_at x a n ≡ rows_at y b n =
      ext_get_or empty_row (rows_at x a n) (rows_at y b n) (length-rows_at x a n ∙ sym (length-rows_at y b n))
      (λ i l. let m : i < n = rw length-rows_at at l in getD_rows_at x a n i empty_row m ∙ f i zero-le m ∙ sym (getD_rows_at y b n i empty_row m)) in
      rw e (sym (same_rows_itself (rows_at y b n)))

  pub rows_differ : Stands x a n → Stands y b n → (i : ℕ) → i < n →
      same_numbers (take row_numbers (drop (a + i * row_numbers) x)) (take row_numbers (drop (b + i * row_numbers) y)) ≡ false → false ≡ same_rows (rows_at x a n) (rows_at y b n)
  rows_differ h k i l f = sym (false_of (same_rows (rows_at x a n) (rows_at y b n)) (λ t.
      let e : row_at x (a + i * row_numbers) ≡ row_at y (b + i * row_numbers) =
      sym (getD_rows_at x a n i empty_row l) ∙ ap (λ (m : List Row). get_or m i empty_row) (same_rows-is (rows_at x a n) (rows_at y b n) t) ∙ getD_rows_at y b n i empty_row l in
      let g : take row_numbers (drop (a + i * row_numbers) x) ≡ take row_numbers (drop (b + i * row_numbers) y) =
      stands-row x a n i h l ∙ ap numbers e ∙ sym (stands-row y b n i k l) in
      not-both (sym f ∙ ap (λ (m : List ℤ). same_numbers m (take row_numbers (drop (b + i * row_numbers) y))) g ∙ same_numbers_itself (take row_numbers (drop (b + i * row_numbers) y)))))

  -- one more row, from the end on
  pub rows_more : (k : ℕ) → ((i : ℕ) → k + 1 ≤ i → i < n → row_at x (a + i * row_numbers) ≡ row_at y (b + i * row_numbers)) →
      same_numbers (take row_numbers (drop (a + k * row_numbers) x)) (take row_numbers (drop (b + k * row_numbers) y)) ≡ true →
      (i : ℕ) → k ≤ i → i < n → row_at x (a + i * row_numbers) ≡ row_at y (b + i * row_numbers)
  rows_more k f t i h l =
      ⊎_elim (λ (e : k ≡ i). rw (← e) (row-alike x y (a + k * row_numbers) (b + k * row_numbers) (same_numbers-is (take row_numbers (drop (a + k * row_numbers) x)) (take row_numbers (drop (b + k * row_numbers) y)) t)))
      (λ (e : k < i). f i (rw add-one e) l) (eq-or-lt_of_le h)
