-- Loops over the numbers of a store: rows that move up by a row, a row put between others, whole rows cleared. Assumes nothing.
use mathlib.Core.Path.{◌≡◌, refl, sym, ap, ◌∙◌}
use mathlib.Core.List.{List, ◌++◌, append_assoc}
use Prim.Native.Nat.{ℕ, suc, ◌+◌, ◌-◌, ◌≤◌, ◌<◌}
use native.Mathlib.Nat.{div-mul-le_self}
use native.Mathlib.Omega.{arith}
use native.Mathlib.Numerals.{add-one}
use lib.ListN.{length, get_or, set, take, drop, length-drop, take-append-drop, get_or-append}
use lib.Seq.{paste, paste-suc, length-take-le, get_or-take, get_or-drop, drop_at, drop-drop, take-take, take-add, take-append-le}
use lib.IntN.{ℤ, pos}
use Rattle.rows.specs.declared.Row.{Row}
use Rattle.rows.specs.Rows.{row_numbers, numbers, with_row}
use Rattle.sets.specs.Stores.{whole_numbers, zeroed}
use Rattle.sets.proofs.Parts.{part-before}
use Rattle.sets.proofs.Stores.{length-zeroed, getD_zeroed, drop-zeroed}

-- ---- numbers written once more, g places higher and the first of them first: what is read next was not written
module _ (s t : List ℤ) (a g i : ℕ) (up : i < g) (room : a + g + g ≤ length s) (is : t ≡ paste s (a + g) (drop a s) i) where
  pub copy_read : get_or t (a + i) (pos 0) ≡ get_or s (a + i) (pos 0)
  copy_read =
      let p = take (a + g) s in
      let x = take i (drop a s) in
      let y = drop (a + g + i) s in
      let l : a + i < length p = rw (length-take-le (a + g) s (omega arith)) (omega arith) in
      rw (is, append_assoc p x y, get_or-append p (x ++ y) (pos 0) (a + i) l) (get_or-take (a + g) s (a + i) (pos 0) (omega arith))

  pub copy_more : (v : ℤ) → v ≡ get_or s (a + i) (pos 0) → set t (a + g + i) v ≡ paste s (a + g) (drop a s) (i + 1)
  copy_more v e = rw (is, e, ← get_or-drop a s i (pos 0), add-one) (paste-suc s (a + g) (drop a s) i (pos 0) (omega arith) (rw length-drop (omega arith)))

-- ---- the numbers from a + g to an end stand g places higher; the g numbers below them move next
pub moved_more : (s t : List ℤ) (a end g : ℕ) → a + g ≤ end → end + g ≤ length s → t ≡ paste s (a + g + g) (drop (a + g) s) (end - (a + g)) →
    take (a + g) t ++ take g (drop a t) ++ drop (a + g + g) t ≡ paste s (a + g) (drop a s) (end - a)
moved_more s t a end g up room is =
    let n = a + g + g in
    let p = take n s in
    let x = take (end - (a + g)) (drop (a + g) s) in
    let y = drop (end + g) s in
    let z : n + (end - (a + g)) ≡ end + g = omega arith in
    let w : a + g + (end - a) ≡ end + g = omega arith in
    let m : end - a ≡ g + (end - (a + g)) = omega arith in
    let b : t ≡ p ++ (x ++ y) = (rw z at is) ∙ append_assoc p x y in
    let l : length p ≡ n = length-take-le n s (omega arith) in
    let c : take (a + g) t ≡ take (a + g) s = rw (b, take-append-le (a + g) p (x ++ y) (omega arith)) (take-take (a + g) n s (omega arith)) in
    let d : take g (drop a t) ≡ take g (drop a s) = rw b (part-before s n (omega arith) (x ++ y) a g (omega arith)) in
    let e : drop n t ≡ x ++ y = rw b (drop_at p (x ++ y) n l) in
    let f : take (end - a) (drop a s) ≡ take g (drop a s) ++ x = rw (m, take-add g (end - (a + g)) (drop a s), drop-drop g a s) refl in
    rw (c, d, e, w, f) (simp append_assoc)

-- ---- whole rows cleared from m on, up to i
module _ (s t : List ℤ) (m i : ℕ) (from : m ≤ i) (is : t ≡ paste s m (drop m (zeroed s)) (i - m)) where
  pub clear-more : i < whole_numbers s → set t i (pos 0) ≡ paste s m (drop m (zeroed s)) (i + 1 - m)
  clear-more h =
      let z = drop m (zeroed s) in
      let j = i - m in
      let e : m + j ≡ i = omega arith in
      let f : i + 1 - m ≡ suc j = omega arith in
      let w = div-mul-le_self (length s) row_numbers in
      let v : get_or z j (pos 0) ≡ pos 0 = get_or-drop m (zeroed s) j (pos 0) ∙ getD_zeroed s (m + j) (omega arith) in
      rw (is, f)
      (ap (λ (n : ℕ). set (paste s m z j) n (pos 0)) (sym e) ∙ ap (set (paste s m z j) (m + j)) (sym v) ∙
      paste-suc s m z j (pos 0) (omega arith) (rw (length-drop, length-zeroed) (omega arith)))

  pub clear-done : i ≡ whole_numbers s → t ≡ take m s ++ drop m (zeroed s)
  clear-done h =
      let z = drop m (zeroed s) in
      let j = i - m in
      let e : m + j ≡ whole_numbers s = omega arith in
      let f : drop (m + j) (zeroed s) ≡ drop (m + j) s = rw e (drop-zeroed s) in
      rw (is, ← f, ← drop-drop j m (zeroed s)) (append_assoc (take m s) (take j z) (drop j z) ∙ ap (λ (l : List ℤ). take m s ++ l) (take-append-drop j z))

-- ---- a row written where numbers have moved up: they stand behind it
pub written-between : (s t : List ℤ) (r : Row) (a end : ℕ) → a ≤ end → end + row_numbers ≤ length s →
    t ≡ take (a + row_numbers) s ++ take (end - a) (drop a s) ++ drop (end + row_numbers) s →
    with_row t a r ≡ take a s ++ numbers r ++ (take (end - a) (drop a s) ++ drop (end + row_numbers) s)
written-between s t r a end h room is =
    let p = take (a + row_numbers) s in
    let x = take (end - a) (drop a s) in
    let y = drop (end + row_numbers) s in
    let n : length p ≡ a + row_numbers = length-take-le (a + row_numbers) s (omega arith) in
    let b : t ≡ p ++ (x ++ y) = is ∙ append_assoc p x y in
    let f : take a t ≡ take a s = rw (b, take-append-le a p (x ++ y) (omega arith)) (take-take a (a + row_numbers) s (omega arith)) in
    let g : drop (a + row_numbers) t ≡ x ++ y = rw b (drop_at p (x ++ y) (a + row_numbers) n) in
    rw (f, g)
