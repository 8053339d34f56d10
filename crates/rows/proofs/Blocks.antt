-- The order of rows in two stores, taken four entries at a time. Assumes nothing.
use mathlib.Core.Path.{◌≡◌, refl, sym, ap, ◌∙◌}
use mathlib.Core.Bool.{Bool, cond, ◌&&◌}
use mathlib.Core.Logic.{◌⊎◌, inl, inr, ⊎_elim}
use mathlib.Core.List.{List, [], ◌∷◌, map}
use Prim.Native.Nat.{ℕ, ◌+◌, ◌^◌, ◌≤◌, ◌<◌}
use native.Mathlib.Nat.{suc_inj, suc-ne-zero}
use native.Mathlib.Omega.{arith}
use borrow.Author.Tests.{eqb-true, eq-eqb}
use lib.Dec.{eqb}
use lib.Signed.{mag}
use mir.Syntax.{w32}
use mir.Val.{of_z}
use lib.ListN.{length, get_or, take, drop}
use lib.Seq.{take-add, drop-drop}
use lib.IntN.{ℤ, pos}
use Rattle.std.specs.Cmp.{tied_then}
use Rattle.std.specs.List.{zip, find}
use Rattle.std.specs.Option.{unwrap_or}
use Rattle.std.proofs.Common.{Some}
use Rattle.std.specs.Ordering.{int_eq, int_cmp, is_ne}
use Rattle.std.specs.declared.cmp.Ordering.{Ordering}
use Rattle.std.specs.declared.cmp.Ordering.TheVariants.{Less, Equal, Greater}
use Rattle.integers.specs.Lists.{every}
use Rattle.integers.proofs.Tests.{same_test}
use Rattle.integers.proofs.Bounds.{bits-same}
use Rattle.rows.specs.Rows.{then_by, is_same, number_order, entry_order, flag_order, row_order, is_one, row_at}
use Rattle.rows.specs.Blocks.{four_order, first_differing, first_other}
use Rattle.rows.proofs.Ordering.{number_same, number_itself, order_same, entries_joined}
use Rattle.rows.proofs.Stores.{length_part}

-- ---- the bits of two numbers tell whether they are the same
pub bits_order : (x y : ℤ) → mag x < 2 ^ 31 → mag y < 2 ^ 31 → eqb (of_z w32 x) (of_z w32 y) ≡ is_same (number_order x y)
bits_order x y h k =
    same_test _ _
    (λ e. rw (bits-same w32 x y h k (eqb-true _ _ e), number_itself y) refl)
    (λ e. eq-eqb _ _ (ap (of_z w32) (number_same x y (order_same (number_order x y) e))))

-- ---- a block is the same where each pair of its numbers is
pub zip_same : (l m : List ℤ) → length l ≡ length m → every (λ (p : ℤ × ℤ). int_eq p.0 p.1) (zip l m) ≡ is_same (entry_order l m)
unfolding entry_order
zip_same [] [] e = refl
zip_same [] (y ∷ m) e = absurd (suc-ne-zero (length m) (sym e))
zip_same (x ∷ l) [] e = absurd (suc-ne-zero (length l) e)
zip_same (x ∷ l) (y ∷ m) e = ap (λ (b : Bool). int_eq x y && b) (zip_same l m (suc_inj e)) ∙ tied_then (int_cmp x y) (entry_order l m)

-- and the first pair that differs decides its order
pub first_differs : (l m : List ℤ) → length l ≡ length m → unwrap_or (find is_ne (map (λ (p : ℤ × ℤ). int_cmp p.0 p.1) (zip l m))) Equal ≡ entry_order l m
unfolding entry_order
first_differs [] [] e = refl
first_differs [] (y ∷ m) e = absurd (suc-ne-zero (length m) (sym e))
first_differs (x ∷ l) [] e = absurd (suc-ne-zero (length l) e)
first_differs (x ∷ l) (y ∷ m) e = go (int_cmp x y) (first_differs l m (suc_inj e))
  where
    orders : List Ordering
    orders = map (λ (p : ℤ × ℤ). int_cmp p.0 p.1) (zip l m)

    go : (o : Ordering) → unwrap_or (find is_ne orders) Equal ≡ entry_order l m → unwrap_or (cond (is_ne o) (Some o) (find is_ne orders)) Equal ≡ then_by o (entry_order l m)
    go Less more = refl
    go Equal more = more
    go Greater more = refl

-- ---- the four blocks of a row
module _ (s t : List ℤ) (a b : ℕ) where
  parts_order : (k n : ℕ) → a + k ≤ length s → b + k ≤ length t →
      entry_order (take (k + n) (drop a s)) (take (k + n) (drop b t)) ≡ then_by (entry_order (take k (drop a s)) (take k (drop b t))) (entry_order (take n (drop (a + k) s)) (take n (drop (b + k) t)))
  parts_order k n f g =
      rw (take-add k n (drop a s), take-add k n (drop b t), drop-drop k a s, drop-drop k b t)
      (entries_joined (take k (drop a s)) (take k (drop b t)) _ _ (length_part k a s f ∙ sym (length_part k b t g)))

  -- the order of the front block, then that of the other three
  abbrev pub then_blocks : Ordering → Ordering
  then_blocks o = then_by (then_by (then_by o (four_order s (a + 4) t (b + 4))) (four_order s (a + 8) t (b + 8))) (four_order s (a + 12) t (b + 12))

  blocks_order : a + 16 ≤ length s → b + 16 ≤ length t → entry_order (take 16 (drop a s)) (take 16 (drop b t)) ≡ then_blocks (four_order s a t b)
  blocks_order f g =
      parts_order 12 4 (omega arith) (omega arith) ∙
      ap (λ (o : Ordering). then_by o (four_order s (a + 12) t (b + 12)))
      (parts_order 8 4 (omega arith) (omega arith) ∙ ap (λ (o : Ordering). then_by o (four_order s (a + 8) t (b + 8))) (parts_order 4 4 (omega arith) (omega arith)))

  pub row-blocks : (o : Ordering) → a + 16 ≤ length s → b + 16 ≤ length t → four_order s a t b ≡ o →
      then_by (then_blocks o) (flag_order (is_one (get_or s (a + 16) (pos 0))) (is_one (get_or t (b + 16) (pos 0)))) ≡ row_order (row_at s a) (row_at t b)
  unfolding row_order
  row-blocks o f g e = rw (blocks_order f g, e)

  -- where the front blocks are the same, the first other block decides, or else what comes after the blocks
  other_decides : (z : Ordering) → ((first_other s a t b ≤ 12) × (four_order s (a + first_other s a t b) t (b + first_other s a t b) ≡ then_by (then_blocks Equal) z)) ⊎ ((first_other s a t b ≡ 16) × (z ≡ then_by (then_blocks Equal) z))
  unfolding first_other
  other_decides z = go (four_order s (a + 4) t (b + 4)) (four_order s (a + 8) t (b + 8)) (four_order s (a + 12) t (b + 12)) refl refl refl
    where
      go : (o p q : Ordering) → four_order s (a + 4) t (b + 4) ≡ o → four_order s (a + 8) t (b + 8) ≡ p → four_order s (a + 12) t (b + 12) ≡ q →
          let k = first_differing o p q in
          ((k ≤ 12) × (four_order s (a + k) t (b + k) ≡ then_by (then_by (then_by o p) q) z)) ⊎ ((k ≡ 16) × (z ≡ then_by (then_by (then_by o p) q) z))
      go Less p q e f g = inl (omega arith, e)
      go Greater p q e f g = inl (omega arith, e)
      go Equal Less q e f g = inl (omega arith, f)
      go Equal Greater q e f g = inl (omega arith, f)
      go Equal Equal Less e f g = inl (omega arith, g)
      go Equal Equal Greater e f g = inl (omega arith, g)
      go Equal Equal Equal e f g = inr (refl, refl)

  pub other_found : (z : Ordering) → first_other s a t b < 16 → (first_other s a t b ≤ 12) × (four_order s (a + first_other s a t b) t (b + first_other s a t b) ≡ then_by (then_blocks Equal) z)
  other_found z l = ⊎_elim (λ w. w) (λ w. absurd (omega arith)) (other_decides z)

  pub other_none : (z : Ordering) → 16 ≤ first_other s a t b → z ≡ then_by (then_blocks Equal) z
  other_none z l = ⊎_elim (λ w. absurd (omega arith)) (λ w. w.1) (other_decides z)
