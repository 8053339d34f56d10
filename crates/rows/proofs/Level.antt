-- A row whose entries are 0, x or −x: it is x's magnitude times its signs, and so is divided down to them. Assumes nothing.
use mathlib.Core.Path.{◌≡◌, refl, sym, ap, ap₂, ◌∙◌}
use mathlib.Core.Bool.{Bool, true, false, cond, ◌&&◌, ◌||◌}
use mathlib.Core.Logic.{⊎_elim}
use mathlib.Core.List.{List, [], ◌∷◌, map}
use Prim.Native.Nat.{ℕ, zero, suc}
use native.Mathlib.Nat.{mul-one}
use borrow.Author.Tests.{eqb-true}
use lib.Dec.{eqb}
use lib.ListN.{drop}
use lib.IntN.{ℤ, pos, negsuc, neg_ℤ, nat_abs, ◌*ℤ◌, *ℤ-zero}
use Rattle.integers.specs.Lists.{every}
use Rattle.integers.specs.Signs.{is_zero, sign}
use Rattle.integers.proofs.Tests.{not-both, and_left, and_right, or_true, zero_of}
use Rattle.integers.proofs.Whole.{IsPos, is_pos}
use Rattle.entries.specs.Entries.{is_level}
use Rattle.rows.specs.declared.Row.{Row}
use Rattle.rows.specs.Rows.{kept, too_large, all_small, all_zero, has_unit, limited, divided_down, times}
use Rattle.rows.proofs.Again.{drop-map}
use Rattle.rows.proofs.Adding.{some-entry, divided_down-times, unit-limited}

-- ---- a number is its magnitude times its sign
magnitude-sign : (z : ℤ) → pos (nat_abs z) *ℤ sign z ≡ z
magnitude-sign (pos zero) = refl
magnitude-sign (pos (suc n)) = ap pos (mul-one (suc n))
magnitude-sign (negsuc n) = ap (λ (m : ℕ). neg_ℤ (pos m)) (mul-one (suc n))

magnitude-above : (x : ℤ) → is_zero x ≡ false → IsPos (pos (nat_abs x))
magnitude-above (pos zero) e = not-both (sym e)
magnitude-above (pos (suc n)) e = is_pos n
magnitude-above (negsuc n) e = is_pos n

sign_zero : (z : ℤ) → is_zero (sign z) ≡ is_zero z
sign_zero (pos zero) = refl
sign_zero (pos (suc n)) = refl
sign_zero (negsuc n) = refl

-- ---- level entries are the magnitude times their signs
level_entry : (x z : ℤ) → (is_zero z || eqb (nat_abs z) (nat_abs x)) ≡ true → pos (nat_abs x) *ℤ sign z ≡ z
level_entry x z e =
    ⊎_elim
    (λ f. rw (zero_of z f) (*ℤ-zero (pos (nat_abs x))))
    (λ f. ap (λ (n : ℕ). pos n *ℤ sign z) (sym (eqb-true (nat_abs z) (nat_abs x) f)) ∙ magnitude-sign z)
    (or_true (is_zero z) (eqb (nat_abs z) (nat_abs x)) e)

level_times : (x : ℤ) (l : List ℤ) → is_level x l ≡ true → times (pos (nat_abs x)) (map sign l) ≡ l
unfolding is_level times
level_times x [] e = refl
level_times x (z ∷ l) e =
    let a = is_zero z || eqb (nat_abs z) (nat_abs x) in
    let b = every (λ z. is_zero z || eqb (nat_abs z) (nat_abs x)) l in
    ap₂ {C = List ℤ} (λ y m. y ∷ m) (level_entry x z (and_left a b e)) (level_times x l (and_right a b e))

-- ---- signs are small, have a variable where the entries do, and then a unit
signs-small : (l : List ℤ) → all_small (map sign l) ≡ true
unfolding all_small
signs-small [] = refl
signs-small (pos zero ∷ l) = signs-small l
signs-small (pos (suc n) ∷ l) = signs-small l
signs-small (negsuc n ∷ l) = signs-small l

signs-zero : (l : List ℤ) → all_zero (map sign l) ≡ all_zero l
unfolding all_zero
signs-zero [] = refl
signs-zero (z ∷ l) = ap₂ {C = Bool} (λ a b. a && b) (sign_zero z) (signs-zero l)

signs-unit : (l : List ℤ) → all_zero l ≡ false → has_unit (map sign l) ≡ true
unfolding all_zero has_unit
signs-unit [] e = not-both (sym e)
signs-unit (pos zero ∷ l) e = signs-unit l e
signs-unit (pos (suc n) ∷ l) e = refl
signs-unit (negsuc n ∷ l) e = refl

-- ---- so the row is divided down to its signs
abbrev signs : Row → Row
signs r = record { entries = map sign r.entries; strict = r.strict }

module _ (r : Row) (some : all_zero (drop 1 r.entries) ≡ false) where
  signs-some : all_zero (drop 1 (signs r).entries) ≡ false
  signs-some = ap all_zero (drop-map sign r.entries) ∙ signs-zero (drop 1 r.entries) ∙ some

  signs_down : divided_down (signs r) ≡ kept (signs r)
  unfolding limited
  signs_down =
      unit-limited (signs r) (signs-unit r.entries (some-entry r.entries some)) signs-some
      ∙ ap (λ (b : Bool). cond b (kept (signs r)) too_large) (signs-small r.entries)

  pub level_down : (x : ℤ) → is_zero x ≡ false → is_level x r.entries ≡ true → kept (signs r) ≡ divided_down r
  level_down x n e =
      sym (ap (λ (l : List ℤ). divided_down (record { entries = l; strict = r.strict })) (sym (level_times x r.entries e))
      ∙ divided_down-times (magnitude-above x n) (signs r) ∙ signs_down)
