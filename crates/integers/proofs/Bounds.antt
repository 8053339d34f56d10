-- Laws of ℤ by magnitude: what fits, the sign turned, a sum, a product and a quotient. Over any width. Assumes nothing.
use mathlib.Core.Path.{◌≡◌, refl, sym, ap, ◌∙◌, subst}
use mathlib.Core.Bool.{Bool, true, false, cond, ◌||◌, or-true}
use mathlib.Core.Logic.{◌⊎◌, inl, inr, ⊎_elim}
use Prim.Native.Nat.{ℕ, zero, suc, ◌+◌, ◌*◌, ◌-◌, ◌/◌, ◌^◌, ◌≤◌, ◌<◌}
use native.Mathlib.Nat.{le_refl, le-suc, lt_of_le_of_lt, suc_inj, suc-ne-zero, div-le_self, mul-le-mul}
use native.Mathlib.Omega.{arith}
use borrow.Author.Tests.{ltb-true, eqb-true, eq-eqb}
use lib.Dec.{T, eqb, ltb, lit<}
use lib.IntN.{ℤ, pos, negsuc, neg_ℤ, nat_abs, sub_ℕ, ◌+ℤ◌, ◌*ℤ◌}
use lib.Signed.{mag, non_neg, lt_z, quot_z}
use mir.Syntax.{Width, w8, w16, w32, w64, w128}
use mir.Val.{SFits, bits, hbits, to_z, of_z}
use mir.Facts.{to_z-of_z}
use Rattle.std.specs.Ordering.{int_eq}
use Rattle.std.proofs.lemmas.Bool.Decides.{Decides-int_eq}
use Rattle.integers.specs.Signs.{is_zero}
use Rattle.integers.proofs.Tests.{or_true, same_test, zero_of}

pub mag_le : (z : ℤ) → mag z ≤ nat_abs z
mag_le (pos n) = le_refl n
mag_le (negsuc n) = le-suc n

-- a magnitude below half the width's power fits
pub fits_abs : {w : Width} (z : ℤ) → nat_abs z < 2 ^ hbits w → SFits w z
fits_abs z h = record { sfits = lt_of_le_of_lt (mag_le z) h }

pub natAbs_neg : (z : ℤ) → nat_abs (neg_ℤ z) ≡ nat_abs z
natAbs_neg (pos zero) = refl
natAbs_neg (pos (suc n)) = refl
natAbs_neg (negsuc n) = refl

-- what the machine reads back: of a call's result `.ok` is the bound, of an element that was read `.given`
pub back : (w : Width) (z : ℤ) → mag z < 2 ^ hbits w → to_z w (of_z w z) ≡ z
back w z h = to_z-of_z {w = w} {z = z} (record { sfits = h })

-- by the test `z < 0`: where it holds -z is at least 0, else z itself
pub neg_nonNeg : (z : ℤ) → lt_z z (pos 0) ≡ true → T (non_neg (neg_ℤ z))
neg_nonNeg (pos n) t = absurd (omega (arith, ltb-true n 0 t))
neg_nonNeg (negsuc n) t = tt

pub nonNeg_of : (z : ℤ) → lt_z z (pos 0) ≡ false → T (non_neg z)
nonNeg_of (pos n) t = tt
nonNeg_of (negsuc n) t = subst T t tt

natAbs_sub : (a b : ℕ) → nat_abs (sub_ℕ a b) ≤ a + b
natAbs_sub a b = go (ltb a b) refl
  where
    go : (t : Bool) → ltb a b ≡ t → nat_abs (cond t (negsuc (b - suc a)) (pos (a - b))) ≤ a + b
    go true e = omega (arith, ltb-true a b e)
    go false e = omega arith

pub natAbs_add : (x y : ℤ) → nat_abs (x +ℤ y) ≤ nat_abs x + nat_abs y
natAbs_add (pos a) (pos b) = le_refl _
natAbs_add (pos a) (negsuc b) = natAbs_sub a (suc b)
natAbs_add (negsuc a) (pos b) = omega (arith, natAbs_sub b (suc a))
natAbs_add (negsuc a) (negsuc b) = omega arith

pub nat_abs_mul : (x y : ℤ) → nat_abs (x *ℤ y) ≡ nat_abs x * nat_abs y
nat_abs_mul (pos a) (pos b) = refl
nat_abs_mul (pos a) (negsuc b) = natAbs_neg (pos (a * suc b))
nat_abs_mul (negsuc a) (pos b) = natAbs_neg (pos (suc a * b))
nat_abs_mul (negsuc a) (negsuc b) = refl

pub natAbs_quot : (x : ℤ) (g : ℕ) → nat_abs (quot_z x (pos g)) ≡ nat_abs x / g
natAbs_quot (pos a) g = refl
natAbs_quot (negsuc a) g = natAbs_neg (pos (suc a / g))

pub quot_fits : {w : Width} (x : ℤ) (g : ℕ) → nat_abs x < 2 ^ hbits w → SFits w (quot_z x (pos g))
quot_fits x g h = fits_abs (quot_z x (pos g)) (rw natAbs_quot (lt_of_le_of_lt (div-le_self (nat_abs x) g) h))

pub product_le : (B : ℕ) (x y : ℤ) → nat_abs x ≤ B → nat_abs y ≤ B → nat_abs (x *ℤ y) ≤ B * B
product_le B x y h k = rw nat_abs_mul (mul-le-mul h k)

pub combined_le : (B : ℕ) (x y a b : ℤ) → nat_abs x ≤ B → nat_abs y ≤ B → nat_abs a ≤ B → nat_abs b ≤ B → nat_abs (b *ℤ x +ℤ a *ℤ y) ≤ B * B + B * B
combined_le B x y a b hx hy ha hb =
    omega (arith, natAbs_add (b *ℤ x) (a *ℤ y), product_le B b x hb hx, product_le B a y ha hy)

-- a signed test `x == 0` tells of the bits
half : (w : Width) → 2 ^ hbits w < 2 ^ bits w
half w8 = lit< tt
half w16 = lit< tt
half w32 = lit< tt
half w64 = lit< tt
half w128 = lit< tt

below-zero : (w : Width) (n : ℕ) → n < 2 ^ hbits w → 2 ^ bits w - suc n ≡ 0 → ⊥
below-zero w n h e = omega (arith, half w)

pub bits-zero : (w : Width) (z : ℤ) → mag z < 2 ^ hbits w → of_z w z ≡ 0 → is_zero z ≡ true
bits-zero w (pos zero) h e = refl
bits-zero w (pos (suc n)) h e = absurd (suc-ne-zero n e)
bits-zero w (negsuc n) h e = absurd (below-zero w n h e)

pub zero_bits : (w : Width) (z : ℤ) → (of_z w z ≡ 0 → ⊥) → is_zero z ≡ false
zero_bits w (pos zero) f = absurd (f refl)
zero_bits w (pos (suc n)) f = refl
zero_bits w (negsuc n) f = refl

-- signed numbers that fit are equal where their bits are
pub bits-same : (w : Width) (z x : ℤ) → mag z < 2 ^ hbits w → mag x < 2 ^ hbits w → of_z w z ≡ of_z w x → z ≡ x
bits-same w z x h k e = sym (back w z h) ∙ ap (to_z w) e ∙ back w x k

same_natAbs : (z x : ℤ) → nat_abs z ≡ nat_abs x → (z ≡ x) ⊎ (z ≡ neg_ℤ x)
same_natAbs (pos n) (pos m) e = inl (ap pos e)
same_natAbs (pos n) (negsuc m) e = inr (ap pos e)
same_natAbs (negsuc n) (pos zero) e = absurd (suc-ne-zero n e)
same_natAbs (negsuc n) (pos (suc m)) e = inr (ap negsuc (suc_inj e))
same_natAbs (negsuc n) (negsuc m) e = inl (ap negsuc (suc_inj e))

-- two tests, `z == x` and `z == -x`, of the magnitude
pub either_sign : (z x : ℤ) → (int_eq z x || int_eq z (neg_ℤ x)) ≡ eqb (nat_abs z) (nat_abs x)
either_sign z x = same_test (int_eq z x || int_eq z (neg_ℤ x)) (eqb (nat_abs z) (nat_abs x)) there back_again
  where
    there : (int_eq z x || int_eq z (neg_ℤ x)) ≡ true → eqb (nat_abs z) (nat_abs x) ≡ true
    there e =
        ⊎_elim
        (λ f. eq-eqb _ _ (ap nat_abs ((Decides-int_eq z x).0 f)))
        (λ f. eq-eqb _ _ (ap nat_abs ((Decides-int_eq z (neg_ℤ x)).0 f) ∙ natAbs_neg x))
        (or_true _ _ e)

    back_again : eqb (nat_abs z) (nat_abs x) ≡ true → (int_eq z x || int_eq z (neg_ℤ x)) ≡ true
    back_again e =
        ⊎_elim (λ d. rw ((Decides-int_eq z x).1 d)) (λ d. rw ((Decides-int_eq z (neg_ℤ x)).1 d) (or-true (int_eq z x))) (same_natAbs z x (eqb-true _ _ e))

-- the test `z == 0`
pub zero_is : (z : ℤ) → int_eq z (pos 0) ≡ is_zero z
zero_is z = same_test _ _ (λ e. rw ((Decides-int_eq z (pos 0)).0 e)) (λ e. (Decides-int_eq z (pos 0)).1 (zero_of z e))
