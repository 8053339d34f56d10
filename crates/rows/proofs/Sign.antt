-- Laws of `Under`, the sign condition of a row: below zero if strict, else not above zero. Assumes nothing.
use mathlib.Core.Path.{◌≡◌, subst}
use mathlib.Core.Bool.{Bool, true, false, not, ◌||◌}
use mathlib.Core.Logic.{◌↔◌, ⊎_elim}
use lib.Dec.{T}
use lib.IntN.{ℤ, pos, neg_ℤ, ◌+ℤ◌, ◌*ℤ◌, *ℤ-zero}
use lib.Signed.{◌≤ℤ◌, ◌<ℤ◌, lt_z_yes, le_z_yes, clash_ℤ}
use Rattle.integers.proofs.Tests.{T_of}
use Rattle.integers.proofs.Whole.{zed, add-fact, up_neg, dn-neg, IsPos, le_scale, lt_scale, le_unscale, lt_unscale, total}
use Rattle.rows.specs.Rows.{Under, under}

-- a factor above zero changes nothing
pub under_scale : {k : ℤ} → IsPos k → (s : Bool) (z : ℤ) → Under s z → Under s (k *ℤ z)
under_scale p true z h = rw *ℤ-zero at (lt_scale p z (pos 0) h)
under_scale p false z h = rw *ℤ-zero at (le_scale p z (pos 0) h)

pub under_unscale : {k : ℤ} → IsPos k → (s : Bool) (z : ℤ) → Under s (k *ℤ z) → Under s z
under_unscale p true z h = lt_unscale p z (pos 0) (rw *ℤ-zero h)
under_unscale p false z h = le_unscale p z (pos 0) (rw *ℤ-zero h)

-- what is strict holds loosely, and below zero both hold
pub under-loose : (s : Bool) (z : ℤ) → Under s z → z ≤ℤ pos 0
under-loose true z h = omega zed
under-loose false z h = h

pub under_strict : (s : Bool) (z : ℤ) → z <ℤ pos 0 → Under s z
under_strict true z h = h
under_strict false z h = omega zed

-- what is below a number under zero is so too
pub under-less : (s : Bool) (x y : ℤ) → x ≤ℤ y → Under s y → Under s x
under-less true x y h k = omega zed
under-less false x y h k = omega zed

-- sums: strict if either is
pub under-add : (s : Bool) (x y : ℤ) → x ≤ℤ pos 0 → Under s y → Under s (x +ℤ y)
under-add true x y h k = omega (zed, add-fact x y)
under-add false x y h k = omega (zed, add-fact x y)

pub under_or : (s t : Bool) (x y : ℤ) → Under s x → Under t y → Under (s || t) (x +ℤ y)
under_or true t x y h k = omega (zed, add-fact x y, under-loose t y k)
under_or false t x y h k = under-add t x y h k

pub under_or_left : (s t : Bool) (z : ℤ) → Under (s || t) z → Under s z
under_or_left true t z h = h
under_or_left false t z h = under-loose t z h

pub under_or_right : (s t : Bool) (z : ℤ) → Under (s || t) z → Under t z
under_or_right true t z h = under_strict t z h
under_or_right false t z h = h

-- what does not hold, negated holds: ¬ (z ≤ 0) is −z < 0, and ¬ (z < 0) is −z ≤ 0
pub under-not : (s : Bool) (z : ℤ) → ¬ (Under s z) ↔ Under (not s) (neg_ℤ z)
under-not true z = (λ f. ⊎_elim (λ a. omega (zed, up_neg z, dn-neg z)) (λ b. absurd (f b)) (total (pos 0) z), λ h k. omega (zed, up_neg z, dn-neg z))
under-not false z = (λ f. ⊎_elim (λ a. absurd (f a)) (λ b. omega (zed, up_neg z, dn-neg z)) (total z (pos 0)), λ h k. omega (zed, up_neg z, dn-neg z))

-- ---- the test `under` decides it
pub under-yes : (s : Bool) (z : ℤ) → under s z ≡ true → Under s z
under-yes true z e = lt_z_yes (T_of e)
under-yes false z e = le_z_yes (T_of e)

pub under_no : (s : Bool) (z : ℤ) → under s z ≡ false → ¬ Under s z
under_no true z e h = subst T e h.lt
under_no false z e h = subst T e h.le

pub under_dec : (s : Bool) (z : ℤ) → Dec (Under s z)
under_dec true z = ⊎_elim (λ a. no (λ b. clash_ℤ b a)) (λ b. yes b) (total (pos 0) z)
under_dec false z = ⊎_elim (λ a. yes a) (λ b. no (λ a. clash_ℤ b a)) (total z (pos 0))
