-- `gcd` is the greatest common divisor, and the only number that is; division by a divisor is exact. Assumes nothing.
use mathlib.Core.Path.{◌≡◌, refl, sym, ap, ◌∙◌}
use Prim.Native.Nat.{ℕ, zero, suc, ◌+◌, ◌*◌, ◌/◌, ◌%◌, ◌≤◌, ◌<◌, ◌∣◌}
use native.Mathlib.Nat.{dvd-mod_iff, dvd_refl, dvd-zero, dvd_antisymm, mod-lt, mod-le, mod-eq-zero_of_dvd, mod-eq_of_lt, add-mul-mod_self_left, div-add-mod, mul-zero, mul-lt-mul_of_pos_left, not-suc-le-zero, le_refl, le_trans, lt_irrefl, zero-lt-suc}
use native.Mathlib.Omega.{arith}
use lib.IntN.{ℤ, pos, negsuc, neg_ℤ, nat_abs, ◌+ℤ◌, ◌*ℤ◌, +ℤ_idr, neg_ℤ-+ℤ}
use lib.Signed.{quot_z, rem_z}
use Rattle.integers.specs.Gcd.{euclid, gcd, Greatest}
use Rattle.integers.proofs.Whole.{*ℤ-neg, IsPos, is_pos}

step-up : (a b g : ℕ) → Greatest b (a % b) g → Greatest a b g
step-up a b g h = record {
  left = (dvd-mod_iff _ h.left).0 h.right;
  right = h.left;
  most = λ d p q. h.most d q ((dvd-mod_iff _ q).1 p);
}

less : (k a b : ℕ) → suc b < suc k → a % suc b < suc b → a % suc b < k
less k a b h l = omega arith

euclid-is : (k a b : ℕ) → b < k → Greatest a b (euclid k a b)
euclid-is zero a b h = absurd (not-suc-le-zero h)
euclid-is (suc k) a zero h = record { left = dvd_refl a; right = dvd-zero a; most = λ d p q. p }
euclid-is (suc k) a (suc b) h = step-up a (suc b) _ (euclid-is k (suc b) (a % suc b) (less k a b h (mod-lt a (zero-lt-suc b))))

pub gcd-is : (a b : ℕ) → Greatest a b (gcd a b)
unfolding gcd
gcd-is a b = euclid-is (suc b) a b (le_refl (suc b))

-- there is only one
pub only : (a b g h : ℕ) → Greatest a b g → Greatest a b h → g ≡ h
only a b g h p q = dvd_antisymm (q.most g p.left p.right) (p.most h q.left q.right)

pub gcd-zero : (a : ℕ) → gcd a 0 ≡ a
unfolding gcd
gcd-zero a = refl

pub gcd-step : (a b : ℕ) → 0 < b → gcd b (a % b) ≡ gcd a b
gcd-step a zero h = absurd (lt_irrefl 0 h)
gcd-step a (suc b) h = only a (suc b) _ _ (step-up a (suc b) _ (gcd-is (suc b) (a % suc b))) (gcd-is a (suc b))

euclid_le : (B k a b : ℕ) → a ≤ B → b ≤ B → euclid k a b ≤ B
euclid_le B zero a b h l = h
euclid_le B (suc k) a zero h l = h
euclid_le B (suc k) a (suc b) h l = euclid_le B k (suc b) (a % suc b) l (le_trans (mod-le a (suc b)) h)

-- it is no larger than both
pub gcd_le : (B a b : ℕ) → a ≤ B → b ≤ B → gcd a b ≤ B
unfolding gcd
gcd_le B a b h l = euclid_le B (suc b) a b h l

-- ---- of multiples
mod_scale : (c a b : ℕ) → 0 < c → 0 < b → c * a % (c * b) ≡ c * (a % b)
mod_scale c a b h k =
    let e : c * a ≡ c * (a % b) + c * b * (a / b) = omega (arith, ap (λ (t : ℕ). c * t) (div-add-mod a b)) in
    rw e (add-mul-mod_self_left (c * (a % b)) (c * b) (a / b) ∙ mod-eq_of_lt (mul-lt-mul_of_pos_left (mod-lt a k) h))

scale_is : (c : ℕ) → 0 < c → (k a b : ℕ) → b < k → Greatest (c * a) (c * b) (c * euclid k a b)
scale_is c p zero a b h = absurd (not-suc-le-zero h)
scale_is c p (suc k) a zero h = record { left = dvd_refl (c * a); right = rw (mul-zero c) (dvd-zero (c * a)); most = λ d q r. q }
scale_is c p (suc k) a (suc b) h =
    step-up (c * a) (c * suc b) _ (rw (mod_scale c a (suc b) p (zero-lt-suc b)) (scale_is c p k (suc b) (a % suc b) (less k a b h (mod-lt a (zero-lt-suc b)))))

pub gcd_scale : (c a b : ℕ) → 0 < c → gcd (c * a) (c * b) ≡ c * gcd a b
unfolding gcd
gcd_scale c a b h = only (c * a) (c * b) _ _ (gcd-is (c * a) (c * b)) (scale_is c h (suc b) a b (le_refl (suc b)))

-- ---- exact division
rem_of_divides : (z : ℤ) (g : ℕ) → g ∣ nat_abs z → rem_z z (pos g) ≡ pos 0
rem_of_divides (pos a) g h = ap pos (mod-eq-zero_of_dvd g h)
rem_of_divides (negsuc a) g h = ap (λ (m : ℕ). neg_ℤ (pos m)) (mod-eq-zero_of_dvd g h)

quot_rem : {d : ℤ} → IsPos d → (z : ℤ) → d *ℤ quot_z z d +ℤ rem_z z d ≡ z
quot_rem (is_pos n) (pos a) = ap pos (div-add-mod a (suc n))
quot_rem (is_pos n) (negsuc a) = rw (*ℤ-neg, ← neg_ℤ-+ℤ) (ap (λ (m : ℕ). neg_ℤ (pos m)) (div-add-mod (suc a) (suc n)))

-- a divisor above zero, times the quotient, is the number
pub quot_exact : {g : ℕ} → IsPos (pos g) → (z : ℤ) → g ∣ nat_abs z → pos g *ℤ quot_z z (pos g) ≡ z
quot_exact {g} h z e =
    sym (+ℤ_idr _) ∙ ap (λ (t : ℤ). pos g *ℤ quot_z z (pos g) +ℤ t) (sym (rem_of_divides z g e)) ∙ quot_rem h z
