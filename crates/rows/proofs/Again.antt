-- A row that was divided down is divided down already: a row may be copied from set to set without dividing it again. Assumes nothing.
use mathlib.Core.Path.{◌≡◌, refl, sym, ◌∙◌, ap, ap₂, subst}
use mathlib.Core.Bool.{Bool, true, false, cond}
use mathlib.Core.List.{List, [], ◌∷◌, map}
use Prim.Native.Nat.{ℕ, zero, suc, ◌*◌, ◌/◌, ◌∣◌}
use native.Mathlib.Nat.{zero-lt-suc, zero-mul, one-mul, dvd-zero, div-mul_cancel, div-one, mul-dvd-mul_right, dvd_of_mul-dvd-mul_right, eq-one_of_dvd-one}
use lib.ListN.{drop}
use lib.IntN.{ℤ, pos, negsuc, neg_ℤ, nat_abs}
use lib.Signed.{quot_z}
use Rattle.integers.specs.Lists.{All, nil, every}
use Rattle.integers.specs.Signs.{is_zero}
use Rattle.integers.proofs.Tests.{and_left, and_right, not-both, false_of, zero_of}
use Rattle.integers.proofs.Lists.{all_head, all_tail, all_map, all-zip, all_mapped}
use Rattle.integers.proofs.Bounds.{natAbs_quot}
use Rattle.rows.specs.declared.Row.{Row}
use Rattle.rows.specs.Rows.{with_entry, false_row, gcd_from, or_one, divisor, divided, kept, too_large, all_small, all_zero, limited, constant, divided_down}
use Rattle.rows.proofs.Dividing.{IfKept, if_kept}
use Rattle.entries.proofs.Common.{gcd_from_divides, gcd_from-most, is-zero, divisor_divides}

-- ---- dividing by the divisor leaves 1
quot_one : (z : ℤ) → quot_z z (pos 1) ≡ z
quot_one (pos a) = ap pos (div-one a)
quot_one (negsuc a) = ap (λ (m : ℕ). neg_ℤ (pos m)) (div-one (suc a))

quot_ones : (l : List ℤ) → map (λ z. quot_z z (pos 1)) l ≡ l
quot_ones [] = refl
quot_ones (z ∷ l) = ap₂ {C = List ℤ} (λ x m. x ∷ m) (quot_one z) (quot_ones l)

whole_again : (h g : ℕ) (z : ℤ) → g ∣ nat_abs z → h ∣ nat_abs (quot_z z (pos g)) → (h * g) ∣ nat_abs z
whole_again h g z p q =
    let a : (h * g) ∣ (nat_abs z / g * g) = mul-dvd-mul_right h (subst (λ (x : ℕ). h ∣ x) (natAbs_quot z g) q) g in
    subst (λ (x : ℕ). (h * g) ∣ x) (div-mul_cancel g p) a

only_one : (h n : ℕ) → (h * suc n) ∣ suc n → h ≡ 1
only_one h n p = eq-one_of_dvd-one (dvd_of_mul-dvd-mul_right {k = suc n} h (zero-lt-suc n) (subst (λ (x : ℕ). (h * suc n) ∣ x) (sym (one-mul (suc n))) p))

pub divided_once : (l : List ℤ) → divisor (map (λ z. quot_z z (pos (divisor l))) l) ≡ 1
unfolding divisor
divided_once l = go (gcd_from 0 l) refl
  where
    go : (g : ℕ) → gcd_from 0 l ≡ g → or_one (gcd_from 0 (map (λ z. quot_z z (pos (or_one g))) l)) ≡ 1
    go zero e = rw (quot_ones l, e) refl
    go (suc n) e =
        let k : List ℤ = map (λ z. quot_z z (pos (suc n))) l in
        let a : All (λ z. gcd_from 0 k ∣ nat_abs (quot_z z (pos (suc n)))) l = (all_mapped (λ z. quot_z z (pos (suc n))) l).0 (gcd_from_divides 0 k).1 in
        let b : All (λ z. suc n ∣ nat_abs z) l = all_map (λ z h. subst (λ (x : ℕ). x ∣ nat_abs z) e h) (gcd_from_divides 0 l).1 in
        let c : All (λ z. (gcd_from 0 k * suc n) ∣ nat_abs z) l = all_map (λ z h. whole_again (gcd_from 0 k) (suc n) z h.0 h.1) (all-zip b a) in
        ap or_one (only_one (gcd_from 0 k) n (subst (λ (x : ℕ). (gcd_from 0 k * suc n) ∣ x) e (gcd_from-most (gcd_from 0 k * suc n) 0 l (dvd-zero _) c)))

-- a row with divisor 1 stays as it is
pub undivided : (r : Row) → divisor r.entries ≡ 1 → divided r ≡ r
unfolding divided
undivided r e =
    let f : map (λ z. quot_z z (pos (divisor r.entries))) r.entries ≡ r.entries = ap (λ (g : ℕ). map (λ z. quot_z z (pos g)) r.entries) e ∙ quot_ones r.entries in
    λ i. record { entries = f i; strict = r.strict }

pub divided_twice : (r : Row) → divided (divided r) ≡ divided r
unfolding divided
divided_twice r = undivided (divided r) (divided_once r.entries)

-- ---- a row with variables keeps some
zero_back : (g : ℕ) (z : ℤ) → g ∣ nat_abs z → quot_z z (pos g) ≡ pos 0 → nat_abs z ≡ 0
zero_back g z p e = sym (div-mul_cancel g p) ∙ ap (λ (x : ℕ). x * g) (sym (natAbs_quot z g) ∙ ap nat_abs e) ∙ zero-mul g

zeros_back : (g : ℕ) (l : List ℤ) → All (λ z. g ∣ nat_abs z) l → all_zero (map (λ z. quot_z z (pos g)) l) ≡ true → all_zero l ≡ true
unfolding all_zero
zeros_back g [] a e = refl
zeros_back g (z ∷ l) a e =
    let x = is_zero (quot_z z (pos g)) in
    let y = every is_zero (map (λ z. quot_z z (pos g)) l) in
    rw (is-zero z (zero_back g z (all_head a) (zero_of (quot_z z (pos g)) (and_left x y e)))) (zeros_back g l (all_tail a) (and_right x y e))

pub drop-map : (f : ℤ → ℤ) (l : List ℤ) → drop 1 (map f l) ≡ map f (drop 1 l)
drop-map f [] = refl
drop-map f (z ∷ l) = refl

all_drop : {P : ℤ → Type 0} (l : List ℤ) → All P l → All P (drop 1 l)
all_drop [] a = nil
all_drop (z ∷ l) a = all_tail a

still_variable : (r : Row) → all_zero (drop 1 r.entries) ≡ false → all_zero (drop 1 (divided r).entries) ≡ false
unfolding divided
still_variable r e = false_of _ (λ f. not-both (sym e ∙ zeros_back (divisor r.entries) (drop 1 r.entries) (all_drop r.entries (divisor_divides r.entries))
    (ap all_zero (sym (drop-map (λ z. quot_z z (pos (divisor r.entries))) r.entries)) ∙ f)))

-- ---- dividing down again
pub again-false : divided_down false_row ≡ kept false_row
unfolding divided_down constant all_zero with_entry
again-false = refl

again-divided : (r : Row) → all_zero (drop 1 r.entries) ≡ false → all_small (divided r).entries ≡ true → divided_down (divided r) ≡ kept (divided r)
unfolding divided_down limited
again-divided r z e = ap (λ (c : Bool). cond c (constant (divided r)) (limited (divided (divided r)))) (still_variable r z)
    ∙ ap limited (divided_twice r) ∙ ap (λ (c : Bool). cond c (kept (divided r)) too_large) e

pub divided_down-again : (r : Row) → IfKept (λ t. divided_down t ≡ kept t) (divided_down r).fate (divided_down r).row
divided_down-again r = if_kept (λ t. divided_down t ≡ kept t) r again-false (again-divided r)
